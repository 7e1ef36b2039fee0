-- Laws of orders of looms, and of the set of the looms that stand in one.
-- Assumes nothing.
use Rattle.std.specs.Prelude.{ℕ, suc, ◌+◌, ◌-◌, ◌*◌, ◌/◌, ◌%◌, ◌^◌, ◌≤◌, ◌<◌, max, ◌≡◌, refl, Bool, true, false, List, [], ◌∷◌, ◌++◌, eqb}
use Rattle.std.proofs.Common.{sym, ap, subst, ◌∙◌, mod-lt, suc-mul, sub-add_cancel, le_refl, arith, eqb-true, pow_pos}
use Rattle.std.proofs.Math.Decide.{dec_le}
use Rattle.std.proofs.lemmas.Bool.{eqb-false}
use Rattle.std.specs.Int.Bits.{bit_or, bit_and}
use Rattle.std.proofs.lemmas.Nat.{or_disjoint}
use Rattle.std.proofs.Math.Pow.{split, high}
use Rattle.sets.specs.Sets.{bit}
use Rattle.sets.specs.SetsLaws.{bit_small, bit_beyond, equal_members, bit_zero, bit-bit_or, bit-bit_and, bit_single_same, bit_single_other}
use Rattle.recording.specs.declared.Seat.{Seat}
use Rattle.recording.specs.Recording.{operation_at, one, times, FirstIs, reached}

-- The digits of the set of one loom.
pub single_digits : (j i : ℕ) → bit (2 ^ j) i ≡ one (eqb j i)
single_digits j i = go (eqb j i) refl
  where
    go : (b : Bool) → eqb j i ≡ b → bit (2 ^ j) i ≡ one b
    go true e = subst (λ (k : ℕ). bit (2 ^ j) k ≡ 1) (eqb-true j i e) (bit_single_same j)
    go false e = bit_single_other j i (eqb-false j i e)

-- A test counts for one at most.
pub one_at_most : (b : Bool) → one b ≤ 1
one_at_most true = omega arith
one_at_most false = omega arith

-- A set that has loom j is at least the set of j alone.
pub single_within : (m j : ℕ) → bit m j ≡ 1 → 2 ^ j ≤ m
single_within m j has = go (dec_le (2 ^ j) m)
  where
    go : Dec (2 ^ j ≤ m) → 2 ^ j ≤ m
    go (yes within) = within
    go (no beyond) =
        let small : m < 2 ^ j = omega arith in
        let none : bit m j ≡ 0 = bit_beyond j m j small (le_refl j) in
        omega arith

-- Taking loom j out of a set that has it.
pub taken_out : (m j : ℕ) → bit m j ≡ 1 → bit (m - 2 ^ j) j ≡ 0
unfolding bit
taken_out m j has =
    let above : ℕ = m / 2 ^ j - 1 in
    let odd : m / 2 ^ j ≡ suc above = omega arith in
    let left : m - 2 ^ j ≡ above * 2 ^ j + m % 2 ^ j =
    omega (arith, split m j, ap (λ (x : ℕ). x * 2 ^ j) odd, suc-mul above (2 ^ j)) in
    let quotient : (m - 2 ^ j) / 2 ^ j ≡ above =
    ap (λ (x : ℕ). x / 2 ^ j) left ∙ high above j (mod-lt m (pow_pos j)) in
    omega arith

-- A set that lacks loom j, and the set of j alone, have no digit in common.
pub never_both : (m j : ℕ) → bit m j ≡ 0 → (i : ℕ) → bit m i + one (eqb j i) ≤ 1
never_both m j lacks i = go (eqb j i) refl
  where
    go : (b : Bool) → eqb j i ≡ b → bit m i + one b ≤ 1
    go true e = let same : bit m i ≡ 0 = subst (λ (k : ℕ). bit m k ≡ 0) (eqb-true j i e) lacks in omega arith
    go false e = omega (arith, bit_small m i)

-- The digits of a set that lacks loom j, with j put in.
pub put_in : (m j : ℕ) → bit m j ≡ 0 → (i : ℕ) → bit (m + 2 ^ j) i ≡ bit m i + one (eqb j i)
put_in m j lacks i =
    ap (λ (x : ℕ). bit x i) (sym (or_disjoint m (2 ^ j) apart))
    ∙ bit-bit_or m (2 ^ j) i
    ∙ ap (max (bit m i)) (single_digits j i)
    ∙ omega (arith, never_both m j lacks i)
  where
    apart : bit_and m (2 ^ j) ≡ 0
    apart =
        equal_members (bit_and m (2 ^ j)) 0
        (λ k. bit-bit_and m (2 ^ j) k ∙ omega (arith, never_both m j lacks k, single_digits j k, bit_zero k))

-- The digits of a set that has loom j, by those of the set without it.
pub without : (m j : ℕ) → bit m j ≡ 1 → (i : ℕ) → bit m i ≡ bit (m - 2 ^ j) i + one (eqb j i)
without m j has i =
    ap (λ (x : ℕ). bit x i) (sym (sub-add_cancel (single_within m j has))) ∙ put_in (m - 2 ^ j) j (taken_out m j has) i

-- A set without digits above 0 but for loom j's is that of j alone.
pub alone : (m j : ℕ) → ((i : ℕ) → bit m i ≡ one (eqb j i)) → m ≡ 2 ^ j
alone m j digits = equal_members m (2 ^ j) (λ i. digits i ∙ sym (single_digits j i))

-- ---- one more loom at an order's end
pub times_end : (k : ℕ) (us : List ℕ) (u : ℕ) → times k (us ++ (u ∷ [])) ≡ times k us + one (eqb u k)
times_end k [] u = omega arith
times_end k (v ∷ us) u = omega (arith, times_end k us u)

pub reached_end : (next : ℕ → ℕ → ℕ) (looms : List Seat) (q : ℕ) (us : List ℕ) (u : ℕ)
    → reached next looms q (us ++ (u ∷ [])) ≡ next (operation_at looms u) (reached next looms q us)
reached_end next looms q [] u = refl
reached_end next looms q (v ∷ us) u = reached_end next looms (next (operation_at looms v) q) us u

pub first_end : (looms : List Seat) (X : ℕ) (us : List ℕ) (u : ℕ) → FirstIs looms X us → FirstIs looms X (us ++ (u ∷ []))
first_end looms X [] u none = absurd none
first_end looms X (v ∷ us) u first = first

-- An order that is not empty has a last loom.
pub last_loom : (u : ℕ) (us : List ℕ) → (vs : List ℕ) × (v : ℕ) × (u ∷ us ≡ vs ++ (v ∷ []))
last_loom u [] = ([], u, refl)
last_loom u (v ∷ us) =
    let rest = last_loom v us in
    (u ∷ rest.0, rest.1, ap (λ (l : List ℕ). u ∷ l) rest.2)

-- ---- the set of the looms that stand in an order
unfoldable pub standing : List ℕ → ℕ
standing [] = 0
standing (u ∷ us) = bit_or (standing us) (2 ^ u)

pub standing_digits : (us : List ℕ) → ((k : ℕ) → times k us ≤ 1) → (i : ℕ) → bit (standing us) i ≡ times i us
unfolding standing
standing_digits [] once i = bit_zero i
standing_digits (u ∷ us) once i =
    bit-bit_or (standing us) (2 ^ u) i
    ∙ omega (arith, standing_digits us (λ k. omega (arith, once k)) i, single_digits u i, once i)
