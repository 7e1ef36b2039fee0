-- Laws of sets of states, over a number of any width.
-- Assumes nothing.
use Rattle.std.specs.Prelude.{ℕ, zero, suc, ◌+◌, ◌*◌, ◌/◌, ◌%◌, ◌^◌, ◌≤◌, ◌<◌, min, max, ◌≡◌, refl, Bool, true, false, cond, ◌&&◌, eqb, ltb}
use Rattle.std.proofs.Common.{zero-le, suc-le-suc, sym, ap, ap₂, subst, ◌∙◌, mod-lt, div-one, zero-lt-suc, lt_of_lt_of_le, div-add-mod', mul-div_cancel, pow-suc, mod-eq_of_lt, arith, pow_pos, pow_mono, eqb-true, lt-ltb, le-ltb}
use Rattle.std.proofs.Math.Nat.{zero-div, div-eq_of_lt, mul-mod_left, div_self, mul-add-mod_self_right, pow-succ', div-div-eq-div-mul}
use Rattle.std.proofs.Math.Arith.{bin_ind}
use Rattle.std.specs.Int.Bits.{bit_or, bit_and, or_step, and_step}
use Rattle.std.proofs.lemmas.Nat.{or_shr, and_shr, or_lt}
use Rattle.std.proofs.lemmas.Bool.{eqb-false}
use Rattle.sets.specs.Sets.{bit, Union, Common, Inserted}

-- A digit is 0 or 1.
pub bit_small : (w q : ℕ) → bit w q < 2
unfolding bit
bit_small w q = mod-lt (w / 2 ^ q) (zero-lt-suc 1)

-- The first digit, and those after it, which are the digits of the half.
pub bit_first : (w : ℕ) → bit w 0 ≡ w % 2
unfolding bit
bit_first w = ap (λ (x : ℕ). x % 2) (div-one w)

pub bit_after : (w q : ℕ) → bit w (suc q) ≡ bit (w / 2) q
unfolding bit
bit_after w q = ap (λ (x : ℕ). w / x % 2) (pow-succ' 2 q) ∙ ap (λ (x : ℕ). x % 2) (sym (div-div-eq-div-mul w 2 (2 ^ q)))

-- The empty set has no state.
pub bit_zero : (q : ℕ) → bit 0 q ≡ 0
unfolding bit
bit_zero q = ap (λ (x : ℕ). x % 2) (zero-div (2 ^ q))

-- A number below 2 ^ k has no state from k on.
pub bit_beyond : (k w q : ℕ) → w < 2 ^ k → k ≤ q → bit w q ≡ 0
unfolding bit
bit_beyond k w q small past = ap (λ (x : ℕ). x % 2) (div-eq_of_lt (lt_of_lt_of_le small (pow_mono past)))

-- the halves of two numbers of equal digits have equal digits
after_same : (a b : ℕ) → ((q : ℕ) → bit a q ≡ bit b q) → (q : ℕ) → bit (a / 2) q ≡ bit (b / 2) q
after_same a b same q = sym (bit_after a q) ∙ same (suc q) ∙ bit_after b q

whole : (a b : ℕ) → a / 2 ≡ b / 2 → bit a 0 ≡ bit b 0 → a ≡ b
whole a b halves firsts =
    sym (div-add-mod' a 2)
    ∙ ap₂ (λ (x y : ℕ). x * 2 + y) halves (sym (bit_first a) ∙ firsts ∙ bit_first b)
    ∙ div-add-mod' b 2

no_states : (b : ℕ) → ((q : ℕ) → bit b q ≡ 0) → b ≡ 0
no_states =
    bin_ind
    (λ (b : ℕ). ((q : ℕ) → bit b q ≡ 0) → b ≡ 0)
    (λ none. refl)
    (λ b ih none. whole b 0 (ih (λ q. sym (bit_after b q) ∙ none (suc q))) (none 0 ∙ sym (bit_zero 0)))

-- Equal members make equal sets, whatever the width.
pub equal_members : (a b : ℕ) → ((q : ℕ) → bit a q ≡ bit b q) → a ≡ b
equal_members =
    bin_ind
    (λ (a : ℕ). (b : ℕ) → ((q : ℕ) → bit a q ≡ bit b q) → a ≡ b)
    (λ b same. sym (no_states b (λ q. sym (same q) ∙ bit_zero q)))
    (λ a ih b same. whole a b (ih (b / 2) (after_same a b same)) (same 0))

-- A set without states from k on is below 2 ^ k.
pub below_by_members : (k w : ℕ) → ((q : ℕ) → k ≤ q → bit w q ≡ 0) → w < 2 ^ k
below_by_members zero w none = subst (λ (x : ℕ). x < 1) (sym (no_states w (λ q. none q zero-le))) (zero-lt-suc 0)
below_by_members (suc k) w none =
    let half : w / 2 < 2 ^ k = below_by_members k (w / 2) (λ q past. sym (bit_after w q) ∙ none (suc q) (suc-le-suc past)) in
    subst (λ (x : ℕ). w < x) (sym (pow-suc 2 k)) (omega (arith, div-add-mod' w 2, mod-lt w (zero-lt-suc 1)))

-- the last digit of a number whose halves and last digit are known
last_digit : (h d : ℕ) → d < 2 → (h * 2 + d) % 2 ≡ d
last_digit h d small = mul-add-mod_self_right h 2 d ∙ mod-eq_of_lt small

-- The digits of a union, and of what two sets have in common.
pub bit-bit_or : (a b q : ℕ) → bit (bit_or a b) q ≡ max (bit a q) (bit b q)
unfolding bit
bit-bit_or a b q =
    ap (λ (x : ℕ). x % 2) (or_shr a b q ∙ or_step (a / 2 ^ q) (b / 2 ^ q))
    ∙ last_digit
    (bit_or (a / 2 ^ q / 2) (b / 2 ^ q / 2))
    (max (bit a q) (bit b q))
    (omega (arith, bit_small a q, bit_small b q))

pub bit-bit_and : (a b q : ℕ) → bit (bit_and a b) q ≡ min (bit a q) (bit b q)
unfolding bit
bit-bit_and a b q =
    ap (λ (x : ℕ). x % 2) (and_shr a b q ∙ and_step (a / 2 ^ q) (b / 2 ^ q))
    ∙ last_digit
    (bit_and (a / 2 ^ q / 2) (b / 2 ^ q / 2))
    (min (bit a q) (bit b q))
    (omega (arith, bit_small a q, bit_small b q))

-- The set of one state holds that state and no other.
pub bit_single_same : (q : ℕ) → bit (2 ^ q) q ≡ 1
unfolding bit
bit_single_same q = ap (λ (x : ℕ). x % 2) (div_self (pow_pos q))

half_of_power : (p : ℕ) → 2 ^ suc p / 2 ≡ 2 ^ p
half_of_power p = ap (λ (x : ℕ). x / 2) (pow-suc 2 p) ∙ mul-div_cancel (2 ^ p) (zero-lt-suc 1)

pub bit_single_other : (p q : ℕ) → (p ≡ q → ⊥) → bit (2 ^ p) q ≡ 0
bit_single_other zero zero other = absurd (other refl)
bit_single_other zero (suc q) other = bit_after 1 q ∙ bit_zero q
bit_single_other (suc p) zero other = bit_first (2 ^ suc p) ∙ ap (λ (x : ℕ). x % 2) (pow-suc 2 p) ∙ mul-mod_left (2 ^ p) 2
bit_single_other (suc p) (suc q) other =
    bit_after (2 ^ suc p) q ∙ ap (λ (x : ℕ). bit x q) (half_of_power p)
    ∙ bit_single_other p q (λ e. other (ap suc e))

-- A set that holds the states of two is their union, and so with what they have in common.
pub union_is : (a b r : ℕ) → Union a b r → r ≡ bit_or a b
unfolding Union
union_is a b r u = equal_members r (bit_or a b) (λ q. u q ∙ sym (bit-bit_or a b q))

pub common_is : (a b r : ℕ) → Common a b r → r ≡ bit_and a b
unfolding Common
common_is a b r c = equal_members r (bit_and a b) (λ q. c q ∙ sym (bit-bit_and a b q))

pub or_is_union : (a b : ℕ) → Union a b (bit_or a b)
unfolding Union
or_is_union a b = bit-bit_or a b

pub and_is_common : (a b : ℕ) → Common a b (bit_and a b)
unfolding Common
and_is_common a b = bit-bit_and a b

-- Putting a state in is a union with the set of that state alone.
pub or_single_inserts : (k w q : ℕ) → q < k → Inserted k w q (bit_or w (2 ^ q))
unfolding Inserted
or_single_inserts k w q within p =
    bit-bit_or w (2 ^ q) p ∙ go (eqb p q) refl
  where
    go : (t : Bool) → eqb p q ≡ t → max (bit w p) (bit (2 ^ q) p) ≡ cond (ltb q k && eqb p q) 1 (bit w p)
    go true e =
        let same : p ≡ q = eqb-true p q e in
        simp (lt-ltb q k within, e) (omega (arith, bit_small w p, ap (bit (2 ^ q)) same ∙ bit_single_same q))
    go false e =
        simp (lt-ltb q k within, e) (omega (arith, bit_single_other q p (λ f. eqb-false p q e (sym f))))

pub beyond_inserts_nothing : (k w q : ℕ) → k ≤ q → Inserted k w q w
unfolding Inserted
beyond_inserts_nothing k w q past p = simp (le-ltb q k past)

pub inserted_is : (k w q r : ℕ) → Inserted k w q r → q < k → r ≡ bit_or w (2 ^ q)
unfolding Inserted
inserted_is k w q r i within = equal_members r (bit_or w (2 ^ q)) (λ p. i p ∙ sym (or_single_inserts k w q within p))

-- A union is within the digits of its parts, and so is what two sets have in common.
pub union_below : (k a b r : ℕ) → Union a b r → a < 2 ^ k → b < 2 ^ k → r < 2 ^ k
union_below k a b r u ha hb = subst (λ (x : ℕ). x < 2 ^ k) (sym (union_is a b r u)) (or_lt k a b ha hb)
