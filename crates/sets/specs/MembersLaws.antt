-- Laws of a set's members, its size and its lowest state, over a number of any width.
-- Assumes nothing.
use Rattle.std.specs.Prelude.{ℕ, zero, suc, ◌+◌, ◌/◌, ◌%◌, ◌^◌, ◌≤◌, ◌<◌, ◌≡◌, refl, ◌⊎◌, length, get_or}
use Rattle.std.proofs.Common.{zero-le, suc-le-suc, sym, ap, ap₂, ◌∙◌, inl, inr, ⊎_elim, le_of_suc-le-suc, zero-lt-suc, eq-or-lt_of_le, not-suc-le-zero, mod-lt, pow-suc, arith, length-append}
use mathlib.Core.List.Memᴰ
use mathlib.Core.List.{List, [], ◌∷◌, ◌++◌, Memᴰ}
use Rattle.std.proofs.Math.Decide.{dec_lt}
use Rattle.std.proofs.Math.Arith.{lt-one}
use Rattle.std.specs.Int.Count.{ones, ones_in, ones_step, count_trailing_zeros, under}
use Rattle.std.proofs.Math.ListN.{get_or-append}
use Rattle.std.proofs.Math.Seq.{get_or-append_seam}
use Rattle.sets.specs.Sets.{bit, Member, keep, members, size_of, lowest_of}
use Rattle.sets.specs.SetsLaws.{bit_small, bit_first, bit_after}

-- A digit that is not 0 is 1.
pub bit_cases : (w q : ℕ) → (bit w q ≡ 0) ⊎ (bit w q ≡ 1)
bit_cases w q = go (bit w q) (bit_small w q)
  where
    go : (d : ℕ) → d < 2 → (d ≡ 0) ⊎ (d ≡ 1)
    go zero small = inl refl
    go (suc d) small = inr (ap suc (lt-one (le_of_suc-le-suc small)))

-- What is listed among the members below k is a member below k.
pub listed_member : (k w q : ℕ) → Memᴰ q (members k w) → (q < k) × Member w q
unfolding members
listed_member zero w q m = absurd (Memᴰ.not-nil m)
listed_member (suc k) w q m = ⊎_elim (λ l. earlier (listed_member k w q l)) (last (bit w k) refl) (Memᴰ.append_cases (members k w) m)
  where
    earlier : (q < k) × Member w q → (q < suc k) × Member w q
    earlier h = (omega arith, h.1)

    last : (d : ℕ) → bit w k ≡ d → Memᴰ q (keep (bit w k) k) → (q < suc k) × Member w q
    last zero e l = absurd (Memᴰ.not-nil (rw e at l))
    last (suc d) e l =
        let same : q ≡ k = Memᴰ.eq_of_singleton (rw e at l) in
        (omega arith, ap (bit w) same ∙ omega (arith, bit_small w k))

-- Each member below k is listed.
pub member_listed : (k w q : ℕ) → q < k → Member w q → Memᴰ q (members k w)
unfolding members
member_listed zero w q within m = absurd (not-suc-le-zero within)
member_listed (suc k) w q within m =
    ⊎_elim
    (λ (same : q ≡ k). Memᴰ.append_right (members k w) (rw (sym (ap (bit w) same) ∙ m) (Memᴰ.head same)))
    (λ (below : q < k). Memᴰ.append_left (keep (bit w k) k) (member_listed k w q below m))
    (eq-or-lt_of_le (le_of_suc-le-suc within))

half_below : (k w : ℕ) → w < 2 ^ suc k → w / 2 < 2 ^ k
half_below k w small = omega (arith, rw (pow-suc 2 k) at small)

-- One digit more, counted.
pub size_more : (k w : ℕ) → size_of (suc k) w ≡ size_of k w + bit w k
unfolding size_of members
size_more k w = length-append (members k w) (keep (bit w k) k) ∙ ap (λ (x : ℕ). length (members k w) + x) (kept (bit w k) (bit_small w k))
  where
    kept : (d : ℕ) → d < 2 → length (keep d k) ≡ d
    kept zero small = refl
    kept (suc d) small = ap suc (sym (lt-one (le_of_suc-le-suc small)))

-- The first digit, and the count of those after it.
pub size_first : (k w : ℕ) → size_of (suc k) w ≡ w % 2 + size_of k (w / 2)
unfolding size_of members
size_first zero w = size_more 0 w ∙ omega (arith, bit_first w)
size_first (suc k) w =
    size_more (suc k) w ∙ ap₂ (λ (x y : ℕ). x + y) (size_first k w) (bit_after w k)
    ∙ omega (arith, size_more k (w / 2))

-- The number of members of a set of k digits is the number of ones in it.
pub size_is_ones : (k w : ℕ) → w < 2 ^ k → size_of k w ≡ ones w
unfolding ones ones_in size_of members
size_is_ones zero w small = sym (ap ones (lt-one small))
size_is_ones (suc k) w small =
    size_first k w ∙ ap (λ (x : ℕ). w % 2 + x) (size_is_ones k (w / 2) (half_below k w small)) ∙ sym (ones_step w)

-- A set of k digits has at most k members.
pub size_at_most : (k w : ℕ) → size_of k w ≤ k
unfolding size_of members
size_at_most zero w = zero-le
size_at_most (suc k) w = omega (arith, size_more k w, size_at_most k w, bit_small w k)

-- r is the lowest of the states of w below k, and k where there is none.
pub record Lowest (k w r : ℕ) : Type 0 where
  pub within : r ≤ k
  pub none_below : (q : ℕ) → q < r → bit w q ≡ 0
  pub is_member : r < k → Member w r

-- The lowest state is a member with none below it.
pub lowest_is_lowest : (k w : ℕ) → Lowest k w (lowest_of k w)
unfolding lowest_of members
lowest_is_lowest zero w = record { within = zero-le; none_below = λ q h. absurd (not-suc-le-zero h); is_member = λ h. absurd (not-suc-le-zero h) }
lowest_is_lowest (suc k) w = go (members k w) refl (lowest_is_lowest k w) (bit_cases w k)
  where
    nothing_yet : Lowest k w k → (q : ℕ) → q < suc k → bit w k ≡ 0 → bit w q ≡ 0
    nothing_yet l q h e = ⊎_elim (λ (same : q ≡ k). ap (bit w) same ∙ e) (λ (below : q < k). l.none_below q below) (eq-or-lt_of_le (le_of_suc-le-suc h))

    go : (xs : List ℕ) → members k w ≡ xs → Lowest k w (get_or xs 0 k) → (bit w k ≡ 0) ⊎ (bit w k ≡ 1)
        → Lowest (suc k) w (get_or (xs ++ keep (bit w k) k) 0 (suc k))
    go [] all l (inl e) = rw e (record { within = omega arith; none_below = λ q h. nothing_yet l q h e; is_member = λ h. omega arith })
    go [] all l (inr e) = rw e (record { within = omega arith; none_below = λ q h. l.none_below q h; is_member = λ h. e })
    go (x ∷ xs) all l c =
        let below : x < k = (listed_member k w x (rw all (Memᴰ.head refl))).0 in
        record { within = omega arith; none_below = λ q h. l.none_below q h; is_member = λ h. l.is_member below }

-- No other number is.
pub lowest_unique : (k w r s : ℕ) → Lowest k w r → Lowest k w s → r ≡ s
lowest_unique k w r s lr ls = omega (arith, not_below r s lr ls, not_below s r ls lr)
  where
    not_below : (r s : ℕ) → Lowest k w r → Lowest k w s → r < s → ⊥
    not_below r s lr ls h = omega (arith, ls.none_below r h, lr.is_member (omega (arith, ls.within)))

-- The count of zeros below the lowest one is the lowest state.
pub trailing_is_lowest : (k w : ℕ) → Lowest k w (count_trailing_zeros k w)
unfolding count_trailing_zeros
trailing_is_lowest zero w = record { within = zero-le; none_below = λ q h. absurd (not-suc-le-zero h); is_member = λ h. absurd (not-suc-le-zero h) }
trailing_is_lowest (suc k) w = go (w % 2) refl (trailing_is_lowest k (w / 2))
  where
    after : (t : ℕ) → w % 2 ≡ 0 → Lowest k (w / 2) t → (q : ℕ) → q < suc t → bit w q ≡ 0
    after t e l zero h = bit_first w ∙ e
    after t e l (suc q) h = bit_after w q ∙ l.none_below q (le_of_suc-le-suc h)

    go : (d : ℕ) → w % 2 ≡ d → Lowest k (w / 2) (count_trailing_zeros k (w / 2)) → Lowest (suc k) w (under d (count_trailing_zeros k (w / 2)))
    go zero e l =
        record { within = suc-le-suc l.within; none_below = after (count_trailing_zeros k (w / 2)) e l; is_member = λ h. bit_after w (count_trailing_zeros k (w / 2)) ∙ l.is_member (le_of_suc-le-suc h) }
    go (suc d) e l =
        record { within = zero-le; none_below = λ q h. absurd (not-suc-le-zero h); is_member = λ h. bit_first w ∙ omega (arith, mod-lt w (zero-lt-suc 1)) }

pub lowest_is_trailing : (k w : ℕ) → lowest_of k w ≡ count_trailing_zeros k w
lowest_is_trailing k w = lowest_unique k w (lowest_of k w) (count_trailing_zeros k w) (lowest_is_lowest k w) (trailing_is_lowest k w)

listed_at : (xs : List ℕ) (i : ℕ) → i < length xs → Memᴰ (get_or xs i 0) xs
listed_at [] i within = absurd (not-suc-le-zero within)
listed_at (x ∷ xs) zero within = Memᴰ.head refl
listed_at (x ∷ xs) (suc i) within = Memᴰ.tail (listed_at xs i (le_of_suc-le-suc within))

-- The members are listed rising, so each stands once.
pub members_rise : (k w i j : ℕ) → i < j → j < size_of k w → get_or (members k w) i 0 < get_or (members k w) j 0
unfolding members size_of
members_rise zero w i j before within = absurd (not-suc-le-zero within)
members_rise (suc k) w i j before within = go (members_rise k w i j before) (dec_lt j (size_of k w)) (bit_cases w k)
  where
    rest : List ℕ
    rest = keep (bit w k) k

    earlier : (i : ℕ) → i < size_of k w → get_or (members k w ++ rest) i 0 ≡ get_or (members k w) i 0
    earlier i h = get_or-append (members k w) rest 0 i h

    go : (j < size_of k w → get_or (members k w) i 0 < get_or (members k w) j 0) → Dec (j < size_of k w)
        → (bit w k ≡ 0) ⊎ (bit w k ≡ 1) → get_or (members k w ++ rest) i 0 < get_or (members k w ++ rest) j 0
    go rise (yes h) c = rw (earlier i (omega arith), earlier j h) (rise h)
    go rise (no h) (inl e) = absurd (h (omega (arith, size_more k w)))
    go rise (no h) (inr e) =
        let last : j ≡ size_of k w = omega (arith, size_more k w) in
        let at_last : get_or (members k w ++ rest) j 0 ≡ k = rw (last, e) (get_or-append_seam (members k w) k [] 0) in
        let low : get_or (members k w) i 0 < k = (listed_member k w (get_or (members k w) i 0) (listed_at (members k w) i (omega arith))).0 in
        rw (earlier i (omega arith), at_last) low
