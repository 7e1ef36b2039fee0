-- The two theorems that join the words with source document 003: what word m holds, and what the set of X holds.
-- Assumes nothing.
use Rattle.std.specs.Prelude.{ℕ, zero, suc, ◌^◌, ◌≤◌, ◌<◌, ◌≡◌, refl, ◌↔◌, ◌⊎◌, List, [], ◌∷◌, ◌++◌, get_or}
use Rattle.std.proofs.Common.{sym, ◌∙◌, inl, inr, le_refl, not-suc-le-zero, arith}
use Rattle.std.proofs.Math.Path.{subst}
use Rattle.std.proofs.Math.Logic.{⊎_elim}
use Rattle.std.specs.Int.Bits.{bit_or}
use Rattle.std.proofs.Math.ListN.{length}
use Rattle.sets.specs.Sets.{bit}
use Rattle.sets.specs.MembersLaws.{bit_cases}
use Rattle.sets.specs.SetsLaws.{bit_small, bit_beyond, below_by_members}
use Rattle.recording.specs.declared.Seat.{Seat}
use Rattle.recording.specs.OrdersLaws.{standing, standing_digits}
use Rattle.recording.specs.Recording.{InSet}
use Rattle.recording.specs.UnionLaws.{in_union, union_first, union_second, empty_has_none}
use Rattle.recording.specs.Words.{ReachedBy, union_of, filled, set_of}
use Rattle.recording.specs.WordsLaws.{word_at, length_filled, filled_at, Closed, word_sound, word_complete, word_below}

-- ---- the union of a list of sets
pub union_end : (set : ℕ) (ws : List ℕ) (w : ℕ) → union_of set (ws ++ (w ∷ [])) ≡ bit_or (union_of set ws) w
unfolding union_of
union_end set [] w = refl
union_end set (v ∷ ws) w = union_end (bit_or set v) ws w

-- A member of the union is a member of the first set or of one in the list.
pub in_union_of : (set : ℕ) (ws : List ℕ) (q : ℕ) → bit (union_of set ws) q ≡ 1
    → (bit set q ≡ 1) ⊎ ((m : ℕ) × (m < length ws) × (bit (get_or ws m 0) q ≡ 1))
unfolding union_of
in_union_of set [] q has = inl has
in_union_of set (w ∷ ws) q has =
    ⊎_elim
    (λ here. ⊎_elim inl (λ new. inr (0, omega arith, new)) (in_union set w q here))
    (λ later. inr (suc later.0, omega (arith, later.1), later.2))
    (in_union_of (bit_or set w) ws q has)

union_keeps : (set : ℕ) (ws : List ℕ) (q : ℕ) → bit set q ≡ 1 → bit (union_of set ws) q ≡ 1
unfolding union_of
union_keeps set [] q has = has
union_keeps set (w ∷ ws) q has = union_keeps (bit_or set w) ws q (union_first set w q has)

pub union_of_has : (set : ℕ) (ws : List ℕ) (m q : ℕ) → m < length ws → bit (get_or ws m 0) q ≡ 1 → bit (union_of set ws) q ≡ 1
unfolding union_of
union_of_has set [] m q within has = absurd (not-suc-le-zero within)
union_of_has set (w ∷ ws) zero q within has = union_keeps (bit_or set w) ws q (union_second set w q has)
union_of_has set (w ∷ ws) (suc m) q within has = union_of_has (bit_or set w) ws m q (omega arith) has

module _ (next : ℕ → ℕ → ℕ) (looms : List Seat) (states start X : ℕ) (closed : Closed next looms states start) where
  -- Bit q of word m is set exactly when some order of exactly the looms in m, a loom of X first, reaches q.
  pub word_members : (m q : ℕ) → m < 2 ^ length looms
      → (bit (word_at next looms states start X m) q ≡ 1) ↔ ReachedBy next looms start X m q
  word_members m q small = (
    word_sound next looms states start X m q,
    λ by. subst (λ (p : ℕ). bit (word_at next looms states start X m) p ≡ 1) by.2
        (word_complete next looms states start X closed m small by.0 by.1),
  )

  in_order : (m q : ℕ) → m < 2 ^ length looms → ReachedBy next looms start X m q → InSet next looms start X q
  in_order m q small by = (
    by.0,
    record {
      looms_of_it = λ k past. by.1.looms_of_m k ∙ bit_beyond (length looms) m k small past;
      each_once = λ k. omega (arith, by.1.looms_of_m k, bit_small m k);
      first_of_X = by.1.first_of_X;
    },
    by.2,
  )

  of_order : (q : ℕ) → InSet next looms start X q
      → (m : ℕ) × (m < 2 ^ length looms) × ReachedBy next looms start X m q
  of_order q by =
      let us = by.0 in
      let digits = standing_digits us by.1.each_once in (
        standing us,
        below_by_members (length looms) (standing us) (λ k past. digits k ∙ by.1.looms_of_it k past),
        (us, record { looms_of_m = λ k. sym (digits k); first_of_X = by.1.first_of_X }, by.2),
      )

  -- A state of the set stands in one of its words.
  in_some_word : (q : ℕ) → bit (set_of next looms states start X) q ≡ 1
      → (m : ℕ) × (m < 2 ^ length looms) × (bit (word_at next looms states start X m) q ≡ 1)
  unfolding set_of
  in_some_word q has =
      ⊎_elim (λ none. absurd (empty_has_none q none))
      (λ there. let small : there.0 < size = omega (arith, there.1, length_filled next looms states start X size) in (
        there.0,
        small,
        subst (λ (w : ℕ). bit w q ≡ 1) (filled_at next looms states start X size there.0 small) there.2,
      ))
      (in_union_of 0 (filled next looms states start X size) q has)
    where
      size : ℕ
      size = 2 ^ length looms

  -- The set of X, as the code makes it, is Q_X.
  pub set_members : (q : ℕ) → (bit (set_of next looms states start X) q ≡ 1) ↔ InSet next looms start X q
  unfolding set_of
  set_members q = (into, back)
    where
      size : ℕ
      size = 2 ^ length looms

      into : bit (set_of next looms states start X) q ≡ 1 → InSet next looms start X q
      into has =
          let there = in_some_word q has in
          in_order there.0 q there.1 (word_sound next looms states start X there.0 q there.2)

      back : InSet next looms start X q → bit (set_of next looms states start X) q ≡ 1
      back by =
          let there = of_order q by in
          union_of_has 0 (filled next looms states start X size) there.0 q
          (omega (arith, there.1, length_filled next looms states start X size))
          (rw (filled_at next looms states start X size there.0 there.1)
          ((word_members there.0 q there.1).1 there.2))

  -- It holds states alone.
  pub set_below : set_of next looms states start X < 2 ^ states
  set_below = below_by_members states (set_of next looms states start X) none
    where
      none : (q : ℕ) → states ≤ q → bit (set_of next looms states start X) q ≡ 0
      none q past = go (bit_cases (set_of next looms states start X) q)
        where
          go : (bit (set_of next looms states start X) q ≡ 0) ⊎ (bit (set_of next looms states start X) q ≡ 1)
              → bit (set_of next looms states start X) q ≡ 0
          go (inl out) = out
          go (inr has) =
              let there = in_some_word q has in
              let small : word_at next looms states start X there.0 < 2 ^ states =
              unfold word_at in word_below next looms states start X closed
              (filled next looms states start X there.0) there.0 (length looms) (le_refl (length looms)) in
              absurd (omega (arith, there.2, bit_beyond states (word_at next looms states start X there.0) q small past))
