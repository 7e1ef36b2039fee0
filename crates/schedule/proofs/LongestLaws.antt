-- The longest run and the looms' step counts at every moment, and the marks of a prefix.
-- Assumes nothing.
use Prim.Native.Nat.{ℕ, zero, suc, ◌≤◌, ◌<◌, max}
use native.Mathlib.Omega.{arith}
use Rattle.std.proofs.Math.Decide.{dec_le}
use Rattle.std.specs.Prelude.{◌≡◌, true, ◌⊎◌, length, take}
use Rattle.std.proofs.Math.Path.{refl, ap}
use Rattle.std.proofs.Common.{◌∙◌}
use mathlib.Core.List.{List, [], ◌∷◌}
use Rattle.std.proofs.Math.Logic.{inl, inr}
use Rattle.recording.specs.declared.Seat.{Seat}
use Rattle.group.specs.declared.Group.{Group}
use Rattle.group.specs.Group.{loom_at}
use Rattle.demands.specs.Fits.{WellFormed, Fits}
use Rattle.schedule.specs.declared.Ran.{Ran}
use Rattle.schedule.specs.Acts.{act_of, all_named}
use Rattle.schedule.specs.Played.{mark_of, steps_told, tallied, with_acted, acted_of, played_of, marks_of}
use Rattle.schedule.specs.Counts.{group_after}
use Rattle.schedule.proofs.BecameLaws.{became}
use Rattle.schedule.proofs.CountsLaws.{first_named, bound_in_act, fits_acted, steps_of_a_loom}

-- A part of named entries from the left is named.
pub named_prefix : (n i : ℕ) (es : List ℕ) → all_named n es ≡ true → all_named n (take i es) ≡ true
named_prefix n zero es named = refl
named_prefix n (suc i) [] named = refl
named_prefix n (suc i) (e ∷ es) named =
    let both_named = first_named n e es named in
    rw both_named.0 (named_prefix n i es both_named.1)

module _ (table : List ℕ) (states operations : ℕ) where
  -- The marks of a prefix are a prefix of the marks.
  pub marks_of_prefix : (i : ℕ) (g : Group) (es : List ℕ) → marks_of table states operations g (take i es) ≡ take i (marks_of table states operations g es)
  unfolding marks_of
  marks_of_prefix zero g es = refl
  marks_of_prefix (suc i) g [] = refl
  marks_of_prefix (suc i) g (e ∷ es) =
      ap (λ l. mark_of (acted_of table states operations g (act_of e)).told ∷ l) (marks_of_prefix i (acted_of table states operations g (act_of e)).group es)

  -- A run's group is the group after its schedule.
  pub group_of_run : (r : Ran) (es : List ℕ) → (played_of table states operations r es).group ≡ group_after table states operations r.group es
  unfolding played_of group_after
  group_of_run r [] = refl
  group_of_run r (e ∷ es) = group_of_run (with_acted r (acted_of table states operations r.group (act_of e))) es

  -- The longest run only grows.
  pub longest_grows : (r : Ran) (es : List ℕ) → r.tally.longest ≤ (played_of table states operations r es).tally.longest
  unfolding played_of tallied
  longest_grows r [] = omega arith
  longest_grows r (e ∷ es) =
      omega (arith, longest_grows (with_acted r (acted_of table states operations r.group (act_of e))) es)

  module _ (looms : List Seat) (good : WellFormed table states operations looms) where
    -- No loom's count is past it at any moment.
    pub longest_bounds : (k : ℕ) → k < length looms → (es : List ℕ) (r : Ran) → Fits states looms r.group → all_named (length looms) es ≡ true →
        (loom_at r.group k).steps ≤ r.tally.longest →
        (i : ℕ) → (loom_at (group_after table states operations r.group (take i es)) k).steps ≤ (played_of table states operations r es).tally.longest
    unfolding group_after played_of tallied
    longest_bounds k here es r fits named low zero = omega (arith, longest_grows r es)
    longest_bounds k here [] r fits named low (suc i) = low
    longest_bounds k here (e ∷ es) r fits named low (suc i) =
        let both_named = first_named (length looms) e es named in
        let now = became table states operations looms good r.group fits k here (act_of e) both_named.0 in
        longest_bounds k here es (with_acted r (acted_of table states operations r.group (act_of e)))
        (fits_acted table states operations looms good r.group fits (act_of e)) both_named.1 (bound_in_act now r.tally.longest low) i

    -- And it is some loom's count at some moment, or what it was at the beginning.
    abbrev pub Moment : Ran → List ℕ → Type 0
    Moment r es =
        (i : ℕ) × (k : ℕ) × (i ≤ length es) × (k < length looms)
        × ((loom_at (group_after table states operations r.group (take i es)) k).steps ≡ (played_of table states operations r es).tally.longest)

    -- One entry more: its act gives no count, or the count of a loom, past the longest run so far or not.
    attained_next : (e : ℕ) (es : List ℕ) (r : Ran) → let x = acted_of table states operations r.group (act_of e) in
        (steps_told x.told ≡ 0) ⊎ ((j : ℕ) × (j < length looms) × ((loom_at x.group j).steps ≡ steps_told x.told)) →
        ((played_of table states operations (with_acted r x) es).tally.longest ≡ max r.tally.longest (steps_told x.told)) ⊎ Moment (with_acted r x) es →
        ((played_of table states operations (with_acted r x) es).tally.longest ≡ r.tally.longest) ⊎ Moment r (e ∷ es)
    unfolding group_after played_of tallied
    attained_next e es r gives (inr (i, k, moment, here, same)) = inr (suc i, k, omega arith, here, same)
    attained_next e es r (inl none) (inl last) = inl (omega (arith, last, none))
    attained_next e es r (inr (j, within, same)) (inl last) =
        by_test (dec_le (steps_told (acted_of table states operations r.group (act_of e)).told) r.tally.longest)
      where
        by_test : Dec ((steps_told (acted_of table states operations r.group (act_of e)).told) ≤ r.tally.longest) →
            ((played_of table states operations (with_acted r (acted_of table states operations r.group (act_of e))) es).tally.longest ≡ r.tally.longest) ⊎ Moment r (e ∷ es)
        by_test (yes low) = inl (omega (arith, last))
        by_test (no high) = inr (1, j, omega arith, within, same ∙ omega (arith, last, high))

    pub longest_attained : (es : List ℕ) (r : Ran) → Fits states looms r.group → all_named (length looms) es ≡ true →
        ((played_of table states operations r es).tally.longest ≡ r.tally.longest) ⊎ Moment r es
    unfolding group_after played_of tallied
    longest_attained [] r fits named = inl refl
    longest_attained (e ∷ es) r fits named =
        let both_named = first_named (length looms) e es named in
        attained_next e es r (steps_of_a_loom table states operations looms good r.group fits (act_of e) both_named.0)
        (longest_attained es (with_acted r (acted_of table states operations r.group (act_of e)))
        (fits_acted table states operations looms good r.group fits (act_of e)) both_named.1)
