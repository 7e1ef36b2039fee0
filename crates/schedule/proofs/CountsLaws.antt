-- What a schedule counts, act by act, on a group that fits.
-- Assumes nothing.
use Rattle.std.specs.Prelude.{ℕ, ◌≤◌, ◌<◌, min, max, ◌≡◌, true, ◌⊎◌, Option, Some, None}
use Rattle.std.proofs.Common.{arith, ap, sym, ◌∙◌, inl, inr}
use Rattle.std.proofs.Math.Path.{refl}
use Rattle.std.proofs.Math.Bool.{and-eq-true_iff}
use mathlib.Core.List.{List, [], ◌∷◌}
use Rattle.std.proofs.Math.ListN.{length}
use borrow.Author.Tests.{ltb-true}
use Rattle.recording.specs.declared.Seat.{Seat}
use Rattle.loom.specs.Looms.{most_steps, moved_to}
use Rattle.group.specs.declared.Group.{Group}
use Rattle.group.specs.Group.{loom_at, with_shared}
use Rattle.demands.specs.Acts.{loom_steps, loom_restarts, all_restart, untouched, acted_on}
use Rattle.demands.specs.Fits.{WellFormed, Fits}
use Rattle.demands.proofs.FitsLaws.{turn_in, fits_by_act}
use Rattle.group.specs.declared.Stepped.{Stepped}
use Rattle.schedule.specs.declared.Act.{Act}
use Rattle.schedule.specs.declared.Act.TheVariants.{Step, Restart, RestartAll}
use Rattle.schedule.specs.Acts.{act_of, is_named, all_named}
use Rattle.schedule.specs.Played.{mark_of, steps_told, acted_of, marks_of}
use Rattle.schedule.specs.Counts.{steps_after, steps_over, group_after}
use Rattle.schedule.proofs.BecameLaws.{step_ends, loom_changed, Became, stayed, turned, restarted, became}

-- The first of named entries is named, and so are the others.
pub first_named : (n e : ℕ) (es : List ℕ) → all_named n (e ∷ es) ≡ true → (is_named n (act_of e) ≡ true) × (all_named n es ≡ true)
first_named n e es = (and-eq-true_iff (is_named n (act_of e)) (all_named n es)).0

-- One act: the loom's count goes as the schedule's does, and never past the longest run.
module _ {table : List ℕ} {states : ℕ} {g : Group} {k : ℕ} {act : Option Act} {x : Stepped} where
  pub counted_in_act : Became table states g k act x → (c : ℕ) → (loom_at g k).steps ≡ min c most_steps →
      (loom_at x.group k).steps ≡ min (steps_after k act (mark_of x.told) c) most_steps
  counted_in_act (stayed same adds) c so_far = ap (λ l. l.steps) same ∙ (so_far ∙ ap (λ n. min n most_steps) (sym (adds c)))
  counted_in_act (turned moved going steps adds) c so_far =
      ap (λ l. l.steps) moved ∙ (omega (arith, adds c))
  counted_in_act (restarted anew adds) c so_far = ap (λ l. l.steps) anew ∙ omega (arith, adds c)

  pub bound_in_act : Became table states g k act x → (most : ℕ) → (loom_at g k).steps ≤ most → (loom_at x.group k).steps ≤ max most (steps_told x.told)
  bound_in_act (stayed same adds) most low = rw same (omega arith)
  bound_in_act (turned moved going steps adds) most low = rw moved (omega arith)
  bound_in_act (restarted anew adds) most low = rw anew (omega arith)

module _ (table : List ℕ) (states operations : ℕ) (looms : List Seat) (good : WellFormed table states operations looms) where
  -- Group and table go on fitting.
  pub fits_acted : (g : Group) → Fits states looms g → (act : Option Act) → Fits states looms (acted_of table states operations g act).group
  unfolding acted_of acted_on
  fits_acted g fits (Some (Step k)) = fits_by_act table states operations looms good (loom_steps k) (untouched g) fits
  fits_acted g fits (Some (Restart k)) = fits_by_act table states operations looms good (loom_restarts k) (untouched g) fits
  fits_acted g fits (Some RestartAll) = fits_by_act table states operations looms good all_restart (untouched g) fits
  fits_acted g fits None = fits

  -- The step count that an act gives is 0, or that of a loom.
  pub steps_of_a_loom : (g : Group) → Fits states looms g → (act : Option Act) → is_named (length looms) act ≡ true →
      (steps_told (acted_of table states operations g act).told ≡ 0)
      ⊎ ((j : ℕ) × (j < length looms) × ((loom_at (acted_of table states operations g act).group j).steps ≡ steps_told (acted_of table states operations g act).told))
  unfolding acted_of
  steps_of_a_loom g fits (Some (Step j)) named =
      let within = ltb-true j (length looms) named in
      let slot : j < length g.looms = omega (arith, within, fits.seated.slots) in
      step_ends table states operations looms good g fits j within
      (λ x. (steps_told x.told ≡ 0) ⊎ ((i : ℕ) × (i < length looms) × ((loom_at x.group i).steps ≡ steps_told x.told)))
      (λ done. inl refl)
      (λ going. inr (j, within, ap (λ l. l.steps) (loom_changed (with_shared g (turn_in table states g j).shared) j (moved_to (loom_at g j) (turn_in table states g j).place) slot)))
  steps_of_a_loom g fits (Some (Restart j)) named = inl refl
  steps_of_a_loom g fits (Some RestartAll) named = inl refl
  steps_of_a_loom g fits None named = inl refl

  module _ (k : ℕ) (here : k < length looms) where
    -- Over a schedule.
    pub steps_over_lem : (es : List ℕ) (g : Group) → Fits states looms g → all_named (length looms) es ≡ true → (c : ℕ) →
        (loom_at g k).steps ≡ min c most_steps →
        (loom_at (group_after table states operations g es) k).steps ≡ min (steps_over k es (marks_of table states operations g es) c) most_steps
    unfolding group_after steps_over marks_of
    steps_over_lem [] g fits named c so_far = so_far
    steps_over_lem (e ∷ es) g fits named c so_far =
        let both_named = first_named (length looms) e es named in
        let now = became table states operations looms good g fits k here (act_of e) both_named.0 in
        steps_over_lem es (acted_of table states operations g (act_of e)).group (fits_acted g fits (act_of e)) both_named.1
        (steps_after k (act_of e) (mark_of (acted_of table states operations g (act_of e)).told) c) (counted_in_act now c so_far)
