-- A loom's count of steps: it is within the rank of the loom's place through every act, and so never passes six.
-- Assumes nothing.
use Rattle.std.specs.Prelude.{ℕ, ◌+◌, ◌≤◌, ◌<◌, ◌≡◌, refl, Bool, true, false, not, eqb, length, get_or, set, Ok}
use Rattle.std.proofs.Common.{arith, ap, eqb→eq, get_or-set_same, get_or-set_other, eqb-true}
use Rattle.std.proofs.Math.Decide.{dec_lt}
use mathlib.Core.List.{List, [], ◌∷◌}
use Rattle.std.proofs.lemmas.Bool.{eqb-false}
use Rattle.cell.specs.Table.{entry_of}
use Rattle.recording.specs.declared.Seat.{Seat}
use Rattle.recording.specs.Recording.{one}
use Rattle.sides.specs.declared.Side.{Side}
use Rattle.sides.specs.Sides.{of_side}
use Rattle.loom.specs.declared.Loom.{Loom}
use Rattle.loom.specs.Looms.{counted, moved_to, restarted_of}
use Rattle.loom.specs.Turn.{has_answered}
use Rattle.agreement.specs.Steps.{steps_of as machine_steps, Unrestarted as MachineUnrestarted}
use Rattle.agreement.proofs.StepsLaws.{rank, rank_at_most_six, rank_rises}
use Rattle.group.specs.declared.Group.{Group}
use Rattle.group.specs.declared.Told.{Told}
use Rattle.group.specs.Group.{empty_loom, loom_at, group_rules, with_loom, with_shared}
use Rattle.group.specs.ActsLaws.{restarted_each}
use Rattle.group.specs.Step.{step_of, restart_of, restart_all_of}
use Rattle.demands.specs.Acts.{Act, loom_steps, loom_restarts, all_restart, History, acted_on, history_after}
use Rattle.demands.specs.Fits.{WellFormed, Fits}
use Rattle.demands.proofs.FitsLaws.{turn_in, step_of_none, step_of_answered, step_of_unanswered, restart_of_none, restart_of_one, restart_of_all, fits_by_act}
use Rattle.demands.specs.Processes.{numbered, all_numbered}
use Rattle.demands.specs.Steps.{steps_of, Unrestarted}

-- The steps of loom k are the same among the machine's acts.
pub steps_numbered : (num : Side → ℕ) (looms : List Seat) (k : ℕ) (acts : List Act) → machine_steps k (all_numbered num looms acts) ≡ steps_of k acts
unfolding machine_steps steps_of all_numbered numbered
steps_numbered num looms k [] = refl
steps_numbered num looms k (loom_steps j ∷ acts) = ap (λ n. one (eqb j k) + n) (steps_numbered num looms k acts)
steps_numbered num looms k (loom_restarts j ∷ acts) = steps_numbered num looms k acts
steps_numbered num looms k (all_restart ∷ acts) = steps_numbered num looms k acts

-- And so are its restarts.
pub unrestarted_numbered : (num : Side → ℕ) (looms : List Seat) (k : ℕ) (acts : List Act) → Unrestarted k acts → MachineUnrestarted k (all_numbered num looms acts)
unfolding all_numbered numbered
unrestarted_numbered num looms k [] free = tt
unrestarted_numbered num looms k (loom_steps j ∷ acts) free = unrestarted_numbered num looms k acts free
unrestarted_numbered num looms k (loom_restarts j ∷ acts) free = (λ same. free.0 (eqb→eq j k same), unrestarted_numbered num looms k acts free.1)
unrestarted_numbered num looms k (all_restart ∷ acts) free = free

-- A loom's count is within the rank of its place.
abbrev pub WithinRank : Loom → Type 0
WithinRank l = l.steps ≤ rank l.place

-- It is so of the loom in every slot below n.
abbrev pub AllWithin : ℕ → Group → Type 0
AllWithin n g = (k : ℕ) → k < n → WithinRank (loom_at g k)

within_with_loom : (n : ℕ) (g : Group) (k : ℕ) (l : Loom) → k < length g.looms → AllWithin n g → WithinRank l → AllWithin n (with_loom g k l)
within_with_loom n g k l room all new j below = by_test (eqb j k) refl
  where
    by_test : (b : Bool) → eqb j k ≡ b → WithinRank (get_or (set g.looms k l) j empty_loom)
    by_test true e = rw (eqb-true j k e, get_or-set_same g.looms k l empty_loom room) new
    by_test false e = rw (get_or-set_other g.looms k j l empty_loom (eqb-false j k e)) (all j below)

module _ (table : List ℕ) (states operations : ℕ) (looms : List Seat) (good : WellFormed table states operations looms) (g : Group)
    (fits : Fits states looms g) (all : AllWithin (length looms) g) where
  module _ (k : ℕ) where
    -- Within rank after its turn.
    turn_within_rank : k < length looms → has_answered (loom_at g k).place ≡ false → WithinRank (moved_to (loom_at g k) (turn_in table states g k).place)
    turn_within_rank here going =
        let rises = rank_rises (group_rules g) (loom_at g k).side (of_side g.numbers (loom_at g k).side) (entry_of table states (loom_at g k).operation) g.shared (loom_at g k).place in
        omega (arith, all k here, ap (λ t. one (not t)) going, rises)

    within_by_step : AllWithin (length looms) (step_of table states operations g k).group
    within_by_step = by_loom (dec_lt k (length looms))
      where
        by_place : k < length looms → (b : Bool) → has_answered (loom_at g k).place ≡ b → AllWithin (length looms) (step_of table states operations g k).group
        by_place here true done = rw (step_of_answered table states operations looms good g fits k here done) all
        by_place here false going =
            rw (step_of_unanswered table states operations looms good g fits k here going)
            (within_with_loom (length looms) (with_shared g (turn_in table states g k).shared) k _ (omega (arith, fits.seated.slots)) all (turn_within_rank here going))

        by_loom : Dec (k < length looms) → AllWithin (length looms) (step_of table states operations g k).group
        by_loom (yes here) = by_place here (has_answered (loom_at g k).place) refl
        by_loom (no past) = rw (step_of_none table states operations looms good g fits k (omega arith)) all

    -- The count in a step's result is within six.
    pub result_at_most_six : (t : Told) → (step_of table states operations g k).told ≡ Ok t → t.steps ≤ 6
    result_at_most_six = by_loom (dec_lt k (length looms))
      where
        by_place : k < length looms → (b : Bool) → has_answered (loom_at g k).place ≡ b → (t : Told) → (step_of table states operations g k).told ≡ Ok t → t.steps ≤ 6
        by_place here true done t told = let e = rw (step_of_answered table states operations looms good g fits k here done) at told in cc
        by_place here false going t told =
            let e = rw (step_of_unanswered table states operations looms good g fits k here going) at told in
            let same : counted (loom_at g k).steps ≡ t.steps = cc in
            omega (arith, same, turn_within_rank here going, rank_at_most_six (turn_in table states g k).place)

        by_loom : Dec (k < length looms) → (t : Told) → (step_of table states operations g k).told ≡ Ok t → t.steps ≤ 6
        by_loom (yes here) = by_place here (has_answered (loom_at g k).place) refl
        by_loom (no past) = λ t told. let e = rw (step_of_none table states operations looms good g fits k (omega arith)) at told in cc

    within_by_restart : AllWithin (length looms) (restart_of g k).group
    within_by_restart = by_loom (dec_lt k (length looms))
      where
        by_loom : Dec (k < length looms) → AllWithin (length looms) (restart_of g k).group
        by_loom (yes here) =
            rw (restart_of_one table states operations looms good g fits k here)
            (within_with_loom (length looms) g k (restarted_of (loom_at g k)) (omega (arith, fits.seated.slots)) all (omega arith))
        by_loom (no past) = rw (restart_of_none table states operations looms good g fits k (omega arith)) all

  within_by_restart_of_all : AllWithin (length looms) (restart_all_of g).group
  within_by_restart_of_all j below =
      rw (
        restart_of_all table states operations looms good g fits,
        restarted_each g g.count j (omega (arith, fits.seated.count, fits.seated.slots)) (omega (arith, fits.seated.count)),
      )
      (omega arith)

module _ (table : List ℕ) (states operations : ℕ) (looms : List Seat) (good : WellFormed table states operations looms) where
  within_by_act : (a : Act) (h : History) → Fits states looms h.group → AllWithin (length looms) h.group →
      AllWithin (length looms) (acted_on table states operations a h).group
  unfolding acted_on
  within_by_act (loom_steps k) h fits all = within_by_step table states operations looms good h.group fits all k
  within_by_act (loom_restarts k) h fits all = within_by_restart table states operations looms good h.group fits all k
  within_by_act all_restart h fits all = within_by_restart_of_all table states operations looms good h.group fits all

  -- Whatever the acts.
  pub within_always : (acts : List Act) (h : History) → Fits states looms h.group → AllWithin (length looms) h.group →
      AllWithin (length looms) (history_after table states operations acts h).group
  unfolding history_after
  within_always [] h fits all = all
  within_always (a ∷ acts) h fits all =
      within_always acts (acted_on table states operations a h) (fits_by_act table states operations looms good a h fits) (within_by_act a h fits all)
