-- Group and table fit through every act, and how a step of a group that fits ends.
-- Assumes nothing.
use Rattle.std.specs.Prelude.{ℕ, zero, suc, ◌≤◌, ◌<◌, ◌≡◌, refl, Bool, true, false, length, Ok, Err}
use Rattle.std.proofs.Common.{arith, ◌∙◌}
use Rattle.std.proofs.Math.Decide.{dec_lt}
use mathlib.Core.List.{List, [], ◌∷◌}
use borrow.Author.Tests.{le-ltb, le-leb, lt-leb, eq-eqb}
use Rattle.codes.specs.declared.Code.TheVariants.{NoLoom, HasAnswered, Unfit}
use Rattle.cell.specs.Limits.{edition}
use Rattle.cell.specs.Table.{entry_of}
use Rattle.cell.specs.TableLaws.{good_moves}
use Rattle.recording.specs.declared.Seat.{Seat}
use Rattle.sides.specs.declared.Side.{Side}
use Rattle.sides.specs.Sides.{of_side}
use Rattle.loom.specs.declared.Place.{Place}
use Rattle.loom.specs.declared.Place.TheVariants.{Begin, Posted, Looking, Ready, Applied, Bound, Answered}
use Rattle.loom.specs.declared.Shared.{Shared}
use Rattle.loom.specs.Turn.{Rules, Turn, turn_of, has_answered}
use Rattle.loom.specs.Looms.{counted, moved_to}
use Rattle.loom.specs.SidesLaws.{cell_kept}
use Rattle.group.specs.declared.Group.{Group}
use Rattle.group.specs.declared.Stepped.{Stepped}
use Rattle.group.specs.Group.{loom_at, group_rules, with_loom, with_shared, no_loom, too_many, restarted_at, restarted_below}
use Rattle.group.specs.Step.{is_unfit, step_on_of, settled, step_of, refused, restarted, restart_of, restart_all_of}
use Rattle.demands.specs.Acts.{Act, loom_steps, loom_restarts, all_restart, History, acted_on, history_after}
use Rattle.demands.specs.Kept.{Kept}
use Rattle.demands.proofs.KeptLaws.{kept_by_act}
use Rattle.demands.specs.Fits.{Seated, WellFormed, Fits}

-- Where acts leave the seats alone, the same looms are seated.
pub seated_still : (looms : List Seat) (g h : Group) → Kept g h → Seated looms g → Seated looms h
seated_still looms g h kept seated =
    record {
      count = kept.count ∙ seated.count;
      slots = rw kept.slots seated.slots;
      side = λ k here. (kept.looms k).side ∙ seated.side k here;
      operation = λ k here. (kept.looms k).operation ∙ seated.operation k here;
    }

-- The turn that loom k of a group would take: by the group's rules, with its side's number and its own operation.
abbrev pub turn_in : List ℕ → ℕ → Group → ℕ → Turn
turn_in table states g k =
    turn_of (group_rules g) (loom_at g k).side (of_side g.numbers (loom_at g k).side) (entry_of table states (loom_at g k).operation) g.shared (loom_at g k).place

-- The group after turn t of its loom k.
abbrev pub moved_on : Group → ℕ → Turn → Group
moved_on g k t = with_loom (with_shared g t.shared) k (moved_to (loom_at g k) t.place)

-- What that step comes to.
abbrev pub turn_taken : Group → ℕ → Turn → Stepped
turn_taken g k t = record { group = moved_on g k t; told = Ok (record { said = t.said; steps = counted (loom_at g k).steps }) }

-- The cell moves within the table's states.
pub turn_within : (R : Rules) (s : Side) (v : ℕ) (op : ℕ → ℕ) (m : Shared) (p : Place) (states : ℕ) → m.cell < states → op m.cell < states →
    (turn_of R s v op m p).shared.cell < states
unfolding turn_of
turn_within R s v op m Begin states here there = rw (cell_kept m s v) here
turn_within R s v op m Posted states here there = here
turn_within R s v op m Looking states here there = here
turn_within R s v op m Ready states here there = there
turn_within R s v op m Applied states here there = here
turn_within R s v op m (Bound x) states here there = here
turn_within R s v op m (Answered x) states here there = here

-- A restart leaves the shared memory alone.
pub shared_restarted_below : (g : Group) (n : ℕ) → (restarted_below g n).shared ≡ g.shared
unfolding restarted_below
shared_restarted_below g zero = refl
shared_restarted_below g (suc n) = shared_restarted_below g n

module _ (table : List ℕ) (states operations : ℕ) (looms : List Seat) (good : WellFormed table states operations looms) where
  module _ (g : Group) (fits : Fits states looms g) where
    few : g.count ≤ edition.looms
    few = omega (arith, fits.seated.count, good.few)

    -- Where there is no loom k, 30 has a cause.
    pub no_such_loom : (k : ℕ) → length looms ≤ k → no_loom g k ≡ true
    no_such_loom k past = simp (le-ltb edition.looms g.count few, le-leb g.count k (omega (arith, fits.seated.count)))

    -- Where there is, it has none.
    pub such_loom : (k : ℕ) → k < length looms → no_loom g k ≡ false
    such_loom k here = simp (le-ltb edition.looms g.count few, lt-leb g.count k (omega (arith, fits.seated.count)))

    -- The looms are not too many.
    pub not_too_many : too_many g ≡ false
    not_too_many = le-ltb edition.looms g.count few

    -- 32 has no cause.
    pub not_unfit : (k : ℕ) → k < length looms → is_unfit table states operations (loom_at g k).operation g.shared.cell ≡ false
    unfolding is_unfit
    not_unfit k here =
        let own : (loom_at g k).operation < operations = rw (fits.seated.operation k here) (good.fitted k here) in
        let below = (good_moves table states operations good.form (loom_at g k).operation g.shared.cell own fits.cell).0 in
        simp (
          le-ltb _ _ good.form.some_states,
          le-ltb _ _ good.form.few_states,
          le-ltb _ _ good.form.some_operations,
          le-ltb _ _ good.form.few_operations,
          eq-eqb _ _ good.form.whole,
          lt-leb _ _ fits.cell,
          lt-leb _ _ own,
          lt-leb _ _ below,
        )

    -- A step ends in three ways. There is no such loom: 30.
    pub step_of_none : (k : ℕ) → length looms ≤ k → step_of table states operations g k ≡ refused NoLoom g
    unfolding step_of
    step_of_none k past = simp (no_such_loom k past)

    -- The loom has answered: 31.
    pub step_of_answered : (k : ℕ) → k < length looms → has_answered (loom_at g k).place ≡ true → step_of table states operations g k ≡ refused HasAnswered g
    unfolding step_of settled step_on_of
    step_of_answered k here done = simp (such_loom k here, not_unfit k here, done)

    -- It has not: it takes its turn.
    pub step_of_unanswered : (k : ℕ) → k < length looms → has_answered (loom_at g k).place ≡ false →
        step_of table states operations g k ≡ turn_taken g k (turn_in table states g k)
    unfolding step_of settled step_on_of
    step_of_unanswered k here going = simp (such_loom k here, not_unfit k here, going)

    -- A restart of no loom of the group: 30.
    pub restart_of_none : (k : ℕ) → length looms ≤ k → restart_of g k ≡ restarted (Err NoLoom) g
    unfolding restart_of
    restart_of_none k past = simp (no_such_loom k past)

    -- A restart of a loom of the group.
    pub restart_of_one : (k : ℕ) → k < length looms → restart_of g k ≡ restarted (Ok tt) (restarted_at g k)
    unfolding restart_of
    restart_of_one k here = simp (such_loom k here)

    -- A restart of all is never refused.
    pub restart_of_all : restart_all_of g ≡ restarted (Ok tt) (restarted_below g g.count)
    unfolding restart_all_of
    restart_of_all = simp not_too_many

    -- A loom that steps: the cell stays within the table's states.
    cell_by_step : (k : ℕ) → (step_of table states operations g k).group.shared.cell < states
    cell_by_step k = by_loom (dec_lt k (length looms))
      where
        by_place : k < length looms → (b : Bool) → has_answered (loom_at g k).place ≡ b → (step_of table states operations g k).group.shared.cell < states
        by_place here true done = rw (step_of_answered k here done) fits.cell
        by_place here false going =
            let own : (loom_at g k).operation < operations = rw (fits.seated.operation k here) (good.fitted k here) in
            rw (step_of_unanswered k here going)
            (turn_within (group_rules g) (loom_at g k).side _ (entry_of table states (loom_at g k).operation) g.shared (loom_at g k).place states fits.cell
            (good_moves table states operations good.form (loom_at g k).operation g.shared.cell own fits.cell).0)

        by_loom : Dec (k < length looms) → (step_of table states operations g k).group.shared.cell < states
        by_loom (yes here) = by_place here (has_answered (loom_at g k).place) refl
        by_loom (no past) = rw (step_of_none k (omega arith)) fits.cell

    cell_by_restart : (k : ℕ) → (restart_of g k).group.shared.cell < states
    cell_by_restart k = by_loom (dec_lt k (length looms))
      where
        by_loom : Dec (k < length looms) → (restart_of g k).group.shared.cell < states
        by_loom (yes here) = rw (restart_of_one k here) fits.cell
        by_loom (no past) = rw (restart_of_none k (omega arith)) fits.cell

    cell_by_restart_of_all : (restart_all_of g).group.shared.cell < states
    cell_by_restart_of_all = rw (restart_of_all, shared_restarted_below g g.count) fits.cell

    -- 32 is never given: a step is taken, or refused with 30 or 31.
    pub never_unfit : (k : ℕ) → (step_of table states operations g k).told ≡ Err Unfit → ⊥
    never_unfit k = by_loom (dec_lt k (length looms))
      where
        by_place : k < length looms → (b : Bool) → has_answered (loom_at g k).place ≡ b → (step_of table states operations g k).told ≡ Err Unfit → ⊥
        by_place here true done unfit = let e = rw (step_of_answered k here done) at unfit in cc
        by_place here false going unfit = let e = rw (step_of_unanswered k here going) at unfit in cc

        by_loom : Dec (k < length looms) → (step_of table states operations g k).told ≡ Err Unfit → ⊥
        by_loom (yes here) = by_place here (has_answered (loom_at g k).place) refl
        by_loom (no past) = λ unfit. let e = rw (step_of_none k (omega arith)) at unfit in cc

  -- Group and table fit after one act.
  pub fits_by_act : (a : Act) (h : History) → Fits states looms h.group → Fits states looms (acted_on table states operations a h).group
  unfolding acted_on
  fits_by_act a h fits = record { seated = seated_still looms h.group _ (kept_by_act table states operations a h) fits.seated; cell = within a }
    where
      within : (a : Act) → (acted_on table states operations a h).group.shared.cell < states
      within (loom_steps k) = cell_by_step h.group fits k
      within (loom_restarts k) = cell_by_restart h.group fits k
      within all_restart = cell_by_restart_of_all h.group fits

  -- Whatever the acts, group and table go on fitting.
  pub fits_always : (acts : List Act) (h : History) → Fits states looms h.group → Fits states looms (history_after table states operations acts h).group
  unfolding history_after
  fits_always [] h fits = fits
  fits_always (a ∷ acts) h fits = fits_always acts (acted_on table states operations a h) (fits_by_act a h fits)
