-- A run's answers and applications, entry by entry.
-- Assumes nothing.
use Rattle.std.specs.Prelude.{ℕ, ◌+◌, ◌≡◌, true, Option, Some, None, Result, Ok, Err, eqb}
use native.Mathlib.Omega.{arith}
use Rattle.std.proofs.Math.Path.{refl, ap}
use Rattle.std.proofs.Common.{◌∙◌}
use mathlib.Core.List.{List, [], ◌∷◌}
use Rattle.std.proofs.Math.ListN.{length}
use borrow.Author.Tests.{ltb-true}
use Rattle.codes.specs.declared.Code.{Code}
use Rattle.codes.specs.declared.Code.TheVariants.{HasAnswered}
use Rattle.cell.specs.Table.{entry_of}
use Rattle.recording.specs.Recording.{one}
use Rattle.recording.specs.declared.Seat.{Seat}
use Rattle.sides.specs.declared.Side.{Side}
use Rattle.sides.specs.Sides.{of_side}
use Rattle.sides.specs.declared.Side.TheVariants.{A, B}
use Rattle.loom.specs.declared.Place.{Place}
use Rattle.loom.specs.declared.Place.TheVariants.{Begin, Ready}
use Rattle.loom.specs.declared.Shared.{Shared}
use Rattle.loom.specs.declared.Said.{Said}
use Rattle.loom.specs.declared.Said.TheVariants.{Nothing, Application, Answer}
use Rattle.loom.specs.Numbers.{said_number, said_applied}
use Rattle.loom.specs.Turn.{Rules, turn_of, has_answered}
use Rattle.group.specs.declared.Group.{Group}
use Rattle.group.specs.Group.{loom_at, group_rules}
use Rattle.demands.specs.Fits.{WellFormed, Fits}
use Rattle.schedule.specs.declared.Act.{Act}
use Rattle.schedule.specs.declared.Act.TheVariants.{Step, Restart, RestartAll}
use Rattle.group.specs.declared.Told.{Told}
use Rattle.group.specs.declared.Stepped.{Stepped}
use Rattle.schedule.specs.declared.Ran.{Ran}
use Rattle.schedule.specs.Acts.{act_of, is_named, all_named}
use Rattle.schedule.specs.Played.{mark_of, answers_said, answers_told, applied_told, tallied, begun, with_acted, acted_of, played_of, marks_of}
use Rattle.schedule.specs.Counts.{answers_for, answer_mark, how_many, is_ready, applies, applied_over}
use Rattle.schedule.proofs.BecameLaws.{step_ends}
use Rattle.schedule.proofs.CountsLaws.{first_named, fits_acted}

-- A run begins with no answer for either side.
pub none_at_first : (g : Group) (s : Side) → answers_for s (begun g) ≡ 0
none_at_first g A = refl
none_at_first g B = refl

-- An answer is marked with its side, and nothing else is marked with a side.
pub answer_marked : (s : Side) (said : Said) → answers_said s said ≡ one (eqb (said_number said) (answer_mark s))
answer_marked A Nothing = refl
answer_marked B Nothing = refl
answer_marked A Application = refl
answer_marked B Application = refl
answer_marked A (Answer A v) = refl
answer_marked A (Answer B v) = refl
answer_marked B (Answer A v) = refl
answer_marked B (Answer B v) = refl

pub answers_marked : (s : Side) (told : Result Told Code) → answers_told s told ≡ one (eqb (mark_of told) (answer_mark s))
answers_marked s (Ok told) = answer_marked s told.said
answers_marked A (Err HasAnswered) = refl
answers_marked B (Err HasAnswered) = refl
answers_marked A (Err _) = refl
answers_marked B (Err _) = refl

-- An act adds its answers to a side's, which are those that its mark says.
pub answers_added : (s : Side) (r : Ran) (x : Stepped) → answers_for s (with_acted r x) ≡ answers_for s r + answers_told s x.told
unfolding tallied
answers_added A r x = refl
answers_added B r x = refl

pub answers_in_act : (s : Side) (r : Ran) (x : Stepped) → answers_for s (with_acted r x) ≡ answers_for s r + one (eqb (mark_of x.told) (answer_mark s))
answers_in_act s r x = answers_added s r x ∙ ap (λ n. answers_for s r + n) (answers_marked s x.told)

-- A turn applies the loom's operation exactly from ready.
applies_from_ready : (R : Rules) (s : Side) (v : ℕ) (op : ℕ → ℕ) (m : Shared) (p : Place) → said_applied (turn_of R s v op m p).said ≡ one (is_ready p)
unfolding turn_of
applies_from_ready R s v op m Begin = refl
applies_from_ready R s v op m _ = refl

-- A loom that has answered is not ready.
answered_not_ready : (p : Place) → has_answered p ≡ true → 0 ≡ one (is_ready p)
answered_not_ready Ready done = cc
answered_not_ready _ done = refl

module _ (table : List ℕ) (states operations : ℕ) where
  pub answers_over : (s : Side) (r : Ran) (es : List ℕ) →
      answers_for s (played_of table states operations r es) ≡ answers_for s r + how_many (answer_mark s) (marks_of table states operations r.group es)
  unfolding played_of marks_of how_many
  answers_over s r [] = omega arith
  answers_over s r (e ∷ es) =
      let x = acted_of table states operations r.group (act_of e) in
      omega (arith, answers_over s (with_acted r x) es, answers_in_act s r x)

  module _ (looms : List Seat) (good : WellFormed table states operations looms) where
    -- An act applies an operation exactly where it is a step of a loom at ready.
    pub applied_in_act : (g : Group) → Fits states looms g → (act : Option Act) → is_named (length looms) act ≡ true →
        applied_told (acted_of table states operations g act).told ≡ one (applies g act)
    unfolding acted_of
    applied_in_act g fits (Some (Step j)) named =
        step_ends table states operations looms good g fits j (ltb-true j (length looms) named) (λ x. applied_told x.told ≡ one (is_ready (loom_at g j).place))
        (answered_not_ready (loom_at g j).place)
        (λ going. applies_from_ready (group_rules g) (loom_at g j).side (of_side g.numbers (loom_at g j).side) (entry_of table states (loom_at g j).operation) g.shared (loom_at g j).place)
    applied_in_act g fits (Some (Restart j)) named = refl
    applied_in_act g fits (Some RestartAll) named = refl
    applied_in_act g fits None named = refl

    pub applied_over_lem : (es : List ℕ) (r : Ran) → Fits states looms r.group → all_named (length looms) es ≡ true →
        (played_of table states operations r es).tally.applied ≡ r.tally.applied + applied_over table states operations r.group es
    unfolding played_of applied_over tallied
    applied_over_lem [] r fits named = omega arith
    applied_over_lem (e ∷ es) r fits named =
        let both_named = first_named (length looms) e es named in
        let x = acted_of table states operations r.group (act_of e) in
        omega (
          arith,
          applied_over_lem es (with_acted r x) (fits_acted table states operations looms good r.group fits (act_of e)) both_named.1,
          applied_in_act r.group fits (act_of e) both_named.0,
        )
