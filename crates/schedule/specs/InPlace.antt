-- A run's acts as the code takes them: the looms and the memory, apart from the rest of the group.
-- Assumes nothing.
use Rattle.std.specs.Prelude.{ℕ, cond, List, Option, None, Result}
use Rattle.codes.specs.declared.Code.{Code}
use Rattle.cell.specs.Table.{next_of}
use Rattle.recording.specs.declared.Seat.{Seat}
use Rattle.loom.specs.declared.Loom.{Loom}
use Rattle.loom.specs.declared.Shared.{Shared}
use Rattle.loom.specs.declared.Turned.{Turned}
use Rattle.loom.specs.Turn.{has_answered}
use Rattle.group.specs.declared.Group.{Group}
use Rattle.group.specs.Group.{with_shared, with_looms}
use Rattle.demands.specs.Fits.{WellFormed, Fits}
use Rattle.schedule.specs.declared.Tally.{Tally}
use Rattle.group.specs.declared.Told.{Told}
use Rattle.group.specs.declared.Stepped.{Stepped}
use Rattle.schedule.specs.declared.Ran.{Ran}

-- The act of what it tells and the group that it leaves.
abbrev pub acted_by : Result Told Code → Group → Stepped
acted_by told g = record { told = told; group = g }

-- What a step tells that was taken.
abbrev pub told_by_turn : Turned → Told
told_by_turn t = record { said = t.said; steps = t.loom.steps }

-- The group that opened, with the looms and the memory that a run has come to.
abbrev pub come_to : Group → List Loom → Shared → Group
come_to g ls m = with_looms (with_shared g m) ls

-- The group fits its table: it seats looms whose operations the table has, and its cell is in one of the table's states.
pub record Fitting (table : List ℕ) (states operations : ℕ) (g : Group) : Type 0 where
  pub looms : List Seat
  pub good : WellFormed table states operations looms
  pub fits : Fits states looms g

-- The state that a step of the loom l leads to on the memory m, none where it has answered.
abbrev pub leads_to : List ℕ → ℕ → Shared → Loom → Option ℕ
leads_to table states m l = cond (has_answered l.place) None (next_of table states l.operation m.cell)

-- The run of what has been counted and the group that it has come to.
abbrev pub ran_by : Tally → Group → Ran
ran_by t g = record { group = g; tally = t }
