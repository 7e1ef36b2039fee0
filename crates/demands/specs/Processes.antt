-- A group and Figure 2 of source document 003: place for line, register for register, answer for return.
-- The paper's A is the leading side and its B the yielding side.
-- Assumes nothing.
use Rattle.std.specs.Prelude.{ℕ, ◌<◌, ◌≡◌, List, [], ◌∷◌, length}
use Rattle.cell.specs.Table.{entry_of}
use Rattle.recording.specs.declared.Seat.{Seat}
use Rattle.sides.specs.declared.Side.{Side}
use Rattle.sides.specs.Sides.{other}
use Rattle.loom.specs.Sides.{register}
use Rattle.loom.specs.Turn.{Rules}
use Rattle.agreement.specs.Machine.{Act as MachineAct, step, restart, restart_all, side_of}
use Rattle.agreement.specs.Figure.{System, Setting}
use Rattle.agreement.specs.Matched.{setting_of, number, place_of, answers_of, returns_of}
use Rattle.group.specs.declared.Group.{Group}
use Rattle.group.specs.Group.{loom_at, group_rules}
use Rattle.demands.specs.Acts.{Act, loom_steps, loom_restarts, all_restart, History}

-- What Figure 2's algorithm is given by a group with these looms over a table.
abbrev pub setting_in : List ℕ → ℕ → List Seat → Group → Setting
setting_in table states looms g = setting_of (entry_of table states) looms (group_rules g)

-- A group's act as an act of Figure 2's system: each step brings the number of its loom's side.
unfoldable pub numbered : (Side → ℕ) → List Seat → Act → MachineAct
numbered num looms (loom_steps k) = step k (num (side_of looms k))
numbered num looms (loom_restarts k) = restart k
numbered num looms all_restart = restart_all

-- All of them.
unfoldable pub all_numbered : (Side → ℕ) → List Seat → List Act → List MachineAct
all_numbered num looms [] = []
all_numbered num looms (a ∷ acts) = numbered num looms a ∷ all_numbered num looms acts

-- The group with its log, and Figure 2's system, are in the same state.
pub record SameState (looms : List Seat) (R : Rules) (G : Setting) (h : History) (F : System) : Type 0 where
  pub cell : h.group.shared.cell ≡ F.objects.O
  pub leading : register h.group.shared R.leading ≡ number F.objects.RA
  pub yielding : register h.group.shared (other R.leading) ≡ number F.objects.RB
  pub place : (k : ℕ) → k < length looms → (loom_at h.group k).place ≡ place_of R.leading G (F.process k)
  pub answers : answers_of h.log ≡ returns_of F.returns
