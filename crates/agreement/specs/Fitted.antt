-- What the theorems ask of looms, operations, a start and the looms' rules: that they are recording, and that the rules say so.
-- Assumes nothing.
use Rattle.std.specs.Prelude.{ℕ, ◌≤◌, ◌≡◌, true, ◌↔◌, List}
use Rattle.recording.specs.declared.Seat.{Seat}
use Rattle.recording.specs.Recording.{side_at, side_count, InSet, Recording}
use Rattle.sides.specs.Sides.{side_number, other}
use Rattle.loom.specs.Turn.{Rules}

-- The rules R render 003's sets: its start, the set of the leading side, and whether the yielding side has one loom.
-- "The yielding side is B, except that it is A when the start is in the set of B": the start is not in its set.
pub record Renders (next : ℕ → ℕ → ℕ) (looms : List Seat) (start : ℕ) (R : Rules) : Type 0 where
  pub the_start : R.start ≡ start
  pub the_set : (q : ℕ) → (R.in_leading q ≡ true) ↔ InSet next looms start (side_number R.leading) q
  pub the_count : (R.yields_alone ≡ true) ↔ (side_count (side_number (other R.leading)) looms ≡ 1)
  pub the_yielding : InSet next looms start (side_number (other R.leading)) start → ⊥

-- A recording certificate, its sides 0 or 1, and rules that render it.
pub record Fitted (next : ℕ → ℕ → ℕ) (looms : List Seat) (start : ℕ) (R : Rules) : Type 0 where
  pub recording : Recording next looms start
  pub sides : (k : ℕ) → side_at looms k ≤ 1
  pub renders : Renders next looms start R
