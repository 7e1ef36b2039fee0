-- A group that seats the looms of a certificate, and a table that it fits: document 01, "Codes and their order".
-- Assumes nothing.
use Rattle.std.specs.Prelude.{ℕ, ◌≤◌, ◌<◌, ◌≡◌, List, length}
use Rattle.cell.specs.Limits.{edition}
use Rattle.cell.specs.TableLaws.{HasForm}
use Rattle.recording.specs.declared.Seat.{Seat}
use Rattle.recording.specs.Recording.{side_at, operation_at}
use Rattle.agreement.specs.Machine.{side_of}
use Rattle.group.specs.declared.Group.{Group}
use Rattle.group.specs.Group.{loom_at}

-- The looms of the group are these, each with its side and its operation.
pub record Seated (looms : List Seat) (g : Group) : Type 0 where
  pub count : g.count ≡ length looms
  pub slots : length looms ≤ length g.looms
  pub side : (k : ℕ) → k < length looms → (loom_at g k).side ≡ side_of looms k
  pub operation : (k : ℕ) → k < length looms → (loom_at g k).operation ≡ operation_at looms k

-- The table has form, the looms are within the limit, their sides are 0 or 1 and their operations fitted: what 2 to 8 refuse is not there.
pub record WellFormed (table : List ℕ) (states operations : ℕ) (looms : List Seat) : Type 0 where
  pub form : HasForm table states operations
  pub few : length looms ≤ edition.looms
  pub sides : (k : ℕ) → side_at looms k ≤ 1
  pub fitted : (k : ℕ) → k < length looms → operation_at looms k < operations

-- The group seats these looms, and its cell is in one of the table's states.
pub record Fits (states : ℕ) (looms : List Seat) (g : Group) : Type 0 where
  pub seated : Seated looms g
  pub cell : g.shared.cell < states
