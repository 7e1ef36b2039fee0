-- A file that reads gets past 2 to 9 of the check: the two say alike what a table and a certificate are.
-- Assumes nothing.
use Rattle.std.specs.Prelude.{ℕ, ◌≤◌, ◌≡◌, List, take, Ok}
use Rattle.cell.specs.Limits.{edition}
use Rattle.recording.specs.Check.{room_for, fault_of}
use Rattle.order.specs.declared.Order.{Order}
use Rattle.order.specs.Order.{certificate_in, ReadsTo}
use Rattle.order.proofs.ReadsPassLaws as laws

-- Read a file into two rooms, and give the check what was read, with room enough for its words: none of 2 to 9 and 40 applies.
pub reads_pass : (s table schedule table' schedule' : List ℕ) (order : Order) → ReadsTo edition s table schedule table' schedule' (Ok order)
    → (room : ℕ) → room_for order.count ≤ room
    → fault_of (take order.entries table') order.states order.operations (certificate_in order) room ≡ Ok tt
reads_pass s table schedule table' schedule' order = laws.reads_pass s table schedule table' schedule' order
