-- `cell::catalogue_cell::Size::fill` meets its contract. The invariant: the first i entries are written, and the rest of the room is as it was.
use Rattle.std.specs.Prelude.{◌≡◌, ◌++◌, take, drop}
use Rattle.cell.specs.Catalogue.{table_of}
use Rattle.cell.proofs.catalogue_cell.Size.fill.Given as goal

abbrev pub invariant-loop-i : goal.invariant-loop-i
invariant-loop-i l = l.room ≡ take l.i (table_of l.self.n) ++ drop l.i l.initial.room
