-- A table as it is lent.
-- Assumes nothing.
use Rattle.std.specs.Prelude.{ℕ, List}
use Rattle.std.specs.Borrow.{Bor}
use Rattle.cell.specs.declared.Table.{Table}

-- The table of lent entries, said to have so many states and operations.
abbrev pub lent_table : Bor (List ℕ) → ℕ → ℕ → Table
lent_table entries states operations = record { entries = entries; states = states; operations = operations }
