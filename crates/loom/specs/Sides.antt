-- The shared memory: document 01, "One loom's steps".
-- Assumes nothing.
use Rattle.std.specs.Prelude.{ℕ}
use Rattle.sides.specs.declared.Side.{Side}
use Rattle.sides.specs.Sides.{of_side, with_side}
use Rattle.loom.specs.declared.Shared.{Shared}

-- The register of a side.
abbrev pub register : Shared → Side → ℕ
register m s = of_side m.registers s

-- The memory with v in the register of a side.
abbrev pub with_register : Shared → Side → ℕ → Shared
with_register m s v = record { cell = m.cell; registers = with_side m.registers s v }

-- The memory with the cell in state q.
abbrev pub with_cell : Shared → ℕ → Shared
with_cell m q = record { cell = q; registers = m.registers }
