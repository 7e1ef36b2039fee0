-- The step on a lent record: document 01, "One loom's steps".
-- Assumes nothing.
use Rattle.std.specs.Prelude.{ℕ, List}
use Rattle.loom.specs.declared.Loom.{Loom}
use Rattle.loom.specs.declared.Shared.{Shared}
use Rattle.loom.specs.Turn.{Rules}
use Rattle.group.specs.declared.Outcome.{Outcome}
use Rattle.group.specs.Step.{step_on_of}
use Rattle.lent.specs.declared.Lent.{Lent}

-- Of what a step comes to: what is handed back, and what stays in the record.
abbrev pub returned : Outcome → Lent
returned o = record { loom = o.loom; said = o.said }

abbrev pub left : Outcome → Shared
left o = o.shared

-- "Each step hands the loom back": the answer of a step of the loom l on the record m, lent.
abbrev pub returned_of : Rules → ℕ → List ℕ → ℕ → ℕ → Shared → Loom → Lent
returned_of R v table states operations m l = returned (step_on_of R v table states operations m l)

-- "Its cell and two registers, which is one record lent to the step and altered there": the record as that step leaves it.
abbrev pub left_of : Rules → ℕ → List ℕ → ℕ → ℕ → Shared → Loom → Shared
left_of R v table states operations m l = left (step_on_of R v table states operations m l)
