-- One loom and the memory that it steps on as twelve numbers, for C: start, leading side, its set, whether the yielding side has one loom,
-- the number to post; the cell and the two registers; the loom's side, operation, place and step count.
-- Assumes nothing.
use Rattle.std.specs.Prelude.{ℕ, ◌≡◌, List, eqb, set}
use Rattle.loom.specs.declared.Lead.{Lead}
use Rattle.loom.specs.declared.Loom.{Loom}
use Rattle.loom.specs.declared.Shared.{Shared}
use Rattle.sides.specs.Sides.{side_number, side_from}
use Rattle.loom.specs.Numbers.{place_number}
use Rattle.loom.specs.Looms.{rules_of}
use Rattle.group.specs.declared.Outcome.{Outcome}
use Rattle.group.specs.Step.{step_on_of}
use Rattle.std.specs.Result.{result_unwrap_or}
use Rattle.loom.specs.declared.Said.TheVariants.{Nothing}
use Rattle.boundary.specs.Numbers.{code_number}
use Rattle.boundary.specs.Groups.{in_byte, in_half, at, loom_from, shared_from, with_said}

abbrev pub lead_from : List ℕ → Lead
lead_from ns = record { start = in_byte (at ns 0); side = side_from (at ns 1); set = at ns 2; alone = eqb (at ns 3) 1 }

abbrev pub memory_from : List ℕ → Shared
memory_from ns = shared_from (at ns 5) (at ns 6) (at ns 7)

abbrev pub own_from : List ℕ → Loom
own_from ns = loom_from (at ns 8) (at ns 9) (at ns 10) (at ns 11)

abbrev pub with_memory : List ℕ → Shared → List ℕ
with_memory ns m = set (set (set ns 5 m.cell) 6 m.registers.a) 7 m.registers.b

abbrev pub with_own : List ℕ → Loom → List ℕ
with_own ns l = set (set (set (set ns 8 (side_number l.side)) 9 l.operation) 10 (place_number l.place)) 11 l.steps

-- The step that the numbers say.
abbrev pub lent_step : List ℕ → ℕ → ℕ → List ℕ → Outcome
lent_step table states operations ns =
    step_on_of (rules_of (lead_from ns)) (in_half (at ns 4)) table states operations (memory_from ns) (own_from ns)

-- What a step on a lent record leaves in C's numbers: its code, the memory and the loom, and what it says.
pub record LentSteps (table : List ℕ) (states operations : ℕ) (own out : List ℕ) (code : ℕ) (own' out' : List ℕ) : Type 0 where
  pub its_code : code ≡ code_number (lent_step table states operations own).said
  pub its_record : own' ≡ with_own (with_memory own (lent_step table states operations own).shared) (lent_step table states operations own).loom
  pub its_word : out' ≡ with_said out (result_unwrap_or (lent_step table states operations own).said Nothing) (lent_step table states operations own).loom.steps
