-- `cell::catalogue_cell::Size::after_one` meets its contract: up by one, or back from the last state.
use mathlib.Core.Path.{sym, ◌∙◌}
use native.Mathlib.Numerals.{add-one}
use native.Mathlib.Omega.{arith}
use Rattle.cell.specs.CatalogueLaws.{one_of_number, one_of_last}
use Rattle.cell.proofs.catalogue_cell.Size.after_one.Goals as goal

pub returns-then-state-self : goal.returns-then-state-self
returns-then-state-self c = add-one _ ∙ sym (one_of_number _ _ (omega arith))

pub returns-else-state-self : goal.returns-else-state-self
returns-else-state-self c = sym (one_of_last _ _ (omega arith))
