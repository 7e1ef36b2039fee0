-- `cell::catalogue_cell::Size::entry` meets its contract: the place decides the operation.
use borrow.Author.Tests.{lt-ltb, le-ltb}
use Rattle.cell.specs.CatalogueLaws.{entry_at}
use Rattle.cell.proofs.catalogue_cell.Size.entry.Goals as goal

pub returns-then-place-self : goal.returns-then-place-self
unfolding entry_at
returns-then-place-self c = simp (lt-ltb _ _ c.if-place-self.true) c.after_zero.ensures

pub returns-else-place-self : goal.returns-else-place-self
unfolding entry_at
returns-else-place-self c = simp (le-ltb _ _ c.if-place-self.false) c.after_one.ensures
