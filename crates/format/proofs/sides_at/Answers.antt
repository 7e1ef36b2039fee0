use Rattle.std.proofs.Common.{rules}
use Rattle.format.specs.Format.{sides_at}
use Rattle.format.proofs.sides_at.Goals as goal

pub returns-then-has_side-2 : goal.returns-then-has_side-2
unfolding sides_at
returns-then-has_side-2 c = search rules

pub returns-else-has_side : goal.returns-else-has_side
unfolding sides_at
returns-else-has_side c = search rules
