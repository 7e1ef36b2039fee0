-- `sets::union` meets its contract: the digits of an `or`.
use Rattle.sets.specs.SetsLaws.{or_is_union}
use Rattle.sets.proofs.union.Goals as goal

pub returns : goal.returns
returns c = or_is_union c.args.a c.args.b
