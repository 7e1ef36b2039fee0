-- `sets::common` meets its contract: the digits of an `and`.
use Rattle.sets.specs.SetsLaws.{and_is_common}
use Rattle.sets.proofs.common.Goals as goal

pub returns : goal.returns
returns c = and_is_common c.args.a c.args.b
