use Rattle.std.proofs.Common.{rules}
use Rattle.xdr.specs.Field.{within}
use Rattle.xdr.proofs.RangeUsizeRule.allows.Goals as goal

pub returns : goal.returns
unfolding within
returns c = search rules
