use Rattle.std.proofs.Common.{rules}
use Rattle.xdr.specs.Opaque.{past_with}
use Rattle.xdr.proofs.past_at.Goals as goal

pub returns-then-reaches-2 : goal.returns-then-reaches-2
unfolding past_with
returns-then-reaches-2 g c = search rules

pub returns-else-reaches : goal.returns-else-reaches
unfolding past_with
returns-else-reaches g c = search rules
