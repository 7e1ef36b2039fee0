use Rattle.std.proofs.Common.{rules}
use Rattle.xdr.specs.Opaque.{part_of}
use Rattle.xdr.proofs.part_at.Goals as goal

pub returns-then-reaches : goal.returns-then-reaches
unfolding part_of
returns-then-reaches c = search rules

pub returns-else-reaches : goal.returns-else-reaches
unfolding part_of
returns-else-reaches c = search rules
