use Rattle.std.proofs.Common.{rules}
use Rattle.xdr.specs.Field.{field_with}
use Rattle.xdr.proofs.field_at.Goals as goal

pub returns-then-not-reaches : goal.returns-then-not-reaches
unfolding field_with
returns-then-not-reaches g c = search rules

pub returns-then-allows : goal.returns-then-allows
unfolding field_with
returns-then-allows g c = search rules

pub returns : goal.returns
unfolding field_with
returns g c = search rules
