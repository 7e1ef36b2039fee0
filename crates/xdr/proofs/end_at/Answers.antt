use Rattle.std.proofs.Common.{rules}
use Rattle.xdr.specs.Field.{end_with}
use Rattle.xdr.proofs.end_at.Goals as goal

pub returns-then-file-at : goal.returns-then-file-at
unfolding end_with
returns-then-file-at g c = search rules

pub returns-else-file-at : goal.returns-else-file-at
unfolding end_with
returns-else-file-at g c = search rules
