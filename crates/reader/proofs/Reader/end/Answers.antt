use Rattle.std.proofs.Common.{◌∙◌}
use Rattle.xdr.proofs.OpaqueLaws.{past_is_opaque}
use Rattle.reader.proofs.Reader.end.Goals as goal

pub returns : goal.returns
returns c = c.past_at.ensures ∙ past_is_opaque _ _ _ _
