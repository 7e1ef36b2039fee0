use Rattle.std.proofs.Common.{rules}
use Rattle.xdr.specs.Opaque.{pad_of}
use Rattle.xdr.proofs.pad.Goals as goal

pub returns : goal.returns
unfolding pad_of
returns c = search rules
