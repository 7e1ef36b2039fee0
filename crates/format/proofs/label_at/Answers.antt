-- The bytes are looked at only where the length is taken.
use Rattle.std.proofs.Common.{sym, arith, rules}
use Rattle.xdr.specs.FieldLaws.{field_taken, field_inside}
use Rattle.format.specs.Format.{label_at}
use Rattle.format.proofs.label_at.Goals as goal

pub returns-in_err-length : goal.returns-in_err-length
unfolding label_at
returns-in_err-length c = search rules

pub overflow_add-at : goal.overflow_add-at
overflow_add-at c = omega (arith, field_inside _ _ _ _ _ _ (sym c.in_ok-length.ensures))

pub returns : goal.returns
unfolding label_at
returns c = let length = (field_taken _ _ _ _ _ _ (sym c.in_ok-length.ensures)).value in search rules
