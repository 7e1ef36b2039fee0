use Rattle.std.proofs.Common.{sym, arith, rules}
use Rattle.xdr.specs.FieldLaws.{field_inside}
use Rattle.format.specs.Format.{item_at}
use Rattle.format.proofs.loom_at.Goals as goal

pub returns-in_err-field_at : goal.returns-in_err-field_at
unfolding item_at
returns-in_err-field_at c = search rules

pub returns : goal.returns
unfolding item_at
returns c = search rules

pub overflow_add-at : goal.overflow_add-at
overflow_add-at c = omega (arith, field_inside _ _ _ _ _ _ (sym c.in_ok-field_at.ensures))
