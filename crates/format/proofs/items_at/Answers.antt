-- What is left of the array gives what the whole of it gives.
use Rattle.std.specs.Prelude.{◌≡◌, ◌+◌, ◌-◌}
use Rattle.std.proofs.Common.{sym, ◌∙◌, arith, rules}
use Rattle.xdr.specs.FieldLaws.{run_none, run_goes_on, run_stops}
use Rattle.format.specs.FormatLaws.{item_inside}
use Rattle.format.proofs.items_at.Goals as goal

pub returns-in_err-item_at : goal.returns-in_err-item_at
returns-in_err-item_at c =
    let stops = run_stops _ _ _ _ _ (omega arith) (sym c.in_err-item_at.ensures) ∙ c.loop.invariant in search rules

pub overflow_add-next : goal.overflow_add-next
overflow_add-next c = omega (arith, c.width-next.ensures, item_inside _ _ _ _ (sym c.in_ok-item_at.ensures))

pub loop-preserved : goal.loop-preserved
loop-preserved c =
    let e : c.args.count - (c.loop.counter + 1) ≡ c.args.count - c.loop.counter - 1 = omega arith in
    rw (c.width-next.ensures, e) (run_goes_on _ _ _ _ _ (omega arith) (sym c.in_ok-item_at.ensures) ∙ c.loop.invariant)

pub returns : goal.returns
returns c = sym (run_none _ _ _ _ (omega arith)) ∙ c.loop.invariant
