-- The words in, and those to come, are all.
use Rattle.std.specs.Prelude.{◌≡◌, ◌+◌, ◌*◌, length}
use Rattle.std.proofs.Common.{arith}
use Rattle.order.specs.OrderLaws.{filling_goes_on, filling_whole, lows_next, lows_none}
use Rattle.order.proofs.fill.Goals as goal

pub loop-i-preserved : goal.loop-i-preserved
loop-i-preserved c =
    let a = c.args in
    let l = c.loop-i in
    let p = a.at + 4 * l.i in
    let next : a.at + 4 * (l.i + 1) ≡ p + 4 = omega arith in
    rw (c.word_at.ensures.0, next)
    (filling_goes_on _ _ _ _ _ _ _ (omega arith) (lows_next a.file.now (length a.room.now) l.i p (omega arith)) l.invariant)

pub returns : goal.returns
returns c =
    let a = c.args in
    let l = c.loop-i in
    filling_whole _ _ _ _ _ (omega arith) (lows_none a.file.now (length a.room.now) l.i (a.at + 4 * l.i) (omega arith)) l.invariant
