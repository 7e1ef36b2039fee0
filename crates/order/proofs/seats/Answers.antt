-- The seats in, and those to come, are all; the others are empty.
use Rattle.std.specs.Prelude.{◌≡◌, ◌+◌, ◌*◌, List, ◌++◌, length, take, drop}
use Rattle.std.proofs.Common.{ap, arith}
use Rattle.std.proofs.Math.Seq.{length-take-le}
use Rattle.recording.specs.declared.Seat.{Seat}
use Rattle.order.specs.Order.{no_seats, seats_of}
use Rattle.order.specs.OrderLaws.{filling_goes_on, filling_whole, seats_next, seats_none}
use Rattle.order.proofs.seats.Goals as goal

pub loop-i-preserved : goal.loop-i-preserved
loop-i-preserved c =
    let a = c.args in
    let l = c.loop-i in
    let p = a.at + 8 * l.i in
    let next : a.at + 8 * (l.i + 1) ≡ p + 8 = omega arith in
    let room : length (take a.count no_seats) ≡ a.count = length-take-le a.count no_seats c.requires.0 in
    rw (c.word_at.ensures.0, c.word_at-in-loop-i.ensures.0, next)
    (filling_goes_on _ _ _ _ _ _ _ (omega arith) (seats_next a.file.now a.count l.i p (omega arith)) l.invariant)

pub returns : goal.returns
unfolding seats_of
returns c =
    let a = c.args in
    let l = c.loop-i in
    let room : length (take a.count no_seats) ≡ a.count = length-take-le a.count no_seats c.requires.0 in
    let all = filling_whole _ _ _ _ _ (omega arith) (seats_none a.file.now a.count l.i (a.at + 8 * l.i) (omega arith)) l.invariant in
    ap (λ (xs : List Seat). xs ++ drop a.count no_seats) all
