-- The seats in, and those to come, are all.
use Rattle.std.specs.Prelude.{◌+◌, ◌-◌, ◌*◌, take}
use Rattle.format.specs.Format.{seats_at}
use Rattle.order.specs.Order.{no_seats}
use Rattle.order.specs.OrderLaws.{Filling}
use Rattle.order.proofs.seats.Given as goal

abbrev pub invariant-loop-i : goal.invariant-loop-i
invariant-loop-i l = Filling (take l.count no_seats) (seats_at l.file l.count l.at) l.i (seats_at l.file (l.count - l.i) (l.at + 8 * l.i)) l.seat-items
