-- The words in, and those to come, are all.
use Rattle.std.specs.Prelude.{◌+◌, ◌-◌, ◌*◌, length}
use Rattle.order.specs.OrderLaws.{lows_at, Filling}
use Rattle.order.proofs.fill.Given as goal

abbrev pub invariant-loop-i : goal.invariant-loop-i
invariant-loop-i l =
    let n = length l.initial.room in
    Filling l.initial.room (lows_at l.file n l.at) l.i (lows_at l.file (n - l.i) (l.at + 4 * l.i)) l.room
