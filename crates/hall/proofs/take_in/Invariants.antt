-- `hall::take_in` meets its contract: what has been read lies within the room.
use Rattle.std.specs.Prelude.{◌-◌, ◌≤◌, length}
use Rattle.hall.proofs.take_in.Given as goal

abbrev pub invariant-loop-n : goal.invariant-loop-n
invariant-loop-n g l = l.n ≤ length l.room

abbrev pub decreases-loop-n : goal.decreases-loop-n
decreases-loop-n g l = length l.room - l.n
