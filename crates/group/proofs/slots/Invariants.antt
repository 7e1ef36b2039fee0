-- `group::slots` meets its contract. The invariant: the slots below `i` are filled, and the others are empty.
use Rattle.std.proofs.Common.{◌≡◌}
use Rattle.group.specs.Open.{slots_of}
use Rattle.group.proofs.slots.Given as goal

abbrev pub invariant-loop-i : goal.invariant-loop-i
invariant-loop-i l = l.looms ≡ slots_of l.i l.seats
