-- `group::restarted_below` meets its contract. The invariant: the looms below `i` are restarted, and nothing else has changed.
use Rattle.std.proofs.Common.{◌≡◌}
use Rattle.group.specs.Group.{looms_restarted}
use Rattle.group.proofs.restarted_below.Given as goal

abbrev pub invariant-loop-i : goal.invariant-loop-i
invariant-loop-i l = l.out ≡ looms_restarted l.initial.out l.i
