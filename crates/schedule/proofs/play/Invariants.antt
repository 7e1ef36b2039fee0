-- `schedule::play` meets its contract. The invariant speaks of the rest: what is left to do from this run on is what there was to do, the
-- marks written and those to come are all marks, and no later byte has changed; what the looms go by is as it was at first, and the group
-- fits its table. The group of the run is the one that opened, with the looms and the memory that the run has come to.
use Rattle.schedule.proofs.GoingLaws.{Going}
use Rattle.schedule.specs.InPlace.{come_to}
use Rattle.schedule.proofs.play.Given as goal

abbrev pub invariant-loop-i : goal.invariant-loop-i
invariant-loop-i l =
    Going l.table.entries.now l.table.states l.table.operations l.opening l.lead l.schedule l.initial.marks l.i (come_to l.opening l.looms l.memory) l.tally l.marks
