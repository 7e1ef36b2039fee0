-- `recording::Operation::advance` meets its contract. The invariant: the states below q have moved.
use Rattle.std.specs.Prelude.{◌≡◌}
use Rattle.cell.specs.Table.{entry_of}
use Rattle.recording.specs.Words.{advanced}
use Rattle.recording.proofs.Operation.advance.Given as goal

abbrev pub invariant-loop-q : goal.invariant-loop-q
invariant-loop-q l = l.out ≡ advanced (entry_of l.self.table.entries.now l.self.table.states l.self.number) l.set l.q
