-- What is left of the array gives what the whole of it gives.
use Rattle.std.specs.Prelude.{◌≡◌, ◌-◌}
use Rattle.format.specs.Format.{run_of}
use Rattle.format.proofs.items_at.Given as goal

abbrev pub invariant-loop : goal.invariant-loop
invariant-loop l = run_of l.items l.file (l.count - l.counter) l.next ≡ run_of l.items l.file l.count l.at
