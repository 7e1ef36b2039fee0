-- `recording::Fitted::fill` meets its contract. The invariant: the words below m stand in the area and are united in the set, and what lies behind them is as it was.
use Rattle.std.specs.Prelude.{◌≡◌, ◌++◌, drop}
use Rattle.sides.specs.Sides.{side_number}
use Rattle.recording.specs.Fitting.{words_to}
use Rattle.recording.specs.Words.{union_of}
use Rattle.recording.proofs.Fitted.fill.Given as goal

abbrev pub invariant-loop-m : goal.invariant-loop-m
invariant-loop-m l =
    (l.area ≡ words_to l.self.table.entries.now l.self.table.states l.self.looms.now l.self.start (side_number l.side) l.m ++ drop l.m l.initial.area)
    × (l.set ≡ union_of 0 (words_to l.self.table.entries.now l.self.table.states l.self.looms.now l.self.start (side_number l.side) l.m))
