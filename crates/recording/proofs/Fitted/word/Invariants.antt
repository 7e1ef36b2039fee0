-- `recording::Fitted::word` meets its contract. The invariant: for some k the looms of m below k have added what they add, and those from k on are left.
use Rattle.std.specs.Prelude.{ℕ, ◌≤◌, ◌≡◌, length}
use Rattle.sides.specs.Sides.{side_number}
use Rattle.recording.specs.Fitting.{word_by}
use Rattle.recording.proofs.WalkLaws.{LeftFrom}
use Rattle.recording.proofs.Fitted.word.Given as goal

abbrev pub invariant-loop-left : goal.invariant-loop-left
invariant-loop-left l =
    (k : ℕ) × (k ≤ length l.self.looms.now) × LeftFrom l.m k l.left
    × (l.set ≡ word_by l.self.table.entries.now l.self.table.states l.self.looms.now l.self.start (side_number l.side) l.earlier l.m k)

abbrev pub decreases-loop-left : goal.decreases-loop-left
decreases-loop-left l = l.left
