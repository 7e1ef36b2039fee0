-- None of the looms that were passed is of the side.
use Rattle.std.specs.Prelude.{◌≡◌, ◌+◌, ◌-◌, ◌*◌}
use Rattle.sides.specs.Sides.{side_number}
use Rattle.recording.specs.Recording.{side_count}
use Rattle.format.specs.Format.{seats_at}
use Rattle.format.proofs.has_side.Given as goal

abbrev pub invariant-loop-loom : goal.invariant-loop-loom
invariant-loop-loom l =
    side_count (side_number l.fn.side) (seats_at l.file (l.count - l.loom) (l.at + 8 * l.loom)) ≡ side_count (side_number l.fn.side) (seats_at l.file l.count l.at)
