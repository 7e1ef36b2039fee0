-- The document's numbers for what is an enum here: places, and what a step says. A side's number is in the crate `sides`.
-- Assumes nothing.
use Rattle.std.specs.Prelude.{ℕ, Bool, true, false, cond, eqb}
use Rattle.sides.specs.declared.Side.TheVariants.{A, B}
use Rattle.loom.specs.declared.Place.{Place}
use Rattle.loom.specs.declared.Place.TheVariants.{Begin, Posted, Looking, Ready, Applied, Bound, Answered}
use Rattle.loom.specs.declared.Said.{Said}
use Rattle.loom.specs.declared.Said.TheVariants.{Nothing, Application, Answer}

-- The number of a place, in the order of the table; a side that it carries counts A before B (document 02, No. 12).
abbrev pub place_number : Place → ℕ
place_number Begin = 0
place_number Posted = 1
place_number Looking = 2
place_number Ready = 3
place_number Applied = 4
place_number (Bound A) = 5
place_number (Bound B) = 6
place_number (Answered A) = 7
place_number (Answered B) = 8

-- The place of a number: "begin, posted, looking, ready, applied, bound to A, bound to B, answered A, answered B" (document 02,
-- No. 12). No place has a number above 8: there it is the last.
unfoldable pub place_from : ℕ → Place
place_from n =
    cond (eqb n 0) Begin
    (cond (eqb n 1) Posted
    (cond (eqb n 2) Looking
    (cond (eqb n 3) Ready
    (cond (eqb n 4) Applied
    (cond (eqb n 5) (Bound A)
    (cond (eqb n 6) (Bound B)
    (cond (eqb n 7) (Answered A)
    (Answered B))))))))

-- The mark of what a step says: "1 for an answer with side A, 2 with side B, [...] else 0."
abbrev pub said_number : Said → ℕ
said_number Nothing = 0
said_number Application = 0
said_number (Answer A v) = 1
said_number (Answer B v) = 2

-- Whether the step applied the loom's operation.
abbrev pub is_application : Said → Bool
is_application Nothing = false
is_application Application = true
is_application (Answer s v) = false

-- How many operations the step applied.
abbrev pub said_applied : Said → ℕ
said_applied Nothing = 0
said_applied Application = 1
said_applied (Answer s v) = 0

-- The piece number that the step answers with, 0 where it doesn't answer.
abbrev pub said_piece : Said → ℕ
said_piece Nothing = 0
said_piece Application = 0
said_piece (Answer s v) = v
