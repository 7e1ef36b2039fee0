-- One step of one loom, by the table of document 01, "One loom's steps".
-- Assumes nothing.
use Rattle.std.specs.Prelude.{ℕ, zero, suc, Bool, true, false, cond, ◌&&◌, eqb}
use Rattle.sides.specs.declared.Side.{Side}
use Rattle.loom.specs.declared.Place.{Place}
use Rattle.loom.specs.declared.Place.TheVariants.{Begin, Posted, Looking, Ready, Applied, Bound, Answered}
use Rattle.loom.specs.declared.Shared.{Shared}
use Rattle.loom.specs.declared.Said.{Said}
use Rattle.loom.specs.declared.Said.TheVariants.{Nothing, Application, Answer}
use Rattle.sides.specs.Sides.{other, same_side}
use Rattle.loom.specs.Sides.{register, with_register, with_cell}

-- What every loom of a group goes by: the start, the leading side, whether a state is in the leading side's set, and whether the
-- yielding side has one loom.
pub record Rules : Type 0 where
  pub start : ℕ
  pub leading : Side
  pub in_leading : ℕ → Bool
  pub yields_alone : Bool

-- "Decide by the cell" means: the leading side if the cell's state is in its set, else the yielding side.
abbrev pub decided : Rules → ℕ → Side
decided R q = cond (R.in_leading q) R.leading (other R.leading)

-- Whether a loom of side s looks before it applies: it is of the yielding side, and that side has one loom.
abbrev pub looks : Rules → Side → Bool
looks R s = R.yields_alone && same_side s (other R.leading)

-- posted: "bound to the side decided by the cell, if not the start; else looking, for a yielding side of one loom; else ready".
unfoldable pub after_posted : Rules → Side → ℕ → Place
after_posted R s q = cond (eqb q R.start) (cond (looks R s) Looking Ready) (Bound (decided R q))

-- looking: "bound to the other side if not 0, else ready". v is what the other side's register holds.
unfoldable pub after_looking : Side → ℕ → Place
after_looking s zero = Ready
after_looking s (suc v) = Bound (other s)

-- What a step leaves: the loom's place, the shared memory, and what the step says.
pub record Turn : Type 0 where
  pub place : Place
  pub shared : Shared
  pub said : Said

-- The table of places. s is the loom's side, v the number that it posts, op q the state after its operation in state q.
--   begin      writes the side's number in the side's register       posted
--   posted     reads the cell                                        bound, looking or ready
--   looking    reads the other side's register                       bound to the other side, or ready
--   ready      applies its operation to the cell                     applied
--   applied    reads the cell                                        bound to the side decided by the cell
--   bound to x reads the register of x and answers                   answered x
-- A loom that has answered doesn't step: that is refused before.
unfoldable pub turn_of : Rules → Side → ℕ → (ℕ → ℕ) → Shared → Place → Turn
turn_of R s v op m Begin = record { place = Posted; shared = with_register m s v; said = Nothing }
turn_of R s v op m Posted = record { place = after_posted R s m.cell; shared = m; said = Nothing }
turn_of R s v op m Looking = record { place = after_looking s (register m (other s)); shared = m; said = Nothing }
turn_of R s v op m Ready = record { place = Applied; shared = with_cell m (op m.cell); said = Application }
turn_of R s v op m Applied = record { place = Bound (decided R m.cell); shared = m; said = Nothing }
turn_of R s v op m (Bound x) = record { place = Answered x; shared = m; said = Answer x (register m x) }
turn_of R s v op m (Answered x) = record { place = Answered x; shared = m; said = Nothing }

-- "31: that loom has answered."
abbrev pub has_answered : Place → Bool
has_answered Begin = false
has_answered Posted = false
has_answered Looking = false
has_answered Ready = false
has_answered Applied = false
has_answered (Bound s) = false
has_answered (Answered s) = true
