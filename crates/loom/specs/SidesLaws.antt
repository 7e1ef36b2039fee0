-- Laws of places, registers and what a step says, and of their numbers. The laws of sides are in the crate `sides`.
-- Assumes nothing.
use Rattle.std.specs.Prelude.{ℕ, ◌<◌, ◌≡◌, refl}
use Rattle.std.proofs.Common.{arith, ne_eqb}
use Rattle.sides.specs.declared.Side.{Side}
use Rattle.sides.specs.declared.Side.TheVariants.{A, B}
use Rattle.loom.specs.declared.Place.{Place}
use Rattle.loom.specs.declared.Place.TheVariants.{Begin, Posted, Looking, Ready, Applied, Bound, Answered}
use Rattle.loom.specs.declared.Shared.{Shared}
use Rattle.sides.specs.Sides.{other}
use Rattle.loom.specs.Sides.{register, with_register, with_cell}
use Rattle.loom.specs.declared.Said.{Said}
use Rattle.loom.specs.declared.Said.TheVariants.{Nothing, Application, Answer}
use Rattle.recording.specs.Recording.{one}
use Rattle.loom.specs.Numbers.{place_number, place_from, is_application, said_applied}

-- Above 7 there is one place left.
pub place_of_last : (n : ℕ) → 7 < n → Answered B ≡ place_from n
unfolding place_from
place_of_last n h =
    simp (
      ne_eqb n 0 (λ e. omega arith),
      ne_eqb n 1 (λ e. omega arith),
      ne_eqb n 2 (λ e. omega arith),
      ne_eqb n 3 (λ e. omega arith),
      ne_eqb n 4 (λ e. omega arith),
      ne_eqb n 5 (λ e. omega arith),
      ne_eqb n 6 (λ e. omega arith),
      ne_eqb n 7 (λ e. omega arith),
    )

-- The place of a place's number is that place.
pub place_of_number : (p : Place) → place_from (place_number p) ≡ p
unfolding place_from
place_of_number Begin = refl
place_of_number Posted = refl
place_of_number Looking = refl
place_of_number Ready = refl
place_of_number Applied = refl
place_of_number (Bound A) = refl
place_of_number (Bound B) = refl
place_of_number (Answered A) = refl
place_of_number (Answered B) = refl

-- A post writes one register, and not the cell.
pub cell_kept : (m : Shared) (s : Side) (v : ℕ) → (with_register m s v).cell ≡ m.cell
cell_kept m A v = refl
cell_kept m B v = refl

-- The register of the side holds the number.
pub register_written : (m : Shared) (s : Side) (v : ℕ) → register (with_register m s v) s ≡ v
register_written m A v = refl
register_written m B v = refl

-- The other register holds what it held.
pub register_kept : (m : Shared) (s : Side) (v : ℕ) → register (with_register m s v) (other s) ≡ register m (other s)
register_kept m A v = refl
register_kept m B v = refl

-- An application writes the cell, and no register.
pub register_untouched : (m : Shared) (q : ℕ) (x : Side) → register (with_cell m q) x ≡ register m x
register_untouched m q A = refl
register_untouched m q B = refl

-- A step applies one operation, or none.
pub applied_number : (d : Said) → one (is_application d) ≡ said_applied d
applied_number Nothing = refl
applied_number Application = refl
applied_number (Answer s v) = refl
