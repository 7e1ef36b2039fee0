-- Laws of sides and of their numbers.
-- Assumes nothing.
use Rattle.std.specs.Prelude.{ℕ, zero, suc, ◌≤◌, ◌≡◌, refl, true, ◌⊎◌}
use Rattle.std.proofs.Common.{le_of_suc-le-suc, not-suc-le-zero, inl, inr}
use Rattle.sides.specs.declared.Side.{Side}
use Rattle.sides.specs.declared.Side.TheVariants.{A, B}
use Rattle.sides.specs.Sides.{side_number, side_from, other, same_side}

-- Any side number but 0 is B's.
pub side_of_positive : (n : ℕ) → (n ≡ 0 → ⊥) → side_from n ≡ B
side_of_positive zero h = absurd (h refl)
side_of_positive (suc n) h = refl

-- The side of a side's number is that side.
pub side_of_number : (s : Side) → side_from (side_number s) ≡ s
side_of_number A = refl
side_of_number B = refl

-- There are two sides.
pub same_or_other : (s t : Side) → (s ≡ t) ⊎ (s ≡ other t)
same_or_other A A = inl refl
same_or_other A B = inr refl
same_or_other B A = inr refl
same_or_other B B = inl refl

-- The other side of the other side is the side.
pub other_other : (s : Side) → other (other s) ≡ s
other_other A = refl
other_other B = refl

-- The test for one side.
pub same_side_lem : (s t : Side) → same_side s t ≡ true → s ≡ t
same_side_lem A A e = refl
same_side_lem A B e = cc
same_side_lem B A e = cc
same_side_lem B B e = refl

pub same_as_itself : (s : Side) → same_side s s ≡ true
same_as_itself A = refl
same_as_itself B = refl

-- A certificate's side number is its side's.
pub number_of_side : (n : ℕ) → n ≤ 1 → n ≡ side_number (side_from n)
number_of_side zero h = refl
number_of_side (suc zero) h = refl
number_of_side (suc (suc n)) h = absurd (not-suc-le-zero (le_of_suc-le-suc h))
