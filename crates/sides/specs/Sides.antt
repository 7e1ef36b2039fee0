-- Sides, and what there is one of a side: document 01, "Cell and certificate" and "One loom's steps".
-- Assumes nothing.
use Rattle.std.specs.Prelude.{ℕ, zero, suc, Bool, true, false}
use Rattle.sides.specs.declared.Side.{Side}
use Rattle.sides.specs.declared.Side.TheVariants.{A, B}
use Rattle.sides.specs.declared.Pair.{Pair}

-- "A side (0 for A, 1 for B)."
abbrev pub side_number : Side → ℕ
side_number A = 0
side_number B = 1

-- The side of a certificate's side number: A for 0, else B. (Code 8 has refused any number above 1.)
abbrev pub side_from : ℕ → Side
side_from zero = A
side_from (suc n) = B

-- The side across the aisle.
abbrev pub other : Side → Side
other A = B
other B = A

-- Whether two sides are the same.
abbrev pub same_side : Side → Side → Bool
same_side A A = true
same_side A B = false
same_side B A = false
same_side B B = true

-- The one of a side.
abbrev pub of_side : {T : Type 0} → Pair T → Side → T
of_side pair A = pair.a
of_side pair B = pair.b

-- The pair with another one of a side.
abbrev pub with_side : {T : Type 0} → Pair T → Side → T → Pair T
with_side pair A one = record { a = one; b = pair.b }
with_side pair B one = record { a = pair.a; b = one }
