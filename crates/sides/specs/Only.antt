-- Nothing else meets the contracts of `src/lib.rt`: what each says of a result determines the result.
-- Assumes nothing.
use Rattle.std.specs.Prelude.{ℕ, ◌≡◌, Bool}
use Rattle.std.proofs.Common.{sym, ◌∙◌}
use Rattle.sides.specs.declared.Side.{Side}
use Rattle.sides.specs.declared.Pair.{Pair}
use Rattle.sides.specs.Sides.{side_number, side_from, other, same_side, of_side, with_side}

pub side-only-other : (self r s : Side) → r ≡ other self → s ≡ other self → r ≡ s
side-only-other self r s p q = p ∙ sym q

pub only-side_number : (side : Side) (r s : ℕ) → r ≡ side_number side → s ≡ side_number side → r ≡ s
only-side_number side r s p q = p ∙ sym q

pub only-side_from : (number : ℕ) (r s : Side) → r ≡ side_from number → s ≡ side_from number → r ≡ s
only-side_from number r s p q = p ∙ sym q

pub pair-only-of : {T : Type 0} (self : Pair T) (side : Side) (r s : T) → r ≡ of_side self side → s ≡ of_side self side → r ≡ s
pair-only-of self side r s p q = p ∙ sym q

pub pair-only-with : {T : Type 0} (self : Pair T) (side : Side) (one : T) (r s : Pair T) → r ≡ with_side self side one → s ≡ with_side self side one → r ≡ s
pair-only-with self side one r s p q = p ∙ sym q

-- `==` is derived, and says when two sides are the same.
pub side-only-same : (self side : Side) (r s : Bool) → r ≡ same_side self side → s ≡ same_side self side → r ≡ s
side-only-same self side r s p q = p ∙ sym q
