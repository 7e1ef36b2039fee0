-- Nothing else meets the contracts of `src/lib.rt`: what each says of a result determines the result.
-- Assumes nothing.
use Rattle.std.specs.Prelude.{ℕ, ◌≡◌, Bool}
use Rattle.std.proofs.Common.{sym, ◌∙◌}
use Rattle.sides.specs.declared.Side.{Side}
use Rattle.loom.specs.declared.Place.{Place}
use Rattle.loom.specs.declared.Place.TheVariants.{Posted, Applied, Bound, Answered}
use Rattle.loom.specs.declared.Loom.{Loom}
use Rattle.loom.specs.declared.Lead.{Lead}
use Rattle.loom.specs.declared.Shared.{Shared}
use Rattle.loom.specs.declared.Said.{Said}
use Rattle.loom.specs.declared.Turned.{Turned}
use Rattle.sides.specs.Sides.{other}
use Rattle.loom.specs.Sides.{register, with_register, with_cell}
use Rattle.loom.specs.Turn.{decided, looks, after_posted, after_looking, has_answered}
use Rattle.loom.specs.Looms.{moved_to, restarted_of, rules_of, turned_of}
use Rattle.loom.specs.Numbers.{place_number, place_from, said_number, is_application, said_piece}

pub shared-only-register : (self : Shared) (side : Side) (r s : ℕ) → r ≡ register self side → s ≡ register self side → r ≡ s
shared-only-register self side r s p q = p ∙ sym q

pub shared-only-across : (self : Shared) (side : Side) (r s : ℕ) → r ≡ register self (other side) → s ≡ register self (other side) → r ≡ s
shared-only-across self side r s p q = p ∙ sym q

pub shared-only-with_register : (self : Shared) (side : Side) (number : ℕ) (r s : Shared) →
    r ≡ with_register self side number → s ≡ with_register self side number → r ≡ s
shared-only-with_register self side number r s p q = p ∙ sym q

pub shared-only-with_cell : (self : Shared) (state : ℕ) (r s : Shared) → r ≡ with_cell self state → s ≡ with_cell self state → r ≡ s
shared-only-with_cell self state r s p q = p ∙ sym q

pub lead-only-decided : (self : Lead) (cell : ℕ) (r s : Side) → r ≡ decided (rules_of self) cell → s ≡ decided (rules_of self) cell → r ≡ s
lead-only-decided self cell r s p q = p ∙ sym q

pub lead-only-looks : (self : Lead) (side : Side) (r s : Bool) → r ≡ looks (rules_of self) side → s ≡ looks (rules_of self) side → r ≡ s
lead-only-looks self side r s p q = p ∙ sym q

pub lead-only-after_posted : (self : Lead) (side : Side) (cell : ℕ) (r s : Place) →
    r ≡ after_posted (rules_of self) side cell → s ≡ after_posted (rules_of self) side cell → r ≡ s
lead-only-after_posted self side cell r s p q = p ∙ sym q

pub only-after_looking : (side : Side) (number : ℕ) (r s : Place) → r ≡ after_looking side number → s ≡ after_looking side number → r ≡ s
only-after_looking side number r s p q = p ∙ sym q

pub loom-only-posted : (self r s : Loom) → r ≡ moved_to self Posted → s ≡ moved_to self Posted → r ≡ s
loom-only-posted self r s p q = p ∙ sym q

pub loom-only-after_cell : (self : Loom) (lead : Lead) (cell : ℕ) (r s : Loom) →
    r ≡ moved_to self (after_posted (rules_of lead) self.side cell) →
    s ≡ moved_to self (after_posted (rules_of lead) self.side cell) →
    r ≡ s
loom-only-after_cell self lead cell r s p q = p ∙ sym q

pub loom-only-after_register : (self : Loom) (number : ℕ) (r s : Loom) →
    r ≡ moved_to self (after_looking self.side number) → s ≡ moved_to self (after_looking self.side number) → r ≡ s
loom-only-after_register self number r s p q = p ∙ sym q

pub loom-only-applied : (self r s : Loom) → r ≡ moved_to self Applied → s ≡ moved_to self Applied → r ≡ s
loom-only-applied self r s p q = p ∙ sym q

pub loom-only-bound : (self : Loom) (lead : Lead) (cell : ℕ) (r s : Loom) →
    r ≡ moved_to self (Bound (decided (rules_of lead) cell)) → s ≡ moved_to self (Bound (decided (rules_of lead) cell)) → r ≡ s
loom-only-bound self lead cell r s p q = p ∙ sym q

pub loom-only-answered : (self : Loom) (side : Side) (r s : Loom) →
    r ≡ moved_to self (Answered side) → s ≡ moved_to self (Answered side) → r ≡ s
loom-only-answered self side r s p q = p ∙ sym q

pub loom-only-restarted : (self r s : Loom) → r ≡ restarted_of self → s ≡ restarted_of self → r ≡ s
loom-only-restarted self r s p q = p ∙ sym q

pub only-turn : (lead : Lead) (number next : ℕ) (shared : Shared) (loom : Loom) (r s : Turned) →
    r ≡ turned_of (rules_of lead) number (λ _. next) shared loom → s ≡ turned_of (rules_of lead) number (λ _. next) shared loom → r ≡ s
only-turn lead number next shared loom r s p q = p ∙ sym q

pub only-place_number : (place : Place) (r s : ℕ) → r ≡ place_number place → s ≡ place_number place → r ≡ s
only-place_number place r s p q = p ∙ sym q

pub only-place_from : (number : ℕ) (r s : Place) → r ≡ place_from number → s ≡ place_from number → r ≡ s
only-place_from number r s p q = p ∙ sym q

pub place-only-has_answered : (self : Place) (r s : Bool) → r ≡ has_answered self → s ≡ has_answered self → r ≡ s
place-only-has_answered self r s p q = p ∙ sym q

pub said-only-mark : (self : Said) (r s : ℕ) → r ≡ said_number self → s ≡ said_number self → r ≡ s
said-only-mark self r s p q = p ∙ sym q

pub said-only-applied : (self : Said) (r s : Bool) → r ≡ is_application self → s ≡ is_application self → r ≡ s
said-only-applied self r s p q = p ∙ sym q

pub said-only-piece : (self : Said) (r s : ℕ) → r ≡ said_piece self → s ≡ said_piece self → r ≡ s
said-only-piece self r s p q = p ∙ sym q
