-- Nothing but the answer meets a contract of this crate.
-- Assumes nothing.
use Rattle.std.specs.Prelude.{ℕ, ◌≡◌, List, Result}
use Rattle.std.proofs.Common.{sym, ◌∙◌}
use Rattle.std.specs.Borrow.{Bor}
use Rattle.cell.specs.Limits.{edition}
use Rattle.codes.specs.Codes.{Refusal}
use Rattle.order.specs.declared.Order.{Order}
use Rattle.recording.specs.declared.Certificate.{Certificate}
use Rattle.order.specs.Order.{certificate_in, ReadsTo}
use Rattle.order.specs.Label.{LabelOf}

-- What is returned, and both rooms.
pub only-read : (s table schedule table₁ table₂ schedule₁ schedule₂ : List ℕ) (r r' : Result Order Refusal)
    → ReadsTo edition s table schedule table₁ schedule₁ r
    → ReadsTo edition s table schedule table₂ schedule₂ r'
    → (r ≡ r') × ((table₁ ≡ table₂) × (schedule₁ ≡ schedule₂))
only-read s table schedule table₁ table₂ schedule₁ schedule₂ r r' h k =
    (h.order_is ∙ sym k.order_is, (h.table_is ∙ sym k.table_is, h.schedule_is ∙ sym k.schedule_is))

-- The part's bytes, and where they lie.
pub only-label : (a b : Bor (List ℕ)) (side : ℕ) (r r' : Bor (List ℕ)) → LabelOf a b side r → LabelOf a b side r'
    → (r.now ≡ r'.now) × (r.ref_ptr ≡ r'.ref_ptr)
only-label a b side r r' h k = (h.bytes ∙ sym k.bytes, h.place ∙ sym k.place)

pub only-certificate : (order : Order) (r r' : Certificate) → r ≡ certificate_in order → r' ≡ certificate_in order → r ≡ r'
only-certificate order r r' h k = h ∙ sym k
