-- The catalogue certificate: document 01, "The catalogue cell".
-- Assumes nothing.
use Rattle.std.specs.Prelude.{ℕ, ◌-◌, ◌≡◌, List, ◌∷◌, replicate}
use Rattle.recording.specs.declared.Certificate.{Certificate}
use Rattle.recording.specs.declared.Seat.{Seat}
use Rattle.recording.specs.Check.{looms_of}

-- "Loom 0 on side A with operation 0, all others on side B with operation 1."
abbrev pub leader : Seat
leader = record { side = 0; operation = 0 }

abbrev pub follower : Seat
follower = record { side = 1; operation = 1 }

abbrev pub catalogue_looms : ℕ → List Seat
catalogue_looms n = leader ∷ replicate (n - 1) follower

-- "Its certificate for n looms: start n, loom 0 on side A with operation 0, all others on side B with operation 1." Seats beyond the count
-- say nothing.
pub record CatalogueCertificate (n : ℕ) (c : Certificate) : Type 0 where
  pub start_is : c.start ≡ n
  pub count_is : c.count ≡ n
  pub looms_are : looms_of c ≡ catalogue_looms n
