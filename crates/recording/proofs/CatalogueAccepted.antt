-- Document 01, "The catalogue cell": "It is accepted for every n, with n states in the set of A and n − 1 in that of B."
-- Assumes nothing.
use Rattle.std.specs.Prelude.{ℕ, ◌-◌, ◌*◌, ◌≤◌, ◌≡◌, Ok}
use Rattle.std.proofs.Common.{ap, ap₂, ◌∙◌}
use Rattle.cell.specs.Catalogue.{table_of}
use Rattle.cell.specs.Limits.{edition}
use Rattle.recording.specs.declared.Certificate.{Certificate}
use Rattle.recording.specs.CatalogueCertificate.{CatalogueCertificate}
use Rattle.recording.proofs.CatalogueSetsLaws.{recorded, size_of_A, size_of_B}
use Rattle.recording.specs.Check.{room_for, sizes_of, check_of, checked}

pub catalogue_accepted : (n : ℕ) → 2 ≤ n → n ≤ edition.looms → (c : Certificate) → CatalogueCertificate n c → (room : ℕ) → room_for n ≤ room →
    check_of (table_of n) (2 * n) 2 c room ≡ checked (Ok tt) n (n - 1)
unfolding check_of
catalogue_accepted n several few c is room enough =
    ap sizes_of (recorded n several few c is room enough)
    ∙ ap₂ (λ (a b : ℕ). checked (Ok tt) a b) (size_of_A n several few c is room enough) (size_of_B n several few c is room enough)
