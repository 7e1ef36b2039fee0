-- Nothing else meets the contracts of `src/lib.rt`: what each says of the answer and of the area determines both.
-- Assumes nothing.
use Rattle.std.specs.Prelude.{ℕ, ◌≡◌, List}
use Rattle.std.proofs.Common.{sym, ◌∙◌}
use Rattle.recording.specs.declared.Certificate.{Certificate}
use Rattle.recording.specs.declared.Judged.{Judged}
use Rattle.recording.specs.declared.Checked.{Checked}
use Rattle.recording.specs.Check.{Judges, Checks}

module _ (table : List ℕ) (states operations : ℕ) (c : Certificate) (area after later : List ℕ) where
  pub only-judge : (r s : Judged) → Judges table states operations c area r after → Judges table states operations c area s later
      → (r ≡ s) × (after ≡ later)
  only-judge r s p q = (p.answer_is ∙ sym q.answer_is, p.area_is ∙ sym q.area_is)

  pub only-check : (r s : Checked) → Checks table states operations c area r after → Checks table states operations c area s later
      → (r ≡ s) × (after ≡ later)
  only-check r s p q = (p.answer_is ∙ sym q.answer_is, p.area_is ∙ sym q.area_is)
