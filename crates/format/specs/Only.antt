-- Nothing but the answer meets a contract of this crate.
-- Assumes nothing.
use Rattle.std.specs.Prelude.{ℕ, ◌≡◌, List}
use Rattle.std.proofs.Common.{sym, ◌∙◌}
use Rattle.cell.specs.Limits.{edition}
use Rattle.format.specs.declared.Judgement.{Judgement}
use Rattle.format.specs.Layout.{Small}
use Rattle.format.specs.Format.{judgement_of}

pub only-judge : (s : List ℕ) (r r' : Judgement) → (r ≡ judgement_of edition s) × Small r.plan → (r' ≡ judgement_of edition s) × Small r'.plan → r ≡ r'
only-judge s r r' h k = h.0 ∙ sym k.0
