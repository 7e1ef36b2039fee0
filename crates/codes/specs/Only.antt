-- Nothing but the answer meets a contract of this crate.
-- Assumes nothing.
use Rattle.std.specs.Prelude.{ℕ, ◌≡◌}
use Rattle.std.proofs.Common.{sym, ◌∙◌}
use Rattle.codes.specs.declared.Code.{Code}
use Rattle.codes.specs.Codes.{Refusal, number_of, refused_at}

pub only-at : (code : Code) (place : ℕ) (r r' : Refusal) → r ≡ refused_at code place → r' ≡ refused_at code place → r ≡ r'
only-at code place r r' h k = h ∙ sym k

pub only-number : (code : Code) (n n' : ℕ) → n ≡ number_of code → n' ≡ number_of code → n ≡ n'
only-number code n n' h k = h ∙ sym k
