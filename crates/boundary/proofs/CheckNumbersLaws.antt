-- A refusal's number says its code, and 0 that nothing is refused.
-- Assumes nothing.
use Rattle.std.specs.Prelude.{ℕ, ◌≡◌, ◌↔◌, refl, Ok, Err}
use Rattle.std.proofs.Common.{sym, ap, ◌∙◌, arith}
use Rattle.codes.specs.declared.Code.{Code}
use Rattle.codes.specs.Codes.{number_of, refused_at, Verdict}
use Rattle.codes.proofs.CodesLaws.{number_says, number_positive}
use Rattle.recording.specs.Check.{RefusedFor}
use Rattle.boundary.specs.Numbers.{refusal_number, refusal_place}

pub none_is_zero : (outcome : Verdict) → (refusal_number outcome ≡ 0) ↔ (outcome ≡ Ok tt)
none_is_zero (Ok tt) = (λ n. refl, λ is. refl)
none_is_zero (Err refusal) = (λ n. absurd (omega (arith, number_positive refusal.code, n)), λ is. ap refusal_number is)

pub number_says_code : (code : Code) (outcome : Verdict) → (refusal_number outcome ≡ number_of code) ↔ RefusedFor code outcome
number_says_code code (Ok tt) = (λ n. absurd (omega (arith, number_positive code, n)), λ for. ap refusal_number for.1)
number_says_code code (Err refusal) = (
  λ n. (refusal.place, ap (λ (c : Code). Err (refused_at c refusal.place)) (number_says refusal.code code n)),
  λ for. ap refusal_number for.1,
)

-- Its place is the refusal's.
pub placed : (code : Code) (outcome : Verdict) → RefusedFor code outcome → outcome ≡ Err (refused_at code (refusal_place outcome))
placed code outcome for = for.1 ∙ ap (λ (p : ℕ). Err (refused_at code p)) (sym (ap refusal_place for.1))
