-- Nothing else meets the contracts of `src/lib.rt`: what each says of a result, and of the lent record, determines them.
-- Assumes nothing.
use Rattle.std.specs.Prelude.{ℕ, ◌≡◌, List}
use Rattle.std.proofs.Common.{sym, ◌∙◌}
use Rattle.loom.specs.declared.Lead.{Lead}
use Rattle.loom.specs.declared.Loom.{Loom}
use Rattle.loom.specs.declared.Shared.{Shared}
use Rattle.loom.specs.Looms.{rules_of}
use Rattle.group.specs.declared.Outcome.{Outcome}
use Rattle.group.specs.Step.{step_on_of}
use Rattle.lent.specs.declared.Lent.{Lent}
use Rattle.lent.specs.Lent.{returned_of, left_of}

module _ (shared : Shared) (lead : Lead) (number : ℕ) (table : List ℕ) (states operations : ℕ) (loom : Loom) where
  -- r and s are results, m and n the record as the function returns.
  pub only-step_lent : (r s : Lent) (m n : Shared) →
      (r ≡ returned_of (rules_of lead) number table states operations shared loom) × (m ≡ left_of (rules_of lead) number table states operations shared loom) →
      (s ≡ returned_of (rules_of lead) number table states operations shared loom) × (n ≡ left_of (rules_of lead) number table states operations shared loom) →
      (r ≡ s) × (m ≡ n)
  only-step_lent r s m n p q = (p.0 ∙ sym q.0, p.1 ∙ sym q.1)

  pub only-stepped_through : (r s : Outcome) →
      r ≡ step_on_of (rules_of lead) number table states operations shared loom → s ≡ step_on_of (rules_of lead) number table states operations shared loom → r ≡ s
  only-stepped_through r s p q = p ∙ sym q
