-- Nothing else meets the contracts of `src/lib.rt`: what each says of a result determines the result.
-- Assumes nothing.
use Rattle.std.specs.Prelude.{ℕ, min, ◌≡◌, List, Result}
use Rattle.std.proofs.Common.{sym, ◌∙◌}
use Rattle.cell.specs.Limits.{edition}
use Rattle.recording.specs.declared.Certificate.{Certificate}
use Rattle.codes.specs.declared.Code.{Code}
use Rattle.sides.specs.declared.Pair.{Pair}
use Rattle.loom.specs.declared.Loom.{Loom}
use Rattle.loom.specs.declared.Lead.{Lead}
use Rattle.loom.specs.declared.Shared.{Shared}
use Rattle.loom.specs.Looms.{rules_of}
use Rattle.group.specs.declared.Group.{Group}
use Rattle.group.specs.declared.Outcome.{Outcome}
use Rattle.group.specs.declared.Stepped.{Stepped}
use Rattle.group.specs.declared.Restarted.{Restarted}
use Rattle.group.specs.Group.{lead_of, looms_restarted}
use Rattle.group.specs.Open.{no_group, OpensTo}
use Rattle.group.specs.Step.{step_on_of, step_of, restart_of, restart_all_of}

pub group-only-lead : (self : Group) (r s : Lead) → r ≡ lead_of self → s ≡ lead_of self → r ≡ s
group-only-lead self r s p q = p ∙ sym q

pub only-no_group : (r s : Group) → r ≡ no_group → s ≡ no_group → r ≡ s
only-no_group r s p q = p ∙ sym q

pub only-open : (table : List ℕ) (states operations : ℕ) (certificate : Certificate) (numbers : Pair ℕ) (area : List ℕ) (r s : Result Group Code) (x y : List ℕ) →
    OpensTo table states operations certificate numbers area r x → OpensTo table states operations certificate numbers area s y → (r ≡ s) × (x ≡ y)
only-open table states operations certificate numbers area r s x y p q = (p.answer_is ∙ sym q.answer_is, p.area_is ∙ sym q.area_is)

pub only-step_on : (lead : Lead) (number : ℕ) (table : List ℕ) (states operations : ℕ) (shared : Shared) (loom : Loom) (r s : Outcome) →
    r ≡ step_on_of (rules_of lead) number table states operations shared loom →
    s ≡ step_on_of (rules_of lead) number table states operations shared loom →
    r ≡ s
only-step_on lead number table states operations shared loom r s p q = p ∙ sym q

pub only-step : (group : Group) (table : List ℕ) (states operations loom : ℕ) (r s : Stepped) →
    r ≡ step_of table states operations group loom → s ≡ step_of table states operations group loom → r ≡ s
only-step group table states operations loom r s p q = p ∙ sym q

pub only-restart : (group : Group) (loom : ℕ) (r s : Restarted) → r ≡ restart_of group loom → s ≡ restart_of group loom → r ≡ s
only-restart group loom r s p q = p ∙ sym q

pub only-restart_all : (group : Group) (r s : Restarted) → r ≡ restart_all_of group → s ≡ restart_all_of group → r ≡ s
only-restart_all group r s p q = p ∙ sym q

pub only-restarted_below : (looms : List Loom) (count : ℕ) (r s : List Loom) →
    r ≡ looms_restarted looms (min count edition.looms) → s ≡ looms_restarted looms (min count edition.looms) → r ≡ s
only-restarted_below looms count r s p q = p ∙ sym q
