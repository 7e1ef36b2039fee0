-- Demand 3, proved of the machine of looms, for any looms, any operations and any acts.
-- Assumes nothing.
use Rattle.std.specs.Prelude.{ℕ, ◌≡◌, List}
use Rattle.std.proofs.Common.{ap, sym, ◌∙◌}
use Rattle.recording.specs.declared.Seat.{Seat}
use Rattle.sides.specs.declared.Side.{Side}
use Rattle.loom.specs.Turn.{Rules}
use Rattle.agreement.specs.Machine.{NotZero, posted, answered, Act, EachStep, side_of, after, opening}
use Rattle.agreement.specs.Agreed.{Had, Settled, Agreed}
use Rattle.agreement.proofs.MachineLaws.{each_step_weaker}
use Rattle.agreement.specs.Fitted.{Fitted}
use Rattle.agreement.specs.Phases.{Phase, fresh, even, first, Phased, Holds}
use Rattle.agreement.proofs.PhasesLaws.{holds_opening, holds_after}
use Rattle.agreement.proofs.LogLaws.{had_of_came, settled_by}
use Rattle.agreement.proofs.ToldLaws.{AllTold, told_of_had, told_after}

module _ {next : ℕ → ℕ → ℕ} {looms : List Seat} {start : ℕ} {R : Rules} (given : Fitted next looms start R) where
  -- The winner. Whatever the acts and whatever numbers other than 0 the looms post, all answers name one side, with a number that a
  -- loom of that side has posted, and it is the side that applied first.
  pub settled : (acts : List Act) → EachStep (λ k v. NotZero v) acts → Settled (after next looms R acts (opening start)).log
  settled acts not_zero = by_phase known.phase known.phased
    where
      known : Holds next looms start R (after next looms R acts (opening start))
      known = holds_after given acts (opening start) not_zero (holds_opening given)

      by_phase : (phase : Phase) →
          Phased next looms start R phase (after next looms R acts (opening start)).shared (after next looms R acts (opening start)).log →
          Settled (after next looms R acts (opening start)).log
      by_phase fresh facts = settled_by R.leading _ (facts.fit R.leading)
      by_phase even facts = settled_by R.leading _ facts.fit
      by_phase (first X us) facts = settled_by X _ facts.0.fit

  -- Demand 3. Where each loom posts its side's number, and neither is 0, all answers agree.
  pub agreed : (num : Side → ℕ) → ((s : Side) → NotZero (num s)) → (acts : List Act) → EachStep (λ k v. v ≡ num (side_of looms k)) acts →
      Agreed num (after next looms R acts (opening start)).log
  agreed num not_zero acts numbered = record { settled = won; its_number = its }
    where
      won : Settled (after next looms R acts (opening start)).log
      won = settled acts (each_step_weaker _ _ (λ k v e none. not_zero (side_of looms k) (sym e ∙ none)) acts numbered)

      truth : AllTold (λ k w. w ≡ num (side_of looms k)) looms (after next looms R acts (opening start)).log
      truth = told_after next looms R (λ k w. w ≡ num (side_of looms k)) acts (opening start) numbered tt

      its : (i : ℕ) (s : Side) (v : ℕ) → Had (answered i s v) (after next looms R acts (opening start)).log → v ≡ num s
      its i s v (older, came) =
          let post = won.posted_before i s v older came in
          let had = had_of_came (posted post.0 s v) (answered i s v) older _ came post.1 in
          let told = told_of_had (λ k w. w ≡ num (side_of looms k)) looms (posted post.0 s v) _ truth had in
          told.2 ∙ ap num (sym told.1)
