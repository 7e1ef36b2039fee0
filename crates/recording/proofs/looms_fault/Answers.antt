-- `recording::looms_fault` meets its contract: each way out is one of the laws of 7 to 9 and 40.
use Rattle.std.specs.Prelude.{ℕ, ◌≤◌, ◌<◌, ◌≡◌, Option, Some, None, Err, length}
use Rattle.std.proofs.Common.{arith, sym, ap, ◌∙◌}
use Rattle.codes.specs.declared.Code.TheVariants as codes
use Rattle.codes.specs.Codes.{refused_at}
use Rattle.cell.specs.Limits.{edition}
use Rattle.recording.specs.declared.Certificate.{Certificate}
use Rattle.recording.specs.Check.{looms_of, lowest_misfit, first_misfit}
use Rattle.recording.specs.CheckLaws.{as_many, misfit_found, no_misfit, fault_few, fault_many, fault_misfit, fault_no_A, fault_no_B, fault_room, fault_none}
use Rattle.recording.proofs.looms_fault.Goals.{then-count-lt2-via-then-count-lt2, then-count-lt2-via-else-count-lt2+then-count-gt-LOOMS, then-side_count-eq0-via-then-side_count-eq0, then-side_count-eq0-via-else-side_count-eq0+then-side_count-eq0-2}
use Rattle.recording.proofs.looms_fault.Goals as goal

-- the seats are eight, so that the looms are as many as the count says
module _ (operations : ℕ) (c : Certificate) (few : c.count ≤ edition.looms) (eight : length c.seats ≡ edition.looms) where
  counted : length (looms_of c) ≡ c.count
  counted = as_many c.seats c.count (omega arith)

  misfit : {k : ℕ} → Some k ≡ lowest_misfit operations (looms_of c)
      → (k ≡ first_misfit operations (looms_of c)) × (first_misfit operations (looms_of c) < c.count)
  misfit found = let there = misfit_found operations (looms_of c) _ found in (there.0, omega (arith, there.0, there.1, counted))

  fitted : ◌≡◌ {A = Option ℕ} None (lowest_misfit operations (looms_of c)) → c.count ≤ first_misfit operations (looms_of c)
  fitted none = omega (arith, no_misfit operations (looms_of c) none, counted)

pub returns-then-count-lt2 : goal.returns-then-count-lt2
returns-then-count-lt2 c =
    ap Err c.at.ensures
    ∙ elim c.then-count-lt2.branch [
      | then-count-lt2-via-then-count-lt2 w ↦ sym (fault_few _ _ _ w.if-count-lt2.true)
      | then-count-lt2-via-else-count-lt2+then-count-gt-LOOMS w ↦ sym (fault_many _ _ _ w.if-count-lt2.false w.if-count-gt-LOOMS.true)
    ]

pub returns-in-Some : goal.returns-in-Some
returns-in-Some c =
    let there = misfit c.args.operations c.args.certificate.now c.if-count-gt-LOOMS.false (omega arith) c.in-Some.ensures in
    ap Err (c.at-in-Some.ensures ∙ ap (refused_at codes.Seat) there.0)
    ∙ sym (fault_misfit _ _ _ c.if-count-lt2.false c.if-count-gt-LOOMS.false there.1)

pub returns-then-side_count-eq0 : goal.returns-then-side_count-eq0
returns-then-side_count-eq0 c =
    let fit = fitted c.args.operations c.args.certificate.now c.if-count-gt-LOOMS.false (omega arith) c.in_default.ensures in
    ap Err c.at-then-side_count-eq0.ensures
    ∙ elim c.then-side_count-eq0.branch [
      | then-side_count-eq0-via-then-side_count-eq0 w ↦ sym (fault_no_A _ _ _ c.if-count-lt2.false c.if-count-gt-LOOMS.false fit (omega arith))
      | then-side_count-eq0-via-else-side_count-eq0+then-side_count-eq0-2 w ↦
          sym (fault_no_B _ _ _ c.if-count-lt2.false c.if-count-gt-LOOMS.false fit (λ none. omega arith) (omega arith))
    ]

pub returns-then-room-power : goal.returns-then-room-power
returns-then-room-power c =
    let fit = fitted c.args.operations c.args.certificate.now c.if-count-gt-LOOMS.false (omega arith) c.in_default.ensures in
    ap Err c.at-then-room-power.ensures
    ∙ sym (fault_room _ _ _ c.if-count-lt2.false c.if-count-gt-LOOMS.false fit (λ none. omega arith) (λ none. omega arith) (omega arith))

pub returns : goal.returns
returns c =
    let fit = fitted c.args.operations c.args.certificate.now c.if-count-gt-LOOMS.false (omega arith) c.in_default.ensures in
    sym (fault_none _ _ _ c.if-count-lt2.false c.if-count-gt-LOOMS.false fit (λ none. omega arith) (λ none. omega arith) (omega arith))
