-- `recording::judge` meets its contract: a refusal leaves the area, and past the refusals both sides are filled and the verdict stands.
use Rattle.std.specs.Prelude.{ℕ, List, ◌++◌, ◌*◌, ◌^◌, ◌≤◌, length, drop}
use Rattle.std.proofs.Common.{sym, ap, subst, ◌∙◌}
use Rattle.sides.specs.declared.Pair.{Pair}
use Rattle.recording.specs.AdmittedLaws.{admitted, counted, fitting}
use Rattle.recording.specs.Check.{looms_of, judgement, verdict_of, verdict_on}
use Rattle.recording.specs.CheckLaws.{judged_refused, judged_past, area_refused, area_past}
use Rattle.recording.specs.Fitting.{words_to}
use Rattle.recording.proofs.judge.Goals as goal

pub returns-in-Err : goal.returns-in-Err
returns-in-Err c =
    record {
      answer_is = sym (judged_refused _ _ _ _ _ _ (sym c.in-Err.ensures));
      area_is = sym (area_refused _ _ _ _ _ _ (sym c.in-Err.ensures));
    }

pub shared_ref_as_front-looms : goal.shared_ref_as_front-looms
shared_ref_as_front-looms c = (admitted _ _ _ _ _ (sym c.in_default.ensures)).few

pub invariant_of-fitted : goal.invariant_of-fitted
invariant_of-fitted c = record { fits = fitting _ _ _ _ _ (admitted _ _ _ _ _ (sym c.in_default.ensures)) }

pub fill_both-sets-requires : goal.fill_both-sets-requires
fill_both-sets-requires c =
    let ok = admitted _ _ _ _ _ (sym c.in_default.ensures) in
    subst (λ (n : ℕ). 2 * 2 ^ n ≤ length c.args.area.now) (sym (counted _ _ _ _ _ ok)) ok.enough

pub returns : goal.returns
unfolding verdict_of
returns c =
    let args = c.args in
    let table : List ℕ = args.table.entries.now in
    let states = args.table.states in
    let looms = looms_of args.certificate in
    let start = args.certificate.start in
    let past = sym c.in_default.ensures in
    record {
      answer_is =
          ap (λ o. judgement o c.fill_both-sets.result.a c.fill_both-sets.result.b) c.outcome.ensures
          ∙ ap (λ (sets : Pair ℕ). verdict_on args.certificate sets.a sets.b) c.fill_both-sets.ensures.sets
          ∙ sym (judged_past _ _ _ _ _ past);
      area_is =
          c.fill_both-sets.ensures.words
          ∙ ap (λ (n : ℕ). words_to table states looms start 0 (2 ^ n) ++ words_to table states looms start 1 (2 ^ n) ++ drop (2 * 2 ^ n) args.area.now)
          (counted _ _ _ _ _ (admitted _ _ _ _ _ past))
          ∙ sym (area_past _ _ _ _ _ past);
    }
