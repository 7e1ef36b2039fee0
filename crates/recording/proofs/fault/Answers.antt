-- `recording::fault` meets its contract: each way out is one of the refusals' laws.
use Rattle.std.specs.Prelude.{Err}
use Rattle.std.proofs.Common.{sym, ap, ◌∙◌}
use Rattle.std.proofs.lemmas.Result.{err_from_is_err_and}
use Rattle.recording.specs.CheckLaws.{fault_form, fault_start, fault_looms}
use Rattle.recording.proofs.fault.Goals as goal

pub returns-in_err-form : goal.returns-in_err-form
returns-in_err-form c =
    let p = err_from_is_err_and c.from_residual.result c.from_residual.ensures.1 in
    p.1 ∙ ap Err p.2 ∙ sym (fault_form _ _ _ _ _ _ (sym c.in_err-form.ensures))

pub returns-then-table-certificate : goal.returns-then-table-certificate
returns-then-table-certificate c = ap Err c.at.ensures ∙ sym (fault_start _ _ _ _ _ (sym c.in_ok-form.ensures) c.if-table-certificate.true)

pub returns : goal.returns
returns c = c.looms_fault.ensures ∙ sym (fault_looms _ _ _ _ _ (sym c.in_ok-form.ensures) c.if-table-certificate.false)
