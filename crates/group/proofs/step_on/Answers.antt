-- `group::step_on` meets its contract: what denies the step leaves all as it was, and what grants it goes by the table of places.
use Rattle.std.proofs.Common.{sym, ap, ◌∙◌}
use Rattle.loom.specs.Looms.{rules_of}
use Rattle.group.specs.Step.{taken}
use Rattle.group.specs.StepLaws.{stepped_by, step_by_permit}
use Rattle.group.proofs.step_on.Goals as goal

pub returns-in-Err : goal.returns-in-Err
returns-in-Err c =
    let a = c.args in
    let t = a.table in
    ap (stepped_by (rules_of a.lead) a.number a.shared a.loom) (sym c.in-Err.is ∙ c.may_step.ensures)
    ∙ step_by_permit (rules_of a.lead) a.number t.entries.now t.states t.operations a.shared a.loom

pub returns-in-Ok : goal.returns-in-Ok
returns-in-Ok c =
    let a = c.args in
    let t = a.table in
    ap taken c.turn-turned.ensures
    ∙ (ap (stepped_by (rules_of a.lead) a.number a.shared a.loom) (sym c.in-Ok.is ∙ c.may_step.ensures)
    ∙ step_by_permit (rules_of a.lead) a.number t.entries.now t.states t.operations a.shared a.loom)
