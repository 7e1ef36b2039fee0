-- `group::fitted` meets its contract: past its own tests, what is left is the lookup's test of the entry.
use Rattle.std.proofs.Common.{◌∙◌}
use Rattle.group.specs.StepLaws.{unfit_by_entry}
use Rattle.group.proofs.fitted.Goals as goal

pub returns : goal.returns
returns c =
    let t = c.args.table in
    c.next.ensures
    ∙ unfit_by_entry t.entries.now t.states t.operations c.args.operation c.args.state c.if-table-lt1.false c.if-table-gt-STATES.false
    c.if-table-lt1-2.false c.if-table-gt-OPERATIONS.false c.if-table.false c.if-table-state.false c.if-table-operation.false
