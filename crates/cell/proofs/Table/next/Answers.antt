-- `cell::Table::next` meets its contract: each way out is one of the lookup's laws.
use Rattle.std.proofs.Common.{sym, ap, ◌∙◌}
use Rattle.std.specs.Prelude.{ltb}
use Rattle.std.specs.Bool.{then_some}
use Rattle.cell.specs.TableLaws.{refused_states, refused_operation, refused_state, refused_position, moved_by_entry}
use Rattle.cell.proofs.Table.next.Goals.{then-self-gt-STATES-via-then-self-gt-STATES, then-self-gt-STATES-via-else-self-gt-STATES+then-operation-ge-OPERATIONS, then-self-gt-STATES-via-else-self-gt-STATES+else-operation-ge-OPERATIONS+then-self-state}
use Rattle.cell.proofs.Table.next.Goals as goal

pub returns-then-self-gt-STATES : goal.returns-then-self-gt-STATES
returns-then-self-gt-STATES c =
    elim c.then-self-gt-STATES.branch [
      | then-self-gt-STATES-via-then-self-gt-STATES w ↦ sym (refused_states _ _ _ _ w.if-self-gt-STATES.true)
      | then-self-gt-STATES-via-else-self-gt-STATES+then-operation-ge-OPERATIONS w ↦
          sym (refused_operation _ _ _ _ w.if-self-gt-STATES.false w.if-operation-ge-OPERATIONS.true)
      | then-self-gt-STATES-via-else-self-gt-STATES+else-operation-ge-OPERATIONS+then-self-state w ↦
          sym (refused_state _ _ _ _ w.if-self-gt-STATES.false w.if-operation-ge-OPERATIONS.false w.if-self-state.true)
    ]

pub returns-in_err-to : goal.returns-in_err-to
returns-in_err-to c =
    c.from_residual.ensures
    ∙ sym (refused_position _ _ _ _ c.if-self-gt-STATES.false c.if-operation-ge-OPERATIONS.false c.if-self-state.false
    c.in_err-to.ensures.lookup.3)

pub returns : goal.returns
returns c =
    let found = c.in_ok-to.ensures.lookup.3 in
    c.then_some.ensures
    ∙ ap (λ n. then_some (ltb n c.args.self.states) c.in_ok-to.field-0.now) c.from.ensures
    ∙ moved_by_entry _ _ _ _ c.if-self-gt-STATES.false c.if-operation-ge-OPERATIONS.false c.if-self-state.false found.0 _ (found.1 0)
