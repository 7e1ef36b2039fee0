-- `cell::Table::form` meets its contract: each way out is one of the form's laws.
use Rattle.std.specs.Prelude.{Err}
use Rattle.std.proofs.Common.{sym, ap, ◌∙◌}
use Rattle.cell.specs.TableLaws.{form_states, form_operations, form_length, form_entry, form_good}
use Rattle.cell.proofs.Table.form.Goals as goal

pub returns-then-outside : goal.returns-then-outside
returns-then-outside c = ap Err c.at.ensures ∙ sym (form_states _ _ _ (sym c.outside.ensures ∙ c.if-outside.true))

pub returns-then-outside-2 : goal.returns-then-outside-2
returns-then-outside-2 c =
    ap Err c.at-then-outside-2.ensures ∙ sym (form_operations _ _ _ (sym c.outside.ensures ∙ c.if-outside.false) (sym c.outside-2.ensures ∙ c.if-outside-2.true))

pub returns-then-self : goal.returns-then-self
returns-then-self c =
    ap Err c.at-then-self.ensures ∙ sym (form_length _ _ _ (sym c.outside.ensures ∙ c.if-outside.false) (sym c.outside-2.ensures ∙ c.if-outside-2.false) c.if-self.true)

pub returns-in-Some : goal.returns-in-Some
returns-in-Some c =
    ap Err c.at-in-Some.ensures ∙ sym (form_entry _ _ _ (sym c.outside.ensures ∙ c.if-outside.false) (sym c.outside-2.ensures ∙ c.if-outside-2.false) c.if-self.false _
    (sym c.in-Some.ensures))

pub returns-in-None : goal.returns-in-None
returns-in-None c =
    sym (form_good _ _ _ (sym c.outside.ensures ∙ c.if-outside.false) (sym c.outside-2.ensures ∙ c.if-outside-2.false) c.if-self.false
    (sym c.in-None.ensures))
