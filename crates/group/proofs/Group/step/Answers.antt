-- `group::Group::step` meets its contract: no such loom, or the step of that loom by the group's rules, put in its place in the group.
use Rattle.std.proofs.Common.{sym, ap, ◌∙◌}
use Rattle.loom.specs.Looms.{rules_of}
use Rattle.group.specs.declared.Stepped.{Stepped}
use Rattle.group.specs.Group.{with_loom, with_shared}
use Rattle.group.specs.Step.{in_place, step_of}
use Rattle.group.specs.StepLaws.{settled_in_place}
use Rattle.group.proofs.Group.step.Goals as goal

pub returns : goal.returns
unfolding step_of
returns c =
    let a = c.args in
    let out = c.step_on-outcome in
    let r = out.result in
    let g = a.self in
    let k = a.loom in
    ap {B = Stepped} (λ t. record { group = with_loom (with_shared g r.shared) k r.loom; told = t }) c.told.ensures
    ∙ (ap (in_place g k) out.ensures
    ∙ (settled_in_place g k a.table.entries.now a.table.states a.table.operations (rules_of c.lead.result) c.of.result
    ∙ simp (c.lead.ensures, c.of.ensures, sym c.no_loom.ensures ∙ c.if-no_loom.false)))
