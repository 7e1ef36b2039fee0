-- `group::Group::restart_all` meets its contract: too many looms, or every loom restarted.
use Rattle.std.proofs.Common.{arith, min, ◌≡◌, ap, ◌∙◌, Ok}
use Rattle.cell.specs.Limits.{edition}
use Rattle.group.specs.Group.{with_looms, looms_restarted}
use Rattle.group.specs.Step.{restarted}
use Rattle.group.specs.GroupLaws.{restarted_looms}
use Rattle.group.specs.StepLaws.{restart_all_of_lem}
use Rattle.group.proofs.Group.restart_all.Goals as goal

pub returns : goal.returns
returns c =
    let g = c.args.self in
    let all : min g.count edition.looms ≡ g.count = omega arith in
    ap (λ ls. restarted (Ok tt) (with_looms g ls)) (c.restarted_below-looms.ensures ∙ ap (looms_restarted g.looms) all)
    ∙ (ap (restarted (Ok tt)) (restarted_looms g g.count) ∙ restart_all_of_lem g c.if-self-gt-LOOMS.false)
