-- `group::Group::open` meets its contract: past the check's refusals the certificate's numbers fit in a byte.
use Rattle.std.proofs.Common.{◌≡◌, arith, sym, ap, ◌∙◌, length}
use Rattle.recording.specs.declared.Judged.{Judged}
use Rattle.group.proofs.OpenLaws.{accepted_held}
use Rattle.group.proofs.Group.open.Goals as goal

pub fresh-requires : goal.fresh-requires
fresh-requires c =
    let t = c.args.table in
    let eight : length c.args.certificate.seats ≡ 8 = omega arith in
    accepted_held t.entries.now t.states t.operations c.args.certificate (length c.args.area.now) eight
    (sym (ap (λ (j : Judged). j.outcome) c.judge-judged.ensures.answer_is) ∙ c.in_default.is)
