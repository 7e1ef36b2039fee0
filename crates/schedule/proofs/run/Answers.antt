-- `schedule::run` meets its contract: a group that has opened fits its table.
use Rattle.std.proofs.Common.{sym, length, ◌∙◌}
use Rattle.schedule.specs.RunLaws.{playable}
use Rattle.schedule.proofs.InPlaceLaws.{opened_fitting}
use Rattle.schedule.proofs.run.Goals as goal

pub play-requires : goal.play-requires
play-requires c =
    let a = c.args in
    record {
      playable = playable _ _ _ (sym c.refusal.ensures ∙ c.in_ok-refusal.was);
      fitting =
          opened_fitting a.table.entries.now a.table.states a.table.operations a.certificate a.numbers (length a.area.now) _
          (sym c.open.ensures.answer_is ∙ c.in_ok-group.was);
    }
