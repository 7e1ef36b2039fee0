-- `recording::check` meets its contract: the sizes are those of the sets that `judge` answers.
use Rattle.std.specs.Prelude.{ℕ}
use Rattle.std.proofs.Common.{ap, ap₂, ◌∙◌}
use Rattle.recording.specs.Check.{checked, sizes_of, check_of}
use Rattle.recording.proofs.check.Goals as goal

pub returns : goal.returns
unfolding check_of
returns c =
    let judged = c.judge-judged in
    record {
      answer_is =
          ap₂ (λ (a b : ℕ). checked judged.result.outcome a b) c.size.ensures c.size-2.ensures
          ∙ ap sizes_of judged.ensures.answer_is;
      area_is = judged.ensures.area_is;
    }
