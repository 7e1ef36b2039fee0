-- Each word stands where the words before it put it.
use Rattle.std.proofs.Common.{arith}
use Rattle.format.specs.LayoutLaws.{plan_is}
use Rattle.format.proofs.planned.Goals as goal

pub returns : goal.returns
returns c = (
  plan_is _ _ _ _ _ _ _ _ _ _ c.word_at-entries.ensures.0 c.word_at-looms.ensures.0 c.word_at-first.ensures.0 c.pad.ensures.0
      c.word_at-second.ensures.0 c.pad-2.ensures.0 c.word_at.ensures.0 c.word_at-2.ensures.0 c.word_at-3.ensures.0,
  record { start = omega arith; looms = omega arith; numbers = omega arith; rest = omega arith; schedule = omega arith; acts = omega arith },
)
