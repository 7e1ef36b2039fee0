-- `recording::Fitted::fill` meets its contract. The invariant: the words below m stand in the area and are united in the set, and what lies behind them is as it was.
use Rattle.std.specs.Prelude.{◌<◌, refl, length}
use Rattle.std.proofs.Common.{arith, ◌∙◌}
use Rattle.sets.specs.SetsLaws.{union_is}
use Rattle.recording.proofs.FillLaws.{fill_more, union_more}
use Rattle.recording.specs.Words.{union_of, filled}
use Rattle.recording.proofs.Fitted.fill.Goals as goal

pub loop-m-init : goal.loop-m-init
unfolding filled union_of
loop-m-init c = (refl, refl)

pub loop-m-preserved : goal.loop-m-preserved
loop-m-preserved c =
    let loop = c.loop-m in
    let within : loop.m < length c.args.area.now = omega (arith, c.requires.1, c.loop-m-test.true) in (
      fill_more _ _ _ _ _ loop.m _ within loop.area loop.invariant.0 c.word-w.result c.word-w.ensures,
      union_is _ _ _ c.union-set.ensures
          ∙ union_more _ _ _ _ _ loop.m _ within loop.area loop.invariant.0 c.word-w.result c.word-w.ensures loop.set loop.invariant.1,
    )
