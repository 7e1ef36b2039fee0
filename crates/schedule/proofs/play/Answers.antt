-- `schedule::play` meets its contract: each entry's act is that of `take`.
use Rattle.std.proofs.Common.{◌<◌, ap, sym, arith, ◌∙◌, length}
use Rattle.schedule.specs.Played.{acted_of}
use Rattle.schedule.specs.InPlace.{come_to}
use Rattle.schedule.proofs.GoingLaws.{going_next, going_last}
use Rattle.schedule.proofs.play.Goals as goal

pub loop-i-preserved : goal.loop-i-preserved
loop-i-preserved c =
    let a = c.args in
    let l = c.loop-i in
    let room : l.i < length l.marks = omega (arith, c.requires.playable.room_enough) in
    rw (c.count.ensures, c.mark_of.ensures)
    (going_next a.table.entries.now a.table.states a.table.operations a.opening c.lead-lead.result a.schedule.now a.marks.now l.i
    (come_to a.opening l.looms l.memory) (come_to a.opening c.take-told.new.looms c.take-told.new.memory) l.tally c.take-told.result l.marks l.invariant c.loop-i-test.true room
    (c.take-told.ensures ∙ ap (acted_of a.table.entries.now a.table.states a.table.operations (come_to a.opening l.looms l.memory)) (sym c.unwrap-act.ensures ∙ c.act_of.ensures)))

pub returns : goal.returns
returns c =
    let a = c.args in
    let l = c.loop-i in
    let done = going_last a.table.entries.now a.table.states a.table.operations a.opening c.lead-lead.result a.schedule.now a.marks.now l.i (come_to a.opening l.looms l.memory) l.tally l.marks l.invariant (omega arith) in
    record { ran = done.0; marked = done.1 }
