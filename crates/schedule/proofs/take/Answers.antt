-- `schedule::take` meets its contract, act by act.
use Rattle.std.proofs.Common.{ltb-true}
use Rattle.schedule.specs.InPlace.{come_to}
use Rattle.schedule.proofs.InPlaceLaws.{restart_in_place, all_in_place, fitting_few, fitting_loom, answered_in_place, taken_in_place}
use Rattle.schedule.proofs.take.Goals as goal

pub returns-in_default : goal.returns-in_default
returns-in_default c =
    let a = c.args in
    let named = rw c.in-Step.is at c.requires.named in
    rw c.in-Step.is
    (answered_in_place a.table.entries.now a.table.states a.table.operations (come_to a.opening.now a.looms.now a.memory.now) c.requires.fitting c.in-Step.k (ltb-true _ _ named) c.in_default.ensures)

pub returns-in-Some : goal.returns-in-Some
returns-in-Some c =
    let a = c.args in
    let named = rw c.in-Step.is at c.requires.named in
    rw c.in-Step.is
    (taken_in_place a.table.entries.now a.table.states a.table.operations (come_to a.opening.now a.looms.now a.memory.now) c.requires.fitting c.in-Step.k _ _ _ _
    (ltb-true _ _ named) c.in-Some.ensures c.requires.lead c.of.ensures c.turn-turned.ensures)

pub returns-in-Restart : goal.returns-in-Restart
returns-in-Restart c =
    let a = c.args in
    let g = come_to a.opening.now a.looms.now a.memory.now in
    let named = rw c.in-Restart.is at c.requires.named in
    let there = fitting_loom a.table.entries.now a.table.states a.table.operations g c.requires.fitting c.in-Restart.k (ltb-true _ _ named) in
    rw (c.in-Restart.is, c.restarted.ensures) (restart_in_place a.table.entries.now a.table.states a.table.operations g c.in-Restart.k there)

pub returns-in-RestartAll : goal.returns-in-RestartAll
returns-in-RestartAll c =
    let a = c.args in
    let g = come_to a.opening.now a.looms.now a.memory.now in
    rw (c.in-RestartAll.is, c.restarted_below.ensures)
    (all_in_place a.table.entries.now a.table.states a.table.operations g (fitting_few a.table.entries.now a.table.states a.table.operations g c.requires.fitting))
