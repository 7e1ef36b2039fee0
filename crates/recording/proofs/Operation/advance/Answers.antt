-- `recording::Operation::advance` meets its contract. The invariant: the states below q have moved.
use Rattle.std.specs.Prelude.{ℕ, ◌^◌, refl, bit_or}
use Rattle.std.proofs.Common.{arith, sym, ap, ◌∙◌}
use Rattle.cell.specs.Table.{entry_of}
use Rattle.recording.specs.Words.{advanced}
use Rattle.recording.specs.WordsLaws.{advanced_with, advanced_past}
use Rattle.recording.proofs.Operation.advance.Goals.{then-has, else-has}
use Rattle.recording.proofs.Operation.advance.Goals as goal

pub loop-q-init : goal.loop-q-init
unfolding advanced
loop-q-init c = refl

pub loop-q-preserved : goal.loop-q-preserved
loop-q-preserved c =
    let loop = c.loop-q in
    let move = entry_of c.args.self.table.entries.now c.args.self.table.states c.args.self.number in
    elim c.if-has.branch [
      | then-has w ↦
          w.out-is
          ∙ w.moved-out.ensures
          ∙ ap (λ (x : ℕ). bit_or x (2 ^ move loop.q)) loop.invariant
          ∙ sym (advanced_with move c.args.set loop.q (sym c.has.ensures ∙ w.if-has.true))
      | else-has w ↦ w.out-is ∙ loop.invariant ∙ sym (advanced_past move c.args.set loop.q (sym c.has.ensures ∙ w.if-has.false))
    ]

pub returns : goal.returns
returns c =
    c.loop-q.invariant
    ∙ ap (advanced (entry_of c.args.self.table.entries.now c.args.self.table.states c.args.self.number) c.args.set) (omega arith)
