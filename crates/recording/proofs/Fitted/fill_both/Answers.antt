-- `recording::Fitted::fill_both` meets its contract: the union of a side's words is its set.
use Rattle.std.specs.Prelude.{ℕ}
use Rattle.std.proofs.Common.{ap, ap₂, ◌∙◌}
use Rattle.sides.specs.declared.Pair.{Pair}
use Rattle.recording.specs.Fitting.{words_to}
use Rattle.recording.specs.Words.{union_of, set_of}
use Rattle.recording.proofs.Fitted.fill_both.Goals as goal

pub returns-clause-sets : goal.returns-clause-sets
unfolding set_of
returns-clause-sets c =
    let self = c.args.self in
    let whole = λ (X : ℕ).
    ap (λ (n : ℕ). union_of 0 (words_to self.table.entries.now self.table.states self.looms.now self.start X n)) c.power-size.ensures in
    ap₂ {C = Pair ℕ} (λ (a b : ℕ). record { a = a; b = b }) (c.fill-a.ensures.set ∙ whole 0) (c.fill-b.ensures.set ∙ whole 1)
