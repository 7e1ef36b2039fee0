-- `cell::catalogue_cell::Size::after_zero` meets its contract: where the state stands decides.
use mathlib.Core.Path.{◌≡◌, sym, subst}
use Prim.Native.Nat.{ℕ, ◌+◌}
use native.Mathlib.Omega.{arith}
use Rattle.cell.specs.Catalogue.{after_zero}
use Rattle.cell.specs.CatalogueLaws.{zero_from_A, zero_from_start, zero_of_number}
use Rattle.cell.proofs.catalogue_cell.Size.after_zero.Goals as goal

pub returns-then-state-self : goal.returns-then-state-self
returns-then-state-self c = sym (zero_from_A _ _ c.if-state-self.true)

pub returns-then-state-self-2 : goal.returns-then-state-self-2
returns-then-state-self-2 c =
    let args = c.args in
    let start : args.self.n + 0 ≡ args.state = omega arith in
    sym (subst (λ (q : ℕ). after_zero args.self.n q ≡ 0) start (zero_from_start args.self.n 0))

pub returns-else-state-self-2 : goal.returns-else-state-self-2
returns-else-state-self-2 c = sym (zero_of_number _ _ (omega arith))
