-- `sets::insert` meets its contract: within the word it adds the digit, and beyond it nothing.
use mathlib.Core.Path.{◌≡◌, sym, ap, subst, ◌∙◌}
use Prim.Native.Nat.{ℕ, ◌*◌, ◌%◌, ◌^◌}
use native.Mathlib.Nat.{one-mul, mod-eq_of_lt}
use lib.Bits.{bit_or}
use lib.Pow.{pow-lt}
use Rattle.sets.specs.Sets.{Inserted, word_bits}
use Rattle.sets.specs.SetsLaws.{or_single_inserts, beyond_inserts_nothing}
use Rattle.sets.proofs.insert.Goals as goal

pub returns-then-state-lt64 : goal.returns-then-state-lt64
returns-then-state-lt64 c =
    let args = c.args in
    let shifted : 1 * 2 ^ args.state % 2 ^ word_bits ≡ 2 ^ args.state =
    ap (λ (x : ℕ). x % 2 ^ word_bits) (one-mul (2 ^ args.state)) ∙ mod-eq_of_lt (pow-lt c.if-state-lt64.true) in
    subst
    (λ (x : ℕ). Inserted word_bits args.set args.state (bit_or args.set x))
    (sym shifted)
    (or_single_inserts word_bits args.set args.state c.if-state-lt64.true)

pub returns-else-state-lt64 : goal.returns-else-state-lt64
returns-else-state-lt64 c = beyond_inserts_nothing word_bits c.args.set c.args.state c.if-state-lt64.false
