-- `sets::has` meets its contract: within the word it reads the digit, and beyond it the digit is 0.
use mathlib.Core.Path.{refl}
use borrow.Author.Tests.{le-ltb, ne_eqb}
use native.Mathlib.Omega.{arith}
use Rattle.sets.specs.Sets.{bit, word_bits}
use Rattle.sets.specs.SetsLaws.{bit_beyond}
use Rattle.sets.proofs.has.Goals as goal

pub returns-then-state-lt64 : goal.returns-then-state-lt64
unfolding bit
returns-then-state-lt64 c = refl

-- by simplification: of the source's `&&`, or of a branch that says false
pub returns-else-state-lt64 : goal.returns-else-state-lt64
returns-else-state-lt64 c =
    let args = c.args in
    simp (
      le-ltb _ _ c.if-state-lt64.false,
      ne_eqb (bit args.set args.state) 1
          (λ is_one. omega (arith, bit_beyond word_bits args.set args.state c.ranges.set.fits c.if-state-lt64.false)),
    )
