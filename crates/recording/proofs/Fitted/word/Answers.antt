-- `recording::Fitted::word` meets its contract. The invariant: for some k the looms of m below k have added what they add, and those from k on are left.
use Rattle.std.specs.Prelude.{ℕ, ◌+◌, ◌-◌, ◌^◌, ◌<◌, ◌≤◌, ◌≡◌, refl, get_or, length}
use Rattle.std.proofs.Common.{arith, sym, ap, subst, ◌∙◌, pow_pos}
use Rattle.cell.specs.Limits.{edition}
use Rattle.sets.specs.Sets.{word_bits, lowest_of}
use Rattle.sets.specs.SetsLaws.{union_is}
use Rattle.sides.specs.Sides.{side_number}
use Rattle.recording.specs.Recording.{empty_seat}
use Rattle.recording.specs.Fitting.{word_by, added_by}
use Rattle.recording.specs.FittingLaws.{word_more, word_skips}
use Rattle.recording.specs.OrdersLaws.{single_within}
use Rattle.recording.proofs.WalkLaws.{LeftFrom, all_left, NextLoom, lowest_has, next_loom, left_behind, none_left}
use Rattle.recording.specs.Words.{word_from}
use Rattle.recording.proofs.Fitted.word.Goals as goal

-- What is known at the loom that a turn takes: it is the next, and it is left.
record AtLoom (n m k left j : ℕ) : Type 0 where
  next : NextLoom m n k j
  alone : 2 ^ j ≤ left

at_loom : {n m k left j : ℕ} → n ≤ edition.looms → m < 2 ^ n → LeftFrom m k left → (left ≡ 0 → ⊥) → j ≡ lowest_of word_bits left → AtLoom n m k left j
at_loom {n = n} {m = m} {k = k} {left = left} {j = j} few small so some is =
    let few_bits : n ≤ word_bits = omega arith in
    record {
      next = next_loom m n k left small few_bits so some j is;
      alone = single_within left j (lowest_has m n k left small few_bits so some j is);
    }

pub loop-left-init : goal.loop-left-init
unfolding word_from
loop-left-init c = (0, omega arith, all_left _, refl)

pub power-lone-requires : goal.power-lone-requires
power-lone-requires c =
    let here = at_loom c.args.self.fits.few_looms c.requires.0 c.loop-left.invariant.2 c.loop-left-test.true c.lowest-j.ensures in
    omega (arith, here.next.within, c.args.self.fits.few_looms)

pub last_by-requires : goal.last_by-requires
last_by-requires c =
    let here = at_loom c.args.self.fits.few_looms c.requires.0 c.loop-left.invariant.2 c.loop-left-test.true c.lowest-j.ensures in
    let power = c.power-lone.ensures in
    (here.next.within, omega (arith, power, pow_pos c.lowest-j.result), omega (arith, power, single_within _ _ here.next.has), c.requires.1)

pub overflow_sub-left : goal.overflow_sub-left
overflow_sub-left c =
    let here = at_loom c.args.self.fits.few_looms c.requires.0 c.loop-left.invariant.2 c.loop-left-test.true c.lowest-j.ensures in
    omega (arith, c.power-lone.ensures, here.alone)

pub loop-left-preserved : goal.loop-left-preserved
loop-left-preserved c =
    let here = at_loom c.args.self.fits.few_looms c.requires.0 c.loop-left.invariant.2 c.loop-left-test.true c.lowest-j.ensures in
    let args = c.args in
    let looms = args.self.looms.now in
    let loop = c.loop-left in
    let loom = here.next in (
      c.lowest-j.result + 1,
      omega (arith, loom.within),
      subst (λ (x : ℕ). LeftFrom args.m (c.lowest-j.result + 1) (loop.left - x)) (sym c.power-lone.ensures)
          (left_behind args.m (length looms) loop.invariant.0 loop.left c.requires.0 (omega (arith, args.self.fits.few_looms)) loop.invariant.2
          c.loop-left-test.true c.lowest-j.result c.lowest-j.ensures),
      union_is loop.set c.last_by.result c.union-set.result c.union-set.ensures
          ∙ word_more args.self.table.entries.now args.self.table.states looms args.self.start (side_number args.side)
          args.earlier.now args.m loop.invariant.0 _ loop.set c.last_by.result loom.past loom.has loom.none_between
          loop.invariant.3
          (c.last_by.ensures
          ∙ ap (added_by args.self.table.entries.now args.self.table.states (get_or looms c.lowest-j.result empty_seat) args.self.start (side_number args.side)
          args.earlier.now args.m) c.power-lone.ensures),
    )

pub returns : goal.returns
returns c =
    let args = c.args in
    let looms = args.self.looms.now in
    let loop = c.loop-left in
    let k = loop.invariant.0 in
    let rest : k + (length looms - k) ≡ length looms = omega (arith, loop.invariant.1) in
    loop.invariant.3
    ∙ sym (word_skips args.self.table.entries.now args.self.table.states looms args.self.start (side_number args.side)
    args.earlier.now args.m k (length looms - k)
    (λ i past below. none_left args.m k loop.left loop.invariant.2 c.loop-left-test.false i past))
    ∙ ap (word_by args.self.table.entries.now args.self.table.states looms args.self.start (side_number args.side) args.earlier.now args.m) rest
