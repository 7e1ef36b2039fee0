-- None of the looms that were passed is of the side; the first that is ends the search.
use Rattle.std.specs.Prelude.{ℕ, ◌≡◌, ◌+◌, ◌-◌, ◌*◌, ◌<◌, List}
use Rattle.std.proofs.Common.{sym, ◌∙◌, arith, eq-eqb, ne_eqb, lt-ltb, le-ltb}
use Rattle.sides.specs.Sides.{side_number}
use Rattle.recording.specs.Recording.{side_count}
use Rattle.xdr.specs.Field.{word_at}
use Rattle.format.specs.Format.{seats_at}
use Rattle.format.specs.FormatLaws.{side_none, side_more}
use Rattle.format.proofs.has_side.Goals as goal

first_is : (s : List ℕ) (X n p : ℕ) → 0 < n → word_at s p ≡ X → 0 < side_count X (seats_at s n p)
first_is s X n p some h = rw (side_more s X n p some, eq-eqb (word_at s p) X h) (omega arith)

first_is_other : (s : List ℕ) (X n p : ℕ) → 0 < n → (word_at s p ≡ X → ⊥) → side_count X (seats_at s n p) ≡ side_count X (seats_at s (n - 1) (p + 8))
first_is_other s X n p some h = rw (side_more s X n p some, ne_eqb (word_at s p) X h) (omega arith)

pub returns-then-word_at-number : goal.returns-then-word_at-number
returns-then-word_at-number c =
    let a = c.args in
    let i = c.loop-loom.loom in
    let found = first_is a.file.now (side_number a.side) (a.count - i) (a.at + 8 * i) (omega arith) (sym c.word_at.ensures.0 ∙ c.if-word_at-number.true ∙ c.from-number.ensures ∙ c.from.ensures) in
    sym (lt-ltb 0 _ (rw c.loop-loom.invariant at found))

pub loop-loom-preserved : goal.loop-loom-preserved
loop-loom-preserved c =
    let a = c.args in
    let i = c.loop-loom.loom in
    let e : a.count - (i + 1) ≡ a.count - i - 1 = omega arith in
    let f : a.at + 8 * (i + 1) ≡ a.at + 8 * i + 8 = omega arith in
    let other = first_is_other a.file.now (side_number a.side) (a.count - i) (a.at + 8 * i) (omega arith) (rw (c.word_at.ensures.0, c.from-number.ensures, c.from.ensures) at c.if-word_at-number.false) in
    rw (e, f) (sym other ∙ c.loop-loom.invariant)

pub returns : goal.returns
returns c =
    let a = c.args in
    let i = c.loop-loom.loom in
    let none = side_none a.file.now (side_number a.side) (a.count - i) (a.at + 8 * i) (omega arith) in
    sym (le-ltb 0 _ (omega (arith, c.loop-loom.invariant, none)))
