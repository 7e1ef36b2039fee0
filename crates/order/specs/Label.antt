-- The label of a side: document 01, "The order file". "The answer to a label query, for side 0 or 1, is the part of that side's lent label
-- without its trailing spaces; the caller's own bytes and no copy. Any other side number gives the empty part at the beginning of label A."
-- Assumes nothing.
use Rattle.std.specs.Prelude.{ℕ, zero, suc, ◌≡◌, cond, List, [], eqb, length, get_or, take}
use Rattle.std.specs.Borrow.{Bor}

-- The byte of a space.
abbrev pub space : ℕ
space = 32

-- How many of the first n bytes are left without the spaces at their end.
unfoldable pub trimmed_of : List ℕ → ℕ → ℕ
trimmed_of s zero = 0
trimmed_of s (suc n) = cond (eqb (get_or s n 0) space) (trimmed_of s n) (suc n)

-- A label without its trailing spaces.
unfoldable pub trim_of : List ℕ → List ℕ
trim_of s = take (trimmed_of s (length s)) s

-- What side 0 gives, side 1, and any other number.
abbrev pub by_side : {A : Type 0} → ℕ → A → A → A → A
by_side zero a b other = a
by_side (suc zero) a b other = b
by_side (suc (suc n)) a b other = other

-- The part r of the labels a and b for a side: its bytes, and that they lie where that label's bytes begin.
pub record LabelOf (a b : Bor (List ℕ)) (side : ℕ) (r : Bor (List ℕ)) : Type 0 where
  pub bytes : r.now ≡ by_side side (trim_of a.now) (trim_of b.now) []
  pub place : r.ref_ptr ≡ by_side side a.ref_ptr b.ref_ptr a.ref_ptr
