-- What the items and the parts of an order file are known to be where they are taken.
-- Assumes nothing.
use Rattle.std.specs.Prelude.{ℕ, zero, suc, ◌+◌, ◌-◌, ◌≤◌, ◌<◌, ◌≡◌, refl, List, eqb, length, Ok, Err}
use Rattle.std.proofs.Common.{sub-one, arith}
use borrow.Author.Tests.{lt-ltb}
use Rattle.recording.specs.Recording.{one, side_count}
use Rattle.recording.specs.declared.Seat.{Seat}
use Rattle.codes.specs.declared.Code.TheVariants as Code
use Rattle.codes.specs.Codes.{refused_at}
use Rattle.xdr.specs.Field.{word_at, within, field_at}
use Rattle.xdr.specs.FieldLaws.{field_inside, then_taken}
use Rattle.format.specs.declared.Items.{Items}
use Rattle.format.specs.declared.Items.TheVariants.{Entries, Looms, Acts}
use Rattle.format.specs.Format.{names_act, item_at, width_of, seats_at, sides_at}

-- An item that is taken lies in the file.
pub item_inside : (k : Items) (s : List ℕ) (p u : ℕ) → item_at k s p ≡ Ok u → p + width_of k ≤ length s
unfolding item_at
item_inside (Entries states) s p u h = field_inside _ (within 0 states) Code.Entry s p u h
item_inside (Looms operations) s p u h =
    let both = then_taken (field_at (within 0 2) Code.Seat s p) (field_at (within 0 operations) Code.Seat s (p + 4)) u h in
    let end : p + 4 + 4 ≤ length s = field_inside _ (within 0 operations) Code.Seat s (p + 4) u both.1 in
    omega arith
item_inside (Acts looms) s p u h = field_inside _ (names_act looms) Code.Act s p u h

-- The looms of a side among some: the first, if it is of that side, and those among the rest.
pub side_none : (s : List ℕ) (X n p : ℕ) → n ≤ 0 → side_count X (seats_at s n p) ≡ 0
unfolding seats_at
side_none s X zero p h = refl
side_none s X (suc k) p h = absurd (omega arith)

pub side_more : (s : List ℕ) (X n p : ℕ) → 0 < n → side_count X (seats_at s n p) ≡ one (eqb (word_at s p) X) + side_count X (seats_at s (n - 1) (p + 8))
unfolding seats_at
side_more s X zero p h = absurd (omega arith)
side_more s X (suc k) p h = rw sub-one

-- 9 is given exactly where a side has no loom.
module _ (seats : List Seat) (p : ℕ) where
  pub sides_refuse_A : side_count 0 seats ≡ 0 → Err (refused_at Code.LacksSide p) ≡ sides_at seats p
  unfolding sides_at
  sides_refuse_A h = rw h

  pub sides_refuse_B : 0 < side_count 0 seats → side_count 1 seats ≡ 0 → Err (refused_at Code.LacksSide p) ≡ sides_at seats p
  unfolding sides_at
  sides_refuse_B l h = simp (lt-ltb 0 (side_count 0 seats) l, h)

  pub sides_take : 0 < side_count 0 seats → 0 < side_count 1 seats → Ok p ≡ sides_at seats p
  unfolding sides_at
  sides_take l h = simp (lt-ltb 0 (side_count 0 seats) l, lt-ltb 0 (side_count 1 seats) h)
