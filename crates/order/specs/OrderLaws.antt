-- The copies of a reading: what the loops put into the rooms is what the words say.
-- Assumes nothing.
use Prim.Native.Nat.{ℕ, zero, suc, ◌+◌, ◌-◌, ◌*◌, ◌%◌, ◌≤◌, ◌<◌}
use Rattle.std.proofs.Common.{zero-mul, add-zero, add-one, sym, ap, ◌∙◌, append-nil, length-set, take-append-drop, take-suc-set, drop-set-lt, drop-drop}
use native.Mathlib.Omega.{arith}
use Rattle.std.specs.Prelude.{◌≡◌, refl, List, [], ◌∷◌, ◌++◌, length, take, drop, set, Ok, Err}
use Rattle.std.proofs.lemmas.List.{drop_all}
use Rattle.std.proofs.Math.Seq.{append_snoc}
use Rattle.xdr.specs.Field.{word_at}
use borrow.Author.Tests.{le-leb, lt-leb}
use Rattle.cell.specs.Limits.{Limits}
use Rattle.codes.specs.declared.Code.TheVariants.{NoRoom}
use Rattle.codes.specs.Codes.{Refusal, refused_at}
use Rattle.format.specs.Layout.{plan_of}
use Rattle.format.specs.Format.{seat_at, seats_at, verdict_of}
use Rattle.order.specs.Order.{table_room, reading_of, words_at, accepted_of, order_of, table_after, schedule_after, ReadsTo}

-- The low bytes of n words, from p on.
unfoldable pub lows_at : List ℕ → ℕ → ℕ → List ℕ
lows_at s zero p = []
lows_at s (suc n) p = word_at s p % 256 ∷ lows_at s n (p + 4)

-- A list that is filled from the front, to be `whole` at its beginning: i are in, `rest` is to come, what lies beyond is as before.
pub record Filling {A : Type 0} (before whole : List A) (i : ℕ) (rest room : List A) : Type 0 where
  pub same_length : length room ≡ length before
  pub front : take i room ++ rest ≡ whole
  pub beyond : drop i room ≡ drop i before

module _ {A : Type 0} (before whole : List A) where
  pub filling_begins : (rest : List A) → rest ≡ whole → Filling before whole 0 rest before
  filling_begins rest h = record { same_length = refl; front = h; beyond = refl }

  pub filling_goes_on : (i : ℕ) (v : A) (rest rest' room : List A) → i < length before → rest ≡ v ∷ rest' → Filling before whole i rest room
      → Filling before whole (i + 1) rest' (set room i v)
  filling_goes_on i v rest rest' room l e f =
      let l' : i < length room = omega arith in
      record {
        same_length = length-set room i v ∙ f.same_length;
        front = rw (add-one, take-suc-set room i v l') (append_snoc (take i room) v rest' ∙ ap (λ (xs : List A). take i room ++ xs) (sym e) ∙ f.front);
        beyond = drop-set-lt (i + 1) room i v (omega arith) ∙ sym (drop-drop 1 i room) ∙ ap (drop 1) f.beyond ∙ drop-drop 1 i before;
      }

  pub filling_ends : (n : ℕ) (rest room : List A) → rest ≡ [] → Filling before whole n rest room → room ≡ whole ++ drop n before
  filling_ends n rest room e f =
      let front : take n room ≡ whole = sym (append-nil (take n room)) ∙ ap (λ (l : List A). take n room ++ l) (sym e) ∙ f.front in
      sym (take-append-drop n room) ∙ ap (λ (l : List A). l ++ drop n room) front ∙ ap (λ (l : List A). whole ++ l) f.beyond

  -- filled to its end
  pub filling_whole : (n : ℕ) (rest room : List A) → length before ≤ n → rest ≡ [] → Filling before whole n rest room → room ≡ whole
  filling_whole n rest room l e f =
      filling_ends n rest room e f ∙ ap (λ (xs : List A). whole ++ xs) (drop_all n before l) ∙ append-nil whole

-- The items that are left begin with the one at hand; past the last none are left.
module _ (s : List ℕ) (count i p : ℕ) where
  pub lows_next : i < count → lows_at s (count - i) p ≡ word_at s p % 256 ∷ lows_at s (count - (i + 1)) (p + 4)
  unfolding lows_at
  lows_next l = let e : count - i ≡ suc (count - (i + 1)) = omega arith in rw e

  pub lows_none : count ≤ i → lows_at s (count - i) p ≡ []
  unfolding lows_at
  lows_none l = let e : count - i ≡ zero = omega arith in rw e

  pub seats_next : i < count → seats_at s (count - i) p ≡ seat_at s p ∷ seats_at s (count - (i + 1)) (p + 8)
  unfolding seats_at
  seats_next l = let e : count - i ≡ suc (count - (i + 1)) = omega arith in rw e

  pub seats_none : count ≤ i → seats_at s (count - i) p ≡ []
  unfolding seats_at
  seats_none l = let e : count - i ≡ zero = omega arith in rw e

-- Words below 256 are their own low bytes.
pub words_low : (s : List ℕ) (n p : ℕ) → ((j : ℕ) → j < n → word_at s (p + j * 4) < 256) → lows_at s n p ≡ words_at s n p
unfolding lows_at words_at
words_low s zero p h = refl
words_low s (suc k) p h =
    let first : word_at s p < 256 = rw (zero-mul, add-zero) at (h zero (omega arith)) in
    let here : word_at s p % 256 ≡ word_at s p = omega arith in
    let rest : (j : ℕ) → j < k → word_at s (p + 4 + j * 4) < 256 = λ j l. let e : p + 4 + j * 4 ≡ p + suc j * 4 = omega arith in rw e (h (suc j) (omega arith)) in
    rw (here, words_low s k (p + 4) rest)

-- The rooms are looked at first: a short one gives 40, else the file decides.
module _ (L : Limits) (s : List ℕ) (table schedule : ℕ) where
  pub short_table : table < table_room L → reading_of L s table schedule ≡ Err (refused_at NoRoom 0)
  unfolding reading_of
  short_table h = simp (lt-leb (table_room L) table h)

  pub short_schedule : table_room L ≤ table → schedule < L.entries → reading_of L s table schedule ≡ Err (refused_at NoRoom 0)
  unfolding reading_of
  short_schedule t h = simp (le-leb (table_room L) table t, lt-leb L.entries schedule h)

  pub rooms_suffice : table_room L ≤ table → L.entries ≤ schedule → reading_of L s table schedule ≡ verdict_of L s
  unfolding reading_of
  rooms_suffice t h = simp (le-leb (table_room L) table t, le-leb L.entries schedule h)

-- A refused reading, and one that isn't.
module _ (L : Limits) (s table schedule : List ℕ) where
  pub refused_reads : (e : Refusal) → reading_of L s (length table) (length schedule) ≡ Err e
      → ReadsTo L s table schedule table schedule (Err e)
  unfolding order_of table_after schedule_after
  refused_reads e h = record { order_is = rw h; table_is = rw h; schedule_is = rw h }

  pub accepted_reads : (v : ℕ) → reading_of L s (length table) (length schedule) ≡ Ok v
      → ReadsTo L s table schedule
      (words_at s (plan_of s).entries 12 ++ drop (plan_of s).entries table)
      (words_at s (plan_of s).acts ((plan_of s).schedule + 4) ++ drop (plan_of s).acts schedule)
      (Ok (accepted_of s (plan_of s)))
  unfolding order_of table_after schedule_after
  accepted_reads v h = record { order_is = rw h; table_is = rw h; schedule_is = rw h }
