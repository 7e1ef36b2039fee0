-- What the catalogue cell's operations do, for any n, and what stands in its table.
-- Assumes nothing.
use Rattle.std.specs.Prelude.{ℕ, zero, suc, ◌+◌, ◌-◌, ◌*◌, ◌≤◌, ◌<◌, ◌≡◌, refl, Bool, true, false, cond, Result, Ok, Err, List, [], ◌∷◌, ◌++◌, ltb, length, get_or, drop}
use Rattle.std.proofs.Common.{sym, ap, ap₂, subst, ◌∙◌, ⊎_elim, add-zero, eq-or-lt_of_le, le_of_suc-le-suc, not-suc-le-zero, zero-mul, one-mul, add-suc, suc-add, suc-ne-zero, add-one, arith, length-append, get_or-append-add}
use Rattle.std.proofs.Math.Nat.{add-sub_cancel_left, le_dest}
use Rattle.std.proofs.Math.Decide.{dec_lt}
use borrow.Author.Tests.{lt-ltb, le-ltb, ltb-false}
use Rattle.std.proofs.Math.ListN.{get_or-append}
use Rattle.std.proofs.Math.Seq.{get_or-append_seam}
use Rattle.codes.specs.declared.Code.{Code}
use Rattle.codes.specs.declared.Code.TheVariants.{NoRoom, NoSuchCell}
use Rattle.cell.specs.Limits.{edition}
use Rattle.cell.specs.Table.{entry_of, outside_of}
use Rattle.cell.specs.TableLaws.{HasForm, not_outside}
use Rattle.cell.specs.Catalogue.{won_a, won_b, won_of, after_zero, after_one, each, table_of, catalogue_code, catalogue_room, Catalogued}

le_of_not_lt : (q n : ℕ) → ¬ (q < n) → n ≤ q
le_of_not_lt q n h = omega arith

-- The winner and the row of each state.
won_A : (n r : ℕ) → r < n → won_of n r ≡ won_a r
won_A n r h = simp (lt-ltb _ _ h)

won_B : (n r : ℕ) → won_of n (n + r) ≡ won_b r
won_B n r = rw (le-ltb (n + r) n (omega arith)) (ap won_b (add-sub_cancel_left n r))

module _ (n r : ℕ) where
  -- Operation 0 from (A, r), from (B, 0), and from (B, r) with r above 0.
  pub zero_from_A : r < n → after_zero n r ≡ n
  zero_from_A h = rw (won_A n r h) (add-zero n)

  pub zero_from_start : after_zero n (n + 0) ≡ 0
  zero_from_start = rw (won_B n 0) refl

  pub zero_stays : after_zero n (n + suc r) ≡ n + suc r
  zero_stays = rw (won_B n (suc r)) refl

  -- Operation 1 from (A, r) and from (B, r): up, and from the last row to (B, 0).
  pub one_up_A : suc r < n → after_one n r ≡ suc r
  one_up_A h = rw (won_A n r (omega arith)) (simp (lt-ltb _ _ h))

  pub one_back_A : suc r ≡ n → after_one n r ≡ n
  one_back_A e = rw (won_A n r (omega arith)) (simp (le-ltb (suc r) n (omega arith)) (add-zero n))

  pub one_up_B : suc r < n → after_one n (n + r) ≡ n + suc r
  one_up_B h = rw (won_B n r) (simp (lt-ltb _ _ h))

  pub one_back_B : n ≤ suc r → after_one n (n + r) ≡ n
  one_back_B h = rw (won_B n r) (simp (le-ltb _ _ h) (add-zero n))

-- The same on the states' numbers, as the code has it.
pub zero_of_number : (n q : ℕ) → n < q → after_zero n q ≡ q
zero_of_number n q h =
    let further = le_dest h in
    subst (λ (x : ℕ). after_zero n x ≡ x) (add-suc n further.0 ∙ sym (suc-add n further.0) ∙ further.1) (zero_stays n further.0)

pub one_of_number : (n q : ℕ) → suc q < 2 * n → after_one n q ≡ suc q
one_of_number n q h = go (dec_lt q n)
  where
    up : (r : ℕ) → n + r ≡ q → after_one n q ≡ suc q
    up r e = subst (λ (x : ℕ). after_one n x ≡ suc x) e (one_up_B n r (omega arith) ∙ add-suc n r)

    go : Dec (q < n) → after_one n q ≡ suc q
    go (yes below) = ⊎_elim (λ (e : suc q ≡ n). one_back_A n q e ∙ sym e) (one_up_A n q) (eq-or-lt_of_le below)
    go (no above) = let r = le_dest (le_of_not_lt q n above) in up r.0 r.1

pub one_of_last : (n q : ℕ) → suc q ≡ 2 * n → after_one n q ≡ n
one_of_last zero q e = absurd (suc-ne-zero q e)
one_of_last (suc m) q e =
    let n = suc m in
    let last : n + m ≡ q = omega arith in
    subst (λ (x : ℕ). after_one n x ≡ n) last (one_back_B n m (omega arith))

-- The operations stay among the 2n states.
pub zero_below : (n q : ℕ) → q < 2 * n → after_zero n q < 2 * n
zero_below n q h = go (dec_lt q n) (dec_lt n q)
  where
    go : Dec (q < n) → Dec (n < q) → after_zero n q < 2 * n
    go (yes below) d = omega (arith, zero_from_A n q below)
    go (no above) (yes over) = omega (arith, zero_of_number n q over)
    go (no above) (no at) =
        let same : n + 0 ≡ q = omega arith in
        omega (arith, subst (λ (x : ℕ). after_zero n x ≡ 0) same (zero_from_start n 0))

pub one_below : (n q : ℕ) → q < 2 * n → after_one n q < 2 * n
one_below n q h =
    ⊎_elim
    (λ (last : suc q ≡ 2 * n). omega (arith, one_of_last n q last))
    (λ (up : suc q < 2 * n). omega (arith, one_of_number n q up))
    (eq-or-lt_of_le h)

-- `each` has one entry a state, and it is that state's.
pub length_each : (f : ℕ → ℕ) (k : ℕ) → length (each f k) ≡ k
length_each f zero = refl
length_each f (suc k) = length-append (each f k) (f k ∷ []) ∙ add-one (length (each f k)) ∙ ap suc (length_each f k)

pub get_or_each : (f : ℕ → ℕ) (k i : ℕ) → i < k → get_or (each f k) i 0 ≡ f i
get_or_each f zero i h = absurd (not-suc-le-zero h)
get_or_each f (suc k) i h =
    ⊎_elim
    (λ (last : i ≡ k). subst (λ (x : ℕ). get_or (each f k ++ (f k ∷ [])) x 0 ≡ f x) (sym last) (at_end k))
    (λ (below : i < k). get_or-append (each f k) (f k ∷ []) 0 i (omega (arith, length_each f k)) ∙ get_or_each f k i below)
    (eq-or-lt_of_le (le_of_suc-le-suc h))
  where
    at_end : (k : ℕ) → get_or (each f k ++ (f k ∷ [])) k 0 ≡ f k
    at_end k = ap (λ (x : ℕ). get_or (each f k ++ (f k ∷ [])) x 0) (sym (length_each f k)) ∙ get_or-append_seam (each f k) (f k) [] 0

-- The table has 4n entries, the first 2n by operation 0 and the others by operation 1.
pub table_length : (n : ℕ) → length (table_of n) ≡ 4 * n
unfolding table_of
table_length n =
    length-append (each (after_zero n) (2 * n)) (each (after_one n) (2 * n))
    ∙ ap₂ (λ (x y : ℕ). x + y) (length_each (after_zero n) (2 * n)) (length_each (after_one n) (2 * n))
    ∙ omega arith

pub table_of_zero : (n q : ℕ) → q < 2 * n → get_or (table_of n) q 0 ≡ after_zero n q
unfolding table_of
table_of_zero n q h =
    get_or-append (each (after_zero n) (2 * n)) (each (after_one n) (2 * n)) 0 q (omega (arith, length_each (after_zero n) (2 * n)))
    ∙ get_or_each (after_zero n) (2 * n) q h

pub table_of_one : (n q : ℕ) → q < 2 * n → get_or (table_of n) (2 * n + q) 0 ≡ after_one n q
unfolding table_of
table_of_one n q h =
    ap (λ (x : ℕ). get_or (each (after_zero n) (2 * n) ++ each (after_one n) (2 * n)) (x + q) 0) (sym (length_each (after_zero n) (2 * n)))
    ∙ get_or-append-add (each (after_zero n) (2 * n)) (each (after_one n) (2 * n)) q 0
    ∙ get_or_each (after_one n) (2 * n) q h

-- The entry at a place of the table, as the code finds it.
unfoldable pub entry_at : ℕ → ℕ → ℕ
entry_at n i = cond (ltb i (2 * n)) (after_zero n i) (after_one n (i - 2 * n))

pub table_entry : (n i : ℕ) → i < 4 * n → get_or (table_of n) i 0 ≡ entry_at n i
unfolding entry_at
table_entry n i h = go (dec_lt i (2 * n))
  where
    go : Dec (i < 2 * n) → get_or (table_of n) i 0 ≡ cond (ltb i (2 * n)) (after_zero n i) (after_one n (i - 2 * n))
    go (yes first) = rw (lt-ltb _ _ first) (table_of_zero n i first)
    go (no past) =
        let same : 2 * n + (i - 2 * n) ≡ i = omega arith in
        rw (le-ltb i (2 * n) (omega arith))
        (ap (λ (x : ℕ). get_or (table_of n) x 0) (sym same) ∙ table_of_one n (i - 2 * n) (omega arith))

-- The lookup of a catalogue table.
pub entry_of_zero : (n q : ℕ) → q < 2 * n → entry_of (table_of n) (2 * n) 0 q ≡ after_zero n q
entry_of_zero n q h = ap (λ (x : ℕ). get_or (table_of n) x 0) (omega (arith, zero-mul (2 * n))) ∙ table_of_zero n q h

pub entry_of_one : (n q : ℕ) → q < 2 * n → entry_of (table_of n) (2 * n) 1 q ≡ after_one n q
entry_of_one n q h = ap (λ (x : ℕ). get_or (table_of n) x 0) (omega (arith, one-mul (2 * n))) ∙ table_of_one n q h

-- Every entry is one of the 2n states.
pub table_below : (n i : ℕ) → i < 4 * n → get_or (table_of n) i 0 < 2 * n
table_below n i h = go (dec_lt i (2 * n))
  where
    go : Dec (i < 2 * n) → get_or (table_of n) i 0 < 2 * n
    go (yes first) = omega (arith, table_of_zero n i first, zero_below n i first)
    go (no past) =
        let same : 2 * n + (i - 2 * n) ≡ i = omega arith in
        let at : get_or (table_of n) i 0 ≡ after_one n (i - 2 * n) =
        ap (λ (x : ℕ). get_or (table_of n) x 0) (sym same) ∙ table_of_one n (i - 2 * n) (omega arith) in
        omega (arith, one_below n (i - 2 * n) (omega arith))

-- The catalogue's table has form, with 2n states and two operations.
pub catalogue_has_form : (n : ℕ) → 2 ≤ n → n ≤ edition.looms → HasForm (table_of n) (2 * n) 2
catalogue_has_form n some few =
    record {
      some_states = omega arith;
      few_states = omega arith;
      some_operations = omega arith;
      few_operations = omega arith;
      whole = table_length n ∙ omega arith;
      entries_below = λ i h. table_below n i (omega (arith, table_length n));
    }

-- The code, one law for each way that it ends.
module _ (n room : ℕ) where
  pub no_cell_below : n < 2 → catalogue_code n room ≡ Err NoSuchCell
  unfolding catalogue_code
  no_cell_below h = simp (lt-ltb _ _ h)

  module _ (some : 2 ≤ n) where
    pub no_cell_above : edition.looms < n → catalogue_code n room ≡ Err NoSuchCell
    unfolding catalogue_code
    no_cell_above h = simp (le-ltb _ _ some, lt-ltb _ _ h)

    module _ (few : n ≤ edition.looms) where
      pub room_too_short : room < 4 * n → catalogue_code n room ≡ Err NoRoom
      unfolding catalogue_code
      room_too_short h = simp (le-ltb _ _ some, le-ltb _ _ few, lt-ltb _ _ h)

      pub room_enough : 4 * n ≤ room → catalogue_code n room ≡ Ok tt
      unfolding catalogue_code
      room_enough h = simp (le-ltb _ _ some, le-ltb _ _ few, le-ltb _ _ h)

-- No refusal says that there is such a cell, and room for it.
pub code_says : (n room : ℕ) → catalogue_code n room ≡ Ok tt → (2 ≤ n) × (n ≤ edition.looms) × (4 * n ≤ room)
unfolding catalogue_code
code_says n room = go (outside_of 2 edition.looms n) (ltb room (4 * n)) refl refl
  where
    go : (s t : Bool) → outside_of 2 edition.looms n ≡ s → ltb room (4 * n) ≡ t
        → cond {A = Result (Unit {0}) Code} s (Err NoSuchCell) (cond t (Err NoRoom) (Ok tt)) ≡ Ok tt
        → (2 ≤ n) × (n ≤ edition.looms) × (4 * n ≤ room)
    go true t hs ht code = cc
    go false true hs ht code = cc
    go false false hs ht code = let w = not_outside 2 edition.looms n hs in (w.0, w.1, ltb-false _ _ ht)

-- What a call leaves: the room written where nothing is refused, else as it was.
pub written_catalogued : (n : ℕ) (room : List ℕ) → catalogue_code n (length room) ≡ Ok tt → Catalogued n room (Ok tt) (table_of n ++ drop (4 * n) room)
unfolding catalogue_room
written_catalogued n room e = record { answer = sym e; room = rw e }

pub refused_catalogued : (n : ℕ) (room : List ℕ) (code : Code) → catalogue_code n (length room) ≡ Err code → Catalogued n room (Err code) room
unfolding catalogue_room
refused_catalogued n room code e = record { answer = sym e; room = rw e }
