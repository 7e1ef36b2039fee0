-- Laws of a table's lookup and of its form.
-- Assumes nothing.
use Rattle.std.specs.Prelude.{ℕ, ◌+◌, ◌*◌, ◌≤◌, ◌<◌, ◌≡◌, refl, Bool, true, false, not, cond, ◌||◌, Option, Some, None, Ok, Err, List, T, leb, ltb, eqb, length, get_or, drop}
use Rattle.std.proofs.Common.{sym, ap, subst, ◌∙◌, add-one, drop-cons, drop_of_length-le, le_refl, mul-le-mul, suc-mul, mul-le-mul_right, lt_of_lt_of_le, mul_comm, arith}
use Rattle.std.proofs.lemmas.Option.{none-some}
use Rattle.std.proofs.lemmas.List.Sums.{position_or_len_is, passes_at_first, fails_before_first}
use borrow.Author.Tests.{lt-ltb, le-ltb, le-leb, lt-leb, leb-true, leb-false, ltb-false, ltb-true, eqb-true, eq-eqb, ne_eqb}
use Rattle.std.specs.List as list
use Rattle.std.specs.Bool.{then_some}
use Rattle.codes.specs.Codes.{refused_at}
use Rattle.codes.specs.declared.Code.TheVariants.{States, Operations, TableLength, Entry}
use Rattle.cell.specs.Limits.{edition}
use Rattle.cell.specs.Table.{position, entry_of, next_of, first_outside, outside_of, entry_refused, form_of}

-- The lookup, one law for each way that it ends.
module _ (table : List ℕ) (states o q : ℕ) where
  pub refused_states : edition.states < states → next_of table states o q ≡ None
  unfolding next_of
  refused_states many = simp (lt-leb _ _ many)

  module _ (few : states ≤ edition.states) where
    pub refused_operation : edition.operations ≤ o → next_of table states o q ≡ None
    unfolding next_of
    refused_operation h = simp (le-leb _ _ few, le-ltb _ _ h)

    module _ (fitted : o < edition.operations) where
      pub refused_state : states ≤ q → next_of table states o q ≡ None
      unfolding next_of
      refused_state h = simp (le-leb _ _ few, lt-ltb _ _ fitted, le-ltb _ _ h)

      -- the position is a number of the machine, whatever the table
      pub position_bound : q < states → position states o q < edition.operations * edition.states
      position_bound h =
          lt_of_lt_of_le
          (omega (arith, suc-mul o states))
          (mul-le-mul fitted few)

      module _ (state : q < states) where
        pub refused_position : length table ≤ position states o q → next_of table states o q ≡ None
        unfolding next_of
        refused_position h = simp (le-leb _ _ few, lt-ltb _ _ fitted, lt-ltb _ _ state, le-ltb _ _ h)

        module _ (there : position states o q < length table) where
          pub refused_entry : states ≤ entry_of table states o q → next_of table states o q ≡ None
          unfolding next_of
          refused_entry h = simp (le-leb _ _ few, lt-ltb _ _ fitted, lt-ltb _ _ state, lt-ltb _ _ there, le-ltb _ _ h)

          pub moved_to : entry_of table states o q < states → next_of table states o q ≡ Some (entry_of table states o q)
          unfolding next_of
          moved_to h = simp (le-leb _ _ few, lt-ltb _ _ fitted, lt-ltb _ _ state, lt-ltb _ _ there, lt-ltb _ _ h)

          -- what is left is the test of the entry
          pub moved_by_entry : (to : ℕ) → to ≡ entry_of table states o q → then_some (ltb to states) to ≡ next_of table states o q
          moved_by_entry to e = go (ltb to states) refl
            where
              go : (t : Bool) → ltb to states ≡ t → then_some t to ≡ next_of table states o q
              go true h = ap Some e ∙ sym (moved_to (let below = ltb-true _ _ h in omega (arith, e)))
              go false h = sym (refused_entry (let above = ltb-false _ _ h in omega (arith, e)))

-- A number that isn't outside is within.
pub not_outside : (low high n : ℕ) → outside_of low high n ≡ false → (low ≤ n) × (n ≤ high)
not_outside low high n = go (ltb n low) (ltb high n) refl refl
  where
    go : (s t : Bool) → ltb n low ≡ s → ltb high n ≡ t → s || t ≡ false → (low ≤ n) × (n ≤ high)
    go true t e f none = absurd (subst T none tt)
    go false true e f none = absurd (subst T none tt)
    go false false e f none = (ltb-false n low e, ltb-false high n f)

-- The form, one law for each way that it ends.
module _ (table : List ℕ) (states operations : ℕ) where
  pub form_states : outside_of 1 edition.states states ≡ true → form_of table states operations ≡ Err (refused_at States 0)
  unfolding form_of
  form_states h = simp h

  module _ (few : outside_of 1 edition.states states ≡ false) where
    pub form_operations : outside_of 1 edition.operations operations ≡ true → form_of table states operations ≡ Err (refused_at Operations 0)
    unfolding form_of
    form_operations h = simp (few, h)

    module _ (fitted : outside_of 1 edition.operations operations ≡ false) where
      -- the product is a number of the machine
      pub entries_bound : states * operations ≤ edition.states * edition.operations
      entries_bound =
          mul-le-mul (not_outside 1 edition.states states few).1 (not_outside 1 edition.operations operations fitted).1

      pub form_length : (length table ≡ states * operations → ⊥) → form_of table states operations ≡ Err (refused_at TableLength 0)
      unfolding form_of
      form_length h = simp (few, fitted, ne_eqb _ _ h)

      module _ (whole : length table ≡ states * operations) where
        pub form_entry : (place : ℕ) → first_outside states table ≡ Some place → form_of table states operations ≡ Err (refused_at Entry place)
        unfolding form_of
        form_entry place h = simp (few, fitted, eq-eqb _ _ whole, h)

        pub form_good : first_outside states table ≡ None → form_of table states operations ≡ Ok tt
        unfolding form_of
        form_good h = simp (few, fitted, eq-eqb _ _ whole, h)

-- Where every entry is below states, none is outside.
pub none_outside : (states : ℕ) (table : List ℕ) → ((i : ℕ) → i < length table → get_or table i 0 < states) → first_outside states table ≡ None
none_outside states table below =
    let all : list.position_or_len (leb states) table ≡ length table =
    position_or_len_is (leb states) table (length table) 0 (le_refl (length table)) (λ i h. lt-leb _ _ (below i h)) (λ past. absurd (omega arith)) in
    simp (le-ltb (list.position_or_len (leb states) table) (length table) (omega arith))

-- And the other way: where none is outside, every entry is below states.
pub all_below : (states : ℕ) (table : List ℕ) → first_outside states table ≡ None → (i : ℕ) → i < length table → get_or table i 0 < states
all_below states table none i h = go (ltb (list.position_or_len (leb states) table) (length table)) refl none
  where
    go : (t : Bool) → ltb (list.position_or_len (leb states) table) (length table) ≡ t
        → cond t (Some (list.position_or_len (leb states) table)) None ≡ None → get_or table i 0 < states
    go true e some = absurd (none-some _ (sym some))
    go false e some = leb-false _ _ (fails_before_first (leb states) table i 0 (let all = ltb-false _ _ e in omega arith))

-- "Place: the lowest entry for 5": where one is outside, it is an entry, and those before it are not.
pub first_is_lowest : (states : ℕ) (table : List ℕ) (place : ℕ) → first_outside states table ≡ Some place
    → (place < length table) × (states ≤ get_or table place 0) × ((i : ℕ) → i < place → get_or table i 0 < states)
first_is_lowest states table place found = go (ltb first (length table)) refl found
  where
    first : ℕ
    first = list.position_or_len (leb states) table

    at_first : first < length table → (first < length table) × (states ≤ get_or table first 0) × ((i : ℕ) → i < first → get_or table i 0 < states)
    at_first h = (
      h,
      leb-true _ _ (passes_at_first (leb states) table 0 h),
      λ i l. leb-false _ _ (fails_before_first (leb states) table i 0 l),
    )

    go : (t : Bool) → ltb first (length table) ≡ t → cond t (Some first) None ≡ Some place
        → (place < length table) × (states ≤ get_or table place 0) × ((i : ℕ) → i < place → get_or table i 0 < states)
    go true e is =
        let same : first ≡ place = cc in
        subst (λ (p : ℕ). (p < length table) × (states ≤ get_or table p 0) × ((i : ℕ) → i < p → get_or table i 0 < states)) same
        (at_first (ltb-true _ _ e))
    go false e is = cc

-- The first entry outside, looked for from place i on: there, further on, or nowhere.
module _ (states : ℕ) (table : List ℕ) (i : ℕ) where
  pub outside_here : i < length table → states ≤ get_or table i 0 → i + list.position_or_len (leb states) (drop i table) ≡ i
  outside_here within h = rw (drop-cons table i 0 within) (simp (le-leb _ _ h) (omega arith))

  pub outside_further : i < length table → get_or table i 0 < states
      → (i + 1) + list.position_or_len (leb states) (drop (i + 1) table) ≡ i + list.position_or_len (leb states) (drop i table)
  outside_further within h = rw (drop-cons table i 0 within, add-one) (simp (lt-leb _ _ h) (omega arith))

  pub outside_none : length table ≤ i → i + list.position_or_len (leb states) (drop i table) ≡ i
  outside_none past = rw (drop_of_length-le table past) (omega arith)

-- A table that has form: what it is not to be refused.
pub record HasForm (table : List ℕ) (states operations : ℕ) : Type 0 where
  pub some_states : 1 ≤ states
  pub few_states : states ≤ edition.states
  pub some_operations : 1 ≤ operations
  pub few_operations : operations ≤ edition.operations
  pub whole : length table ≡ states * operations
  pub entries_below : (i : ℕ) → i < length table → get_or table i 0 < states

-- No refusal says that the table has form, and a table that has form is not refused.
pub form_says : (table : List ℕ) (states operations : ℕ) → form_of table states operations ≡ Ok tt → HasForm table states operations
unfolding form_of
form_says table states operations =
    go (outside_of 1 edition.states states) (outside_of 1 edition.operations operations) (eqb (length table) (states * operations))
    (first_outside states table) refl refl refl refl
  where
    go : (s o w : Bool) (e : Option ℕ) → outside_of 1 edition.states states ≡ s → outside_of 1 edition.operations operations ≡ o
        → eqb (length table) (states * operations) ≡ w → first_outside states table ≡ e
        → cond s (Err (refused_at States 0))
        (cond o (Err (refused_at Operations 0)) (cond (not w) (Err (refused_at TableLength 0)) (entry_refused e))) ≡ Ok tt
        → HasForm table states operations
    go true o w e hs ho hw he code = cc
    go false true w e hs ho hw he code = cc
    go false false false e hs ho hw he code = cc
    go false false true (Some place) hs ho hw he code = cc
    go false false true None hs ho hw he code =
        let s = not_outside 1 edition.states states hs in
        let o = not_outside 1 edition.operations operations ho in
        record {
          some_states = s.0;
          few_states = s.1;
          some_operations = o.0;
          few_operations = o.1;
          whole = eqb-true _ _ hw;
          entries_below = all_below states table he;
        }

within_limits : (low high n : ℕ) → low ≤ n → n ≤ high → outside_of low high n ≡ false
within_limits low high n l h = simp (le-ltb _ _ l, le-ltb _ _ h)

pub form_of_good : (table : List ℕ) (states operations : ℕ) → HasForm table states operations → form_of table states operations ≡ Ok tt
form_of_good table states operations h =
    form_good table states operations
    (within_limits 1 edition.states states h.some_states h.few_states)
    (within_limits 1 edition.operations operations h.some_operations h.few_operations)
    h.whole
    (none_outside states table h.entries_below)

-- In a table that has form every operation that is fitted has a next state in every state.
pub good_moves : (table : List ℕ) (states operations : ℕ) → HasForm table states operations → (o q : ℕ) → o < operations → q < states
    → (entry_of table states o q < states) × (next_of table states o q ≡ Some (entry_of table states o q))
good_moves table states operations h o q fitted state =
    let there : position states o q < length table = rw (h.whole, mul_comm states operations) (lt_of_lt_of_le (omega (arith, suc-mul o states)) (mul-le-mul_right states fitted)) in
    let below = h.entries_below (position states o q) there in
    (below, moved_to table states o q h.few_states (omega (arith, h.few_operations)) state there below)
