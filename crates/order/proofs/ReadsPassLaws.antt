-- A file that is taken, given to the check: none of 2 to 9 applies, one law for each.
-- Assumes nothing.
use Rattle.std.specs.Prelude.{ℕ, zero, suc, ◌+◌, ◌*◌, ◌≤◌, ◌<◌, ◌≡◌, refl, Bool, true, false, cond, ◌&&◌, leb, ltb, length, get_or, take, drop, Ok, Err}
use Rattle.std.proofs.Common.{sym, ◌∙◌, le_of_suc-le-suc, not-suc-le-zero, suc-mul, zero-mul, arith, ltb-true, le-ltb}
use Rattle.std.proofs.Math.Path.{ap, subst}
use mathlib.Core.List.{List}
use Rattle.std.proofs.lemmas.Bool.{lt-leb}
use Rattle.std.proofs.Math.Seq.{take_at}
use Rattle.cell.specs.Limits.{edition}
use Rattle.cell.specs.TableLaws.{HasForm, form_of_good}
use Rattle.recording.specs.declared.Certificate.{Certificate}
use Rattle.recording.specs.declared.Seat.{Seat}
use Rattle.recording.specs.Check.{looms_of, misfit_of, first_misfit, room_for, fault_of}
use Rattle.recording.specs.CheckLaws.{fault_looms, fault_none}
use Rattle.recording.specs.Recording.{side_count}
use Rattle.codes.specs.declared.Code.{Code}
use Rattle.codes.specs.Codes.{refused_at}
use Rattle.xdr.specs.Field.{Field, Passed, word_at, within, field_at}
use Rattle.xdr.specs.FieldLaws.{then_both, run_taken, judged_taken}
use Rattle.format.specs.declared.Plan.{Plan}
use Rattle.format.specs.declared.Items.TheVariants.{Looms}
use Rattle.format.proofs.AcceptedLaws.{Passes, limits, bounds, file_taken}
use Rattle.format.specs.Format.{item_at, seat_at, seats_at, sides_at, verdict_of}
use Rattle.format.specs.Layout.{plan_of}
use Rattle.order.specs.declared.Order.{Order}
use Rattle.order.specs.Order.{table_room, reading_of, words_at, no_seats, seats_of, accepted_of, order_of, table_after, schedule_after, ReadsTo}

-- Item i of n words from p on.
pub words_length : (s : List ℕ) (n p : ℕ) → length (words_at s n p) ≡ n
unfolding words_at
words_length s zero p = refl
words_length s (suc n) p = ap suc (words_length s n (p + 4))

word_of : (s : List ℕ) (n p i : ℕ) → i < n → get_or (words_at s n p) i 0 ≡ word_at s (p + i * 4)
unfolding words_at
word_of s zero p i below = absurd (not-suc-le-zero below)
word_of s (suc n) p zero below = ap (word_at s) (omega (arith, zero-mul 4))
word_of s (suc n) p (suc i) below = word_of s n (p + 4) i (le_of_suc-le-suc below) ∙ ap (word_at s) (omega (arith, suc-mul i 4))

seats_length : (s : List ℕ) (n p : ℕ) → length (seats_at s n p) ≡ n
unfolding seats_at
seats_length s zero p = refl
seats_length s (suc n) p = ap suc (seats_length s n (p + 8))

-- The looms of the certificate that is read are those of the file.
looms_read : (s : List ℕ) (n p start : ℕ) → looms_of (record { start = start; count = n; seats = seats_of s n p }) ≡ seats_at s n p
unfolding seats_of
looms_read s n p start = take_at (seats_at s n p) (drop n no_seats) n (seats_length s n p)

-- Both tests of a loom's seat passed: it is no misfit.
seat_fits : (operations : ℕ) (s : List ℕ) (p : ℕ) → Passed (item_at (Looms operations) s p) → misfit_of operations (seat_at s p) ≡ false
unfolding item_at
seat_fits operations s p passed =
    let fields = then_both (field_at (within 0 2) Code.Seat s p) (field_at (within 0 operations) Code.Seat s (p + 4)) passed in
    let side = limits _ 0 2 Code.Seat s p fields.0 in
    let operation = limits _ 0 operations Code.Seat s (p + 4) fields.1 in
    rw (le-ltb 1 (word_at s p) (omega (arith, side.1)), lt-leb operations (word_at s (p + 4)) operation.1)

no_misfit : (operations : ℕ) (s : List ℕ) (n p : ℕ) → ((j : ℕ) → j < n → Passed (item_at (Looms operations) s (p + j * 8)))
    → n ≤ first_misfit operations (seats_at s n p)
unfolding first_misfit seats_at
no_misfit operations s zero p each = omega arith
no_misfit operations s (suc n) p each =
    let first : misfit_of operations (seat_at s p) ≡ false =
    seat_fits operations s p (subst (λ (q : ℕ). Passed (item_at (Looms operations) s q)) (omega (arith, zero-mul 8)) (each 0 (omega arith))) in
    let rest : n ≤ first_misfit operations (seats_at s n (p + 8)) =
    no_misfit operations s n (p + 8)
    (λ j below. subst (λ (q : ℕ). Passed (item_at (Looms operations) s q)) (omega (arith, suc-mul j 8)) (each (suc j) (omega (arith, below)))) in
    rw first (omega (arith, rest))

-- Both sides have a loom.
both_true : (a b : Bool) → a && b ≡ true → (a ≡ true) × (b ≡ true)
both_true true b h = (refl, h)
both_true false b h = cc

both_sides : (seats : List Seat) (p : ℕ) → Passed (sides_at seats p) → (0 < side_count 0 seats) × (0 < side_count 1 seats)
unfolding sides_at
both_sides seats p (v, taken) =
    let tests = both_true (ltb 0 (side_count 0 seats)) (ltb 0 (side_count 1 seats)) (judged_taken Code.FileEnds true _ p Code.LacksSide p v taken).good in
    (ltb-true 0 (side_count 0 seats) tests.0, ltb-true 0 (side_count 1 seats) tests.1)

-- ---- none of 2 to 9 and 40
module _ (s : List ℕ) (passes : Passes edition s (plan_of s)) where
  abbrev P : Plan
  P = plan_of s

  abbrev table : List ℕ
  table = words_at s P.entries 12

  abbrev looms : List Seat
  looms = seats_at s P.looms (P.start + 8)

  form : HasForm table P.states P.operations
  unfolding plan_of
  form =
      let states = limits _ _ _ _ s 0 passes.states in
      let operations = limits _ _ _ _ s 4 passes.operations in
      let size = limits _ _ _ _ s 8 passes.size in
      record {
        some_states = states.0;
        few_states = omega (arith, states.1);
        some_operations = operations.0;
        few_operations = omega (arith, operations.1);
        whole = words_length s P.entries 12 ∙ omega (arith, size.0, size.1);
        entries_below = λ i below.
            let inside : i < P.entries = omega (arith, below, words_length s P.entries 12) in
            subst (λ (v : ℕ). v < P.states) (sym (word_of s P.entries 12 i inside)) ((bounds edition s passes).entries i inside);
      }

  pub none_applies : (room : ℕ) → room_for P.looms ≤ room
      → fault_of table P.states P.operations (record { start = word_at s P.start; count = P.looms; seats = seats_of s P.looms (P.start + 8) }) room ≡ Ok tt
  unfolding plan_of
  none_applies room enough =
      fault_looms table P.states P.operations c room (form_of_good table P.states P.operations form) start_fits
      ∙ fault_none P.operations c room count.0 (omega (arith, count.1)) fitted (λ none. omega (arith, some_A)) (λ none. omega (arith, some_B)) enough
    where
      c : Certificate
      c = record { start = word_at s P.start; count = P.looms; seats = seats_of s P.looms (P.start + 8) }

      same : looms_of c ≡ looms
      same = looms_read s P.looms (P.start + 8) (word_at s P.start)

      start_fits : word_at s P.start < P.states
      start_fits = (limits _ _ _ _ s P.start passes.start).1

      count : (2 ≤ P.looms) × (P.looms < edition.looms + 1)
      count = limits _ _ _ _ s (P.start + 4) passes.count

      fitted : P.looms ≤ first_misfit P.operations (looms_of c)
      fitted =
          subst (λ (ls : List Seat). P.looms ≤ first_misfit P.operations ls) (sym same)
          (no_misfit P.operations s P.looms (P.start + 8) (run_taken _ _ _ _ _ passes.looms.1).0)

      sides : (0 < side_count 0 looms) × (0 < side_count 1 looms)
      sides = both_sides looms (P.start + 4) passes.sides

      some_A : 0 < side_count 0 (looms_of c)
      some_A = subst (λ (ls : List Seat). 0 < side_count 0 ls) (sym same) sides.0

      some_B : 0 < side_count 1 (looms_of c)
      some_B = subst (λ (ls : List Seat). 0 < side_count 1 ls) (sym same) sides.1

-- A reading that gives an order is that of a file that is taken.
reading_taken : (reading : Field) (s : List ℕ) (order : Order) → Ok order ≡ order_of s reading → Passed reading
unfolding order_of
reading_taken (Ok v) s order given = (v, refl)
reading_taken (Err e) s order given = cc

-- The verdict is given where the rooms suffice, and 40 where they don't.
reading_passed : (s : List ℕ) (table schedule : ℕ) → Passed (reading_of edition s table schedule) → Passed (verdict_of edition s)
unfolding reading_of
reading_passed s table schedule passed = by (leb (table_room edition) table && leb edition.entries schedule) passed
  where
    by : (b : Bool) → Passed (cond b (verdict_of edition s) (Err (refused_at Code.NoRoom 0))) → Passed (verdict_of edition s)
    by true h = h
    by false (v, h) = cc

-- What was read, whatever the rooms held.
module _ (s table schedule table' schedule' : List ℕ) (order : Order) (reads : ReadsTo edition s table schedule table' schedule' (Ok order)) where
  reading : Passed (reading_of edition s (length table) (length schedule))
  reading = reading_taken _ s order reads.order_is

  pub order_read : order ≡ accepted_of s (plan_of s)
  unfolding order_of
  order_read =
      let e : Ok order ≡ order_of s (Ok reading.0) = reads.order_is ∙ ap (order_of s) reading.1 in cc

  table_read : take (plan_of s).entries table' ≡ words_at s (plan_of s).entries 12
  unfolding table_after
  table_read =
      ap (take (plan_of s).entries) (reads.table_is ∙ ap (table_after s table) reading.1)
      ∙ take_at (words_at s (plan_of s).entries 12) (drop (plan_of s).entries table) (plan_of s).entries (words_length s (plan_of s).entries 12)

  pub schedule_read : take (plan_of s).acts schedule' ≡ words_at s (plan_of s).acts ((plan_of s).schedule + 4)
  unfolding schedule_after
  schedule_read =
      ap (take (plan_of s).acts) (reads.schedule_is ∙ ap (schedule_after s schedule) reading.1)
      ∙ take_at (words_at s (plan_of s).acts ((plan_of s).schedule + 4)) (drop (plan_of s).acts schedule) (plan_of s).acts
      (words_length s (plan_of s).acts ((plan_of s).schedule + 4))

  pub file_passes : Passes edition s (plan_of s)
  unfolding verdict_of
  file_passes = file_taken edition s (plan_of s) (reading_passed s (length table) (length schedule) reading)

  pub reads_pass : (room : ℕ) → room_for order.count ≤ room
      → fault_of (take order.entries table') order.states order.operations
      (record { start = order.start; count = order.count; seats = order.seats }) room ≡ Ok tt
  unfolding accepted_of
  reads_pass room enough =
      subst (λ (o : Order). room_for o.count ≤ room
      → fault_of (take o.entries table') o.states o.operations (record { start = o.start; count = o.count; seats = o.seats }) room ≡ Ok tt)
      (sym order_read)
      (λ fits.
      subst (λ (t : List ℕ). fault_of t (plan_of s).states (plan_of s).operations
      (record { start = word_at s (plan_of s).start; count = (plan_of s).looms; seats = seats_of s (plan_of s).looms ((plan_of s).start + 8) }) room ≡ Ok tt)
      (sym table_read) (none_applies s file_passes room fits))
      enough
