-- What an opening has made: a newly opened group.
-- Assumes nothing.
use Rattle.std.specs.Prelude.{ℕ, ◌≤◌, ◌<◌, ◌≡◌, refl, Bool, true, false, List, eqb, length, get_or, Ok, Err}
use Rattle.std.proofs.Common.{arith, ap, sym, ◌∙◌, length-take, get_or-take}
use Rattle.std.proofs.Math.Decide.{dec_lt}
use Rattle.std.proofs.Math.ListN.{get_or-eq_default}
use Rattle.std.proofs.lemmas.Bool.{eqb-false}
use Rattle.codes.specs.Codes.{Verdict}
use Rattle.cell.specs.Table.{entry_of}
use Rattle.recording.specs.declared.Seat.{Seat}
use Rattle.recording.specs.declared.Certificate.{Certificate}
use Rattle.recording.specs.declared.Judged.{Judged}
use Rattle.recording.specs.Recording.{empty_seat, side_at, operation_at, Recording}
use Rattle.recording.specs.Check.{looms_of, fault_of, judged_of, check_of}
use Rattle.recording.specs.AdmittedLaws.{Admitted, admitted, all_fitted, counted}
use Rattle.recording.proofs.Accepted.{check_says}
use Rattle.recording.proofs.AcceptedLaws.{sets_given, past_faults}
use Rattle.sides.specs.declared.Side.{Side}
use Rattle.sides.specs.declared.Side.TheVariants.{A, B}
use Rattle.sides.specs.Sides.{of_side}
use Rattle.sides.specs.declared.Pair.{Pair}
use Rattle.loom.specs.declared.Loom.{Loom}
use Rattle.agreement.specs.Machine.{NotZero}
use Rattle.group.specs.declared.Group.{Group}
use Rattle.group.specs.Group.{empty_loom}
use Rattle.group.specs.Open.{loom_of, slots_of, fresh_group, opened_with, opened_by, open_of}
use Rattle.group.proofs.OpenLaws.{slots_length, slot_of_seat}
use Rattle.demands.specs.Fits.{Seated, WellFormed}
use Rattle.demands.specs.NewlyOpened.{AreSets, NewlyOpened}

-- What an opening says: the check accepted, neither number is 0, and the group is as it opens.
record Opens (j : Judged) (c : Certificate) (numbers : Pair ℕ) (g : Group) : Type 0 where
  accepting : j.outcome ≡ Ok tt
  some_a : NotZero numbers.a
  some_b : NotZero numbers.b
  fresh : g ≡ fresh_group c j.sets numbers

opens_so : (j : Judged) (c : Certificate) (numbers : Pair ℕ) (g : Group) → opened_by j c numbers ≡ Ok g → Opens j c numbers g
unfolding opened_by
opens_so j c numbers g = by_tests j.outcome (eqb numbers.a 0) (eqb numbers.b 0) refl refl refl
  where
    by_tests : (s : Verdict) (t u : Bool) → j.outcome ≡ s → eqb numbers.a 0 ≡ t → eqb numbers.b 0 ≡ u → opened_with s j.sets c numbers ≡ Ok g →
        Opens j c numbers g
    by_tests (Err refusal) t u es et eu opens = cc
    by_tests (Ok done) true u es et eu opens = let e = rw et at opens in cc
    by_tests (Ok done) false true es et eu opens = let e = rw (et, eu) at opens in cc
    by_tests (Ok done) false false es et eu opens =
        record {
          accepting = es;
          some_a = eqb-false numbers.a 0 et;
          some_b = eqb-false numbers.b 0 eu;
          fresh = let e = rw (et, eu) at opens in cc;
        }

module _ (table : List ℕ) (states operations : ℕ) (c : Certificate) (room : ℕ) (accepting : (judged_of table states operations c room).outcome ≡ Ok tt) where
  -- A check that accepts is past all refusals.
  past : fault_of table states operations c room ≡ Ok tt
  past = past_faults table states operations c room accepting

  ok : Admitted table states operations c room
  ok = admitted table states operations c room past

  as_many_looms : length (looms_of c) ≡ c.count
  as_many_looms = counted table states operations c room ok

  each_fitted : (k : ℕ) → k < length (looms_of c) → (side_at (looms_of c) k ≤ 1) × (operation_at (looms_of c) k < operations)
  each_fitted = all_fitted operations (looms_of c) (omega (arith, as_many_looms, ok.fitted))

  sides_within : (k : ℕ) → Dec (k < length (looms_of c)) → side_at (looms_of c) k ≤ 1
  sides_within k (yes here) = (each_fitted k here).0
  sides_within k (no beyond) = omega (arith, ap (λ (seat : Seat). seat.side) (get_or-eq_default (looms_of c) empty_seat {n = k} (omega arith)))

  well_formed : WellFormed table states operations (looms_of c)
  well_formed =
      record {
        form = ok.form;
        few = omega (arith, as_many_looms, ok.few);
        sides = λ k. sides_within k (dec_lt k (length (looms_of c)));
        fitted = λ k here. (each_fitted k here).1;
      }

  is_recording : Recording (entry_of table states) (looms_of c) c.start
  unfolding check_of
  is_recording = (check_says table states operations c room past).accepted.0 accepting

  are_sets : AreSets (entry_of table states) (looms_of c) c.start (judged_of table states operations c room).sets
  are_sets A q = rw (sets_given table states operations c room past).0 ((check_says table states operations c room past).members 0 q)
  are_sets B q = rw (sets_given table states operations c room past).1 ((check_says table states operations c room past).members 1 q)

  -- Loom k of the group that opens is that of seat k.
  slot_is_seat : (k : ℕ) → k < length (looms_of c) → get_or (slots_of c.count c.seats) k empty_loom ≡ loom_of (get_or (looms_of c) k empty_seat)
  slot_is_seat k here =
      let below : k < c.count = omega (arith, as_many_looms) in
      let there : k < length c.seats = omega (arith, length-take c.count c.seats) in
      slot_of_seat c.count c.seats k below there ∙ ap loom_of (sym (get_or-take c.count c.seats k empty_seat below))

  seated_fresh : (numbers : Pair ℕ) → Seated (looms_of c) (fresh_group c (judged_of table states operations c room).sets numbers)
  seated_fresh numbers =
      record {
        count = sym as_many_looms;
        slots = omega (arith, slots_length c.count c.seats, length-take c.count c.seats);
        side = λ k here. ap (λ (l : Loom). l.side) (slot_is_seat k here);
        operation = λ k here. ap (λ (l : Loom). l.operation) (slot_is_seat k here);
      }

-- An opening has made a newly opened group.
pub newly_opened : (table : List ℕ) (states operations : ℕ) (c : Certificate) (numbers : Pair ℕ) (room : ℕ) →
    (g : Group) → open_of table states operations c numbers room ≡ Ok g → NewlyOpened table states operations c numbers g
newly_opened table states operations c numbers room g opens =
    rw made.fresh
    record {
      good = well_formed table states operations c room made.accepting;
      recording = is_recording table states operations c room made.accepting;
      not_zero = both;
      seated = seated_fresh table states operations c room made.accepting numbers;
      sets = are_sets table states operations c room made.accepting;
      start = refl;
      start_fits = (ok table states operations c room made.accepting).start_fits;
      numbered = refl;
      shared = refl;
      begins = λ k here. ap (λ (l : Loom). l.place) (slot_is_seat table states operations c room made.accepting k here);
      uncounted = λ k here. ap (λ (l : Loom). l.steps) (slot_is_seat table states operations c room made.accepting k here);
    }
  where
    made : Opens (judged_of table states operations c room) c numbers g
    made = opens_so (judged_of table states operations c room) c numbers g opens

    both : (s : Side) → NotZero (of_side numbers s)
    both A = made.some_a
    both B = made.some_b
