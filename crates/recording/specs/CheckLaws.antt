-- Laws of the check's answer: what a walk over the looms finds, and each way that the answer comes about.
-- Assumes nothing.
use Rattle.std.specs.Prelude.{ℕ, ◌≤◌, ◌<◌, ◌≡◌, refl, Bool, true, false, cond, Some, None, Ok, Err, List, ltb, eqb, length, take}
use Rattle.std.proofs.Common.{sym, ap, ◌∙◌, arith, length-take-le}
use borrow.Author.Tests.{lt-ltb, le-ltb, ltb-true, ltb-false, le-leb, lt-leb, eq-eqb, ne_eqb}
use Rattle.std.specs.List as list
use Rattle.std.proofs.lemmas.List.Recursion.{is_position_or_len, is_sum_by}
use Rattle.std.specs.Int.Bits.{bit_and}
use Rattle.sets.specs.Sets.{lowest_of, word_bits}
use Rattle.cell.specs.Limits.{edition}
use Rattle.cell.specs.Table.{form_of}
use Rattle.codes.specs.declared.Code.TheVariants.{Start, Looms, LacksSide, SharedState, ReturnsToA, ReturnsToB, NoRoom}
use Rattle.codes.specs.declared.Code.TheVariants as codes
use Rattle.codes.specs.Codes.{Refusal, refused_at}
use Rattle.recording.specs.declared.Certificate.{Certificate}
use Rattle.recording.specs.declared.Seat.{Seat}
use Rattle.recording.specs.Check.{looms_of, misfit_of, lowest_misfit, first_misfit, room_for, looms_fault, fault_of, judgement, comes_back, verdict_of, verdict_on, set_by, judged_of, words_over, area_of}
use Rattle.recording.specs.Recording.{one, side_count}

-- The looms are the first `count` seats, as many.
module _ (seats : List Seat) (count : ℕ) (enough : count ≤ length seats) where
  pub as_many : length (take count seats) ≡ count
  as_many = length-take-le count seats enough

-- The first misfit by the library's word.
pub first_misfit_is : (operations : ℕ) (looms : List Seat) → first_misfit operations looms ≡ list.position_or_len (misfit_of operations) looms
unfolding first_misfit
first_misfit_is operations =
    is_position_or_len (first_misfit operations) (misfit_of operations) refl (λ l ls. ap (cond (misfit_of operations l) 0) (omega arith))

module _ (operations : ℕ) (looms : List Seat) where
  abbrev first : ℕ
  first = list.position_or_len (misfit_of operations) looms

  -- Where a lowest misfit is found it is the first and a loom, and where none is found the first is their number.
  pub misfit_found : (k : ℕ) → Some k ≡ lowest_misfit operations looms → (k ≡ first_misfit operations looms) × (k < length looms)
  misfit_found k found = go (ltb first (length looms)) refl found
    where
      go : (t : Bool) → ltb first (length looms) ≡ t → Some k ≡ cond t (Some first) None → (k ≡ first_misfit operations looms) × (k < length looms)
      go true e is = let same : k ≡ first = cc in (same ∙ sym (first_misfit_is operations looms), omega (arith, ltb-true _ _ e))
      go false e is = cc

  pub no_misfit : None ≡ lowest_misfit operations looms → length looms ≤ first_misfit operations looms
  no_misfit found = go (ltb first (length looms)) refl found
    where
      go : (t : Bool) → ltb first (length looms) ≡ t → None ≡ cond t (Some first) None → length looms ≤ first_misfit operations looms
      go true e is = cc
      go false e is = omega (arith, ltb-false _ _ e, first_misfit_is operations looms)

-- The looms of a side by the library's word.
pub side_count_is : (X : ℕ) (looms : List Seat) → side_count X looms ≡ list.count_by (λ l. eqb l.side X) looms
side_count_is X = is_sum_by (side_count X) (λ l. one (eqb l.side X)) refl (λ l ls. refl)

-- The refusals 7 to 9 and 40, one law for each way that they end.
module _ (operations : ℕ) (c : Certificate) (room : ℕ) where
  pub fault_few : c.count < 2 → looms_fault operations c room ≡ Err (refused_at Looms 0)
  unfolding looms_fault
  fault_few h = rw (lt-ltb c.count 2 h)

  module _ (several : 2 ≤ c.count) where
    pub fault_many : edition.looms < c.count → looms_fault operations c room ≡ Err (refused_at Looms 0)
    unfolding looms_fault
    fault_many h = rw (le-ltb c.count 2 several, lt-ltb edition.looms c.count h)

    module _ (few : c.count ≤ edition.looms) where
      pub fault_misfit : first_misfit operations (looms_of c) < c.count
          → looms_fault operations c room ≡ Err (refused_at codes.Seat (first_misfit operations (looms_of c)))
      unfolding looms_fault
      fault_misfit h =
          rw (le-ltb c.count 2 several, le-ltb edition.looms c.count few, lt-ltb (first_misfit operations (looms_of c)) c.count h)

      module _ (fitted : c.count ≤ first_misfit operations (looms_of c)) where
        pub fault_no_A : side_count 0 (looms_of c) ≡ 0 → looms_fault operations c room ≡ Err (refused_at LacksSide 0)
        unfolding looms_fault
        fault_no_A h =
            rw (le-ltb c.count 2 several, le-ltb edition.looms c.count few, le-ltb (first_misfit operations (looms_of c)) c.count fitted, eq-eqb (side_count 0 (looms_of c)) 0 h)

        module _ (some_a : side_count 0 (looms_of c) ≡ 0 → ⊥) where
          pub fault_no_B : side_count 1 (looms_of c) ≡ 0 → looms_fault operations c room ≡ Err (refused_at LacksSide 0)
          unfolding looms_fault
          fault_no_B h =
              rw (le-ltb c.count 2 several, le-ltb edition.looms c.count few, le-ltb (first_misfit operations (looms_of c)) c.count fitted, ne_eqb (side_count 0 (looms_of c)) 0 some_a, eq-eqb (side_count 1 (looms_of c)) 0 h)

          module _ (some_b : side_count 1 (looms_of c) ≡ 0 → ⊥) where
            pub fault_room : room < room_for c.count → looms_fault operations c room ≡ Err (refused_at NoRoom 0)
            unfolding looms_fault
            fault_room h =
                rw (le-ltb c.count 2 several, le-ltb edition.looms c.count few, le-ltb (first_misfit operations (looms_of c)) c.count fitted, ne_eqb (side_count 0 (looms_of c)) 0 some_a, ne_eqb (side_count 1 (looms_of c)) 0 some_b, lt-ltb room (room_for c.count) h)

            pub fault_none : room_for c.count ≤ room → looms_fault operations c room ≡ Ok tt
            unfolding looms_fault
            fault_none h =
                rw (le-ltb c.count 2 several, le-ltb edition.looms c.count few, le-ltb (first_misfit operations (looms_of c)) c.count fitted, ne_eqb (side_count 0 (looms_of c)) 0 some_a, ne_eqb (side_count 1 (looms_of c)) 0 some_b, le-ltb room (room_for c.count) h)

-- All refusals that leave the area alone, one law for each way.
module _ (table : List ℕ) (states operations : ℕ) (c : Certificate) (room : ℕ) where
  pub fault_form : (refusal : Refusal) → form_of table states operations ≡ Err refusal → fault_of table states operations c room ≡ Err refusal
  unfolding fault_of
  fault_form refusal bad = rw bad

  module _ (formed_well : form_of table states operations ≡ Ok tt) where
    pub fault_start : states ≤ c.start → fault_of table states operations c room ≡ Err (refused_at Start 0)
    unfolding fault_of
    fault_start beyond = rw (formed_well, le-leb states c.start beyond)

    pub fault_looms : c.start < states → fault_of table states operations c room ≡ looms_fault operations c room
    unfolding fault_of
    fault_looms within = rw (formed_well, lt-leb states c.start within)

-- The verdict, one law for each way that it ends.
module _ (start of_a of_b a b : ℕ) where
  pub verdict_shared : (bit_and a b ≡ 0 → ⊥)
      → verdict_of start of_a of_b a b ≡ judgement (Err (refused_at SharedState (lowest_of word_bits (bit_and a b)))) a b
  unfolding verdict_of
  verdict_shared shared = rw (ne_eqb (bit_and a b) 0 shared)

  module _ (apart : bit_and a b ≡ 0) where
    pub verdict_returns_A : comes_back start a of_b ≡ true → verdict_of start of_a of_b a b ≡ judgement (Err (refused_at ReturnsToA start)) a b
    unfolding verdict_of
    verdict_returns_A back = rw (eq-eqb (bit_and a b) 0 apart, back)

    module _ (away : comes_back start a of_b ≡ false) where
      pub verdict_returns_B : comes_back start b of_a ≡ true → verdict_of start of_a of_b a b ≡ judgement (Err (refused_at ReturnsToB start)) a b
      unfolding verdict_of
      verdict_returns_B back = rw (eq-eqb (bit_and a b) 0 apart, away, back)

      pub verdict_accepted : comes_back start b of_a ≡ false → verdict_of start of_a of_b a b ≡ judgement (Ok tt) a b
      unfolding verdict_of
      verdict_accepted off = rw (eq-eqb (bit_and a b) 0 apart, away, off)

-- The answer and the area, for a refusal that leaves the area alone and past those.
module _ (table : List ℕ) (states operations : ℕ) (c : Certificate) (room : ℕ) where
  pub judged_refused : (refusal : Refusal) → fault_of table states operations c room ≡ Err refusal
      → judged_of table states operations c room ≡ judgement (Err refusal) 0 0
  unfolding judged_of
  judged_refused refusal refused = rw refused

  pub judged_past : fault_of table states operations c room ≡ Ok tt
      → judged_of table states operations c room ≡ verdict_on c (set_by table states c 0) (set_by table states c 1)
  unfolding judged_of
  judged_past past = rw past

module _ (table : List ℕ) (states operations : ℕ) (c : Certificate) (area : List ℕ) where
  pub area_refused : (refusal : Refusal) → fault_of table states operations c (length area) ≡ Err refusal → area_of table states operations c area ≡ area
  unfolding area_of
  area_refused refusal refused = rw refused

  pub area_past : fault_of table states operations c (length area) ≡ Ok tt
      → area_of table states operations c area ≡ words_over table states c area
  unfolding area_of
  area_past past = rw past
