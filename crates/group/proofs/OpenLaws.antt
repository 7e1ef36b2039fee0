-- Laws of an opening: one for each way that it ends, and what an opened group is.
-- Assumes nothing.
use Rattle.std.specs.Prelude.{ℕ, zero, suc, ◌+◌, ◌<◌, ◌≤◌, ◌≡◌, refl, List, [], ◌∷◌, length, get_or, set, replicate, Result, Ok, Err}
use Rattle.std.proofs.Common.{arith, add-one, not-suc-le-zero, le_of_suc-le-suc, sym, ap, subst, ◌∙◌, get_or-take}
use borrow.Author.Tests.{eq-eqb, ne_eqb}
use Rattle.codes.specs.declared.Code.{Code}
use Rattle.codes.specs.declared.Code.TheVariants.{PieceNumber}
use Rattle.codes.specs.Codes.{Refusal}
use Rattle.sides.specs.declared.Pair.{Pair}
use Rattle.cell.specs.Limits.{edition}
use Rattle.recording.specs.declared.Seat.{Seat}
use Rattle.recording.specs.declared.Certificate.{Certificate}
use Rattle.recording.specs.Recording.{empty_seat}
use Rattle.recording.specs.declared.Judged.{Judged}
use Rattle.recording.specs.Check.{Judges, looms_of, first_misfit, judged_of}
use Rattle.recording.proofs.AcceptedLaws.{past_faults}
use Rattle.recording.specs.CheckLaws.{as_many}
use Rattle.recording.specs.AdmittedLaws.{Admitted, admitted, all_fitted}
use Rattle.group.specs.declared.Group.{Group}
use Rattle.group.specs.Group.{empty_loom}
use Rattle.group.specs.Open.{loom_of, slots_of, fresh_group, unopened, opened_by, Held, OpensTo}

-- Slots with no loom are all empty.
pub slots_empty : (seats : List Seat) → slots_of 0 seats ≡ replicate (length seats) empty_loom
unfolding slots_of
slots_empty [] = refl
slots_empty (seat ∷ seats) = ap (λ ls. empty_loom ∷ ls) (slots_empty seats)

-- One loom more fills the next slot.
pub slots_next : (seats : List Seat) (i : ℕ) → i < length seats →
    set (slots_of i seats) i (loom_of (get_or seats i empty_seat)) ≡ slots_of (i + 1) seats
unfolding slots_of
slots_next seats i h = rw add-one (go seats i h)
  where
    go : (seats : List Seat) (i : ℕ) → i < length seats →
        set (slots_of i seats) i (loom_of (get_or seats i empty_seat)) ≡ slots_of (suc i) seats
    go [] i h = absurd (not-suc-le-zero h)
    go (seat ∷ seats) zero h = refl
    go (seat ∷ seats) (suc i) h = ap (λ ls. loom_of seat ∷ ls) (go seats i (le_of_suc-le-suc h))

-- There are as many slots as seats.
pub slots_length : (n : ℕ) (seats : List Seat) → length (slots_of n seats) ≡ length seats
unfolding slots_of
slots_length n [] = refl
slots_length zero (seat ∷ seats) = ap suc (slots_length zero seats)
slots_length (suc n) (seat ∷ seats) = ap suc (slots_length n seats)

-- Loom k of an opened group is that of seat k, at begin with count 0.
pub slot_of_seat : (n : ℕ) (seats : List Seat) (k : ℕ) → k < n → k < length seats →
    get_or (slots_of n seats) k empty_loom ≡ loom_of (get_or seats k empty_seat)
unfolding slots_of
slot_of_seat n [] k below h = absurd (not-suc-le-zero h)
slot_of_seat zero (seat ∷ seats) k below h = absurd (not-suc-le-zero below)
slot_of_seat (suc n) (seat ∷ seats) zero below h = refl
slot_of_seat (suc n) (seat ∷ seats) (suc k) below h = slot_of_seat n seats k (le_of_suc-le-suc below) (le_of_suc-le-suc h)

-- A slot beyond the looms is empty.
pub slot_beyond : (n : ℕ) (seats : List Seat) (k : ℕ) → n ≤ k → get_or (slots_of n seats) k empty_loom ≡ empty_loom
unfolding slots_of
slot_beyond n [] k past = refl
slot_beyond zero (seat ∷ seats) zero past = refl
slot_beyond zero (seat ∷ seats) (suc k) past = slot_beyond zero seats k (omega arith)
slot_beyond (suc n) (seat ∷ seats) zero past = absurd (not-suc-le-zero past)
slot_beyond (suc n) (seat ∷ seats) (suc k) past = slot_beyond n seats k (le_of_suc-le-suc past)

-- An opening, one law for each way that it ends.
module _ (j : Judged) (c : Certificate) (numbers : Pair ℕ) where
  pub open_judged : (refusal : Refusal) → j.outcome ≡ Err refusal → unopened refusal.code ≡ opened_by j c numbers
  unfolding opened_by
  open_judged refusal h = simp h

  module _ (accepted : j.outcome ≡ Ok tt) where
    pub open_no_a : numbers.a ≡ 0 → unopened PieceNumber ≡ opened_by j c numbers
    unfolding opened_by
    open_no_a h = simp (accepted, eq-eqb _ _ h)

    module _ (some : numbers.a ≡ 0 → ⊥) where
      pub open_no_b : numbers.b ≡ 0 → unopened PieceNumber ≡ opened_by j c numbers
      unfolding opened_by
      open_no_b h = simp (accepted, ne_eqb _ _ some, eq-eqb _ _ h)

      pub open_taken : (numbers.b ≡ 0 → ⊥) → Ok (fresh_group c j.sets numbers) ≡ opened_by j c numbers
      unfolding opened_by
      open_taken h = simp (accepted, ne_eqb _ _ some, ne_eqb _ _ h)

-- A check that accepts: past all refusals, so that start and operations fit in a byte.
module _ (table : List ℕ) (states operations : ℕ) (c : Certificate) (room : ℕ) where
  pub accepted_admitted : (judged_of table states operations c room).outcome ≡ Ok tt → Admitted table states operations c room
  accepted_admitted h = admitted table states operations c room (past_faults table states operations c room h)

  pub accepted_held : length c.seats ≡ edition.looms → (judged_of table states operations c room).outcome ≡ Ok tt → Held c
  accepted_held eight h =
      record {
        few = ok.few;
        start_held = omega (arith, ok.start_fits, ok.form.few_states);
        operation_held = λ k below. omega (arith, fits k below, ok.form.few_operations);
      }
    where
      ok : Admitted table states operations c room
      ok = accepted_admitted h

      counted : length (looms_of c) ≡ c.count
      counted = as_many c.seats c.count (omega (arith, ok.few))

      fits : (k : ℕ) → k < c.count → (get_or c.seats k empty_seat).operation < operations
      fits k below =
          subst (λ (seat : Seat). seat.operation < operations) (get_or-take c.count c.seats k empty_seat below)
          (all_fitted operations (looms_of c) (subst (λ n. n ≤ first_misfit operations (looms_of c)) (sym counted) ok.fitted) k
          (omega (arith, counted))).1

-- What an opening leaves, from what the check leaves and its answer j.
pub opens_by : (table : List ℕ) (states operations : ℕ) (c : Certificate) (numbers : Pair ℕ) (area after : List ℕ) (j : Judged) (answer : Result Group Code) →
    Judges table states operations c area j after → answer ≡ opened_by j c numbers → OpensTo table states operations c numbers area answer after
opens_by table states operations c numbers area after j answer judges is =
    record { answer_is = is ∙ ap (λ x. opened_by x c numbers) judges.answer_is; area_is = judges.area_is }
