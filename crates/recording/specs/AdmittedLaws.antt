-- Past 2 to 9 and 40: what no refusal says of a table, a certificate and an area's length.
-- Assumes nothing.
use Rattle.std.specs.Prelude.{ℕ, zero, suc, ◌≤◌, ◌<◌, ◌≡◌, refl, Bool, true, false, cond, ◌||◌, Ok, Err, List, [], ◌∷◌, leb, ltb, length}
use Rattle.std.proofs.Common.{sym, subst, ◌∙◌, le_of_suc-le-suc, not-suc-le-zero, arith, leb-false, ltb-false, length-take}
use Rattle.std.proofs.Math.Decide.{dec_le}
use Rattle.codes.specs.Codes.{Refusal, Verdict}
use Rattle.cell.specs.Limits.{edition}
use Rattle.cell.specs.Table.{entry_of, form_of}
use Rattle.cell.specs.TableLaws.{HasForm, form_says, good_moves}
use Rattle.recording.specs.declared.Certificate.{Certificate}
use Rattle.recording.specs.declared.Seat.{Seat}
use Rattle.recording.specs.Check.{looms_of, misfit_of, first_misfit, room_for, looms_fault, fault_of}
use Rattle.recording.specs.CheckLaws.{fault_few, fault_many, fault_misfit, fault_no_A, fault_no_B, fault_room, fault_form, fault_start, fault_looms}
use Rattle.recording.specs.Fitting.{Fitting}
use Rattle.recording.specs.Recording.{side_at, operation_at, side_count}
use Rattle.recording.specs.WordsLaws.{Closed}

-- Where the first misfit is past the looms, every loom has side 0 or 1 and a fitted operation.
pub all_fitted : (operations : ℕ) (looms : List Seat) → length looms ≤ first_misfit operations looms → (k : ℕ) → k < length looms
    → (side_at looms k ≤ 1) × (operation_at looms k < operations)
unfolding first_misfit
all_fitted operations [] none k within = absurd (not-suc-le-zero within)
all_fitted operations (l ∷ ls) none k within =
    go (all_fitted operations ls) (ltb 1 l.side) refl (leb operations l.operation) refl none k within
  where
    go : (length ls ≤ first_misfit operations ls → (k : ℕ) → k < length ls → (side_at ls k ≤ 1) × (operation_at ls k < operations))
        → (s : Bool) → ltb 1 l.side ≡ s → (o : Bool) → leb operations l.operation ≡ o
        → suc (length ls) ≤ cond (s || o) 0 (suc (first_misfit operations ls))
        → (k : ℕ) → k < suc (length ls) → (side_at (l ∷ ls) k ≤ 1) × (operation_at (l ∷ ls) k < operations)
    go rest true e o f none k within = absurd (not-suc-le-zero none)
    go rest false e true f none k within = absurd (not-suc-le-zero none)
    go rest false e false f none zero within = (ltb-false 1 l.side e, leb-false operations l.operation f)
    go rest false e false f none (suc k) within = rest (le_of_suc-le-suc none) k (le_of_suc-le-suc within)

-- The first misfit is a loom, or their number.
misfit_at_most : (operations : ℕ) (looms : List Seat) → first_misfit operations looms ≤ length looms
unfolding first_misfit
misfit_at_most operations [] = omega arith
misfit_at_most operations (l ∷ ls) = go (misfit_of operations l) (misfit_at_most operations ls)
  where
    go : (b : Bool) → first_misfit operations ls ≤ length ls → cond b 0 (suc (first_misfit operations ls)) ≤ suc (length ls)
    go true rest = omega arith
    go false rest = omega arith

-- What is known past 2 to 9 and 40.
pub record Admitted (table : List ℕ) (states operations : ℕ) (c : Certificate) (room : ℕ) : Type 0 where
  pub form : HasForm table states operations
  pub start_fits : c.start < states
  pub several : 2 ≤ c.count
  pub few : c.count ≤ edition.looms
  pub fitted : c.count ≤ first_misfit operations (looms_of c)
  pub some_A : 1 ≤ side_count 0 (looms_of c)
  pub some_B : 1 ≤ side_count 1 (looms_of c)
  pub enough : room_for c.count ≤ room

module _ (table : List ℕ) (states operations : ℕ) (c : Certificate) (room : ℕ) where
  -- no refusal, and what one of the refusals is: a contradiction
  looms_admitted : looms_fault operations c room ≡ Ok tt → form_of table states operations ≡ Ok tt → c.start < states
      → Admitted table states operations c room
  looms_admitted none form start_fits =
      record {
        form = form_says table states operations form;
        start_fits = start_fits;
        several = several;
        few = few;
        fitted = fitted;
        some_A = some_A;
        some_B = some_B;
        enough = enough;
      }
    where
      not_refused : {refusal : Refusal} → looms_fault operations c room ≡ Err refusal → ⊥
      not_refused e = cc

      several : 2 ≤ c.count
      several = elim (dec_le 2 c.count) [ yes h ↦ h | no h ↦ absurd (not_refused (fault_few operations c room (omega arith))) ]

      few : c.count ≤ edition.looms
      few = elim (dec_le c.count edition.looms) [ yes h ↦ h | no h ↦ absurd (not_refused (fault_many operations c room several (omega arith))) ]

      fitted : c.count ≤ first_misfit operations (looms_of c)
      fitted = elim (dec_le c.count (first_misfit operations (looms_of c))) [ yes h ↦ h | no h ↦ absurd (not_refused (fault_misfit operations c room several few (omega arith))) ]

      some_A : 1 ≤ side_count 0 (looms_of c)
      some_A = elim (dec_le 1 (side_count 0 (looms_of c))) [ yes h ↦ h | no h ↦ absurd (not_refused (fault_no_A operations c room several few fitted (omega arith))) ]

      some_B : 1 ≤ side_count 1 (looms_of c)
      some_B = elim (dec_le 1 (side_count 1 (looms_of c))) [ yes h ↦ h | no h ↦ absurd (not_refused (fault_no_B operations c room several few fitted (λ e. omega (arith, some_A)) (omega arith))) ]

      enough : room_for c.count ≤ room
      enough = elim (dec_le (room_for c.count) room) [ yes h ↦ h | no h ↦ absurd (not_refused (fault_room operations c room several few fitted (λ e. omega (arith, some_A)) (λ e. omega (arith, some_B)) (omega arith))) ]

  pub admitted : fault_of table states operations c room ≡ Ok tt → Admitted table states operations c room
  admitted none = go (form_of table states operations) refl
    where
      from : form_of table states operations ≡ Ok tt → Admitted table states operations c room
      from form =
          elim (dec_le states c.start) [
            | yes h ↦ absurd (cc (fault_start table states operations c room form h))
            | no h ↦ looms_admitted (sym (fault_looms table states operations c room form (omega arith)) ∙ none) form (omega arith)
          ]

      go : (form : Verdict) → form_of table states operations ≡ form → Admitted table states operations c room
      go (Ok done) e = from e
      go (Err refusal) e = absurd (cc (fault_form table states operations c room refusal e))

  -- The looms are as many as the count says, and their steps are as the code and the theorems need them.
  module _ (ok : Admitted table states operations c room) where
    pub counted : length (looms_of c) ≡ c.count
    counted = omega (arith, ok.fitted, misfit_at_most operations (looms_of c), length-take c.count c.seats)

    operation_fits : (k : ℕ) → k < c.count → operation_at (looms_of c) k < operations
    operation_fits k within =
        (all_fitted operations (looms_of c) (subst (λ (n : ℕ). n ≤ first_misfit operations (looms_of c)) (sym counted) ok.fitted) k (omega (arith, counted))).1

    pub fitting : Fitting table states (looms_of c) c.start
    fitting =
        record {
          start_fits = ok.start_fits;
          few_looms = omega (arith, ok.few, counted);
          steps = λ k within.
              record {
                few = ok.form.few_states;
                leads = λ q state. (good_moves table states operations ok.form (operation_at (looms_of c) k) q (operation_fits k (omega (arith, counted))) state).0;
                found = λ q state. (good_moves table states operations ok.form (operation_at (looms_of c) k) q (operation_fits k (omega (arith, counted))) state).1;
              };
        }

    pub closed : Closed (entry_of table states) (looms_of c) states c.start
    closed =
        record {
          start_fits = ok.start_fits;
          steps_fit = λ k q within state. (fitting.steps k within).leads q state;
        }
