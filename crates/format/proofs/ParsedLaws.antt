-- A file read field by field, each place worked out from the fields before it, is judged as its plan says.
-- Assumes nothing.
use Rattle.std.specs.Prelude.{ℕ, ◌+◌, ◌*◌, ◌≡◌, refl, true, List, Bool, Result, Ok, Err}
use Rattle.std.proofs.Common.{arith, ap, ◌∙◌}
use Rattle.cell.specs.Limits.{Limits}
use Rattle.codes.specs.declared.Code.{Code}
use Rattle.codes.specs.Codes.{Refusal}
use Rattle.recording.specs.declared.Seat.{Seat}
use Rattle.xdr.specs.Field.{Field, word_at, within, field_at, and_then, end_at}
use Rattle.xdr.specs.FieldLaws.{judged_taken, field_taken, run_taken, then_taken}
use Rattle.xdr.specs.Opaque.{opaque_at}
use Rattle.xdr.proofs.OpaqueLaws.{opaque_taken}
use Rattle.format.specs.declared.Plan.{Plan}
use Rattle.format.specs.declared.Items.{Items}
use Rattle.format.specs.declared.Items.TheVariants.{Entries, Looms, Acts}
use Rattle.format.specs.Layout.{past_part, plan_of}
use Rattle.format.specs.Format.{width_of, run_of, seats_at, sides_at, head_of, certificate_of, number_at, printing, label_at, pieces_of, schedule_of, judged_by, verdict_of, with_plan, parsed_of}

-- What comes of a field's value, or its refusal.
abbrev pub bind : Field → (ℕ → Result Plan Refusal) → Result Plan Refusal
bind (Ok v) rest = rest v
bind (Err e) rest = Err e

-- The fields one after the other, as the function `parsed` reads them.
abbrev pub parsed : Limits → List ℕ → Result Plan Refusal
parsed L s =
    bind (field_at (within 1 (L.states + 1)) Code.States s 0) (λ states.
    bind (field_at (within 1 (L.operations + 1)) Code.Operations s 4) (λ operations.
    bind (field_at (within (states * operations) (states * operations + 1)) Code.TableLength s 8) (λ entries.
    bind (run_of (Entries states) s entries 12) (λ start.
    bind (field_at (within 0 states) Code.Start s start) (λ first_state.
    bind (field_at (within 2 (L.looms + 1)) Code.Looms s (start + 4)) (λ looms.
    bind (run_of (Looms operations) s looms (start + 8)) (λ numbers.
    bind (sides_at (seats_at s looms (start + 8)) (start + 4)) (λ sides.
    bind (number_at s numbers) (λ number_A.
    bind (number_at s (numbers + 4)) (λ number_B.
    bind (label_at L s (numbers + 8)) (λ rest.
    bind (label_at L s rest) (λ schedule.
    bind (field_at (within 0 (L.entries + 1)) Code.Schedule s schedule) (λ acts.
    bind (run_of (Acts looms) s acts (schedule + 4)) (λ end.
    bind (end_at Code.ExtraBytes s end) (λ last.
    Ok (record {
      states = states;
      operations = operations;
      entries = entries;
      start = start;
      looms = looms;
      numbers = numbers;
      first = word_at s (numbers + 8);
      rest = rest;
      second = word_at s rest;
      schedule = schedule;
      acts = acts;
    }))))))))))))))))

-- What is known of a value that is taken: a field's is its word; a run, and a label, give what follows them.
abbrev Gives : Field → ℕ → Type 0
Gives f u = (v : ℕ) → f ≡ Ok v → v ≡ u

field_gives : (ok : ℕ → Bool) (code : Code) (s : List ℕ) (p : ℕ) → Gives (field_at ok code s p) (word_at s p)
field_gives ok code s p v h = (field_taken Code.FileEnds ok code s p v h).value

run_gives : (k : Items) (s : List ℕ) (n p : ℕ) → Gives (run_of k s n p) (p + n * width_of k)
run_gives k s n p v h = (run_taken _ (width_of k) n p v h).1

label_gives : (L : Limits) (s : List ℕ) (p : ℕ) → Gives (label_at L s p) (past_part p (word_at s p))
unfolding label_at
label_gives L s p v h =
    let both = then_taken (field_at (within 0 (L.label + 1)) Code.Label s p) (opaque_at printing Code.Label s (word_at s p) (p + 4)) v h in
    let end = opaque_taken Code.FileEnds printing Code.Label s (word_at s p) (p + 4) v both.1 in
    omega (arith, end.value)

sides_give : (seats : List Seat) (p : ℕ) → Gives (sides_at seats p) p
unfolding sides_at
sides_give seats p v h = (judged_taken Code.FileEnds true _ p Code.LacksSide p v h).value

-- A field in the middle of a part, the last of a part, and the last of all.
inside : (P : Plan) (f : Field) (u : ℕ) (rest : ℕ → Result Plan Refusal) (g h : Field) → Gives f u → rest u ≡ with_plan P (and_then g h)
    → bind f rest ≡ with_plan P (and_then (and_then f g) h)
inside P (Ok v) u rest g h gives e = ap rest (gives v refl) ∙ e
inside P (Err e) u rest g h gives _ = refl

at_end : (P : Plan) (f : Field) (u : ℕ) (rest : ℕ → Result Plan Refusal) (h : Field) → Gives f u → rest u ≡ with_plan P h
    → bind f rest ≡ with_plan P (and_then f h)
at_end P (Ok v) u rest h gives e = ap rest (gives v refl) ∙ e
at_end P (Err e) u rest h gives _ = refl

last_of_all : (P : Plan) (f : Field) → bind f (λ v. Ok P) ≡ with_plan P f
last_of_all P (Ok v) = refl
last_of_all P (Err e) = refl

pub parsed_is : (L : Limits) (s : List ℕ) → parsed L s ≡ parsed_of L s
unfolding plan_of verdict_of judged_by head_of certificate_of pieces_of schedule_of
parsed_is L s = head
  where
    P : Plan
    P = plan_of s

    schedule : bind (field_at (within 0 (L.entries + 1)) Code.Schedule s P.schedule) (λ acts.
        bind (run_of (Acts P.looms) s acts (P.schedule + 4)) (λ end.
        bind (end_at Code.ExtraBytes s end) (λ last. Ok (record {
          states = P.states;
          operations = P.operations;
          entries = P.entries;
          start = P.start;
          looms = P.looms;
          numbers = P.numbers;
          first = P.first;
          rest = P.rest;
          second = P.second;
          schedule = P.schedule;
          acts = acts;
        })))) ≡ with_plan P (schedule_of L s P)
    schedule =
        at_end P _ P.acts _ _ (field_gives _ _ s P.schedule)
        (at_end P _ (P.schedule + 4 + 4 * P.acts) _ _ (λ v h. run_gives (Acts P.looms) s P.acts (P.schedule + 4) v h ∙ omega arith)
        (last_of_all P _))

    head : parsed L s ≡ parsed_of L s
    head =
        inside P _ P.states _ _ _ (field_gives _ _ s 0)
        (inside P _ P.operations _ _ _ (field_gives _ _ s 4)
        (inside P _ P.entries _ _ _ (field_gives _ _ s 8)
        (at_end P _ P.start _ _ (λ v h. run_gives (Entries P.states) s P.entries 12 v h ∙ omega arith)
        (inside P _ (word_at s P.start) _ _ _ (field_gives _ _ s P.start)
        (inside P _ P.looms _ _ _ (field_gives _ _ s (P.start + 4))
        (inside P _ P.numbers _ _ _ (λ v h. run_gives (Looms P.operations) s P.looms (P.start + 8) v h ∙ omega arith)
        (at_end P _ (P.start + 4) _ _ (sides_give _ _)
        (inside P _ (word_at s P.numbers) _ _ _ (field_gives _ _ s P.numbers)
        (inside P _ (word_at s (P.numbers + 4)) _ _ _ (field_gives _ _ s (P.numbers + 4))
        (inside P _ P.rest _ _ _ (label_gives L s (P.numbers + 8))
        (at_end P _ P.schedule _ _ (label_gives L s P.rest)
        schedule)))))))))))
