-- A file is taken exactly where each of its fields is; and what is known of a file that is taken.
-- Assumes nothing.
use Rattle.std.specs.Prelude.{ℕ, ◌+◌, ◌*◌, ◌^◌, ◌≤◌, ◌<◌, ◌≡◌, refl, Bool, true, false, ◌||◌, List, ◌⊎◌, ltb, leb, eqb, length, get_or, Ok, Err}
use Rattle.std.proofs.Common.{mul-le-mul, arith, sym, ap, ◌∙◌, subst, inl, inr, ⊎_elim, ltb-true, eqb-true}
use Rattle.cell.specs.Limits.{Limits, edition, first_restart, entry_of_all}
use Rattle.codes.specs.declared.Code.{Code}
use Rattle.xdr.specs.Field.{Field, word_at, within, field_at, field_with, Passed, end_at, end_with}
use Rattle.xdr.specs.FieldLaws.{word_small, judged_taken, then_taken, then_both, then_passes, within_taken, field_taken, run_taken, end_taken}
use Rattle.xdr.specs.Opaque.{pad_of}
use Rattle.format.specs.declared.Plan.{Plan}
use Rattle.format.specs.declared.Items.TheVariants.{Entries, Looms, Acts}
use Rattle.format.specs.Layout.{plan_of, Small}
use Rattle.format.specs.Format.{exactly, names_act, item_at, run_of, seats_at, sides_at, head_of, certificate_of, number_at, label_at, pieces_of, schedule_of, judged_by, verdict_of, with_plan, parsed_of, judgement_of}

-- Each field of a file passes, in file order.
pub record Passes (L : Limits) (s : List ℕ) (P : Plan) : Type 0 where
  pub states : Passed (field_at (within 1 (L.states + 1)) Code.States s 0)
  pub operations : Passed (field_at (within 1 (L.operations + 1)) Code.Operations s 4)
  pub size : Passed (field_at (exactly (word_at s 0 * word_at s 4)) Code.TableLength s 8)
  pub entries : Passed (run_of (Entries (word_at s 0)) s (word_at s 8) 12)
  pub start : Passed (field_at (within 0 P.states) Code.Start s P.start)
  pub count : Passed (field_at (within 2 (L.looms + 1)) Code.Looms s (P.start + 4))
  pub looms : Passed (run_of (Looms P.operations) s P.looms (P.start + 8))
  pub sides : Passed (sides_at (seats_at s P.looms (P.start + 8)) (P.start + 4))
  pub number_A : Passed (number_at s P.numbers)
  pub number_B : Passed (number_at s (P.numbers + 4))
  pub label_A : Passed (label_at L s (P.numbers + 8))
  pub label_B : Passed (label_at L s P.rest)
  pub schedule : Passed (field_at (within 0 (L.entries + 1)) Code.Schedule s P.schedule)
  pub acts : Passed (run_of (Acts P.looms) s P.acts (P.schedule + 4))
  pub end : Passed (end_at Code.ExtraBytes s (P.schedule + 4 + 4 * P.acts))

module _ (L : Limits) (s : List ℕ) (P : Plan) where
  pub file_taken : Passed (judged_by L s P) → Passes L s P
  unfolding judged_by head_of certificate_of pieces_of schedule_of
  file_taken h =
      let parts = then_both (head_of L s) _ h in
      let parts₂ = then_both (certificate_of L s P) _ parts.1 in
      let parts₃ = then_both (pieces_of L s P) _ parts₂.1 in
      let states = then_both (field_at (within 1 (L.states + 1)) Code.States s 0) _ parts.0 in
      let operations = then_both (field_at (within 1 (L.operations + 1)) Code.Operations s 4) _ states.1 in
      let size = then_both (field_at (exactly (word_at s 0 * word_at s 4)) Code.TableLength s 8) _ operations.1 in
      let start = then_both (field_at (within 0 P.states) Code.Start s P.start) _ parts₂.0 in
      let count = then_both (field_at (within 2 (L.looms + 1)) Code.Looms s (P.start + 4)) _ start.1 in
      let looms = then_both (run_of (Looms P.operations) s P.looms (P.start + 8)) _ count.1 in
      let number_A = then_both (number_at s P.numbers) _ parts₃.0 in
      let number_B = then_both (number_at s (P.numbers + 4)) _ number_A.1 in
      let labels = then_both (label_at L s (P.numbers + 8)) _ number_B.1 in
      let schedule = then_both (field_at (within 0 (L.entries + 1)) Code.Schedule s P.schedule) _ parts₃.1 in
      let acts = then_both (run_of (Acts P.looms) s P.acts (P.schedule + 4)) _ schedule.1 in
      record {
        states = states.0;
        operations = operations.0;
        size = size.0;
        entries = size.1;
        start = start.0;
        count = count.0;
        looms = looms.0;
        sides = looms.1;
        number_A = number_A.0;
        number_B = number_B.0;
        label_A = labels.0;
        label_B = labels.1;
        schedule = schedule.0;
        acts = acts.0;
        end = acts.1;
      }

  pub file_takes : Passes L s P → Passed (judged_by L s P)
  unfolding judged_by head_of certificate_of pieces_of schedule_of
  file_takes h =
      let head = then_passes _ _ h.states (then_passes _ _ h.operations (then_passes _ _ h.size h.entries)) in
      let certificate = then_passes _ _ h.start (then_passes _ _ h.count (then_passes _ _ h.looms h.sides)) in
      let pieces = then_passes _ _ h.number_A (then_passes _ _ h.number_B (then_passes _ _ h.label_A h.label_B)) in
      then_passes _ _ head (then_passes _ _ certificate (then_passes _ _ pieces (then_passes _ _ h.schedule (then_passes _ _ h.acts h.end))))

-- What the limits say of a field that passes.
pub limits : {C : Type 0} (ends : C) (low end : ℕ) (code : C) (s : List ℕ) (p : ℕ) → Passed (field_with ends (within low end) code s p) → (low ≤ word_at s p) × (word_at s p < end)
limits ends low end code s p (v, h) = within_taken low end (word_at s p) (field_taken ends (within low end) code s p v h).good

-- one of two tests that hold together by either
either_cases : (a b : Bool) → a || b ≡ true → (a ≡ true) ⊎ (b ≡ true)
either_cases true b h = inl refl
either_cases false b h = inr h

-- An entry that names an act is below 33 and the looms.
pub act_below : (looms v : ℕ) → names_act looms v ≡ true → v < 33 + looms
unfolding names_act
act_below looms v h =
    ⊎_elim (λ (a : ltb v looms ≡ true). omega (arith, ltb-true v looms a))
    (λ (b : within first_restart (first_restart + looms) v || eqb v entry_of_all ≡ true).
    ⊎_elim (λ (c : within first_restart (first_restart + looms) v ≡ true). omega (arith, (within_taken first_restart (first_restart + looms) v c).1))
    (λ (d : eqb v entry_of_all ≡ true). omega (arith, eqb-true v entry_of_all d)) (either_cases _ _ b))
    (either_cases (ltb v looms) _ h)

-- What the limits say of the plan of a file that is taken.
pub record Bounds (L : Limits) (s : List ℕ) (P : Plan) : Type 0 where
  pub states : P.states ≤ L.states
  pub size : P.entries ≤ L.states * L.operations
  pub entries : (j : ℕ) → j < P.entries → word_at s (12 + j * 4) < P.states
  pub looms : P.looms ≤ L.looms
  pub first : P.first ≤ L.label
  pub second : P.second ≤ L.label
  pub count : P.acts ≤ L.entries
  pub acts : (j : ℕ) → j < P.acts → word_at s (P.schedule + 4 + j * 4) < 33 + P.looms
  pub end : length s ≤ P.schedule + 4 + 4 * P.acts

pub bounds : (L : Limits) (s : List ℕ) → Passes L s (plan_of s) → Bounds L s (plan_of s)
unfolding plan_of item_at label_at
bounds L s h =
    let states = limits _ _ _ _ s 0 h.states in
    let operations = limits _ _ _ _ s 4 h.operations in
    let size = limits _ _ _ _ s 8 h.size in
    let P = plan_of s in
    let count = limits _ _ _ _ s (P.start + 4) h.count in
    let first = limits _ _ _ _ s (P.numbers + 8) (then_both (field_at (within 0 (L.label + 1)) Code.Label s (P.numbers + 8)) _ h.label_A).0 in
    let second = limits _ _ _ _ s P.rest (then_both (field_at (within 0 (L.label + 1)) Code.Label s P.rest) _ h.label_B).0 in
    let schedule = limits _ _ _ _ s P.schedule h.schedule in
    let states_limit : word_at s 0 ≤ L.states = omega arith in
    let operations_limit : word_at s 4 ≤ L.operations = omega arith in
    let entries = (run_taken _ _ _ _ _ h.entries.1).0 in
    let acts = (run_taken _ _ _ _ _ h.acts.1).0 in
    record {
      states = states_limit;
      size = omega (arith, mul-le-mul states_limit operations_limit);
      entries = λ j l. (limits _ _ _ _ s (12 + j * 4) (entries j l)).1;
      looms = omega arith;
      first = omega arith;
      second = omega arith;
      count = omega arith;
      acts = λ j l. let act = acts j l in act_below P.looms _ (field_taken Code.FileEnds (names_act P.looms) Code.Act s (P.schedule + 4 + j * 4) act.0 act.1).good;
      end = end_taken Code.ExtraBytes s _ _ h.end.1;
    }

pub verdict_bounds : (L : Limits) (s : List ℕ) → Passed (verdict_of L s) → Bounds L s (plan_of s)
unfolding verdict_of
verdict_bounds L s h = bounds L s (file_taken L s (plan_of s) h)

-- The verdict on a file that is taken is the place where its schedule ends.
pub verdict_end : (L : Limits) (s : List ℕ) (v : ℕ) → verdict_of L s ≡ Ok v → v ≡ (plan_of s).schedule + 4 + 4 * (plan_of s).acts
unfolding verdict_of judged_by schedule_of end_with
verdict_end L s v h =
    let pieces = (then_taken (certificate_of L s (plan_of s)) _ v (then_taken (head_of L s) _ v h).1).1 in
    let acts = (then_taken _ _ v (then_taken (pieces_of L s (plan_of s)) _ v pieces).1).1 in
    let end = (then_taken _ _ v acts).1 in
    (judged_taken Code.ExtraBytes true (leb (length s) _) _ Code.ExtraBytes _ v end).value

-- The places and counts of a file that is taken are far below the largest position.
pub verdict_small : (s : List ℕ) → Passed (verdict_of edition s) → Small (plan_of s)
unfolding plan_of pad_of
verdict_small s h =
    let B = verdict_bounds edition s h in
    record { start = omega (arith, B.size); looms = omega (arith, B.looms); numbers = omega (arith, B.size, B.looms); rest = omega (arith, B.size, B.looms, B.first); schedule = omega (arith, B.size, B.looms, B.first, B.second); acts = omega (arith, B.count) }

-- So are those of any file's plan, a refused one's too, for each word is below 2 ^ 32.
pub plan_small : (s : List ℕ) → ((i : ℕ) → get_or s i 0 < 256) → Small (plan_of s)
unfolding plan_of pad_of
plan_small s bytes =
    let P = plan_of s in
    let word : (p : ℕ) → word_at s p < 2 ^ 32 = λ p. word_small s p bytes in
    let entries = word 8 in
    let looms = word (P.start + 4) in
    let first = word (P.numbers + 8) in
    record { start = omega arith; looms = looms; numbers = omega arith; rest = omega arith; schedule = omega (arith, word P.rest); acts = word P.schedule }

-- And so are those of a plan that is given.
pub judged_small : (s : List ℕ) (P : Plan) → Ok P ≡ parsed_of edition s → Small P
judged_small s P given = by (verdict_of edition s) refl given
  where
    by : (f : Field) → verdict_of edition s ≡ f → Ok P ≡ with_plan (plan_of s) f → Small P
    by (Ok v) e h = let same : P ≡ plan_of s = cc in subst Small (sym same) (verdict_small s (v, e))
    by (Err r) e h = cc

-- The judgement of a file that is taken, from its plan.
pub judgement_taken : (L : Limits) (s : List ℕ) (P : Plan) → Ok P ≡ parsed_of L s → record { verdict = Ok (P.schedule + 4 + 4 * P.acts); plan = P } ≡ judgement_of L s
judgement_taken L s P given = by (verdict_of L s) refl given
  where
    by : (f : Field) → verdict_of L s ≡ f → Ok P ≡ with_plan (plan_of s) f → record { verdict = Ok (P.schedule + 4 + 4 * P.acts); plan = P } ≡ judgement_of L s
    by (Ok v) e h =
        let same : P ≡ plan_of s = cc in
        let verdict : Ok (P.schedule + 4 + 4 * P.acts) ≡ verdict_of L s =
        ap (λ (Q : Plan). Ok (Q.schedule + 4 + 4 * Q.acts)) same ∙ ap Ok (sym (verdict_end L s v e)) ∙ sym e in
        λ i. record { verdict = verdict i; plan = same i }
    by (Err r) e h = cc
