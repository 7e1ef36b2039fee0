-- Past 2 to 9 and 40: what the check's codes, places and sets say, each by itself.
-- Assumes nothing.
use Rattle.std.specs.Prelude.{ℕ, ◌^◌, ◌<◌, ◌≡◌, ◌↔◌, ◌⊎◌, Ok, Err, List}
use Rattle.std.proofs.Common.{sym, ◌∙◌, lt_of_lt_of_le, pow_mono}
use Rattle.std.proofs.Math.Path.{refl, ap, subst}
use Rattle.std.proofs.Math.Logic.{inl, inr, ⊎_elim}
use Rattle.std.specs.Int.Bits.{bit_and}
use Rattle.codes.specs.declared.Code.TheVariants.{SharedState, ReturnsToA, ReturnsToB}
use Rattle.codes.specs.Codes as codes
use Rattle.codes.specs.Codes.{refused_at}
use Rattle.sets.specs.Sets.{bit, size_of, lowest_of, word_bits}
use Rattle.cell.specs.Table.{entry_of}
use Rattle.recording.specs.declared.Certificate.{Certificate}
use Rattle.recording.specs.declared.Judged.{Judged}
use Rattle.recording.specs.AdmittedLaws.{Admitted, admitted, closed}
use Rattle.recording.specs.Check.{looms_of, RefusedFor, fault_of, set_by, verdict_of, judged_of, check_of}
use Rattle.recording.specs.CheckLaws.{judged_refused, judged_past}
use Rattle.recording.specs.Clauses.{InSetOf, SharedFirst, NoneShared, ReturnsTo, RecordingOf}
use Rattle.recording.specs.Recording.{side_count}
use Rattle.recording.proofs.SetLaws.{set_members, set_below}
use Rattle.recording.proofs.VerdictLaws.{same_place, outcome_in, Verdict, Apart, Away, verdict_gives, verdict_says, says_shared, says_back_to_A, says_back_to_B, says_recorded, when_shared, when_back_to_A, when_back_to_B, when_recorded, lowest_shared}

module _ (table : List ℕ) (states operations : ℕ) (c : Certificate) (room : ℕ) (past : fault_of table states operations c room ≡ Ok tt) where
  -- ---- the sets
  ok : Admitted table states operations c room
  ok = admitted table states operations c room past

  -- The set of X that the check makes is Q_X.
  pub set_is_Q : (X q : ℕ) → (bit (set_by table states c X) q ≡ 1) ↔ InSetOf table states c X q
  set_is_Q X = set_members (entry_of table states) (looms_of c) states c.start X (closed table states operations c room ok)

  set_small : (X : ℕ) → set_by table states c X < 2 ^ word_bits
  set_small X =
      lt_of_lt_of_le
      (set_below (entry_of table states) (looms_of c) states c.start X (closed table states operations c room ok))
      (pow_mono ok.form.few_states)

  of_a : ℕ
  of_a = side_count 0 (looms_of c)

  of_b : ℕ
  of_b = side_count 1 (looms_of c)

  set_a : ℕ
  set_a = set_by table states c 0

  set_b : ℕ
  set_b = set_by table states c 1

  verdict : judged_of table states operations c room ≡ verdict_of c.start of_a of_b set_a set_b
  unfolding of_a of_b set_a set_b
  verdict = judged_past table states operations c room past

  -- The sets are given whatever the code, and the sizes are those of Q_A and of Q_B.
  pub sets_given : ((judged_of table states operations c room).sets.a ≡ set_by table states c 0) × ((judged_of table states operations c room).sets.b ≡ set_by table states c 1)
  unfolding set_a set_b
  sets_given =
      let gives = verdict_gives c.start of_a of_b set_a set_b in
      (ap (λ (j : Judged). j.sets.a) verdict ∙ gives.0, ap (λ (j : Judged). j.sets.b) verdict ∙ gives.1)

  pub sizes_given : ((check_of table states operations c room).sizes.a ≡ size_of word_bits (set_by table states c 0))
      × ((check_of table states operations c room).sizes.b ≡ size_of word_bits (set_by table states c 1))
  unfolding check_of
  sizes_given = (ap (size_of word_bits) sets_given.0, ap (size_of word_bits) sets_given.1)

  -- ---- the outcome
  says : Verdict c.start of_a of_b set_a set_b (judged_of table states operations c room).outcome
  unfolding set_a
  says = subst (Verdict c.start of_a of_b set_a set_b) (ap outcome_in (sym verdict)) (verdict_says c.start of_a of_b set_a set_b (set_small 0))

  apart : Apart set_a set_b ↔ NoneShared table states c
  unfolding set_a set_b
  apart = (
    λ none q in_a in_b. none q ((set_is_Q 0 q).1 in_a) ((set_is_Q 1 q).1 in_b),
    λ none q in_a in_b. none q ((set_is_Q 0 q).0 in_a) ((set_is_Q 1 q).0 in_b),
  )

  -- 20 exactly when the first clause fails; its place is the lowest state that both sets have.
  pub shared_refused : RefusedFor SharedState (check_of table states operations c room).outcome ↔ ((q : ℕ) × InSetOf table states c 0 q × InSetOf table states c 1 q)
  unfolding check_of set_a set_b
  shared_refused = (
    λ code. let shared = says_shared says code.1 in (shared.0, (set_is_Q 0 shared.0).0 shared.1, (set_is_Q 1 shared.0).0 shared.2),
    λ shared. (lowest_of word_bits (bit_and set_a set_b), ap outcome_in verdict ∙ ap outcome_in (when_shared c.start of_a of_b set_a set_b (shared.0, (set_is_Q 0 shared.0).1 shared.1, (set_is_Q 1 shared.0).1 shared.2))),
  )

  pub shared_place : (place : ℕ) → (check_of table states operations c room).outcome ≡ Err (refused_at SharedState place) → SharedFirst table states c place
  unfolding check_of set_a set_b
  shared_place place code =
      let shared = says_shared says code in
      let least = lowest_shared c.start of_a of_b set_a set_b (set_small 0) shared in
      let lowest : place ≡ lowest_of word_bits (bit_and set_a set_b) =
      same_place (sym code ∙ ap outcome_in (verdict ∙ when_shared c.start of_a of_b set_a set_b shared)) in
      subst (SharedFirst table states c) (sym lowest)
      (record {
        in_A = (set_is_Q 0 (lowest_of word_bits (bit_and set_a set_b))).0 least.0;
        in_B = (set_is_Q 1 (lowest_of word_bits (bit_and set_a set_b))).0 least.1;
        none_below = λ p below in_a in_b. least.2 p below ((set_is_Q 0 p).1 in_a) ((set_is_Q 1 p).1 in_b);
      })

  -- 21 exactly when the first clause holds and the second fails; its place is the start.
  pub returns_to_A : RefusedFor ReturnsToA (check_of table states operations c room).outcome ↔ (NoneShared table states c × ReturnsTo table states c 0 1)
  unfolding check_of of_b set_a set_b
  returns_to_A = (
    λ code. let found = says_back_to_A says code.1 in (apart.0 found.0, ((set_is_Q 0 c.start).0 found.1.0, found.1.1)),
    λ found. (c.start, ap outcome_in verdict ∙ ap outcome_in (when_back_to_A c.start of_a of_b set_a set_b (apart.1 found.0) ((set_is_Q 0 c.start).1 found.1.0, found.1.1))),
  )

  pub returns_to_A_place : (place : ℕ) → (check_of table states operations c room).outcome ≡ Err (refused_at ReturnsToA place) → place ≡ c.start
  unfolding check_of
  returns_to_A_place place code =
      let found = says_back_to_A says code in
      same_place (sym code ∙ ap outcome_in (verdict ∙ when_back_to_A c.start of_a of_b set_a set_b found.0 found.1))

  -- 22 exactly when the first clause holds and the third fails; its place is the start.
  pub returns_to_B : RefusedFor ReturnsToB (check_of table states operations c room).outcome ↔ (NoneShared table states c × ReturnsTo table states c 1 0)
  unfolding check_of of_a set_a set_b
  returns_to_B = (
    λ code. let found = says_back_to_B says code.1 in (apart.0 found.0, ((set_is_Q 1 c.start).0 found.1.0, found.1.1)),
    λ found. (
      c.start,
      ap outcome_in verdict
          ∙ ap outcome_in (when_back_to_B c.start of_a of_b set_a set_b (apart.1 found.0)
          (inl (λ in_a. found.0 c.start ((set_is_Q 0 c.start).0 in_a) found.1.0))
          ((set_is_Q 1 c.start).1 found.1.0, found.1.1)),
    ),
  )

  pub returns_to_B_place : (place : ℕ) → (check_of table states operations c room).outcome ≡ Err (refused_at ReturnsToB place) → place ≡ c.start
  unfolding check_of
  returns_to_B_place place code =
      let found = says_back_to_B says code in
      same_place (sym code ∙ ap outcome_in (verdict ∙ when_back_to_B c.start of_a of_b set_a set_b found.0 (inl (λ in_a. found.0 c.start in_a found.1.0)) found.1))

  -- Accepted exactly when recording.
  pub accepted : ((check_of table states operations c room).outcome ≡ Ok tt) ↔ RecordingOf table states c
  unfolding check_of of_a of_b set_a set_b
  accepted = (into, back)
    where
      clause : (X others : ℕ) → Away c.start (set_by table states c X) others ↔ ((InSetOf table states c X c.start → ⊥) ⊎ (others ≡ 1))
      clause X others = (
        ⊎_elim (λ out. inl (λ there. out ((set_is_Q X c.start).1 there))) inr,
        ⊎_elim (λ out. inl (λ there. out ((set_is_Q X c.start).0 there))) inr,
      )

      into : (judged_of table states operations c room).outcome ≡ Ok tt → RecordingOf table states c
      into code =
          let found = says_recorded says code in
          record {
            some_of_A = ok.some_A;
            some_of_B = ok.some_B;
            apart = apart.0 found.0;
            start_and_A = (clause 0 (side_count 1 (looms_of c))).0 found.1;
            start_and_B = (clause 1 (side_count 0 (looms_of c))).0 found.2;
          }

      back : RecordingOf table states c → (judged_of table states operations c room).outcome ≡ Ok tt
      back r =
          ap outcome_in verdict
          ∙ ap outcome_in (when_recorded c.start of_a of_b set_a set_b (apart.1 r.apart) ((clause 0 (side_count 1 (looms_of c))).1 r.start_and_A)
          ((clause 1 (side_count 0 (looms_of c))).1 r.start_and_B))

-- Code 0 is given past 2 to 9 and 40 alone.
pub past_faults : (table : List ℕ) (states operations : ℕ) (c : Certificate) (room : ℕ)
    → (judged_of table states operations c room).outcome ≡ Ok tt → fault_of table states operations c room ≡ Ok tt
past_faults table states operations c room none = go (fault_of table states operations c room) refl
  where
    go : (fault : codes.Verdict) → fault_of table states operations c room ≡ fault → fault_of table states operations c room ≡ Ok tt
    go (Ok done) e = e
    go (Err refusal) e = absurd (cc (judged_refused table states operations c room refusal e))
