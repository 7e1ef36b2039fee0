-- Examples: what is asked is used; without it, schedules on which the looms disagree. Each is run by the same definitions, on a group that
-- was filled in without the check.
-- Assumes nothing.
use Rattle.std.specs.Prelude.{ℕ, ◌≡◌, refl, Bool, true, false, ◌||◌, List, [], ◌∷◌, ◌++◌}
use Rattle.std.proofs.Common.{arith}
use Rattle.sides.specs.declared.Side.{Side}
use Rattle.sides.specs.declared.Side.TheVariants.{A, B}
use Rattle.sides.specs.Sides.{same_side}
use Rattle.loom.specs.Turn.{turn_of, after_posted, after_looking}
use Rattle.sides.specs.SidesLaws.{same_side_lem}
use Rattle.agreement.specs.Machine.{Event, posted, applied, answered, restart, changed_at, with_post, with_said, turned, stepped_from, stepped, acted, after}
use Rattle.agreement.specs.Agreed.{Agreed}
use Rattle.agreement.proofs.LogLaws.{had_latest, HadAnswer, answer_still}
use Rattle.agreement.specs.Certificates.{numbers, zero_for_a, steps, events_of, sticky, sticky_rules, returns, returns_rules, unyielding_rules, unexchanged_rules, late_return, late_return_rules, late_exchanged_rules, size_two, size_two_rules, pair, three, three_exchanged}

-- Whether an answer in the log names side s.
abbrev pub names : Side → List Event → Bool
names s [] = false
names s (posted k t v ∷ log) = names s log
names s (applied k t ∷ log) = names s log
names s (answered k t v ∷ log) = same_side t s || names s log

-- Then such an answer is in the log.
pub had_of_names : (s : Side) (log : List Event) → names s log ≡ true → HadAnswer s log
had_of_names s [] e = absurd (let z : ◌≡◌ {A = ℕ} 0 1 = cc in omega arith)
had_of_names s (posted k t v ∷ log) e = answer_still s (posted k t v) log (had_of_names s log e)
had_of_names s (applied k t ∷ log) e = answer_still s (applied k t) log (had_of_names s log e)
had_of_names s (answered k t v ∷ log) e = by_test (same_side t s) refl e (had_of_names s log)
  where
    by_test : (b : Bool) → same_side t s ≡ b → (b || names s log) ≡ true → (names s log ≡ true → HadAnswer s log) →
        HadAnswer s (answered k t v ∷ log)
    by_test true same either rest = (k, v, rw (same_side_lem t s same) (had_latest (answered k s v) log))
    by_test false same either rest = answer_still s (answered k t v) log (rest either)

-- The log is these events, and the looms do not agree.
abbrev pub Disagrees : (Side → ℕ) → List Event → List Event → Type 0
Disagrees num log events = (log ≡ events) × (Agreed num log → ⊥)

-- Two answers that name different sides do not agree.
pub disagree : (num : Side → ℕ) (log events : List Event) → log ≡ events → names A events ≡ true → names B events ≡ true → Disagrees num log events
disagree num log events same one two = (same, refuted)
  where
    refuted : Agreed num log → ⊥
    refuted agreed =
        let a = had_of_names A events one in
        let b = had_of_names B events two in
        let equal = (rw same at agreed).settled.one_side a.0 b.0 A B a.1 b.1 a.2 b.2 in
        let z : ◌≡◌ {A = ℕ} 0 1 = cc in
        omega arith

-- late return (code 21: the start is in the set of A, and B has two looms). Loom 0 answers A; looms 1 and 2 take the cell back to the
-- start; loom 1, restarted, applies again and answers B.
pub late_return_lem : Disagrees numbers
    (events_of late_return three late_return_rules (steps numbers three (0 ∷ 0 ∷ 1 ∷ 1 ∷ 2 ∷ 2 ∷ 0 ∷ 0 ∷ 0 ∷ 1 ∷ 2 ∷ []) ++
    (restart 1 ∷ steps numbers three (1 ∷ 1 ∷ 1 ∷ 1 ∷ 1 ∷ []))))
    (answered 1 B 733 ∷ applied 1 B ∷ posted 1 B 733 ∷ applied 2 B ∷ applied 1 B ∷ answered 0 A 501 ∷ applied 0 A ∷ posted 2 B 733 ∷
    posted 1 B 733 ∷ posted 0 A 501 ∷ [])
unfolding events_of after acted stepped stepped_from turned turn_of after_posted after_looking with_post with_said changed_at
late_return_lem = disagree numbers _ _ refl refl refl

-- late return, exchanged (code 22): the same with the sides' names exchanged.
pub late_return_exchanged : Disagrees numbers
    (events_of late_return three_exchanged late_exchanged_rules (steps numbers three_exchanged (0 ∷ 0 ∷ 1 ∷ 1 ∷ 2 ∷ 2 ∷ 0 ∷ 0 ∷ 0 ∷ 1 ∷ 2 ∷ []) ++
    (restart 1 ∷ steps numbers three_exchanged (1 ∷ 1 ∷ 1 ∷ 1 ∷ 1 ∷ []))))
    (answered 1 A 501 ∷ applied 1 A ∷ posted 1 A 501 ∷ applied 2 A ∷ applied 1 A ∷ answered 0 B 733 ∷ applied 0 B ∷ posted 2 A 501 ∷
    posted 1 A 501 ∷ posted 0 B 733 ∷ [])
unfolding events_of after acted stepped stepped_from turned turn_of after_posted after_looking with_post with_said changed_at
late_return_exchanged = disagree numbers _ _ refl refl refl

-- size 2, three looms (code 20: a state in both sets). Loom 0 applies and reads 0, which is in both sets, and answers B, which leads; loom 1
-- applies and reads 1, which is in the set of A alone.
pub size_two_three_looms : Disagrees numbers
    (events_of size_two three size_two_rules (steps numbers three (0 ∷ 0 ∷ 0 ∷ 1 ∷ 1 ∷ 0 ∷ 0 ∷ 0 ∷ 1 ∷ 1 ∷ 1 ∷ [])))
    (answered 1 A 501 ∷ applied 1 B ∷ answered 0 B 733 ∷ applied 0 A ∷ posted 1 B 733 ∷ posted 0 A 501 ∷ [])
unfolding events_of after acted stepped stepped_from turned turn_of after_posted after_looking with_post with_said changed_at
size_two_three_looms = disagree numbers _ _ refl refl refl

-- A yielding side of two looms that yields: 003's own schedule. Loom 1 looks, sees nothing and is ready; loom 0 posts; loom 2 looks and
-- answers A; loom 1 applies first and answers B.
pub two_that_yield : Disagrees numbers
    (events_of sticky three sticky_rules (steps numbers three (1 ∷ 1 ∷ 1 ∷ 0 ∷ 2 ∷ 2 ∷ 2 ∷ 2 ∷ 1 ∷ 1 ∷ 1 ∷ [])))
    (answered 1 B 733 ∷ applied 1 B ∷ answered 2 A 501 ∷ posted 2 B 733 ∷ posted 0 A 501 ∷ posted 1 B 733 ∷ [])
unfolding events_of after acted stepped stepped_from turned turn_of after_posted after_looking with_post with_said changed_at
two_that_yield = disagree numbers _ _ refl refl refl

-- A yielding side of one loom that doesn't yield, on "returns". Loom 0 answers A; loom 1 takes the cell back to the start, and restarted
-- applies again and answers B.
pub one_that_does_not_yield : Disagrees numbers
    (events_of returns pair unyielding_rules (steps numbers pair (0 ∷ 0 ∷ 1 ∷ 1 ∷ 0 ∷ 0 ∷ 0 ∷ 1 ∷ []) ++
    (restart 1 ∷ steps numbers pair (1 ∷ 1 ∷ 1 ∷ 1 ∷ 1 ∷ []))))
    (answered 1 B 733 ∷ applied 1 B ∷ posted 1 B 733 ∷ applied 1 B ∷ answered 0 A 501 ∷ applied 0 A ∷ posted 1 B 733 ∷ posted 0 A 501 ∷ [])
unfolding events_of after acted stepped stepped_from turned turn_of after_posted after_looking with_post with_said changed_at
one_that_does_not_yield = disagree numbers _ _ refl refl refl

-- The start in the set of the yielding side: "returns" with B leading. Loom 0 answers A; loom 1 takes the cell back to the start; loom 0,
-- restarted, looks, yields and answers B.
pub roles_not_exchanged : Disagrees numbers
    (events_of returns pair unexchanged_rules (steps numbers pair (0 ∷ 0 ∷ 0 ∷ 1 ∷ 1 ∷ 0 ∷ 0 ∷ 0 ∷ 1 ∷ []) ++
    (restart 0 ∷ steps numbers pair (0 ∷ 0 ∷ 0 ∷ 0 ∷ []))))
    (answered 0 B 733 ∷ posted 0 A 501 ∷ applied 1 B ∷ answered 0 A 501 ∷ applied 0 A ∷ posted 1 B 733 ∷ posted 0 A 501 ∷ [])
unfolding events_of after acted stepped stepped_from turned turn_of after_posted after_looking with_post with_said changed_at
roles_not_exchanged = disagree numbers _ _ refl refl refl

-- A number of 0, on "returns": the yielding loom sees no post, and doesn't yield.
pub zero_posted : Disagrees zero_for_a
    (events_of returns pair returns_rules (steps zero_for_a pair (0 ∷ 0 ∷ 1 ∷ 1 ∷ 0 ∷ 0 ∷ 0 ∷ 1 ∷ 1 ∷ []) ++
    (restart 1 ∷ steps zero_for_a pair (1 ∷ 1 ∷ 1 ∷ 1 ∷ 1 ∷ 1 ∷ []))))
    (answered 1 B 733 ∷ applied 1 B ∷ posted 1 B 733 ∷ applied 1 B ∷ answered 0 A 0 ∷ applied 0 A ∷ posted 1 B 733 ∷ posted 0 A 0 ∷ [])
unfolding events_of after acted stepped stepped_from turned turn_of after_posted after_looking with_post with_said changed_at
zero_posted = disagree zero_for_a _ _ refl refl refl
