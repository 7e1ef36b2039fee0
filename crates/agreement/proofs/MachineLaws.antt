-- Where a loom stands after an act.
-- Assumes nothing.
use Rattle.std.specs.Prelude.{ℕ, ◌≤◌, ◌<◌, ◌≡◌, Bool, cond, List, [], ◌∷◌, ltb, length}
use Rattle.std.proofs.Math.Path.{refl, fun_ext}
use Rattle.std.proofs.Common.{sym, eq-eqb, ne_eqb, lt-ltb, le-ltb}
use Rattle.std.proofs.Math.Bool.{true, false}
use Rattle.recording.specs.declared.Seat.{Seat}
use Rattle.recording.specs.Recording.{operation_at}
use Rattle.sides.specs.declared.Side.{Side}
use Rattle.loom.specs.declared.Place.TheVariants.{Begin, Answered}
use Rattle.loom.specs.Turn.{Rules, turn_of}
use Rattle.agreement.specs.Machine.{Act, step, restart, restart_all, EachStep, State, side_of, changed_at, with_post, with_said, turned, stepped_from, stepped, acted}
use Rattle.agreement.proofs.LogLaws.{changed_all}

-- The acts are the same acts with less said of their numbers.
pub each_step_weaker : (P Q : ℕ → ℕ → Type 0) → ((k v : ℕ) → P k v → Q k v) → (acts : List Act) → EachStep P acts → EachStep Q acts
each_step_weaker P Q weaker [] all = tt
each_step_weaker P Q weaker (step k v ∷ acts) all = (weaker k v all.0, each_step_weaker P Q weaker acts all.1)
each_step_weaker P Q weaker (restart k ∷ acts) all = each_step_weaker P Q weaker acts all
each_step_weaker P Q weaker (restart_all ∷ acts) all = each_step_weaker P Q weaker acts all

-- The changed one has its new value, and every other its own.
pub changed_itself : {A : Type 0} (f : ℕ → A) (k : ℕ) (a : A) → changed_at f k a k ≡ a
unfolding changed_at
changed_itself f k a = rw (eq-eqb k k refl)

pub changed_other : {A : Type 0} (f : ℕ → A) (k : ℕ) (a : A) (j : ℕ) → (j ≡ k → ⊥) → changed_at f k a j ≡ f j
unfolding changed_at
changed_other f k a j apart = rw (ne_eqb j k apart)

module _ (next : ℕ → ℕ → ℕ) (looms : List Seat) (R : Rules) where
  -- A step of no loom of the group changes nothing.
  pub stepped_no_loom : (S : State) (k v : ℕ) → length looms ≤ k → acted next looms R (step k v) S ≡ S
  unfolding acted
  stepped_no_loom S k v past = rw (le-ltb k (length looms) past)

  -- A step of a loom of the group is its turn.
  pub stepped_loom : (S : State) (k v : ℕ) → k < length looms → acted next looms R (step k v) S ≡ stepped next looms R k v S
  unfolding acted
  stepped_loom S k v here = rw (lt-ltb k (length looms) here)

  -- A loom that steps goes where its turn leads.
  pub place_stepped : (S : State) (k v : ℕ) → k < length looms →
      (acted next looms R (step k v) S).place k ≡ (turn_of R (side_of looms k) v (next (operation_at looms k)) S.shared (S.place k)).place
  unfolding stepped stepped_from turned
  place_stepped S k v here = rw (stepped_loom S k v here) (changed_itself S.place k _)

  -- No other moves.
  pub place_unstepped : (S : State) (j v k : ℕ) → (k ≡ j → ⊥) → (acted next looms R (step j v) S).place k ≡ S.place k
  unfolding acted stepped stepped_from turned
  place_unstepped S j v k apart = by_test (ltb j (length looms))
    where
      by_test : (b : Bool) → (cond b (stepped next looms R j v S) S).place k ≡ S.place k
      by_test true = changed_other S.place j _ k apart
      by_test false = refl

  -- A restarted loom is at begin, and every other where it was.
  pub place_restarted : (S : State) (k : ℕ) → (acted next looms R (restart k) S).place k ≡ Begin
  unfolding acted
  place_restarted S k = changed_itself S.place k Begin

  pub place_unrestarted : (S : State) (j k : ℕ) → (k ≡ j → ⊥) → (acted next looms R (restart j) S).place k ≡ S.place k
  unfolding acted
  place_unrestarted S j k apart = changed_other S.place j Begin k apart

  -- A step of a loom that has answered changes nothing.
  pub stepped_answered : (S : State) (k v : ℕ) (x : Side) → S.place k ≡ Answered x → acted next looms R (step k v) S ≡ S
  unfolding acted stepped stepped_from turned turn_of with_post with_said
  stepped_answered S k v x there = by_test (ltb k (length looms))
    where
      unchanged : (j : ℕ) → changed_at S.place k (Answered x) j ≡ S.place j
      unchanged = changed_all (λ j p. p ≡ S.place j) S.place k (Answered x) (sym there) (λ j apart. refl)

      stayed : stepped_from next looms R k v (Answered x) S ≡ S
      stayed = λ i. record { shared = S.shared; place = fun_ext unchanged i; log = S.log }

      by_test : (b : Bool) → cond b (stepped next looms R k v S) S ≡ S
      by_test true = rw there stayed
      by_test false = refl
