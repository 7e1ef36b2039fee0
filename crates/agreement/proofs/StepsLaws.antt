-- Six steps are enough: a loom's place has a rank, which rises at each of its steps and falls at a restart alone.
-- Assumes nothing.
use Prim.Native.Nat.{ℕ, zero, suc, ◌+◌, ◌≤◌, ◌<◌, min}
use native.Mathlib.Omega.{arith}
use Rattle.std.specs.Prelude.{◌≡◌, refl, Bool, cond, ◌&&◌, eqb, ltb, length}
use Rattle.std.proofs.Common.{sym, eqb-true, ltb-true, ltb-false, lt-ltb}
use Rattle.std.proofs.Math.Bool.{true, false, not}
use mathlib.Core.List.{List, [], ◌∷◌}
use Rattle.std.proofs.Math.Dec.{eqb_refl}
use Rattle.std.proofs.lemmas.Bool.{eqb-false}
use Rattle.recording.specs.declared.Seat.{Seat}
use Rattle.recording.specs.Recording.{operation_at, one}
use Rattle.sides.specs.declared.Side.{Side}
use Rattle.loom.specs.declared.Place.{Place}
use Rattle.loom.specs.declared.Place.TheVariants.{Begin, Posted, Looking, Ready, Applied, Bound, Answered}
use Rattle.loom.specs.declared.Shared.{Shared}
use Rattle.sides.specs.Sides.{other}
use Rattle.loom.specs.Sides.{register}
use Rattle.loom.specs.Turn.{Rules, has_answered, turn_of, decided, looks, after_posted, after_looking}
use Rattle.agreement.specs.Machine.{Event, answered, Act, step, restart, restart_all, State, side_of, with_post, with_said, turned, stepped_from, stepped, acted, after}
use Rattle.agreement.specs.Agreed.{Had}
use Rattle.agreement.proofs.LogLaws.{had_latest, had_still, changed_all}
use Rattle.agreement.proofs.MachineLaws.{stepped_no_loom, place_stepped, place_unstepped, place_unrestarted}
use Rattle.agreement.specs.Steps.{steps_of, Unrestarted}

-- How far a loom has come.
abbrev pub rank : Place → ℕ
rank Begin = 0
rank Posted = 1
rank Looking = 2
rank Ready = 3
rank Applied = 4
rank (Bound x) = 5
rank (Answered x) = 6

-- The highest rank is six: answered.
pub rank_at_most_six : (p : Place) → rank p ≤ 6
rank_at_most_six Begin = omega arith
rank_at_most_six Posted = omega arith
rank_at_most_six Looking = omega arith
rank_at_most_six Ready = omega arith
rank_at_most_six Applied = omega arith
rank_at_most_six (Bound x) = omega arith
rank_at_most_six (Answered x) = omega arith

pub answered_at_six : (p : Place) → 6 ≤ rank p → (x : Side) × (p ≡ Answered x)
answered_at_six Begin high = absurd (omega arith)
answered_at_six Posted high = absurd (omega arith)
answered_at_six Looking high = absurd (omega arith)
answered_at_six Ready high = absurd (omega arith)
answered_at_six Applied high = absurd (omega arith)
answered_at_six (Bound x) high = absurd (omega arith)
answered_at_six (Answered x) high = (x, refl)

-- The rank of one of two places.
pub rank_of_cond : (b : Bool) (p q : Place) (n : ℕ) → n ≤ rank p → n ≤ rank q → n ≤ rank (cond b p q)
rank_of_cond true p q n low high = low
rank_of_cond false p q n low high = high

-- A loom that has looked has come farther.
pub rank_after_looking : (s : Side) (w : ℕ) → 3 ≤ rank (after_looking s w)
unfolding after_looking
rank_after_looking s zero = omega arith
rank_after_looking s (suc w) = omega arith

-- A turn raises the rank, except where the loom has answered.
pub rank_rises : (R : Rules) (s : Side) (v : ℕ) (op : ℕ → ℕ) (m : Shared) (p : Place) →
    one (not (has_answered p)) + rank p ≤ rank (turn_of R s v op m p).place
unfolding turn_of after_posted
rank_rises R s v op m Begin = omega arith
rank_rises R s v op m Posted =
    rank_of_cond
    (eqb m.cell R.start)
    (cond (looks R s) Looking Ready)
    (Bound (decided R m.cell))
    2
    (rank_of_cond (looks R s) Looking Ready 2 (omega arith) (omega arith))
    (omega arith)
rank_rises R s v op m Looking = rank_after_looking s (register m (other s))
rank_rises R s v op m Ready = omega arith
rank_rises R s v op m Applied = omega arith
rank_rises R s v op m (Bound x) = omega arith
rank_rises R s v op m (Answered x) = omega arith

-- Up to six, a step that is not refused for an answer gains one.
pub gain_up_to_six : (p : Place) → min 6 (1 + rank p) ≤ one (not (has_answered p)) + rank p
gain_up_to_six Begin = omega arith
gain_up_to_six Posted = omega arith
gain_up_to_six Looking = omega arith
gain_up_to_six Ready = omega arith
gain_up_to_six Applied = omega arith
gain_up_to_six (Bound x) = omega arith
gain_up_to_six (Answered x) = omega arith

module _ (next : ℕ → ℕ → ℕ) (looms : List Seat) (R : Rules) where
  -- A step raises the rank of a loom of the group that has not answered, and no other act but a restart of it changes its rank.
  pub rank_stepped : (S : State) (j v k : ℕ) (b : Bool) → eqb j k ≡ b →
      one (b && (ltb k (length looms) && not (has_answered (S.place k)))) + rank (S.place k) ≤ rank ((acted next looms R (step j v) S).place k)
  rank_stepped S j v k true e = rw (eqb-true j k e) (by_test (ltb k (length looms)) refl)
    where
      by_test : (b : Bool) → ltb k (length looms) ≡ b →
          one (b && not (has_answered (S.place k))) + rank (S.place k) ≤ rank ((acted next looms R (step k v) S).place k)
      by_test true here =
          rw
          (place_stepped next looms R S k v (ltb-true k (length looms) here))
          (rank_rises R (side_of looms k) v (next (operation_at looms k)) S.shared (S.place k))
      by_test false past = rw (stepped_no_loom next looms R S k v (ltb-false k (length looms) past)) (omega arith)
  rank_stepped S j v k false e = rw (place_unstepped next looms R S j v k (λ same. eqb-false j k e (sym same))) (omega arith)

  -- Six steps with no restart in between raise any rank to the highest.
  pub rank_after : (acts : List Act) (S : State) (k : ℕ) → k < length looms → Unrestarted k acts →
      min 6 (steps_of k acts + rank (S.place k)) ≤ rank ((after next looms R acts S).place k)
  unfolding after steps_of
  rank_after [] S k here free = omega arith
  rank_after (step j v ∷ acts) S k here free =
      omega (arith, rank_after acts (acted next looms R (step j v) S) k here free, gained)
    where
      by_test : (b : Bool) → one (b && not (has_answered (S.place k))) + rank (S.place k) ≤ rank ((acted next looms R (step j v) S).place k) →
          min 6 (one b + rank (S.place k)) ≤ rank ((acted next looms R (step j v) S).place k)
      by_test true most = omega (arith, gain_up_to_six (S.place k))
      by_test false most = omega arith

      gained : min 6 (one (eqb j k) + rank (S.place k)) ≤ rank ((acted next looms R (step j v) S).place k)
      gained = by_test (eqb j k) (rw (lt-ltb k (length looms) here) at (rank_stepped S j v k (eqb j k) refl))
  rank_after (restart j ∷ acts) S k here free =
      rw
      (place_unrestarted next looms R S j k (λ same. free.0 (rw same (eqb_refl j))))
      at
      (rank_after acts (acted next looms R (restart j) S) k here free.1)
  rank_after (restart_all ∷ acts) S k here free = absurd free

-- A loom at an answered place has given that answer.
abbrev pub Spoken : List Event → ℕ → Place → Type 0
Spoken log k Begin = Unit {0}
Spoken log k Posted = Unit {0}
Spoken log k Looking = Unit {0}
Spoken log k Ready = Unit {0}
Spoken log k Applied = Unit {0}
Spoken log k (Bound x) = Unit {0}
Spoken log k (Answered x) = (v : ℕ) × Had (answered k x v) log

-- What was said stays said.
pub spoken_still : (e : Event) (log : List Event) (k : ℕ) (p : Place) → Spoken log k p → Spoken (e ∷ log) k p
spoken_still e log k Begin said = tt
spoken_still e log k Posted said = tt
spoken_still e log k Looking said = tt
spoken_still e log k Ready said = tt
spoken_still e log k Applied said = tt
spoken_still e log k (Bound x) said = tt
spoken_still e log k (Answered x) said = (said.0, had_still (answered k x said.0) e log said.1)

-- Where a loom goes to short of an answer, it has said nothing.
pub spoken_posted : (R : Rules) (s : Side) (q : ℕ) (log : List Event) (k : ℕ) → Spoken log k (after_posted R s q)
unfolding after_posted
spoken_posted R s q log k = outer (eqb q R.start) (looks R s)
  where
    outer : (b c : Bool) → Spoken log k (cond b (cond c Looking Ready) (Bound (decided R q)))
    outer true true = tt
    outer true false = tt
    outer false c = tt

pub spoken_looked : (s : Side) (w : ℕ) (log : List Event) (k : ℕ) → Spoken log k (after_looking s w)
unfolding after_looking
spoken_looked s zero log k = tt
spoken_looked s (suc w) log k = tt

module _ (next : ℕ → ℕ → ℕ) (looms : List Seat) (R : Rules) where
  -- Every step, and every list of acts, keeps it so.
  pub spoken_stepped : (S : State) (k v : ℕ) (p : Place) → Spoken S.log k p → ((j : ℕ) → Spoken S.log j (S.place j)) →
      (j : ℕ) → Spoken (stepped_from next looms R k v p S).log j ((stepped_from next looms R k v p S).place j)
  unfolding stepped_from turned turn_of with_post with_said
  spoken_stepped S k v Begin own all =
      changed_all (Spoken (stepped_from next looms R k v Begin S).log) S.place k Posted tt (λ j apart. spoken_still _ S.log j (S.place j) (all j))
  spoken_stepped S k v Posted own all =
      changed_all (Spoken S.log) S.place k _ (spoken_posted R (side_of looms k) S.shared.cell S.log k) (λ j apart. all j)
  spoken_stepped S k v Looking own all =
      changed_all
      (Spoken S.log)
      S.place
      k
      _
      (spoken_looked (side_of looms k) (register S.shared (other (side_of looms k))) S.log k)
      (λ j apart. all j)
  spoken_stepped S k v Ready own all =
      changed_all (Spoken (stepped_from next looms R k v Ready S).log) S.place k Applied tt (λ j apart. spoken_still _ S.log j (S.place j) (all j))
  spoken_stepped S k v Applied own all = changed_all (Spoken S.log) S.place k _ tt (λ j apart. all j)
  spoken_stepped S k v (Bound x) own all =
      changed_all
      (Spoken (stepped_from next looms R k v (Bound x) S).log)
      S.place
      k
      (Answered x)
      (register S.shared x, had_latest (answered k x (register S.shared x)) S.log)
      (λ j apart. spoken_still _ S.log j (S.place j) (all j))
  spoken_stepped S k v (Answered x) own all = changed_all (Spoken S.log) S.place k (Answered x) own (λ j apart. all j)

  pub spoken_after : (acts : List Act) (S : State) → ((j : ℕ) → Spoken S.log j (S.place j)) →
      (j : ℕ) → Spoken (after next looms R acts S).log j ((after next looms R acts S).place j)
  unfolding after acted stepped
  spoken_after [] S all = all
  spoken_after (step k v ∷ acts) S all = spoken_after acts _ (by_test (ltb k (length looms)))
    where
      by_test : (b : Bool) (j : ℕ) → Spoken (cond b (stepped next looms R k v S) S).log j ((cond b (stepped next looms R k v S) S).place j)
      by_test true = spoken_stepped S k v (S.place k) (all k) all
      by_test false = all
  spoken_after (restart k ∷ acts) S all = spoken_after acts _ (changed_all (Spoken S.log) S.place k Begin tt (λ j apart. all j))
  spoken_after (restart_all ∷ acts) S all = spoken_after acts _ (λ j. tt)
