-- What a log says of posts and applications is true: the loom is one of the group, the side is its side, and a number posted is one that
-- the acts gave it.
-- Assumes nothing.
use Rattle.std.specs.Prelude.{ℕ, ◌<◌, ◌≡◌, Bool, cond, length}
use Rattle.std.proofs.Math.Path.{refl}
use Rattle.std.proofs.Math.Bool.{true, false}
use mathlib.Core.List.{List, [], ◌∷◌, ◌++◌}
use Rattle.std.proofs.Math.Dec.{ltb}
use Rattle.std.proofs.Common.{ltb-true}
use Rattle.recording.specs.declared.Seat.{Seat}
use Rattle.loom.specs.declared.Place.{Place}
use Rattle.loom.specs.declared.Place.TheVariants.{Begin, Posted, Looking, Ready, Applied, Bound, Answered}
use Rattle.loom.specs.Turn.{Rules, turn_of}
use Rattle.agreement.specs.Machine.{Event, posted, applied, answered, Act, step, restart, restart_all, EachStep, State, side_of, with_post, with_said, turned, stepped_from, stepped, acted, after}
use Rattle.agreement.specs.Agreed.{Had}

-- An event that tells the truth; P k v says that loom k may post v.
abbrev pub Told : (ℕ → ℕ → Type 0) → List Seat → Event → Type 0
Told P looms (posted k s v) = (k < length looms) × (s ≡ side_of looms k) × P k v
Told P looms (applied k s) = (k < length looms) × (s ≡ side_of looms k)
Told P looms (answered k s v) = k < length looms

-- A log in which every event tells the truth.
abbrev pub AllTold : (ℕ → ℕ → Type 0) → List Seat → List Event → Type 0
AllTold P looms [] = Unit {0}
AllTold P looms (e ∷ log) = Told P looms e × AllTold P looms log

-- Every event in a true log is true.
pub told_of_had : (P : ℕ → ℕ → Type 0) (looms : List Seat) (e : Event) (log : List Event) → AllTold P looms log → Had e log → Told P looms e
told_of_had P looms e log all (older, (later, same)) = within later (rw same at all)
  where
    within : (later : List Event) → AllTold P looms (later ++ (e ∷ older)) → Told P looms e
    within [] all' = all'.0
    within (d ∷ later) all' = within later all'.1

module _ (next : ℕ → ℕ → ℕ) (looms : List Seat) (R : Rules) (P : ℕ → ℕ → Type 0) where
  -- Every step, and every list of acts, leaves a true log.
  pub told_stepped : (S : State) (k v : ℕ) (p : Place) → k < length looms → P k v → AllTold P looms S.log →
      AllTold P looms (stepped_from next looms R k v p S).log
  unfolding stepped_from turned turn_of with_post with_said
  told_stepped S k v Begin here allowed all = ((here, refl, allowed), all)
  told_stepped S k v Posted here allowed all = all
  told_stepped S k v Looking here allowed all = all
  told_stepped S k v Ready here allowed all = ((here, refl), all)
  told_stepped S k v Applied here allowed all = all
  told_stepped S k v (Bound x) here allowed all = (here, all)
  told_stepped S k v (Answered x) here allowed all = all

  pub told_after : (acts : List Act) (S : State) → EachStep P acts → AllTold P looms S.log → AllTold P looms (after next looms R acts S).log
  unfolding after acted stepped
  told_after [] S allowed all = all
  told_after (step k v ∷ acts) S allowed all = told_after acts _ allowed.1 (by_test (ltb k (length looms)) refl)
    where
      by_test : (b : Bool) → ltb k (length looms) ≡ b → AllTold P looms (cond b (stepped next looms R k v S) S).log
      by_test true e = told_stepped S k v (S.place k) (ltb-true k (length looms) e) allowed.0 all
      by_test false e = all
  told_after (restart k ∷ acts) S allowed all = told_after acts _ allowed all
  told_after (restart_all ∷ acts) S allowed all = told_after acts _ allowed all
