-- Laws of one step: what each line of the table comes to once its tests are known.
-- Assumes nothing.
use Rattle.std.specs.Prelude.{ℕ, zero, suc, ◌≡◌, refl, Bool, true, false, cond, ◌&&◌}
use Rattle.std.proofs.Common.{sym, ap, ◌∙◌, eq-eqb, ne_eqb}
use Rattle.sides.specs.declared.Side.{Side}
use Rattle.loom.specs.declared.Place.{Place}
use Rattle.loom.specs.declared.Place.TheVariants.{Begin, Posted, Looking, Ready, Applied, Bound, Answered}
use Rattle.loom.specs.declared.Shared.{Shared}
use Rattle.sides.specs.Sides.{other, same_side}
use Rattle.loom.specs.Turn.{Rules, decided, looks, after_posted, after_looking, turn_of}

-- In its set the cell decides for the leading side.
pub decided_leading : (R : Rules) (q : ℕ) → R.in_leading q ≡ true → R.leading ≡ decided R q
decided_leading R q h = simp h

-- Elsewhere it decides for the yielding side.
pub decided_yielding : (R : Rules) (q : ℕ) (s : Side) → R.in_leading q ≡ false → s ≡ other R.leading → s ≡ decided R q
decided_yielding R q s h e = simp (h, e)

-- A loom looks where the yielding side has one loom, and it is of that side.
pub looks_alone : (R : Rules) (s : Side) (t : Bool) → R.yields_alone ≡ true → t ≡ same_side s (other R.leading) → t ≡ looks R s
looks_alone R s t h e = simp (h, e)

-- From posted, away from the start: bound to the side decided by the cell.
pub posted_away : (R : Rules) (s x : Side) (q : ℕ) → (q ≡ R.start → ⊥) → x ≡ decided R q → Bound x ≡ after_posted R s q
unfolding after_posted
posted_away R s x q h e =
    ap Bound e ∙ sym (ap (λ t. cond t (cond (looks R s) Looking Ready) (Bound (decided R q))) (ne_eqb q R.start h))

-- From posted, at the start: looking or ready.
pub posted_at_start : (R : Rules) (s : Side) (q : ℕ) (t : Bool) → q ≡ R.start → t ≡ looks R s → cond t Looking Ready ≡ after_posted R s q
unfolding after_posted
posted_at_start R s q t h e =
    ap (λ b. cond b Looking Ready) e
    ∙ sym (ap (λ b. cond b (cond (looks R s) Looking Ready) (Bound (decided R q))) (eq-eqb q R.start h))

-- From looking, where the other side has not posted.
pub looking_none : (s : Side) (v : ℕ) → v ≡ 0 → Ready ≡ after_looking s v
unfolding after_looking
looking_none s v h = sym (ap (after_looking s) h)

-- From looking, where the other side has posted.
pub looking_posted : (s x : Side) (v : ℕ) → (v ≡ 0 → ⊥) → x ≡ other s → Bound x ≡ after_looking s v
unfolding after_looking
looking_posted s x zero h e = absurd (h refl)
looking_posted s x (suc v) h e = ap Bound e

-- A step asks for one state only: the one after its operation in the cell's state.
pub turn_of_next : (R : Rules) (s : Side) (v : ℕ) (op : ℕ → ℕ) (m : Shared) (p : Place) →
    turn_of R s v op m p ≡ turn_of R s v (λ _. op m.cell) m p
unfolding turn_of
turn_of_next R s v op m Begin = refl
turn_of_next R s v op m Posted = refl
turn_of_next R s v op m Looking = refl
turn_of_next R s v op m Ready = refl
turn_of_next R s v op m Applied = refl
turn_of_next R s v op m (Bound x) = refl
turn_of_next R s v op m (Answered x) = refl
