-- What becomes of a loom in one act on a group that fits.
-- Assumes nothing.
use Rattle.std.specs.Prelude.{ℕ, ◌+◌, ◌<◌, ◌≡◌, Bool, ◌&&◌, List, Option, Some, None, eqb, length}
use Rattle.std.proofs.Common.{arith, sym, subst, get_or-set_same, get_or-set_other, eq-eqb, ne_eqb, ltb-true}
use Rattle.std.proofs.Math.Decide.{ℕ_discrete}
use Rattle.std.proofs.Math.Path.{refl}
use Rattle.std.proofs.Math.Bool.{true, false}
use Rattle.codes.specs.declared.Code.TheVariants.{HasAnswered}
use Rattle.recording.specs.Recording.{one}
use Rattle.recording.specs.declared.Seat.{Seat}
use Rattle.sides.specs.declared.Side.TheVariants.{A, B}
use Rattle.loom.specs.declared.Loom.{Loom}
use Rattle.loom.specs.declared.Said.{Said}
use Rattle.loom.specs.declared.Said.TheVariants.{Nothing, Application, Answer}
use Rattle.loom.specs.Numbers.{said_number}
use Rattle.loom.specs.Looms.{counted, moved_to, restarted_of}
use Rattle.loom.specs.Turn.{has_answered}
use Rattle.group.specs.declared.Group.{Group}
use Rattle.group.specs.Step.{step_of, refused}
use Rattle.group.specs.Group.{empty_loom, loom_at, with_loom, with_shared, restarted_at}
use Rattle.group.specs.ActsLaws.{restarted_each}
use Rattle.demands.specs.Fits.{WellFormed, Fits}
use Rattle.demands.proofs.FitsLaws.{turn_in, turn_taken, step_of_answered, step_of_unanswered, restart_of_one, restart_of_all}
use Rattle.group.specs.declared.Stepped.{Stepped}
use Rattle.schedule.specs.declared.Act.{Act}
use Rattle.schedule.specs.declared.Act.TheVariants.{Step, Restart, RestartAll}
use Rattle.schedule.specs.Acts.{is_named}
use Rattle.schedule.specs.Played.{mark_of, steps_told, after_restart, acted_of}
use Rattle.schedule.specs.Counts.{steps_after}

-- A group with another loom in a slot: that loom there, and every other as it was.
pub loom_changed : (g : Group) (j : ℕ) (l : Loom) → j < length g.looms → loom_at (with_loom g j l) j ≡ l
loom_changed g j l here = get_or-set_same g.looms j l empty_loom here

pub loom_unchanged : (g : Group) (j k : ℕ) (l : Loom) → (k ≡ j → ⊥) → loom_at (with_loom g j l) k ≡ loom_at g k
loom_unchanged g j k l other = get_or-set_other g.looms j k l empty_loom other

-- What a step says is never marked 3.
pub said_below_three : (said : Said) → said_number said ≡ 3 → ⊥
said_below_three Nothing e = omega arith
said_below_three Application e = omega arith
said_below_three (Answer A v) e = omega arith
said_below_three (Answer B v) e = omega arith

-- What became of loom k of g in an act that came to x, and what it adds to the loom's steps: it stayed, it took its turn, or it was restarted.
pub data Became (table : List ℕ) (states : ℕ) (g : Group) (k : ℕ) (act : Option Act) (x : Stepped) : Type 0 where
  stayed : loom_at x.group k ≡ loom_at g k → ((c : ℕ) → steps_after k act (mark_of x.told) c ≡ c) → Became table states g k act x
  turned :
      loom_at x.group k ≡ moved_to (loom_at g k) (turn_in table states g k).place →
      has_answered (loom_at g k).place ≡ false →
      steps_told x.told ≡ counted (loom_at g k).steps →
      ((c : ℕ) → steps_after k act (mark_of x.told) c ≡ c + 1) →
      Became table states g k act x
  restarted : loom_at x.group k ≡ restarted_of (loom_at g k) → ((c : ℕ) → steps_after k act (mark_of x.told) c ≡ 0) → Became table states g k act x

-- A step counts for its own loom, where it is not marked 3.
counts : (j k m : ℕ) → j ≡ k → (m ≡ 3 → ⊥) → (c : ℕ) → steps_after k (Some (Step j)) m c ≡ c + 1
unfolding steps_after
counts j k m own unrefused c = simp (eq-eqb j k own, ne_eqb m 3 unrefused) (omega arith)

counts_refused : (j k : ℕ) (c : ℕ) → steps_after k (Some (Step j)) 3 c ≡ c
unfolding steps_after
counts_refused j k c = by_test (eqb j k)
  where
    by_test : (b : Bool) → one (b && false) + c ≡ c
    by_test true = omega arith
    by_test false = omega arith

counts_other : (j k m : ℕ) → (j ≡ k → ⊥) → (c : ℕ) → steps_after k (Some (Step j)) m c ≡ c
unfolding steps_after
counts_other j k m other c = simp (ne_eqb j k other) (omega arith)

module _ (table : List ℕ) (states operations : ℕ) (looms : List Seat) (good : WellFormed table states operations looms) where
  -- A step of one of the looms is refused with 31, where the loom has answered, or else is taken: what holds of both holds of the step.
  pub step_ends : (g : Group) → Fits states looms g → (j : ℕ) → j < length looms → (P : Stepped → Type 0) →
      (has_answered (loom_at g j).place ≡ true → P (refused HasAnswered g)) →
      (has_answered (loom_at g j).place ≡ false → P (turn_taken g j (turn_in table states g j))) →
      P (step_of table states operations g j)
  step_ends g fits j within P answered going = by_place (has_answered (loom_at g j).place) refl
    where
      by_place : (b : Bool) → has_answered (loom_at g j).place ≡ b → P (step_of table states operations g j)
      by_place true is = rw (step_of_answered table states operations looms good g fits j within is) (answered is)
      by_place false is = rw (step_of_unanswered table states operations looms good g fits j within is) (going is)

  module _ (g : Group) (fits : Fits states looms g) (k : ℕ) (here : k < length looms) where
    slot : k < length g.looms
    slot = omega (arith, fits.seated.slots)

    by_step : (j : ℕ) → j < length looms → Became table states g k (Some (Step j)) (acted_of table states operations g (Some (Step j)))
    unfolding acted_of
    by_step j within =
        step_ends g fits j within (Became table states g k (Some (Step j)))
        (λ done. stayed refl (counts_refused j k))
        (λ going. by_loom going (ℕ_discrete j k))
      where
        by_loom : has_answered (loom_at g j).place ≡ false → Dec (j ≡ k) → Became table states g k (Some (Step j)) (turn_taken g j (turn_in table states g j))
        by_loom going (yes own) =
            rw own
            (turned
            (loom_changed (with_shared g (turn_in table states g k).shared) k (moved_to (loom_at g k) (turn_in table states g k).place) slot)
            (subst (λ i. has_answered (loom_at g i).place ≡ false) own going)
            refl
            (counts k k (said_number (turn_in table states g k).said) refl (said_below_three (turn_in table states g k).said)))
        by_loom going (no other) =
            stayed
            (loom_unchanged (with_shared g (turn_in table states g j).shared) j k (moved_to (loom_at g j) (turn_in table states g j).place) (λ same. other (sym same)))
            (counts_other j k (said_number (turn_in table states g j).said) other)

    by_restart : (j : ℕ) → j < length looms → Became table states g k (Some (Restart j)) (acted_of table states operations g (Some (Restart j)))
    unfolding acted_of steps_after
    by_restart j within = rw (restart_of_one table states operations looms good g fits j within) (by_loom (ℕ_discrete j k))
      where
        by_loom : Dec (j ≡ k) → Became table states g k (Some (Restart j)) (after_restart (restarted_at g j))
        by_loom (yes own) = rw own (restarted (loom_changed g k (restarted_of (loom_at g k)) slot) (λ c. simp (eq-eqb k k refl)))
        by_loom (no other) = stayed (loom_unchanged g j k (restarted_of (loom_at g j)) (λ same. other (sym same))) (λ c. simp (ne_eqb j k other))

    by_restart_of_all : Became table states g k (Some RestartAll) (acted_of table states operations g (Some RestartAll))
    unfolding acted_of steps_after
    by_restart_of_all =
        rw (restart_of_all table states operations looms good g fits)
        (restarted (restarted_each g g.count k (omega (arith, fits.seated.count, fits.seated.slots)) (omega (arith, fits.seated.count))) (λ c. refl))

    pub became : (act : Option Act) → is_named (length looms) act ≡ true → Became table states g k act (acted_of table states operations g act)
    became (Some (Step j)) named = by_step j (ltb-true j (length looms) named)
    became (Some (Restart j)) named = by_restart j (ltb-true j (length looms) named)
    became (Some RestartAll) named = by_restart_of_all
    became None named = absurd cc
