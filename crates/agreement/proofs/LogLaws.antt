-- Laws of logs, of registers that are honest, and of the places changed at one loom.
-- Assumes nothing.
use Rattle.std.specs.Prelude.{ℕ, ◌≡◌, refl, Bool, true, false, cond, ◌⊎◌, List, [], ◌∷◌, ◌++◌, eqb}
use Rattle.std.proofs.Common.{arith, ap, sym, ◌∙◌, inl, inr, append_assoc, eqb-true}
use Rattle.std.proofs.lemmas.Bool.{eqb-false}
use Rattle.sides.specs.declared.Side.{Side}
use Rattle.loom.specs.declared.Shared.{Shared}
use Rattle.sides.specs.Sides.{other}
use Rattle.loom.specs.Sides.{register, with_register, with_cell}
use Rattle.sides.specs.SidesLaws.{same_or_other}
use Rattle.loom.specs.SidesLaws.{register_written, register_kept, register_untouched}
use Rattle.agreement.specs.Machine.{NotZero, Event, posted, applied, answered, changed_at}
use Rattle.agreement.specs.Agreed.{Came, Had, NoneApplied, Settled}
use Rattle.agreement.specs.Phases.{Fits, AllFit, Honest}

-- Nothing is in an empty log.
pub had_nothing : (e : Event) → Had e [] → ⊥
had_nothing e (older, ([], same)) = let z : ◌≡◌ {A = ℕ} 0 1 = cc in omega arith
had_nothing e (older, (d ∷ later, same)) = let z : ◌≡◌ {A = ℕ} 0 1 = cc in omega arith

-- The latest event is in the log.
pub had_latest : (e : Event) (log : List Event) → Had e (e ∷ log)
had_latest e log = (log, ([], refl))

-- What was in the log stays in it.
pub had_still : (e d : Event) (log : List Event) → Had e log → Had e (d ∷ log)
had_still e d log (older, (later, same)) = (older, (d ∷ later, ap (λ l. d ∷ l) same))

-- An answer with side s is in the log; and stays in it.
abbrev pub HadAnswer : Side → List Event → Type 0
HadAnswer s log = (k : ℕ) × (v : ℕ) × Had (answered k s v) log

pub answer_still : (s : Side) (d : Event) (log : List Event) → HadAnswer s log → HadAnswer s (d ∷ log)
answer_still s d log (k, v, had) = (k, v, had_still (answered k s v) d log had)

-- An event in the log is the latest or was there before.
pub had_before : (e d : Event) (log : List Event) → Had e (d ∷ log) → (d ≡ e) ⊎ Had e log
had_before e d log (older, ([], same)) = inl (cc)
had_before e d log (older, (c ∷ later, same)) = inr (older, (later, cc))

-- A post is no application.
pub none_applied_by_post : (k : ℕ) (s : Side) (v : ℕ) (log : List Event) → NoneApplied log → NoneApplied (posted k s v ∷ log)
none_applied_by_post k s v log none i t had = by_cases (had_before (applied i t) (posted k s v) log had)
  where
    by_cases : (posted k s v ≡ applied i t) ⊎ Had (applied i t) log → ⊥
    by_cases (inl e) = let z : ◌≡◌ {A = ℕ} 0 1 = cc in omega arith
    by_cases (inr old) = none i t old

-- Who had applied before has applied.
pub still_applied : (d : Event) (log : List Event) → (NoneApplied log → ⊥) → NoneApplied (d ∷ log) → ⊥
still_applied d log some none = some (λ i t had. none i t (had_still (applied i t) d log had))

-- What fits, fits at every event.
pub fits_at : (X : Side) (e : Event) (older log : List Event) → AllFit X log → Came e older log → Fits X e older
fits_at X e older log fit (later, same) = within later (rw same at fit)
  where
    within : (later : List Event) → AllFit X (later ++ (e ∷ older)) → Fits X e older
    within [] all = all.0
    within (d ∷ later) all = within later all.1

-- Whatever was in the log before is in the log.
pub had_of_came : (d e : Event) (older log : List Event) → Came e older log → Had d older → Had d log
had_of_came d e older log (later, same) (oldest, (middle, inside)) =
    (oldest, (later ++ (e ∷ middle), same ∙ ap (λ l. later ++ (e ∷ l)) inside ∙ sym (append_assoc later (e ∷ middle) (d ∷ oldest))))

-- A log that fits one side is settled.
pub settled_by : (X : Side) (log : List Event) → AllFit X log → Settled log
settled_by X log fit =
    record {
      one_side = λ i j s t v w one two. names i s v one ∙ sym (names j t w two);
      posted_before = λ i s v older came. (fits_at X (answered i s v) older log fit came).1;
      first_applied = λ k s older came none i t v had. names i t v had ∙ sym (fits_at X (applied k s) older log fit came none);
    }
  where
    names : (i : ℕ) (s : Side) (v : ℕ) → Had (answered i s v) log → s ≡ X
    names i s v (older, came) = (fits_at X (answered i s v) older log fit came).0

-- A register that is filled stays filled, and what it holds was posted.
pub not_zero_still : (m : Shared) (s : Side) (v : ℕ) → NotZero v → (x : Side) → NotZero (register m x) → NotZero (register (with_register m s v) x)
not_zero_still m s v some x old = by_side (same_or_other x s)
  where
    by_side : (x ≡ s) ⊎ (x ≡ other s) → NotZero (register (with_register m s v) x)
    by_side (inl e) none = some (sym (register_written m s v) ∙ rw e at none)
    by_side (inr e) none = old (rw e (sym (register_kept m s v) ∙ rw e at none))

-- What the registers hold after a post was posted.
pub honest_post : (k : ℕ) (m : Shared) (s : Side) (v : ℕ) (log : List Event) → Honest m log → Honest (with_register m s v) (posted k s v ∷ log)
honest_post k m s v log old x full = by_side (same_or_other x s)
  where
    by_side : (x ≡ s) ⊎ (x ≡ other s) → (j : ℕ) × Had (posted j x (register (with_register m s v) x)) (posted k s v ∷ log)
    by_side (inl e) = (k, rw (e, register_written m s v) (had_latest (posted k s v) log))
    by_side (inr e) =
        let was = old (other s) (rw (← register_kept m s v, ← e) full) in
        (was.0, rw (e, register_kept m s v) (had_still (posted was.0 (other s) (register m (other s))) (posted k s v) log was.1))

-- What the registers hold after an application was posted.
pub honest_application : (k : ℕ) (s : Side) (m : Shared) (q : ℕ) (log : List Event) → Honest m log → Honest (with_cell m q) (applied k s ∷ log)
honest_application k s m q log old x full =
    let was = old x (rw (register_untouched m q x) at full) in
    (was.0, rw (register_untouched m q x) (had_still (posted was.0 x (register m x)) (applied k s) log was.1))

-- What holds of the changed one by its new value, and of each other by its own, holds of all.
pub changed_all : {A : Type 0} (Q : ℕ → A → Type 0) (f : ℕ → A) (k : ℕ) (a : A) → Q k a → ((j : ℕ) → (j ≡ k → ⊥) → Q j (f j)) →
    (j : ℕ) → Q j (changed_at f k a j)
unfolding changed_at
changed_all Q f k a new old j = by_test (eqb j k) refl
  where
    by_test : (b : Bool) → eqb j k ≡ b → Q j (cond b a (f j))
    by_test true e = rw (eqb-true j k e) new
    by_test false e = old j (eqb-false j k e)
