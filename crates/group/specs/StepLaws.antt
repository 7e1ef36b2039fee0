-- Laws of a step, a restart of one and a restart of all: one for each way that they end.
-- Assumes nothing.
use Rattle.std.specs.Prelude.{ℕ, zero, suc, ◌*◌, ◌≤◌, ◌<◌, ◌≡◌, refl, Bool, true, false, cond, List, [], ◌∷◌, leb, length, set, get_or, Some, None, Result, Ok, Err}
use Rattle.std.proofs.Common.{arith, suc-mul, mul_comm, mul-le-mul, le_refl, lt_of_lt_of_le, sym, ap, subst, ◌∙◌}
use borrow.Author.Tests.{lt-ltb, le-ltb, le-leb, lt-leb, leb-true, leb-false, eq-eqb, ne_eqb}
use Rattle.codes.specs.declared.Code.{Code}
use Rattle.codes.specs.declared.Code.TheVariants.{NoLoom, HasAnswered, Unfit}
use Rattle.cell.specs.Limits.{edition}
use Rattle.cell.specs.Table.{position, entry_of, next_of}
use Rattle.cell.specs.TableLaws.{refused_entry, moved_to}
use Rattle.loom.specs.declared.Loom.{Loom}
use Rattle.loom.specs.declared.Shared.{Shared}
use Rattle.loom.specs.Turn.{Rules, has_answered}
use Rattle.loom.specs.Looms.{turned_of}
use Rattle.loom.specs.LoomsLaws.{turned_of_next}
use Rattle.group.specs.declared.Group.{Group}
use Rattle.group.specs.declared.Outcome.{Outcome}
use Rattle.group.specs.Group.{empty_loom, loom_at, no_loom, restarted_at, restarted_below}
use Rattle.group.specs.Step.{is_unfit, fitted_of, permit_of, may_step, unmoved, taken, step_on_of, refused, settled, in_place, own_step, step_of, restarted, restart_of, restart_all_of}

-- Whether group and table fit, one law for each way that they don't.
module _ (table : List ℕ) (states operations o q : ℕ) where
  pub unfit_no_state : states < 1 → None ≡ fitted_of table states operations o q
  unfolding is_unfit
  unfit_no_state h = simp (lt-ltb _ _ h)

  module _ (some : 1 ≤ states) where
    pub unfit_states : edition.states < states → None ≡ fitted_of table states operations o q
    unfolding is_unfit
    unfit_states h = simp (le-ltb _ _ some, lt-ltb _ _ h)

    module _ (few : states ≤ edition.states) where
      pub unfit_no_operation : operations < 1 → None ≡ fitted_of table states operations o q
      unfolding is_unfit
      unfit_no_operation h = simp (le-ltb _ _ some, le-ltb _ _ few, lt-ltb _ _ h)

      module _ (any : 1 ≤ operations) where
        pub unfit_operations : edition.operations < operations → None ≡ fitted_of table states operations o q
        unfolding is_unfit
        unfit_operations h = simp (le-ltb _ _ some, le-ltb _ _ few, le-ltb _ _ any, lt-ltb _ _ h)

        module _ (fitted : operations ≤ edition.operations) where
          pub unfit_length : (length table ≡ states * operations → ⊥) → None ≡ fitted_of table states operations o q
          unfolding is_unfit
          unfit_length h = simp (le-ltb _ _ some, le-ltb _ _ few, le-ltb _ _ any, le-ltb _ _ fitted, ne_eqb _ _ h)

          module _ (whole : length table ≡ states * operations) where
            pub unfit_state : states ≤ q → None ≡ fitted_of table states operations o q
            unfolding is_unfit
            unfit_state h =
                simp (le-ltb _ _ some, le-ltb _ _ few, le-ltb _ _ any, le-ltb _ _ fitted, eq-eqb _ _ whole, le-leb _ _ h)

            module _ (state : q < states) where
              pub unfit_operation : operations ≤ o → None ≡ fitted_of table states operations o q
              unfolding is_unfit
              unfit_operation h =
                  simp (
                    le-ltb _ _ some,
                    le-ltb _ _ few,
                    le-ltb _ _ any,
                    le-ltb _ _ fitted,
                    eq-eqb _ _ whole,
                    lt-leb _ _ state,
                    le-leb _ _ h,
                  )

-- Where all but the entry fits, what is left is the lookup's own test of the entry.
pub unfit_by_entry : (table : List ℕ) (states operations o q : ℕ) → 1 ≤ states → states ≤ edition.states → 1 ≤ operations →
    operations ≤ edition.operations → length table ≡ states * operations → q < states → o < operations →
    next_of table states o q ≡ fitted_of table states operations o q
unfolding is_unfit
unfit_by_entry table states operations o q some few any fitted whole state operation = go (leb states (entry_of table states o q)) refl
  where
    there : position states o q < length table
    there =
        subst (λ n. position states o q < n) (mul_comm operations states ∙ sym whole)
        (lt_of_lt_of_le (omega (arith, suc-mul o states)) (mul-le-mul operation (le_refl states)))

    others : (t : Bool) → leb states (entry_of table states o q) ≡ t → is_unfit table states operations o q ≡ t
    others t e =
        simp (
          le-ltb _ _ some,
          le-ltb _ _ few,
          le-ltb _ _ any,
          le-ltb _ _ fitted,
          eq-eqb _ _ whole,
          lt-leb _ _ state,
          lt-leb _ _ operation,
          e,
        )

    go : (t : Bool) → leb states (entry_of table states o q) ≡ t → next_of table states o q ≡ fitted_of table states operations o q
    go true e = refused_entry table states o q few (omega arith) state there (leb-true _ _ e) ∙ simp (others true e)
    go false e = moved_to table states o q few (omega arith) state there (leb-false _ _ e) ∙ simp (others false e)

-- A step on the shared memory, by whether it may be taken: what denies it leaves all as it was.
abbrev pub stepped_by : Rules → ℕ → Shared → Loom → Result ℕ Code → Outcome
stepped_by R v m l (Err code) = unmoved code m l
stepped_by R v m l (Ok s) = taken (turned_of R v (λ _. s) m l)

pub step_by_permit : (R : Rules) (v : ℕ) (table : List ℕ) (states operations : ℕ) (m : Shared) (l : Loom) →
    stepped_by R v m l (may_step table states operations m l) ≡ step_on_of R v table states operations m l
unfolding step_on_of
step_by_permit R v table states operations m l = by_tests (is_unfit table states operations l.operation m.cell) (has_answered l.place)
  where
    op : ℕ → ℕ
    op = entry_of table states l.operation

    by_tests : (t u : Bool) →
        stepped_by R v m l (permit_of (cond t None (Some (op m.cell))) u)
        ≡ cond t (unmoved Unfit m l) (cond u (unmoved HasAnswered m l) (taken (turned_of R v op m l)))
    by_tests true u = refl
    by_tests false true = refl
    by_tests false false = ap taken (sym (turned_of_next R v op m l))

-- The same, one law for each way that it ends.
module _ (R : Rules) (v : ℕ) (table : List ℕ) (states operations : ℕ) (m : Shared) (l : Loom) where
  pub step_denied : (code : Code) → Err code ≡ may_step table states operations m l
      → unmoved code m l ≡ step_on_of R v table states operations m l
  step_denied code h = ap (stepped_by R v m l) h ∙ step_by_permit R v table states operations m l

  pub step_granted : (s : ℕ) → Ok s ≡ may_step table states operations m l
      → taken (turned_of R v (λ _. s) m l) ≡ step_on_of R v table states operations m l
  step_granted s h = ap (stepped_by R v m l) h ∙ step_by_permit R v table states operations m l

-- A loom put back into its own slot changes nothing.
put_back : (ls : List Loom) (k : ℕ) → set ls k (get_or ls k empty_loom) ≡ ls
put_back [] k = refl
put_back (l ∷ ls) zero = refl
put_back (l ∷ ls) (suc k) = ap (λ (r : List Loom). l ∷ r) (put_back ls k)

-- A group's step, restart of one and restart of all, one law for each way that they end.
module _ (g : Group) (k : ℕ) where
  -- a refused step puts back what was there, so that a step may always be put in place
  pub settled_in_place : (table : List ℕ) (states operations : ℕ) (R : Rules) (v : ℕ) →
      in_place g k (step_on_of R v table states operations g.shared (loom_at g k))
      ≡ settled g k (step_on_of R v table states operations g.shared (loom_at g k))
  unfolding settled step_on_of
  settled_in_place table states operations R v =
      by_tests (is_unfit table states operations (loom_at g k).operation g.shared.cell) (has_answered (loom_at g k).place)
    where
      out : Bool → Bool → Outcome
      out s t =
          cond s (unmoved Unfit g.shared (loom_at g k))
          (cond t (unmoved HasAnswered g.shared (loom_at g k)) (taken (turned_of R v (entry_of table states (loom_at g k).operation) g.shared (loom_at g k))))

      by_tests : (s t : Bool) → in_place g k (out s t) ≡ settled g k (out s t)
      by_tests true t = rw (put_back g.looms k)
      by_tests false true = rw (put_back g.looms k)
      by_tests false false = refl

  pub step_no_loom : (table : List ℕ) (states operations : ℕ) → no_loom g k ≡ true → refused NoLoom g ≡ step_of table states operations g k
  unfolding step_of
  step_no_loom table states operations h = simp h

  pub step_of_loom : (table : List ℕ) (states operations : ℕ) → no_loom g k ≡ false →
      settled g k (own_step table states operations g k) ≡ step_of table states operations g k
  unfolding step_of
  step_of_loom table states operations h = simp h

  pub restart_no_loom : no_loom g k ≡ true → restarted (Err NoLoom) g ≡ restart_of g k
  unfolding restart_of
  restart_no_loom h = simp h

  pub restart_of_loom : no_loom g k ≡ false → restarted (Ok tt) (restarted_at g k) ≡ restart_of g k
  unfolding restart_of
  restart_of_loom h = simp h

module _ (g : Group) where
  pub restart_too_many : edition.looms < g.count → restarted (Err NoLoom) g ≡ restart_all_of g
  unfolding restart_all_of
  restart_too_many h = simp (lt-ltb _ _ h)

  pub restart_all_of_lem : g.count ≤ edition.looms → restarted (Ok tt) (restarted_below g g.count) ≡ restart_all_of g
  unfolding restart_all_of
  restart_all_of_lem h = simp (le-ltb _ _ h)
