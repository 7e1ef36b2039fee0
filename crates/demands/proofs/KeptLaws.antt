-- No act changes more than the shared memory, and the looms' places and counts.
-- Assumes nothing.
use Rattle.std.specs.Prelude.{ℕ, zero, suc, refl, Bool, true, false, cond, get_or, set, Result, Ok, Err}
use Rattle.std.proofs.Common.{◌∙◌, length-set}
use mathlib.Core.List.{List, [], ◌∷◌}
use Rattle.codes.specs.declared.Code.{Code}
use Rattle.codes.specs.declared.Code.TheVariants.{NoLoom, HasAnswered, Unfit}
use Rattle.cell.specs.Table.{entry_of}
use Rattle.loom.specs.declared.Loom.{Loom}
use Rattle.loom.specs.declared.Said.{Said}
use Rattle.loom.specs.declared.Shared.{Shared}
use Rattle.loom.specs.Turn.{Rules, has_answered}
use Rattle.loom.specs.Looms.{turned_of}
use Rattle.group.specs.declared.Group.{Group}
use Rattle.group.specs.declared.Outcome.{Outcome}
use Rattle.group.specs.Group.{empty_loom, loom_at, with_loom, with_shared, no_loom, too_many, restarted_at, restarted_below}
use Rattle.group.specs.Step.{is_unfit, unmoved, taken, step_on_of, settled_by, settled, own_step, step_of, refused, restarted, restart_of, restart_all_of}
use Rattle.demands.specs.Acts.{Act, loom_steps, loom_restarts, all_restart, History, acted_on, history_after}
use Rattle.demands.specs.Kept.{SameLoom, Kept}

-- A loom has its own side and operation.
pub same_loom : (l : Loom) → SameLoom l l
same_loom l = record { side = refl; operation = refl }

-- Nothing done keeps everything.
pub kept_itself : (g : Group) → Kept g g
kept_itself g = record { count = refl; start = refl; sets = refl; numbers = refl; slots = refl; looms = λ k. same_loom (loom_at g k) }

-- What is kept twice over is kept.
pub kept_further : (f g h : Group) → Kept f g → Kept g h → Kept f h
kept_further f g h one two =
    record {
      count = two.count ∙ one.count;
      start = two.start ∙ one.start;
      sets = two.sets ∙ one.sets;
      numbers = two.numbers ∙ one.numbers;
      slots = two.slots ∙ one.slots;
      looms = λ k. record { side = (two.looms k).side ∙ (one.looms k).side; operation = (two.looms k).operation ∙ (one.looms k).operation };
    }

-- A loom with the side and operation of the one in its slot, put there, changes no other's either.
same_after_set : (ls : List Loom) (k : ℕ) (l : Loom) → SameLoom l (get_or ls k empty_loom) →
    (j : ℕ) → SameLoom (get_or (set ls k l) j empty_loom) (get_or ls j empty_loom)
same_after_set [] k l same j = same_loom empty_loom
same_after_set (m ∷ ls) zero l same zero = same
same_after_set (m ∷ ls) zero l same (suc j) = same_loom (get_or ls j empty_loom)
same_after_set (m ∷ ls) (suc k) l same zero = same_loom m
same_after_set (m ∷ ls) (suc k) l same (suc j) = same_after_set ls k l same j

-- A loom of the same side and operation in its slot changes nothing that acts leave alone.
pub kept_with_loom : (g : Group) (k : ℕ) (l : Loom) → SameLoom l (loom_at g k) → Kept g (with_loom g k l)
kept_with_loom g k l same =
    record {
      count = refl;
      start = refl;
      sets = refl;
      numbers = refl;
      slots = length-set g.looms k l;
      looms = same_after_set g.looms k l same;
    }

-- Nor does another memory.
pub kept_with_shared : (g : Group) (m : Shared) → Kept g (with_shared g m)
kept_with_shared g m = record { count = refl; start = refl; sets = refl; numbers = refl; slots = refl; looms = λ k. same_loom (loom_at g k) }

-- A step hands back a loom of the same side and operation, however it ends.
same_after_step : (R : Rules) (v : ℕ) (table : List ℕ) (states operations : ℕ) (m : Shared) (l : Loom) →
    SameLoom (step_on_of R v table states operations m l).loom l
unfolding step_on_of
same_after_step R v table states operations m l = by_tests (is_unfit table states operations l.operation m.cell) (has_answered l.place)
  where
    by_tests : (s t : Bool) →
        SameLoom (cond s (unmoved Unfit m l) (cond t (unmoved HasAnswered m l) (taken (turned_of R v (entry_of table states l.operation) m l)))).loom l
    by_tests true t = same_loom l
    by_tests false true = same_loom l
    by_tests false false = record { side = refl; operation = refl }

kept_settled : (g : Group) (k : ℕ) (r : Outcome) → SameLoom r.loom (loom_at g k) → Kept g (settled g k r).group
unfolding settled
kept_settled g k r same = by_said r.said
  where
    by_said : (s : Result Said Code) → Kept g (settled_by g k r s).group
    by_said (Ok said) = kept_further _ _ _ (kept_with_shared g r.shared) (kept_with_loom (with_shared g r.shared) k r.loom same)
    by_said (Err code) = kept_itself g

-- A step keeps it, taken or refused.
pub kept_by_step : (table : List ℕ) (states operations : ℕ) (g : Group) (k : ℕ) → Kept g (step_of table states operations g k).group
unfolding step_of
kept_by_step table states operations g k = by_test (no_loom g k)
  where
    by_test : (b : Bool) → Kept g (cond b (refused NoLoom g) (settled g k (own_step table states operations g k))).group
    by_test true = kept_itself g
    by_test false = kept_settled g k _ (same_after_step _ _ table states operations g.shared (loom_at g k))

kept_restarted : (g : Group) (k : ℕ) → Kept g (restarted_at g k)
kept_restarted g k = kept_with_loom g k _ (record { side = refl; operation = refl })

-- So do restarts of the looms below n.
pub kept_restarted_below : (g : Group) (n : ℕ) → Kept g (restarted_below g n)
unfolding restarted_below
kept_restarted_below g zero = kept_itself g
kept_restarted_below g (suc n) = kept_further _ _ _ (kept_restarted_below g n) (kept_restarted (restarted_below g n) n)

-- A restart of one keeps it,
pub kept_by_restart : (g : Group) (k : ℕ) → Kept g (restart_of g k).group
unfolding restart_of
kept_by_restart g k = by_test (no_loom g k)
  where
    by_test : (b : Bool) → Kept g (cond b (restarted (Err NoLoom) g) (restarted (Ok tt) (restarted_at g k))).group
    by_test true = kept_itself g
    by_test false = kept_restarted g k

-- and a restart of all.
pub kept_by_restart_of_all : (g : Group) → Kept g (restart_all_of g).group
unfolding restart_all_of
kept_by_restart_of_all g = by_test (too_many g)
  where
    by_test : (b : Bool) → Kept g (cond b (restarted (Err NoLoom) g) (restarted (Ok tt) (restarted_below g g.count))).group
    by_test true = kept_itself g
    by_test false = kept_restarted_below g g.count

module _ (table : List ℕ) (states operations : ℕ) where
  -- Any act keeps it.
  pub kept_by_act : (a : Act) (h : History) → Kept h.group (acted_on table states operations a h).group
  unfolding acted_on
  kept_by_act (loom_steps k) h = kept_by_step table states operations h.group k
  kept_by_act (loom_restarts k) h = kept_by_restart h.group k
  kept_by_act all_restart h = kept_by_restart_of_all h.group

  -- Whatever the acts, on whatever group.
  pub kept_always : (acts : List Act) (h : History) → Kept h.group (history_after table states operations acts h).group
  unfolding history_after
  kept_always [] h = kept_itself h.group
  kept_always (a ∷ acts) h = kept_further _ _ _ (kept_by_act a h) (kept_always acts (acted_on table states operations a h))
