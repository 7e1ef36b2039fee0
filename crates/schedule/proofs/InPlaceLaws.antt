-- Acts taken in place are the acts of a run; and what the looms go by is the same after any act.
-- Assumes nothing.
use Prim.Native.Nat.{ℕ, zero, suc, ◌≤◌, ◌<◌, min}
use native.Mathlib.Omega.{arith}
use borrow.Author.Tests.{lt-ltb}
use Rattle.std.proofs.Common.{◌∙◌}
use Rattle.std.specs.Prelude.{◌≡◌, refl, Bool, true, false, cond, List, [], ◌∷◌, Option, Some, None, Ok, Err, length, get_or, take}
use Rattle.std.proofs.Math.Path.{sym, ap}
use Rattle.std.proofs.lemmas.List.Sums.{AllPass-from_list_all}
use Rattle.codes.specs.declared.Code.TheVariants.{HasAnswered}
use Rattle.cell.specs.Table.{entry_of}
use Rattle.cell.specs.TableLaws.{good_moves}
use Rattle.cell.specs.Limits.{edition, first_restart}
use Rattle.recording.specs.declared.Certificate.{Certificate}
use Rattle.recording.specs.Check.{looms_of}
use Rattle.sides.specs.declared.Side.{Side}
use Rattle.sides.specs.Sides.{of_side}
use Rattle.loom.specs.declared.Loom.{Loom}
use Rattle.loom.specs.declared.Lead.{Lead}
use Rattle.loom.specs.declared.Turned.{Turned}
use Rattle.loom.specs.Looms.{rules_of, turned_of, restarted_of}
use Rattle.loom.specs.LoomsLaws.{turned_of_next}
use Rattle.group.specs.declared.Group.{Group}
use Rattle.sides.specs.declared.Pair.{Pair}
use Rattle.group.specs.Open.{open_of}
use Rattle.group.specs.Group.{empty_loom, loom_at, count_of, lead_of, group_rules, with_loom, with_shared, with_looms, no_loom, looms_restarted}
use Rattle.group.specs.GroupLaws.{restarted_looms}
use Rattle.loom.specs.Turn.{has_answered}
use Rattle.group.specs.Step.{step_of}
use Rattle.group.specs.StepLaws.{restart_of_loom, restart_all_of_lem}
use Rattle.demands.specs.Kept.{Kept}
use Rattle.demands.proofs.FitsLaws.{such_loom, step_of_answered, step_of_unanswered}
use Rattle.demands.proofs.OpenedLaws.{newly_opened}
use Rattle.demands.proofs.NewlyOpenedLaws.{fits_at_opening}
use Rattle.demands.proofs.KeptLaws.{kept_itself, kept_by_step, kept_by_restart, kept_by_restart_of_all}
use Rattle.schedule.specs.declared.Act.{Act}
use Rattle.schedule.specs.declared.Act.TheVariants.{Step, Restart, RestartAll}
use Rattle.schedule.specs.Acts.{act_of, is_named, all_named}
use Rattle.schedule.specs.Played.{silent, after_restart, acted_of}
use Rattle.schedule.specs.InPlace.{acted_by, told_by_turn, Fitting, leads_to}
use Rattle.schedule.proofs.CountsLaws.{fits_acted}

-- Looms of the same sides count the same.
counts_alike : (s : Side) (n : ℕ) (ls ms : List Loom) → length ls ≡ length ms →
    ((k : ℕ) → (get_or ls k empty_loom).side ≡ (get_or ms k empty_loom).side) →
    count_of s (take n ls) ≡ count_of s (take n ms)
unfolding count_of
counts_alike s zero ls ms slots same = refl
counts_alike s (suc n) [] [] slots same = refl
counts_alike s (suc n) [] (m ∷ ms) slots same = absurd (omega (arith, slots))
counts_alike s (suc n) (l ∷ ls) [] slots same = absurd (omega (arith, slots))
counts_alike s (suc n) (l ∷ ls) (m ∷ ms) slots same =
    rw (same 0, counts_alike s n ls ms (omega (arith, slots)) (λ k. same (suc k)))

-- What acts leave alone is all that the looms go by.
pub lead_kept : (g h : Group) → Kept g h → lead_of h ≡ lead_of g
unfolding lead_of
lead_kept g h kept =
    rw (kept.start, kept.sets, kept.count, counts_alike _ g.count h.looms g.looms kept.slots (λ k. (kept.looms k).side))

-- A group that has opened fits its table.
pub opened_fitting : (table : List ℕ) (states operations : ℕ) (c : Certificate) (numbers : Pair ℕ) (words : ℕ) (g : Group) →
    open_of table states operations c numbers words ≡ Ok g → Fitting table states operations g
opened_fitting table states operations c numbers words g opens =
    let new = newly_opened table states operations c numbers words g opens in
    record { looms = looms_of c; good = new.good; fits = fits_at_opening new }

-- Each entry of a schedule whose entries are all named is named.
pub each_named : (count : ℕ) (es : List ℕ) (i : ℕ) → all_named count es ≡ true → i < length es → is_named count (act_of (get_or es i 0)) ≡ true
each_named count es i named here = AllPass-from_list_all (λ e. is_named count (act_of e)) es named i 0 here

-- Where a step leads, by whether the loom has answered; n is the table's entry.
leads_nowhere : (t : Bool) (n : ℕ) → None ≡ cond t None (Some n) → t ≡ true
leads_nowhere true n h = refl
leads_nowhere false n h = cc

leads_somewhere : (t : Bool) (n s : ℕ) → Some s ≡ cond t None (Some n) → (t ≡ false) × (s ≡ n)
leads_somewhere true n s h = cc
leads_somewhere false n s h = (refl, cc)

module _ (table : List ℕ) (states operations : ℕ) (g : Group) where
  -- Any act keeps what the looms go by, and the numbers.
  pub kept_by_acted : (act : Option Act) → Kept g (acted_of table states operations g act).group
  unfolding acted_of
  kept_by_acted (Some (Step k)) = kept_by_step table states operations g k
  kept_by_acted (Some (Restart k)) = kept_by_restart g k
  kept_by_acted (Some RestartAll) = kept_by_restart_of_all g
  kept_by_acted None = kept_itself g

  -- An entry below the limit of looms is a step of that loom.
  pub step_in_place : (e : ℕ) → e < edition.looms → step_of table states operations g e ≡ acted_of table states operations g (act_of e)
  unfolding acted_of act_of
  step_in_place e low = rw (lt-ltb e first_restart (omega arith))

  -- A restart of loom k.
  pub restart_in_place : (k : ℕ) → no_loom g k ≡ false →
      acted_by (Ok silent) (with_loom g k (restarted_of (loom_at g k))) ≡ acted_of table states operations g (Some (Restart k))
  unfolding acted_of
  restart_in_place k has = ap (λ r. after_restart r.group) (restart_of_loom g k has)

  -- The restart of all.
  pub all_in_place : g.count ≤ edition.looms →
      acted_by (Ok silent) (with_looms g (looms_restarted g.looms (min g.count edition.looms))) ≡ acted_of table states operations g (Some RestartAll)
  unfolding acted_of
  all_in_place few =
      let all : min g.count edition.looms ≡ g.count = omega arith in
      rw all (ap after_restart (restarted_looms g g.count ∙ ap (λ r. r.group) (restart_all_of_lem g few)))

  -- A group that fits its table goes on fitting.
  pub fitting_after : Fitting table states operations g → (act : Option Act) → Fitting table states operations (acted_of table states operations g act).group
  fitting_after fitting act =
      record { looms = fitting.looms; good = fitting.good; fits = fits_acted table states operations fitting.looms fitting.good g fitting.fits act }

  module _ (fitting : Fitting table states operations g) where
    -- It has no more looms than the limit, and its looms are those below its count.
    pub fitting_few : g.count ≤ edition.looms
    fitting_few = omega (arith, fitting.fits.seated.count, fitting.good.few)

    seat : (k : ℕ) → k < g.count → k < length fitting.looms
    seat k here = omega (arith, fitting.fits.seated.count)

    pub fitting_loom : (k : ℕ) → k < g.count → no_loom g k ≡ false
    fitting_loom k here = such_loom table states operations fitting.looms fitting.good g fitting.fits k (seat k here)

    -- The table has a next state for each of its looms.
    fitting_next : (k : ℕ) → k < g.count →
        leads_to table states g.shared (loom_at g k) ≡ cond (has_answered (loom_at g k).place) None (Some (entry_of table states (loom_at g k).operation g.shared.cell))
    fitting_next k here =
        let own : (loom_at g k).operation < operations = rw (fitting.fits.seated.operation k (seat k here)) (fitting.good.fitted k (seat k here)) in
        ap (cond (has_answered (loom_at g k).place) None)
        (good_moves table states operations fitting.good.form (loom_at g k).operation g.shared.cell own fitting.fits.cell).1

    -- So a step that leads nowhere is that of a loom that has answered.
    pub answered_in_place : (k : ℕ) → k < g.count → None ≡ leads_to table states g.shared (loom_at g k) →
        acted_by (Err HasAnswered) g ≡ acted_of table states operations g (Some (Step k))
    unfolding acted_of
    answered_in_place k here nowhere =
        let done = leads_nowhere _ _ (nowhere ∙ fitting_next k here) in
        sym (step_of_answered table states operations fitting.looms fitting.good g fitting.fits k (seat k here) done)

    -- And one that leads to a state is taken.
    pub taken_in_place : (k v s : ℕ) (lead : Lead) (t : Turned) → k < g.count →
        Some s ≡ leads_to table states g.shared (loom_at g k) →
        lead ≡ lead_of g → v ≡ of_side g.numbers (loom_at g k).side → t ≡ turned_of (rules_of lead) v (λ _. s) g.shared (loom_at g k) →
        acted_by (Ok (told_by_turn t)) (with_loom (with_shared g t.shared) k t.loom) ≡ acted_of table states operations g (Some (Step k))
    unfolding acted_of
    taken_in_place k v s lead t here somewhere leads posts is =
        let going = leads_somewhere _ _ _ (somewhere ∙ fitting_next k here) in
        let turned : t ≡ turned_of (group_rules g) (of_side g.numbers (loom_at g k).side) (entry_of table states (loom_at g k).operation) g.shared (loom_at g k) =
        is
        ∙ (rw (leads, posts, going.1)
        (sym (turned_of_next (group_rules g) (of_side g.numbers (loom_at g k).side) (entry_of table states (loom_at g k).operation) g.shared (loom_at g k)))) in
        ap (λ x. acted_by (Ok (told_by_turn x)) (with_loom (with_shared g x.shared) k x.loom)) turned
        ∙ sym (step_of_unanswered table states operations fitting.looms fitting.good g fitting.fits k (seat k here) going.0)
