-- Every act on a group that fits is the same act of the machine of looms.
-- Assumes nothing.
use Rattle.std.specs.Prelude.{ℕ, zero, suc, ◌≤◌, ◌<◌, ◌≡◌, Bool, true, false, cond, eqb, length, get_or, take, set}
use Rattle.std.proofs.Common.{suc-le-suc, le_of_suc-le-suc, not-suc-le-zero, zero-lt-suc, arith, ◌∙◌, get_or-set_same, get_or-set_other, eqb-true}
use Rattle.std.proofs.Math.Decide.{dec_lt}
use Rattle.std.proofs.Math.Path.{refl, ap, sym}
use mathlib.Core.List.{List, [], ◌∷◌}
use Rattle.std.proofs.lemmas.Bool.{eqb-false}
use Rattle.cell.specs.Table.{entry_of}
use Rattle.recording.specs.declared.Seat.{Seat}
use Rattle.recording.specs.Recording.{side_at, operation_at, one, side_count}
use Rattle.sides.specs.declared.Side.{Side}
use Rattle.sides.specs.declared.Side.TheVariants.{A, B}
use Rattle.loom.specs.declared.Place.{Place}
use Rattle.loom.specs.declared.Place.TheVariants.{Begin, Posted, Looking, Ready, Applied, Bound, Answered}
use Rattle.loom.specs.declared.Loom.{Loom}
use Rattle.loom.specs.declared.Shared.{Shared}
use Rattle.sides.specs.Sides.{side_number, side_from, same_side, of_side}
use Rattle.loom.specs.Sides.{register}
use Rattle.loom.specs.Turn.{Rules, Turn, turn_of, has_answered}
use Rattle.loom.specs.Looms.{moved_to, restarted_of}
use Rattle.loom.specs.SidesLaws.{register_written}
use Rattle.agreement.specs.Machine.{Event, step, State, side_of, changed_at, with_post, with_said, turned, stepped_from, stepped, acted, after}
use Rattle.agreement.proofs.MachineLaws.{changed_other, stepped_no_loom, stepped_loom, stepped_answered}
use Rattle.group.specs.declared.Group.{Group}
use Rattle.group.specs.Group.{empty_loom, loom_at, count_of, yielding_of, lead_of, group_rules, with_loom, with_shared}
use Rattle.group.specs.ActsLaws.{restarted_each}
use Rattle.group.specs.Step.{step_of}
use Rattle.demands.specs.Acts.{Act, loom_steps, loom_restarts, all_restart, History, noted, stepped_to, acted_on, history_after}
use Rattle.demands.specs.Kept.{Kept}
use Rattle.demands.proofs.KeptLaws.{kept_by_act}
use Rattle.demands.specs.Fits.{Seated, WellFormed, Fits}
use Rattle.demands.proofs.FitsLaws.{turn_in, shared_restarted_below, step_of_none, step_of_answered, step_of_unanswered, restart_of_none, restart_of_one, restart_of_all, fits_by_act}
use Rattle.demands.specs.Processes.{numbered, all_numbered}
use Rattle.demands.specs.Pictured.{rules_by, Pictured}

-- A loom of the side is counted in either way.
one_of_side : (n : ℕ) (s : Side) → n ≤ 1 → one (same_side (side_from n) s) ≡ one (eqb n (side_number s))
one_of_side zero A small = refl
one_of_side zero B small = refl
one_of_side (suc zero) A small = refl
one_of_side (suc zero) B small = refl
one_of_side (suc (suc n)) s small = absurd (omega arith)

-- As many looms of a side as seats of it.
pub count_of_seats : (s : Side) (looms : List Seat) (ls : List Loom) → length looms ≤ length ls →
    ((k : ℕ) → k < length looms → (get_or ls k empty_loom).side ≡ side_of looms k) → ((k : ℕ) → side_at looms k ≤ 1) →
    count_of s (take (length looms) ls) ≡ side_count (side_number s) looms
unfolding count_of
count_of_seats s [] ls room sides within = refl
count_of_seats s (seat ∷ looms) [] room sides within = absurd (not-suc-le-zero room)
count_of_seats s (seat ∷ looms) (l ∷ ls) room sides within =
    let first : one (same_side l.side s) ≡ one (eqb seat.side (side_number s)) =
    ap (λ t. one (same_side t s)) (sides 0 (zero-lt-suc (length looms))) ∙ one_of_side seat.side s (within 0) in
    let rest = count_of_seats s looms ls (le_of_suc-le-suc room) (λ k here. sides (suc k) (suc-le-suc here)) (λ k. within (suc k)) in
    rw (first, rest) refl

-- The rules read off a group are those of its seats, its start and its sets.
pub rules_of_seats : (looms : List Seat) (g : Group) → ((k : ℕ) → side_at looms k ≤ 1) → Seated looms g → group_rules g ≡ rules_by looms g.start g.sets
unfolding lead_of
rules_of_seats looms g within seated =
    rw seated.count (rw (count_of_seats (yielding_of g.start g.sets) looms g.looms seated.slots seated.side within) refl)

-- A group with another loom in slot k has that loom's place there, and every other place as it was.
pub place_with_loom : (g : Group) (k : ℕ) (l : Loom) → k < length g.looms → (j : ℕ) →
    (loom_at (with_loom g k l) j).place ≡ changed_at (λ i. (loom_at g i).place) k l.place j
unfolding changed_at
place_with_loom g k l here j = by_test (eqb j k) refl
  where
    by_test : (b : Bool) → eqb j k ≡ b → (get_or (set g.looms k l) j empty_loom).place ≡ cond b l.place (get_or g.looms j empty_loom).place
    by_test true e = rw (eqb-true j k e) (ap (λ m. m.place) (get_or-set_same g.looms k l empty_loom here))
    by_test false e = ap (λ m. m.place) (get_or-set_other g.looms k j l empty_loom (eqb-false j k e))

-- Two families that agree at j, changed in one way at k, agree at j.
changed_alike : (f e : ℕ → Place) (k : ℕ) (p q : Place) (j : ℕ) → f j ≡ e j → p ≡ q → changed_at f k p j ≡ changed_at e k q j
unfolding changed_at
changed_alike f e k p q j same new = by_test (eqb j k)
  where
    by_test : (b : Bool) → cond b p (f j) ≡ cond b q (e j)
    by_test true = new
    by_test false = same

-- What a step from begin has written is what its side's register then holds.
post_read_back : (R : Rules) (k : ℕ) (s : Side) (v : ℕ) (op : ℕ → ℕ) (m : Shared) (p : Place) (log : List Event) →
    with_post k s (register (turn_of R s v op m p).shared s) p log ≡ with_post k s v p log
unfolding with_post turn_of
post_read_back R k s v op m Begin log = ap (λ w. with_post k s w Begin log) (register_written m s v)
post_read_back R k s v op m Posted log = refl
post_read_back R k s v op m Looking log = refl
post_read_back R k s v op m Ready log = refl
post_read_back R k s v op m Applied log = refl
post_read_back R k s v op m (Bound x) log = refl
post_read_back R k s v op m (Answered x) log = refl

-- They are fixed where acts leave the seats, the start and the sets alone.
pub rules_kept : (looms : List Seat) (g h : Group) → ((k : ℕ) → side_at looms k ≤ 1) → Kept g h → Seated looms g → Seated looms h → group_rules h ≡ group_rules g
rules_kept looms g h within kept one two =
    rules_of_seats looms h within two ∙ rw (kept.start, kept.sets) refl ∙ sym (rules_of_seats looms g within one)

module _ (table : List ℕ) (states operations : ℕ) (looms : List Seat) (good : WellFormed table states operations looms) (R : Rules) (num : Side → ℕ) where
  -- The group fits, goes by these rules, posts these numbers, and is a picture of the machine's state.
  pub record Along (h : History) (S : State) : Type 0 where
    pub fits : Fits states looms h.group
    pub rules : group_rules h.group ≡ R
    pub numbers : of_side h.group.numbers ≡ num
    pub pictured : Pictured looms h S

  module _ (h : History) (S : State) (along : Along h S) (k : ℕ) (here : k < length looms) where
    machine_turn : Turn
    machine_turn = turn_of R (side_of looms k) (num (side_of looms k)) (entry_of table states (operation_at looms k)) S.shared (S.place k)

    -- Its turn is the machine's.
    turn_same : turn_in table states h.group k ≡ machine_turn
    unfolding machine_turn
    turn_same =
        rw (
          along.rules,
          along.numbers,
          along.fits.seated.side k here,
          along.fits.seated.operation k here,
          along.pictured.shared,
          along.pictured.place k here,
        )
        refl

    -- And what the log is told of it.
    log_same : with_said k (loom_at h.group k).side (turn_in table states h.group k).said
        (with_post k (loom_at h.group k).side (register (turn_in table states h.group k).shared (loom_at h.group k).side) (loom_at h.group k).place h.log) ≡
        with_said k (side_of looms k) machine_turn.said (with_post k (side_of looms k) (num (side_of looms k)) (S.place k) S.log)
    unfolding machine_turn
    log_same =
        rw (turn_same, along.fits.seated.side k here, along.pictured.place k here, along.pictured.log)
        (ap (with_said k (side_of looms k) machine_turn.said) (post_read_back R k (side_of looms k) (num (side_of looms k)) (entry_of table states (operation_at looms k)) S.shared (S.place k) S.log))

    room : k < length h.group.looms
    room = omega (arith, along.fits.seated.slots)

    -- A loom that has not answered takes its turn, and the log is told of it.
    pictured_taken : has_answered (loom_at h.group k).place ≡ false →
        Pictured looms (stepped_to k h (step_of table states operations h.group k)) (acted (entry_of table states) looms R (step k (num (side_of looms k))) S)
    unfolding noted stepped stepped_from turned machine_turn
    pictured_taken going =
        rw (
          step_of_unanswered table states operations looms good h.group along.fits k here going,
          stepped_loom (entry_of table states) looms R S k (num (side_of looms k)) here,
        )
        record {
          shared = ap (λ t. t.shared) turn_same;
          place = λ j below.
              place_with_loom (with_shared h.group (turn_in table states h.group k).shared) k (moved_to (loom_at h.group k) (turn_in table states h.group k).place) room j
              ∙ changed_alike (λ i. (loom_at h.group i).place) S.place k _ _ j (along.pictured.place j below) (ap (λ t. t.place) turn_same);
          log = log_same;
        }

    -- One that has answered stays, and so does the machine.
    pictured_answered : (x : Side) → (loom_at h.group k).place ≡ Answered x →
        Pictured looms (stepped_to k h (step_of table states operations h.group k)) (acted (entry_of table states) looms R (step k (num (side_of looms k))) S)
    unfolding noted
    pictured_answered x there =
        rw (
          step_of_answered table states operations looms good h.group along.fits k here (ap has_answered there),
          stepped_answered (entry_of table states) looms R S k (num (side_of looms k)) x (sym (along.pictured.place k here) ∙ there),
        )
        record { shared = along.pictured.shared; place = along.pictured.place; log = along.pictured.log }

    pictured_stepped : (p : Place) → (loom_at h.group k).place ≡ p →
        Pictured looms (stepped_to k h (step_of table states operations h.group k)) (acted (entry_of table states) looms R (step k (num (side_of looms k))) S)
    pictured_stepped Begin there = pictured_taken (ap has_answered there)
    pictured_stepped Posted there = pictured_taken (ap has_answered there)
    pictured_stepped Looking there = pictured_taken (ap has_answered there)
    pictured_stepped Ready there = pictured_taken (ap has_answered there)
    pictured_stepped Applied there = pictured_taken (ap has_answered there)
    pictured_stepped (Bound x) there = pictured_taken (ap has_answered there)
    pictured_stepped (Answered x) there = pictured_answered x there

  -- Each act on the group is that act of the machine.
  module _ (h : History) (S : State) (along : Along h S) where
    pictured_by_step : (k : ℕ) → Dec (k < length looms) →
        Pictured looms (acted_on table states operations (loom_steps k) h) (acted (entry_of table states) looms R (numbered num looms (loom_steps k)) S)
    unfolding acted_on numbered noted
    pictured_by_step k (yes here) = pictured_stepped h S along k here (loom_at h.group k).place refl
    pictured_by_step k (no past) =
        rw (
          step_of_none table states operations looms good h.group along.fits k (omega arith),
          stepped_no_loom (entry_of table states) looms R S k (num (side_of looms k)) (omega arith),
        )
        record { shared = along.pictured.shared; place = along.pictured.place; log = along.pictured.log }

    pictured_by_restart : (k : ℕ) → Dec (k < length looms) →
        Pictured looms (acted_on table states operations (loom_restarts k) h) (acted (entry_of table states) looms R (numbered num looms (loom_restarts k)) S)
    unfolding acted_on numbered acted
    pictured_by_restart k (yes here) =
        rw (restart_of_one table states operations looms good h.group along.fits k here)
        record {
          shared = along.pictured.shared;
          place = λ j below.
              place_with_loom h.group k (restarted_of (loom_at h.group k)) (room h S along k here) j
              ∙ changed_alike (λ i. (loom_at h.group i).place) S.place k Begin Begin j (along.pictured.place j below) refl;
          log = along.pictured.log;
        }
    pictured_by_restart k (no past) =
        rw (restart_of_none table states operations looms good h.group along.fits k (omega arith))
        record {
          shared = along.pictured.shared;
          place = λ j below. along.pictured.place j below ∙ sym (changed_other S.place k Begin j (λ same. omega arith));
          log = along.pictured.log;
        }

    pictured_by_restart_of_all :
        Pictured looms (acted_on table states operations all_restart h) (acted (entry_of table states) looms R (numbered num looms all_restart) S)
    unfolding acted_on numbered acted
    pictured_by_restart_of_all =
        rw (restart_of_all table states operations looms good h.group along.fits)
        record {
          shared = shared_restarted_below h.group h.group.count ∙ along.pictured.shared;
          place = λ j below.
              ap (λ l. l.place) (restarted_each h.group h.group.count j (omega (arith, along.fits.seated.count, along.fits.seated.slots)) (omega (arith, along.fits.seated.count)));
          log = along.pictured.log;
        }

    -- The picture after one act.
    pub pictured_by_act : (a : Act) → Pictured looms (acted_on table states operations a h) (acted (entry_of table states) looms R (numbered num looms a) S)
    pictured_by_act (loom_steps k) = pictured_by_step k (dec_lt k (length looms))
    pictured_by_act (loom_restarts k) = pictured_by_restart k (dec_lt k (length looms))
    pictured_by_act all_restart = pictured_by_restart_of_all

    -- And all that goes with it.
    pub along_by_act : (a : Act) → Along (acted_on table states operations a h) (acted (entry_of table states) looms R (numbered num looms a) S)
    along_by_act a =
        let kept = kept_by_act table states operations a h in
        let fits = fits_by_act table states operations looms good a h along.fits in
        record {
          fits = fits;
          rules = rules_kept looms h.group _ good.sides kept along.fits.seated fits.seated ∙ along.rules;
          numbers = ap of_side kept.numbers ∙ along.numbers;
          pictured = pictured_by_act a;
        }

  -- Whatever the acts, the group stays a picture of the machine.
  pub along_always : (acts : List Act) (h : History) (S : State) → Along h S →
      Along (history_after table states operations acts h) (after (entry_of table states) looms R (all_numbered num looms acts) S)
  unfolding history_after after all_numbered
  along_always [] h S along = along
  along_always (a ∷ acts) h S along = along_always acts _ _ (along_by_act h S along a)
