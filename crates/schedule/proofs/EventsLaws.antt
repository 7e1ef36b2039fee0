-- A run's group, answers and applications are those of the events that its schedule leaves.
-- Assumes nothing.
use Rattle.std.specs.Prelude.{ℕ, ◌+◌, ◌≤◌, ◌≡◌, Bool, true, false, Option, Some, None}
use native.Mathlib.Omega.{arith}
use Rattle.std.proofs.Math.Path.{refl, ap, sym}
use Rattle.std.proofs.Common.{◌∙◌}
use mathlib.Core.List.{List, [], ◌∷◌}
use Rattle.std.proofs.Math.ListN.{length}
use borrow.Author.Tests.{ltb-true}
use Rattle.recording.specs.Recording.{one}
use Rattle.recording.specs.declared.Seat.{Seat}
use Rattle.sides.specs.declared.Side.{Side}
use Rattle.loom.specs.declared.Place.{Place}
use Rattle.loom.specs.declared.Place.TheVariants.{Begin}
use Rattle.loom.specs.declared.Said.{Said}
use Rattle.loom.specs.declared.Said.TheVariants.{Nothing, Application, Answer}
use Rattle.sides.specs.Sides.{same_side}
use Rattle.loom.specs.Numbers.{said_applied}
use Rattle.sides.specs.SidesLaws.{same_side_lem}
use Rattle.agreement.specs.Machine.{Event, posted, applied, answered, with_post, with_said}
use Rattle.agreement.proofs.LogLaws.{had_latest, HadAnswer, answer_still}
use Rattle.group.specs.declared.Group.{Group}
use Rattle.group.specs.Group.{loom_at}
use Rattle.demands.specs.Acts.{Act as Done, loom_steps, loom_restarts, all_restart, History, noted, acted_on, history_after, untouched}
use Rattle.demands.specs.Fits.{WellFormed, Fits}
use Rattle.demands.proofs.FitsLaws.{turn_in}
use Rattle.schedule.specs.declared.Act.{Act}
use Rattle.schedule.specs.declared.Act.TheVariants.{Step, Restart, RestartAll}
use Rattle.schedule.specs.declared.Ran.{Ran}
use Rattle.schedule.specs.Acts.{act_of, is_named, all_named}
use Rattle.schedule.specs.Played.{answers_said, answers_told, applied_told, tallied, begun, with_acted, acted_of, played_of}
use Rattle.schedule.specs.Counts.{answers_for, group_after}
use Rattle.schedule.specs.Events.{done_before, done_by, answers_in, applications_in}
use Rattle.schedule.proofs.BecameLaws.{step_ends}
use Rattle.schedule.proofs.CountsLaws.{first_named, fits_acted}
use Rattle.schedule.proofs.AnswersLaws.{none_at_first, answers_added}

-- A post adds no answer and no application.
answers_posted : (s : Side) (k : ℕ) (t : Side) (v : ℕ) (p : Place) (log : List Event) → answers_in s (with_post k t v p log) ≡ answers_in s log
unfolding answers_in with_post
answers_posted s k t v Begin log = refl
answers_posted s k t v _ log = refl

applications_posted : (k : ℕ) (t : Side) (v : ℕ) (p : Place) (log : List Event) → applications_in (with_post k t v p log) ≡ applications_in log
unfolding applications_in with_post
applications_posted k t v Begin log = refl
applications_posted k t v _ log = refl

-- What a step says adds its answers and its application.
answers_noted : (s : Side) (k : ℕ) (t : Side) (said : Said) (log : List Event) → answers_in s (with_said k t said log) ≡ answers_said s said + answers_in s log
unfolding answers_in with_said
answers_noted s k t Nothing log = omega arith
answers_noted s k t Application log = omega arith
answers_noted s k t (Answer x v) log = refl

applications_said : (k : ℕ) (t : Side) (said : Said) (log : List Event) →
    applications_in (with_said k t said log) ≡ said_applied said + applications_in log
unfolding applications_in with_said
applications_said k t Nothing log = omega arith
applications_said k t Application log = refl
applications_said k t (Answer x v) log = omega arith

-- Where answers are counted, one is in the log.
pub counted_is_had : (s : Side) (log : List Event) → 1 ≤ answers_in s log → HadAnswer s log
unfolding answers_in
counted_is_had s [] some = absurd (omega arith)
counted_is_had s (posted k t v ∷ log) some = answer_still s (posted k t v) log (counted_is_had s log some)
counted_is_had s (applied k t ∷ log) some = answer_still s (applied k t) log (counted_is_had s log some)
counted_is_had s (answered k t v ∷ log) some = by_test (counted_is_had s log) (same_side t s) refl some
  where
    by_test : (1 ≤ answers_in s log → HadAnswer s log) → (b : Bool) → same_side t s ≡ b → 1 ≤ one b + answers_in s log → HadAnswer s (answered k t v ∷ log)
    by_test earlier true same some = (k, v, rw (same_side_lem t s same) (had_latest (answered k s v) log))
    by_test earlier false same some = answer_still s (answered k t v) log (earlier (omega arith))

module _ (table : List ℕ) (states operations : ℕ) where
  -- The history after an entry's act and the later ones.
  abbrev after : Option Act → History → History
  after (Some (Step k)) h = acted_on table states operations (loom_steps k) h
  after (Some (Restart k)) h = acted_on table states operations (loom_restarts k) h
  after (Some RestartAll) h = acted_on table states operations all_restart h
  after None h = h

  history_next : (act : Option Act) (later : List Done) (h : History) →
      history_after table states operations (done_before act later) h ≡ history_after table states operations later (after act h)
  unfolding history_after
  history_next (Some (Step k)) later h = refl
  history_next (Some (Restart k)) later h = refl
  history_next (Some RestartAll) later h = refl
  history_next None later h = refl

  group_next : (act : Option Act) (h : History) → (after act h).group ≡ (acted_of table states operations h.group act).group
  unfolding acted_of acted_on
  group_next (Some (Step k)) h = refl
  group_next (Some (Restart k)) h = refl
  group_next (Some RestartAll) h = refl
  group_next None h = refl

  -- The group after a schedule is the group after its acts.
  pub group_after_acts : (es : List ℕ) (h : History) → (history_after table states operations (done_by es) h).group ≡ group_after table states operations h.group es
  unfolding done_by group_after history_after
  group_after_acts [] h = refl
  group_after_acts (e ∷ es) h =
      ap (λ x. x.group) (history_next (act_of e) (done_by es) h)
      ∙ (group_after_acts es (after (act_of e) h) ∙ ap (λ g. group_after table states operations g es) (group_next (act_of e) h))

  module _ (looms : List Seat) (good : WellFormed table states operations looms) where
    -- An act adds to the log's answers of a side those that it tells, and to its applications what it applied.
    answers_next : (s : Side) (h : History) → Fits states looms h.group → (act : Option Act) → is_named (length looms) act ≡ true →
        answers_in s (after act h).log ≡ answers_told s (acted_of table states operations h.group act).told + answers_in s h.log
    unfolding acted_of acted_on noted
    answers_next s h fits (Some (Step j)) named =
        let l = loom_at h.group j in
        step_ends table states operations looms good h.group fits j (ltb-true j (length looms) named)
        (λ x. answers_in s (noted j l x h.log) ≡ answers_told s x.told + answers_in s h.log)
        (λ done. omega arith)
        (λ going.
        answers_noted s j l.side (turn_in table states h.group j).said _
        ∙ ap (λ n. answers_said s (turn_in table states h.group j).said + n) (answers_posted s j l.side _ l.place h.log))
    answers_next s h fits (Some (Restart j)) named = omega arith
    answers_next s h fits (Some RestartAll) named = omega arith
    answers_next s h fits None named = omega arith

    applications_next : (h : History) → Fits states looms h.group → (act : Option Act) → is_named (length looms) act ≡ true →
        applications_in (after act h).log ≡ applied_told (acted_of table states operations h.group act).told + applications_in h.log
    unfolding acted_of acted_on noted
    applications_next h fits (Some (Step j)) named =
        let l = loom_at h.group j in
        step_ends table states operations looms good h.group fits j (ltb-true j (length looms) named)
        (λ x. applications_in (noted j l x h.log) ≡ applied_told x.told + applications_in h.log)
        (λ done. omega arith)
        (λ going.
        applications_said j l.side (turn_in table states h.group j).said _
        ∙ ap (λ n. said_applied (turn_in table states h.group j).said + n) (applications_posted j l.side _ l.place h.log))
    applications_next h fits (Some (Restart j)) named = omega arith
    applications_next h fits (Some RestartAll) named = omega arith
    applications_next h fits None named = omega arith

    -- A run and a history that have gone the same way: the same group, and as many answers and applications.
    pub record Alike (r : Ran) (h : History) : Type 0 where
      pub group : r.group ≡ h.group
      pub fits : Fits states looms h.group
      pub answers : (s : Side) → answers_for s r ≡ answers_in s h.log
      pub applications : r.tally.applied ≡ applications_in h.log

    -- They begin alike, and each act keeps them so.
    pub alike_at_first : (g : Group) → Fits states looms g → Alike (begun g) (untouched g)
    unfolding answers_in applications_in
    alike_at_first g fits = record { group = refl; fits = fits; answers = none_at_first g; applications = refl }

    alike_next : (r : Ran) (h : History) → Alike r h → (act : Option Act) → is_named (length looms) act ≡ true →
        Alike (with_acted r (acted_of table states operations r.group act)) (after act h)
    unfolding tallied
    alike_next r h alike act named =
        let same = alike.group in
        record {
          group = ap (λ g. (acted_of table states operations g act).group) same ∙ sym (group_next act h);
          fits = rw (group_next act h) (fits_acted table states operations looms good h.group alike.fits act);
          answers =
              λ s.
              rw same
              (omega (
                arith,
                answers_added s r (acted_of table states operations h.group act),
                answers_next s h alike.fits act named,
                alike.answers s,
              ));
          applications = rw same (omega (arith, applications_next h alike.fits act named, alike.applications));
        }

    pub alike_always : (es : List ℕ) (r : Ran) (h : History) → Alike r h → all_named (length looms) es ≡ true →
        Alike (played_of table states operations r es) (history_after table states operations (done_by es) h)
    unfolding played_of done_by history_after
    alike_always [] r h alike named = alike
    alike_always (e ∷ es) r h alike named =
        let both_named = first_named (length looms) e es named in
        rw (history_next (act_of e) (done_by es) h)
        (alike_always es (with_acted r (acted_of table states operations r.group (act_of e))) (after (act_of e) h)
        (alike_next r h alike (act_of e) both_named.0) both_named.1)
