-- Demand 3, carried to the run: document 01, "Schedules" and "What the contracts owe".
-- Assumes nothing.
use Rattle.std.specs.Prelude.{ℕ, ◌≤◌, ◌≡◌, List, Result, Ok}
use Rattle.std.proofs.Common.{arith, sym, subst}
use Rattle.codes.specs.declared.Code.{Code}
use Rattle.recording.specs.declared.Certificate.{Certificate}
use Rattle.recording.specs.Check.{looms_of}
use Rattle.sides.specs.declared.Side.{Side}
use Rattle.sides.specs.declared.Side.TheVariants.{A, B}
use Rattle.agreement.specs.Machine.{Event, applied, answered}
use Rattle.agreement.specs.Agreed.{Agreed, Came, Had, NoneApplied}
use Rattle.agreement.proofs.LogLaws.{HadAnswer}
use Rattle.sides.specs.declared.Pair.{Pair}
use Rattle.group.specs.declared.Group.{Group}
use Rattle.sides.specs.Sides.{of_side}
use Rattle.group.specs.Open.{open_of}
use Rattle.demands.specs.Acts.{history_after, untouched}
use Rattle.demands.specs.NewlyOpened.{NewlyOpened}
use Rattle.demands.proofs.NewlyOpenedLaws.{fits_at_opening}
use Rattle.demands.proofs.OpenedLaws.{newly_opened}
use Rattle.demands.proofs.DemandThree.{demand_three}
use Rattle.schedule.specs.declared.Ran.{Ran}
use Rattle.schedule.specs.Played.{begun, played_of}
use Rattle.schedule.specs.Run.{run_of}
use Rattle.schedule.specs.RunLaws.{Unrefused, opened_first, unrefused_first}
use Rattle.schedule.specs.Counts.{answers_for}
use Rattle.schedule.specs.Events.{done_by, events_over, answers_in, applications_in}
use Rattle.schedule.proofs.EventsLaws.{counted_is_had, Alike, alike_at_first, alike_always}

-- A run's result r over the events that its schedule left. `num s` is the number of side s.
pub record RunAgreed (num : Side → ℕ) (r : Ran) (log : List Event) : Type 0 where
  -- Its answers and applications are those of the log.
  pub answers : (s : Side) → answers_for s r ≡ answers_in s log
  pub applications : r.tally.applied ≡ applications_in log
  -- Not both sides' answers are above 0.
  pub one_side : 1 ≤ r.tally.answers.a → 1 ≤ r.tally.answers.b → ⊥
  -- Where an answer was given, the side is that of the first loom that applied its operation, if any did.
  pub first_applied : (s : Side) → 1 ≤ answers_for s r → (k : ℕ) (t : Side) (older : List Event) → Came (applied k t) older log → NoneApplied older → s ≡ t
  -- The number of each answer is its side's.
  pub its_number : (k : ℕ) (s : Side) (v : ℕ) → Had (answered k s v) log → v ≡ num s

-- From the log's agreement and its counts.
run_agreed : (num : Side → ℕ) (r : Ran) (log : List Event) → ((s : Side) → answers_for s r ≡ answers_in s log) → r.tally.applied ≡ applications_in log →
    Agreed num log → RunAgreed num r log
run_agreed num r log answers applications agreed =
    record {
      answers = answers;
      applications = applications;
      one_side = λ for_a for_b. differ (both (had A for_a) (had B for_b));
      first_applied = λ s some k t older came none. let (i, v, answer) = had s some in agreed.settled.first_applied k t older came none i s v answer;
      its_number = agreed.its_number;
    }
  where
    had : (s : Side) → 1 ≤ answers_for s r → HadAnswer s log
    had s some = counted_is_had s log (omega (arith, answers s))

    both : HadAnswer A log → HadAnswer B log → A ≡ B
    both (i, v, for_a) (j, w, for_b) = agreed.settled.one_side i j A B v w for_a for_b

    differ : A ≡ B → ⊥
    differ same = let z : ◌≡◌ {A = ℕ} 0 1 = cc in omega arith

-- In a run that isn't refused, whatever the schedule: the log is that of the group as it opened.
pub demand_three_of_run : (table : List ℕ) (states operations : ℕ) (c : Certificate) (numbers : Pair ℕ) (schedule : List ℕ) (room words : ℕ) (run : Ran)
    (ran : run_of table states operations c numbers schedule room words ≡ Ok run) →
    RunAgreed (of_side numbers) run
    (events_over table states operations (opened_first table states operations (open_of table states operations c numbers words) schedule room run ran).0 schedule)
demand_three_of_run table states operations c numbers schedule room words run ran =
    subst (λ r. RunAgreed (of_side numbers) r (events_over table states operations g schedule)) (sym going.result)
    (run_agreed (of_side numbers) _ _ alike.answers alike.applications
    (demand_three table states operations c numbers words g opens (done_by schedule)))
  where
    opened : Result Group Code
    opened = open_of table states operations c numbers words

    g : Group
    g = (opened_first table states operations opened schedule room run ran).0

    opens : opened ≡ Ok g
    opens = (opened_first table states operations opened schedule room run ran).1

    going : Unrefused table states operations g schedule room run
    going = unrefused_first table states operations opened schedule room run ran

    new : NewlyOpened table states operations c numbers g
    new = newly_opened table states operations c numbers words g opens

    alike : Alike table states operations (looms_of c) new.good (played_of table states operations (begun g) schedule)
        (history_after table states operations (done_by schedule) (untouched g))
    alike =
        alike_always table states operations (looms_of c) new.good schedule (begun g) (untouched g)
        (alike_at_first table states operations (looms_of c) new.good g (fits_at_opening new))
        (rw new.seated.count at going.plays.named)
