-- The counts of a run that isn't refused: each is a count over the schedule and its marks. Document 01, "Schedules" and "Forms for parts of
-- the code".
-- Assumes nothing.
use Rattle.std.specs.Prelude.{ℕ, ◌≤◌, ◌<◌, ◌≡◌, List, Ok, length}
use Rattle.std.proofs.Common.{ap, sym, subst, ◌∙◌}
use Rattle.recording.specs.declared.Certificate.{Certificate}
use Rattle.sides.specs.declared.Side.{Side}
use Rattle.sides.specs.declared.Pair.{Pair}
use Rattle.group.specs.declared.Group.{Group}
use Rattle.group.specs.Group.{loom_at}
use Rattle.group.specs.Open.{open_of}
use Rattle.demands.specs.NewlyOpened.{NewlyOpened}
use Rattle.demands.proofs.OpenedLaws.{newly_opened}
use Rattle.schedule.specs.declared.Ran.{Ran}
use Rattle.schedule.specs.Played.{marks_of}
use Rattle.schedule.specs.Run.{run_of}
use Rattle.schedule.specs.RunLaws.{Unrefused, opened_first, unrefused_first}
use Rattle.schedule.specs.Counts.{answers_for, answer_mark, how_many, count_over, IsLongest, applied_over}
use Rattle.schedule.proofs.RunCountsLaws.{played_steps, played_six, played_longest, played_longest_six, played_answers, played_applied, played_entries}

-- A run that nothing refused.
module _ (table : List ℕ) (states operations : ℕ) (c : Certificate) (numbers : Pair ℕ) (schedule : List ℕ) (room words : ℕ) (run : Ran)
    (ran : run_of table states operations c numbers schedule room words ≡ Ok run) where
  -- The group as it opened, and the marks.
  abbrev pub opening : Group
  opening = (opened_first table states operations (open_of table states operations c numbers words) schedule room run ran).0

  abbrev pub marks : List ℕ
  marks = marks_of table states operations opening schedule

  going : Unrefused table states operations opening schedule room run
  going = unrefused_first table states operations (open_of table states operations c numbers words) schedule room run ran

  new : NewlyOpened table states operations c numbers opening
  new = newly_opened table states operations c numbers words opening (opened_first table states operations (open_of table states operations c numbers words) schedule room run ran).1

  -- "This loom's steps since it opened or last restarted": the step count of each loom in the final group is that over the schedule.
  pub steps_are_counted : (k : ℕ) → k < opening.count → (loom_at run.group k).steps ≡ count_over k schedule marks
  steps_are_counted k here = ap (λ r. (loom_at r.group k).steps) going.result ∙ played_steps new schedule going.plays.named k here

  -- "Bounded by six."
  pub steps_at_most_six : (k : ℕ) → k < opening.count → (loom_at run.group k).steps ≤ 6
  steps_at_most_six k here = rw going.result (played_six new schedule going.plays.named k here)

  -- "The longest run: the largest step count that any loom had at any moment." It is at most six.
  pub longest_of_moments : IsLongest opening.count schedule marks run.tally.longest
  longest_of_moments = subst (λ r. IsLongest opening.count schedule marks r.tally.longest) (sym going.result) (played_longest new schedule going.plays.named)

  pub longest_at_most_six : run.tally.longest ≤ 6
  longest_at_most_six = rw going.result (played_longest_six new schedule going.plays.named)

  -- "The answers for A and for B": the marks 1 and the marks 2.
  pub answers_are_marks : (s : Side) → answers_for s run ≡ how_many (answer_mark s) marks
  answers_are_marks s = ap (answers_for s) going.result ∙ played_answers new schedule going.plays.named s

  -- "The operations applied": the entries that are steps of a loom at ready.
  pub applied_are_counted : run.tally.applied ≡ applied_over table states operations opening schedule
  applied_are_counted = ap (λ r. r.tally.applied) going.result ∙ played_applied new schedule going.plays.named

  -- "The entries": all of them.
  pub entries_are_all : run.tally.entries ≡ length schedule
  entries_are_all = ap (λ r. r.tally.entries) going.result ∙ played_entries new schedule going.plays.named
