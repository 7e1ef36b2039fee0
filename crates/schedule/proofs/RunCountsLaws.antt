-- What is counted in a run of a newly opened group.
-- Assumes nothing.
use Rattle.std.specs.Prelude.{ℕ, ◌+◌, ◌≤◌, ◌<◌, ◌≡◌, true, List, [], ◌∷◌, ◌⊎◌, length, take}
use native.Mathlib.Omega.{arith}
use Rattle.std.proofs.Common.{ap, subst, ◌∙◌, inl, inr}
use Rattle.std.proofs.Math.Path.{sym}
use Rattle.recording.specs.declared.Seat.{Seat}
use Rattle.recording.specs.declared.Certificate.{Certificate}
use Rattle.recording.specs.Recording.{side_count}
use Rattle.recording.specs.Check.{looms_of}
use Rattle.sides.specs.declared.Side.{Side}
use Rattle.sides.specs.declared.Pair.{Pair}
use Rattle.group.specs.declared.Group.{Group}
use Rattle.group.specs.Group.{loom_at}
use Rattle.demands.specs.Acts.{untouched}
use Rattle.demands.specs.Fits.{Fits}
use Rattle.demands.specs.NewlyOpened.{NewlyOpened}
use Rattle.demands.proofs.NewlyOpenedLaws.{fits_at_opening, counts_at_most_six}
use Rattle.schedule.specs.declared.Ran.{Ran}
use Rattle.schedule.specs.Acts.{act_of, all_named}
use Rattle.schedule.specs.Played.{tallied, begun, with_acted, acted_of, played_of, marks_of}
use Rattle.schedule.specs.Counts.{answers_for, answer_mark, how_many, count_over, IsLongest, group_after, applied_over}
use Rattle.schedule.specs.Events.{done_by}
use Rattle.schedule.proofs.CountsLaws.{steps_over_lem}
use Rattle.schedule.proofs.LongestLaws.{named_prefix, marks_of_prefix, group_of_run, longest_bounds, longest_attained, Moment}
use Rattle.schedule.proofs.AnswersLaws.{none_at_first, answers_over, applied_over_lem}
use Rattle.schedule.proofs.EventsLaws.{group_after_acts}

-- A side with a loom has a loom.
some_loom : (X : ℕ) (looms : List Seat) → 1 ≤ side_count X looms → 0 < length looms
some_loom X [] some = absurd (omega arith)
some_loom X (l ∷ ls) some = omega arith

-- Every entry is counted.
entries_over : (table : List ℕ) (states operations : ℕ) (r : Ran) (es : List ℕ) → (played_of table states operations r es).tally.entries ≡ r.tally.entries + length es
unfolding played_of tallied
entries_over table states operations r [] = omega arith
entries_over table states operations r (e ∷ es) =
    omega (arith, entries_over table states operations (with_acted r (acted_of table states operations r.group (act_of e))) es)

module _ {table : List ℕ} {states operations : ℕ} {c : Certificate} {numbers : Pair ℕ} {g : Group}
    (new : NewlyOpened table states operations c numbers g) (schedule : List ℕ) (all : all_named g.count schedule ≡ true) where
  abbrev marks : List ℕ
  marks = marks_of table states operations g schedule

  abbrev played : Ran
  played = played_of table states operations (begun g) schedule

  fits : Fits states (looms_of c) g
  fits = fits_at_opening new

  named : all_named (length (looms_of c)) schedule ≡ true
  named = rw new.seated.count at all

  seat : (k : ℕ) → k < g.count → k < length (looms_of c)
  seat k here = rw new.seated.count at here

  -- At any moment each loom's count is that over the schedule so far, and at most six.
  counted_so_far : (i k : ℕ) → k < length (looms_of c) →
      (loom_at (group_after table states operations g (take i schedule)) k).steps ≡ count_over k (take i schedule) (take i marks)
  counted_so_far i k here =
      steps_over_lem table states operations (looms_of c) new.good k here (take i schedule) g fits (named_prefix (length (looms_of c)) i schedule named) 0 (new.uncounted k here)
      ∙ ap (λ l. count_over k (take i schedule) l) (marks_of_prefix table states operations i g schedule)

  six_so_far : (es : List ℕ) (k : ℕ) → k < length (looms_of c) → (loom_at (group_after table states operations g es) k).steps ≤ 6
  six_so_far es k here =
      subst (λ h. (loom_at h k).steps ≤ 6) (group_after_acts table states operations es (untouched g)) (counts_at_most_six new (done_by es) k here)

  pub played_steps : (k : ℕ) → k < g.count → (loom_at played.group k).steps ≡ count_over k schedule marks
  played_steps k here =
      ap (λ h. (loom_at h k).steps) (group_of_run table states operations (begun g) schedule)
      ∙ steps_over_lem table states operations (looms_of c) new.good k (seat k here) schedule g fits named 0 (new.uncounted k (seat k here))

  pub played_six : (k : ℕ) → k < g.count → (loom_at played.group k).steps ≤ 6
  played_six k here = rw (group_of_run table states operations (begun g) schedule) (six_so_far schedule k (seat k here))

  -- The longest run is attained at a moment; where it is still 0, at the first.
  moment : Moment table states operations (looms_of c) new.good (begun g) schedule
  unfolding group_after
  moment = by_case (longest_attained table states operations (looms_of c) new.good schedule (begun g) fits named)
    where
      by_case : (played.tally.longest ≡ 0) ⊎ Moment table states operations (looms_of c) new.good (begun g) schedule →
          Moment table states operations (looms_of c) new.good (begun g) schedule
      by_case (inr some) = some
      by_case (inl none) =
          let first = some_loom 0 (looms_of c) new.recording.some_of_A in
          (0, 0, omega arith, first, new.uncounted 0 first ∙ sym none)

  pub played_longest : IsLongest g.count schedule marks played.tally.longest
  played_longest =
      record {
        bounds =
            λ i k here.
            rw (sym (counted_so_far i k (seat k here)))
            (longest_bounds table states operations (looms_of c) new.good k (seat k here) schedule (begun g) fits named
            (omega (arith, new.uncounted k (seat k here))) i);
        attained =
            let (i, k, within, here, same) = moment in
            (i, k, within, omega (arith, new.seated.count, here), sym (counted_so_far i k here) ∙ same);
      }

  pub played_longest_six : played.tally.longest ≤ 6
  played_longest_six =
      let (i, k, within, here, same) = moment in
      omega (arith, six_so_far (take i schedule) k here, same)

  pub played_answers : (s : Side) → answers_for s played ≡ how_many (answer_mark s) marks
  played_answers s = omega (arith, answers_over table states operations s (begun g) schedule, none_at_first g s)

  pub played_applied : played.tally.applied ≡ applied_over table states operations g schedule
  played_applied = omega (arith, applied_over_lem table states operations (looms_of c) new.good schedule (begun g) fits named)

  pub played_entries : played.tally.entries ≡ length schedule
  played_entries = omega (arith, entries_over table states operations (begun g) schedule)
