-- Document 01, "Known certificates": the run that the hall printer shows, by computation.
-- Assumes nothing.
use Rattle.std.specs.Prelude.{ℕ, ◌≡◌, refl, List, [], ◌∷◌, ◌++◌, Result, Ok, Err}
use Rattle.codes.specs.declared.Code.{Code}
use Rattle.codes.specs.Codes.{number_of}
use Rattle.sets.specs.Sets.{bit, members, lowest_of}
use Rattle.cell.specs.Table.{form_of}
use Rattle.recording.specs.declared.Certificate.{Certificate}
use Rattle.recording.specs.Check.{first_misfit, looms_fault, fault_of, verdict_of, judged_of}
use Rattle.recording.specs.Words.{advanced, union_of, first_by, last_by, word_from, filled, set_of}
use Rattle.recording.specs.Known.{of_a, of_b, certificate_of, size_two}
use Rattle.loom.specs.Turn.{turn_of, after_posted, after_looking}
use Rattle.group.specs.Group.{count_of, lead_of, restarted_below}
use Rattle.group.specs.Step.{is_unfit, step_on_of, settled, step_of, restart_of, restart_all_of}
use Rattle.group.specs.Open.{pieces, slots_of, opened_by}
use Rattle.schedule.specs.declared.Ran.{Ran}
use Rattle.schedule.specs.Acts.{act_of}
use Rattle.schedule.specs.Played.{tallied, acted_of, played_of, marks_of}
use Rattle.schedule.specs.Run.{refusal_of, unrun, run_of, buffer_of}

-- "RUN: code, entries, answers A, answers B, operations applied, longest run, cell."
abbrev pub run_counts : Ran → List ℕ
run_counts r =
    r.tally.entries ∷ r.tally.answers.a ∷ r.tally.answers.b ∷ r.tally.applied ∷ r.tally.longest ∷ r.group.shared.cell ∷ []

abbrev pub run_line : Result Ran Code → List ℕ
run_line (Ok r) = 0 ∷ run_counts r
run_line (Err code) = number_of code ∷ run_counts unrun

-- "size 2", start 2, looms A0 B1.
abbrev pub size_two_looms : Certificate
size_two_looms = certificate_of 2 (of_a 0 ∷ of_b 1 ∷ [])

-- "Schedule 1 1 1 0 0 1 17 0 0 0 1 1 1", and its marks.
abbrev pub printed : List ℕ
printed = 1 ∷ 1 ∷ 1 ∷ 0 ∷ 0 ∷ 1 ∷ 17 ∷ 0 ∷ 0 ∷ 0 ∷ 1 ∷ 1 ∷ 1 ∷ []

abbrev pub printed_marks : List ℕ
printed_marks = 0 ∷ 0 ∷ 0 ∷ 0 ∷ 0 ∷ 0 ∷ 0 ∷ 0 ∷ 0 ∷ 2 ∷ 0 ∷ 0 ∷ 2 ∷ []

-- All that the run computes with: to unfold this is to unfold what its line names.
computed : Unit {0}
unfolding opened_by judged_of fault_of looms_fault first_misfit form_of verdict_of lowest_of members bit set_of union_of filled word_from last_by first_by advanced slots_of step_of settled step_on_of is_unfit lead_of count_of turn_of after_posted after_looking restart_of restart_all_of restarted_below act_of tallied acted_of played_of marks_of refusal_of
computed = tt

-- "RUN 0 13 0 2 2 5 3."
pub size_two_run : run_line (run_of size_two 4 2 size_two_looms (pieces 501 733) printed 13 8) ≡ 0 ∷ 13 ∷ 0 ∷ 2 ∷ 2 ∷ 5 ∷ 3 ∷ []
unfolding computed
size_two_run = refl

-- "MARKS 0000000002002", written over what was in the buffer. Later bytes stay.
pub size_two_marks : buffer_of size_two 4 2 size_two_looms (pieces 501 733) printed (printed ++ (9 ∷ 9 ∷ [])) 8 ≡ printed_marks ++ (9 ∷ 9 ∷ [])
unfolding computed
size_two_marks = refl
