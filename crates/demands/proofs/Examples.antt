-- The theorems are not empty: two certificates that open, and the events that a schedule leaves on each group. And what is asked
-- is used: three certificates that are refused, each with a schedule, on a group filled in without the check, on which the looms disagree.
-- Assumes nothing.
use Rattle.std.specs.Prelude.{ℕ, ◌≡◌, refl, List, [], ◌∷◌, ◌++◌, map, Ok, Err}
use Rattle.sets.specs.Sets.{bit, members, lowest_of}
use Rattle.codes.specs.declared.Code.{Code}
use Rattle.codes.specs.declared.Code.TheVariants.{PieceNumber, SharedState, ReturnsToA, ReturnsToB}
use Rattle.cell.specs.Table.{form_of}
use Rattle.recording.specs.declared.Certificate.{Certificate}
use Rattle.recording.specs.Check.{first_misfit, looms_fault, fault_of, verdict_of, judged_of}
use Rattle.recording.specs.Words.{advanced, union_of, first_by, last_by, word_from, filled, set_of}
use Rattle.recording.specs.Known.{certificate_of, size_two, returns, late_return}
use Rattle.sides.specs.declared.Side.TheVariants.{A, B}
use Rattle.sides.specs.Sides.{of_side}
use Rattle.sides.specs.declared.Pair.{Pair}
use Rattle.loom.specs.Turn.{turn_of, after_posted, after_looking}
use Rattle.agreement.specs.Machine.{Event, posted, applied, answered, with_post, with_said}
use Rattle.agreement.specs.Agreed.{Agreed}
use Rattle.agreement.specs.Certificates.{pair, three, three_exchanged}
use Rattle.agreement.proofs.Refused.{Disagrees, disagree}
use Rattle.group.specs.declared.Group.{Group}
use Rattle.group.specs.Group.{count_of, lead_of, restarted_below}
use Rattle.group.specs.Step.{is_unfit, step_on_of, settled, step_of, restart_of, restart_all_of}
use Rattle.group.specs.Open.{pieces, slots_of, fresh_group, opened_by, open_of}
use Rattle.demands.specs.Acts.{Act, loom_steps, loom_restarts, all_restart, noted, acted_on, history_after, events_after}
use Rattle.demands.proofs.DemandThree.{demand_three}

-- The pieces of the two sides.
abbrev pub both_pieces : Pair ℕ
both_pieces = pieces 501 733

-- Steps of these looms, one after the other.
abbrev pub steps : List ℕ → List Act
steps = map loom_steps

-- The table of sticky: 0→1 1→1 2→2; 0→2 1→1 2→2.
abbrev pub sticky : List ℕ
sticky = 1 ∷ 1 ∷ 2 ∷ 2 ∷ 1 ∷ 2 ∷ []

-- All that a closed example computes with: to unfold this is to unfold what its line names.
computed : Unit {0}
unfolding opened_by judged_of fault_of looms_fault first_misfit form_of verdict_of lowest_of members bit set_of union_of filled word_from last_by first_by advanced slots_of history_after acted_on noted step_of settled step_on_of is_unfit lead_of count_of turn_of after_posted after_looking restart_of restart_all_of restarted_below with_post with_said
computed = tt

-- A group filled in without the check, with the sets that the check would give it.
abbrev pub unchecked : List ℕ → ℕ → ℕ → Certificate → Pair ℕ → ℕ → Group
unchecked table states operations c numbers room = fresh_group c (judged_of table states operations c room).sets numbers

-- The group that opens over a table with the pair of looms that starts in state 0.
abbrev pub paired : List ℕ → Group
paired table = unchecked table 3 2 (certificate_of 0 pair) both_pieces 8

-- sticky opens.
pub sticky_opens : open_of sticky 3 2 (certificate_of 0 pair) both_pieces 8 ≡ Ok (paired sticky)
unfolding computed
sticky_opens = refl

-- Loom 1 applies first; after a restart of all, both looms answer B with its number.
pub sticky_events : events_after sticky 3 2
    (steps (1 ∷ 1 ∷ 1 ∷ 0 ∷ 0 ∷ 1 ∷ 0 ∷ []) ++ (all_restart ∷ steps (0 ∷ 0 ∷ 0 ∷ 1 ∷ 1 ∷ 1 ∷ [])))
    (paired sticky) ≡
    (answered 1 B 733 ∷ posted 1 B 733 ∷ answered 0 B 733 ∷ posted 0 A 501 ∷ applied 0 A ∷ applied 1 B ∷ posted 0 A 501 ∷ posted 1 B 733 ∷ [])
unfolding computed
sticky_events = refl

-- "returns" opens.
pub returns_opens : open_of returns 3 2 (certificate_of 0 pair) both_pieces 8 ≡ Ok (paired returns)
unfolding computed
returns_opens = refl

-- Looms 0 and 1 take the cell away from the start and back; loom 1, restarted, yields, and loom 0, restarted, applies again.
pub returns_events : events_after returns 3 2
    (steps (1 ∷ 1 ∷ 1 ∷ 0 ∷ 0 ∷ 0 ∷ 1 ∷ 1 ∷ 1 ∷ []) ++ (loom_restarts 1 ∷ steps (1 ∷ 1 ∷ 1 ∷ 1 ∷ 0 ∷ 0 ∷ [])) ++
    (loom_restarts 0 ∷ steps (0 ∷ 0 ∷ 0 ∷ 0 ∷ 0 ∷ [])))
    (paired returns) ≡
    (answered 0 A 501 ∷ applied 0 A ∷ posted 0 A 501 ∷ answered 0 A 501 ∷ answered 1 A 501 ∷ posted 1 B 733 ∷ answered 1 A 501 ∷ applied 1 B ∷ applied 0 A ∷
    posted 0 A 501 ∷ posted 1 B 733 ∷ [])
unfolding computed
returns_events = refl

-- So demand 3 holds of sticky, whatever the acts.
pub sticky_agreed : (acts : List Act) → Agreed (of_side both_pieces) (events_after sticky 3 2 acts (paired sticky))
sticky_agreed = demand_three sticky 3 2 (certificate_of 0 pair) both_pieces 8 (paired sticky) sticky_opens

-- And of "returns".
pub returns_agreed : (acts : List Act) → Agreed (of_side both_pieces) (events_after returns 3 2 acts (paired returns))
returns_agreed = demand_three returns 3 2 (certificate_of 0 pair) both_pieces 8 (paired returns) returns_opens

-- The opening is refused with this code; and on a group filled in without the check the acts leave these events, which do not agree.
abbrev pub GoesWrong : List ℕ → ℕ → ℕ → Certificate → Pair ℕ → ℕ → Code → List Act → List Event → Type 0
GoesWrong table states operations c numbers room code acts events =
    (open_of table states operations c numbers room ≡ Err code)
    × Disagrees (of_side numbers) (events_after table states operations acts (unchecked table states operations c numbers room)) events

-- late return (21: the start is in the set of A, and B has two looms). Loom 0 answers A; looms 1 and 2 take the cell back to the start; loom 1,
-- restarted, applies again and answers B.
pub late_return_lem : GoesWrong late_return 4 2 (certificate_of 0 three) both_pieces 16 ReturnsToA
    (steps (0 ∷ 0 ∷ 1 ∷ 1 ∷ 2 ∷ 2 ∷ 0 ∷ 0 ∷ 0 ∷ 1 ∷ 2 ∷ []) ++ (loom_restarts 1 ∷ steps (1 ∷ 1 ∷ 1 ∷ 1 ∷ 1 ∷ [])))
    (answered 1 B 733 ∷ applied 1 B ∷ posted 1 B 733 ∷ applied 2 B ∷ applied 1 B ∷ answered 0 A 501 ∷ applied 0 A ∷ posted 2 B 733 ∷
    posted 1 B 733 ∷ posted 0 A 501 ∷ [])
unfolding computed
late_return_lem = (refl, disagree (of_side both_pieces) _ _ refl refl refl)

-- late return, exchanged (22): the same with the sides' names exchanged.
pub late_return_exchanged : GoesWrong late_return 4 2 (certificate_of 0 three_exchanged) both_pieces 16 ReturnsToB
    (steps (0 ∷ 0 ∷ 1 ∷ 1 ∷ 2 ∷ 2 ∷ 0 ∷ 0 ∷ 0 ∷ 1 ∷ 2 ∷ []) ++ (loom_restarts 1 ∷ steps (1 ∷ 1 ∷ 1 ∷ 1 ∷ 1 ∷ [])))
    (answered 1 A 501 ∷ applied 1 A ∷ posted 1 A 501 ∷ applied 2 A ∷ applied 1 A ∷ answered 0 B 733 ∷ applied 0 B ∷ posted 2 A 501 ∷
    posted 1 A 501 ∷ posted 0 B 733 ∷ [])
unfolding computed
late_return_exchanged = (refl, disagree (of_side both_pieces) _ _ refl refl refl)

-- size 2, three looms (20: a state in both sets). Loom 0 applies and reads 0, which is in both sets, and answers B, which leads; loom 1
-- applies and reads 1, which is in the set of A alone.
pub size_two_three_looms : GoesWrong size_two 4 2 (certificate_of 2 three) both_pieces 16 SharedState
    (steps (0 ∷ 0 ∷ 0 ∷ 1 ∷ 1 ∷ 0 ∷ 0 ∷ 0 ∷ 1 ∷ 1 ∷ 1 ∷ []))
    (answered 1 A 501 ∷ applied 1 B ∷ answered 0 B 733 ∷ applied 0 A ∷ posted 1 B 733 ∷ posted 0 A 501 ∷ [])
unfolding computed
size_two_three_looms = (refl, disagree (of_side both_pieces) _ _ refl refl refl)

-- A number of 0 (10), on "returns": the yielding loom sees no post, and doesn't yield.
pub number_of_zero : GoesWrong returns 3 2 (certificate_of 0 pair) (pieces 0 733) 8 PieceNumber
    (steps (0 ∷ 0 ∷ 1 ∷ 1 ∷ 0 ∷ 0 ∷ 0 ∷ 1 ∷ 1 ∷ []) ++ (loom_restarts 1 ∷ steps (1 ∷ 1 ∷ 1 ∷ 1 ∷ 1 ∷ 1 ∷ [])))
    (answered 1 B 733 ∷ applied 1 B ∷ posted 1 B 733 ∷ applied 1 B ∷ answered 0 A 0 ∷ applied 0 A ∷ posted 1 B 733 ∷ posted 0 A 0 ∷ [])
unfolding computed
number_of_zero = (refl, disagree (of_side (pieces 0 733)) _ _ refl refl refl)
