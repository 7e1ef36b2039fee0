-- A run with its refusals: document 01, "Schedules" and "Codes and their order".
-- Assumes nothing.
use Rattle.std.specs.Prelude.{ℕ, ◌≤◌, ◌≡◌, true, cond, List, ◌++◌, Result, Ok, Err, ltb, length, drop}
use Rattle.std.specs.Result.{result_and, result_map_both, result_unwrap_or}
use Rattle.codes.specs.declared.Code.{Code}
use Rattle.codes.specs.declared.Code.TheVariants.{Schedule, Act, NoRoom}
use Rattle.cell.specs.Limits.{edition}
use Rattle.recording.specs.declared.Certificate.{Certificate}
use Rattle.recording.specs.Check.{area_of}
use Rattle.sides.specs.declared.Pair.{Pair}
use Rattle.group.specs.declared.Group.{Group}
use Rattle.group.specs.Open.{no_group, open_of}
use Rattle.schedule.specs.declared.Ran.{Ran}
use Rattle.schedule.specs.Acts.{all_named}
use Rattle.schedule.specs.Played.{begun, played_of, marks_of}

-- "12: schedule over 4,096 entries. 13: an entry naming no act or no loom of this group. [...] then 40 for the buffer." `room` is the
-- buffer's length.
unfoldable pub refusal_of : ℕ → List ℕ → ℕ → Result (Unit {0}) Code
refusal_of count schedule room =
    cond (ltb edition.entries (length schedule)) (Err Schedule)
    (cond (all_named count schedule) (cond (ltb room (length schedule)) (Err NoRoom) (Ok tt)) (Err Act))

-- What it says of a schedule that nothing refuses it, for a group of so many looms and a buffer of that length.
pub record Playable (count : ℕ) (schedule : List ℕ) (room : ℕ) : Type 0 where
  pub short : length schedule ≤ edition.entries
  pub named : all_named count schedule ≡ true
  pub room_enough : length schedule ≤ room

-- "Running: opening, 12, 13, then 40 for the buffer."
abbrev pub code_of : Result Group Code → List ℕ → ℕ → Result (Unit {0}) Code
code_of (Ok g) schedule room = refusal_of g.count schedule room
code_of (Err code) schedule room = Err code

-- The group that is run, where none of these refuses it.
abbrev pub started : Result Group Code → List ℕ → ℕ → Result Group Code
started opened schedule room = result_and (code_of opened schedule room) opened

-- "A refused opening or run returns zeros and no looms": what there is to show of a refused run, and of any.
abbrev pub unrun : Ran
unrun = begun no_group

abbrev pub shown : Result Ran Code → Ran
shown ran = result_unwrap_or ran unrun

module _ (table : List ℕ) (states operations : ℕ) where
  -- What a run comes to, from what the opening came to.
  abbrev pub ran_of : Result Group Code → List ℕ → ℕ → Result Ran Code
  ran_of opened schedule room =
      result_map_both (λ g. played_of table states operations (begun g) schedule) (λ code. code) (started opened schedule room)

  -- The buffer afterwards: "one byte an entry [...]. Later bytes stay." "A refusal writes nothing to lent memory."
  abbrev pub marked_of : Result Group Code → List ℕ → List ℕ → List ℕ
  marked_of opened schedule marks =
      result_unwrap_or
      (result_map_both (λ g. marks_of table states operations g schedule ++ drop (length schedule) marks) (λ code. code)
      (started opened schedule (length marks)))
      marks

-- "A run opens the group afresh": the result of a run and its buffer afterwards. `room` is the buffer's length, `words` the area's.
abbrev pub run_of : List ℕ → ℕ → ℕ → Certificate → Pair ℕ → List ℕ → ℕ → ℕ → Result Ran Code
run_of table states operations c numbers schedule room words =
    ran_of table states operations (open_of table states operations c numbers words) schedule room

abbrev pub buffer_of : List ℕ → ℕ → ℕ → Certificate → Pair ℕ → List ℕ → List ℕ → ℕ → List ℕ
buffer_of table states operations c numbers schedule marks words =
    marked_of table states operations (open_of table states operations c numbers words) schedule marks

-- What a run leaves: its result, the buffer, and the area as the check leaves it.
pub record RunsTo (table : List ℕ) (states operations : ℕ) (c : Certificate) (numbers : Pair ℕ) (schedule marks area : List ℕ) (result : Result Ran Code) (buffer after : List ℕ) : Type 0 where
  pub result_is : result ≡ run_of table states operations c numbers schedule (length marks) (length area)
  pub buffer_is : buffer ≡ buffer_of table states operations c numbers schedule marks (length area)
  pub area_is : after ≡ area_of table states operations c area
