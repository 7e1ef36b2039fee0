-- The codes: document 01, "Codes and their order".
-- Assumes nothing.
use Rattle.std.specs.Prelude.{ℕ, Result, List, ◌++◌, codes, decimal}
use Rattle.codes.specs.declared.Code.{Code}
use Rattle.codes.specs.declared.Code.TheVariants.{FileEnds, States, Operations, TableLength, Entry, Start, Looms, Seat, LacksSide, PieceNumber, Label, Schedule, Act, ExtraBytes, SharedState, ReturnsToA, ReturnsToB, NoLoom, HasAnswered, Unfit, NoRoom, NoSuchCell}
use Rattle.codes.specs.declared.Refused.{Refused}

-- The table of codes.
abbrev pub number_of : Code → ℕ
-- "the file ends before a field does"
number_of FileEnds = 1
-- "states, operations not within limits"
number_of States = 2
number_of Operations = 3
-- "table length isn't states × operations"
number_of TableLength = 4
-- "an entry not below states"
number_of Entry = 5
-- "start not below states"
number_of Start = 6
-- "looms not 2 to 8"
number_of Looms = 7
-- "a side above 1, or an operation not fitted"
number_of Seat = 8
-- "a side without a loom"
number_of LacksSide = 9
-- "a piece number of 0"
number_of PieceNumber = 10
-- "a label over 32 bytes, or with a byte outside 32 to 126"
number_of Label = 11
-- "schedule over 4,096 entries"
number_of Schedule = 12
-- "an entry naming no act or no loom of this group"
number_of Act = 13
-- "bytes after the schedule"
number_of ExtraBytes = 14
-- "a state in both sets"
number_of SharedState = 20
-- "start in the set of A, B not one loom"
number_of ReturnsToA = 21
-- "start in the set of B, A not one loom"
number_of ReturnsToB = 22
-- "no such loom, or a group of more than 8"
number_of NoLoom = 30
-- "that loom has answered"
number_of HasAnswered = 31
-- "group and table don't fit"
number_of Unfit = 32
-- "lent room too short"
number_of NoRoom = 40
-- "no such catalogue cell"
number_of NoSuchCell = 41

-- A refusal: a code, of whatever kind, and its place; document 01's has a code of the table.
abbrev pub refused_at : {C : Type 0} → C → ℕ → Refused C
refused_at code place = record { code = code; place = place }

abbrev pub Refusal : Type 0
Refusal = Refused Code

-- An answer with nothing to hand back, and a refusal with its place; code 0 is no refusal.
abbrev pub Verdict : Type 0
Verdict = Result (Unit {0}) Refusal

-- A code printed: its number in decimal digits; and a refusal, its place after a space.
abbrev pub printed_code : Code → List ℕ
printed_code code = decimal (number_of code)

abbrev pub printed_refusal : Refusal → List ℕ
printed_refusal refusal = printed_code refusal.code ++ codes " " ++ decimal refusal.place
