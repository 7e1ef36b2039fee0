-- Document 01, "Known certificates": these eleven, as one table over the whole check, by computation.
-- Assumes nothing.
use Rattle.std.specs.Prelude.{ℕ, ◌-◌, ◌≡◌, refl, Ok, Err, List, [], ◌∷◌, ◌++◌, map, length, replicate}
use Rattle.sets.specs.Sets.{bit, members, size_of, lowest_of}
use Rattle.codes.specs.declared.Code.{Code}
use Rattle.codes.specs.declared.Code.TheVariants.{SharedState, ReturnsToA, ReturnsToB}
use Rattle.codes.specs.Codes.{refused_at}
use Rattle.cell.specs.Limits.{edition}
use Rattle.cell.specs.Table.{form_of}
use Rattle.recording.specs.declared.Certificate.{Certificate}
use Rattle.recording.specs.declared.Checked.{Checked}
use Rattle.recording.specs.declared.Seat.{Seat}
use Rattle.recording.specs.Check.{first_misfit, looms_fault, fault_of, verdict_of, judged_of, check_of, checked, room_for}
use Rattle.recording.specs.Recording.{empty_seat}
use Rattle.recording.specs.Words.{advanced, union_of, first_by, last_by, word_from, filled, set_of}

-- A line of the table: the cell's states, operations and entries, the start, the looms, and what the check answers.
pub record Line : Type 0 where
  pub states : ℕ
  pub operations : ℕ
  pub table : List ℕ
  pub start : ℕ
  pub looms : List Seat
  pub answer : Checked

abbrev pub line : ℕ → ℕ → List ℕ → ℕ → List Seat → Checked → Line
line states operations table start looms answer =
    record { states = states; operations = operations; table = table; start = start; looms = looms; answer = answer }

-- A loom of A, and one of B.
abbrev pub of_a : ℕ → Seat
of_a operation = record { side = 0; operation = operation }

abbrev pub of_b : ℕ → Seat
of_b operation = record { side = 1; operation = operation }

-- An answer: no refusal (code 0) with the two sizes, and a code and its place with them.
abbrev pub accepted : ℕ → ℕ → Checked
accepted a b = checked (Ok tt) a b

abbrev pub refused : Code → ℕ → ℕ → ℕ → Checked
refused code place a b = checked (Err (refused_at code place)) a b

-- The certificate of a start and these looms.
abbrev pub certificate_of : ℕ → List Seat → Certificate
certificate_of start looms =
    record { start = start; count = length looms; seats = looms ++ replicate (edition.looms - length looms) empty_seat }

-- The cells.
abbrev pub size_two : List ℕ
size_two = 2 ∷ 2 ∷ 0 ∷ 3 ∷ 1 ∷ 2 ∷ 3 ∷ 2 ∷ []

abbrev pub returns : List ℕ
returns = 1 ∷ 1 ∷ 2 ∷ 2 ∷ 0 ∷ 2 ∷ []

abbrev pub late_return : List ℕ
late_return = 1 ∷ 1 ∷ 2 ∷ 3 ∷ 2 ∷ 3 ∷ 2 ∷ 0 ∷ []

-- sticky; size 2; size 2, three looms; returns; returns, sides exchanged; late return; late return, exchanged; test and set; toggle;
-- plain write; one state. The answer is code, place and sizes: `SharedState` is 20, `ReturnsToA` 21, `ReturnsToB` 22.
abbrev pub known : List Line
known =
    line 3 2 (1 ∷ 1 ∷ 2 ∷ 2 ∷ 1 ∷ 2 ∷ []) 0 (of_a 0 ∷ of_b 1 ∷ []) (accepted 1 1)
    ∷ line 4 2 size_two 2 (of_a 0 ∷ of_b 1 ∷ []) (accepted 2 1)
    ∷ line 4 2 size_two 2 (of_a 0 ∷ of_b 1 ∷ of_b 1 ∷ []) (refused SharedState 0 3 3)
    ∷ line 3 2 returns 0 (of_a 0 ∷ of_b 1 ∷ []) (accepted 2 1)
    ∷ line 3 2 returns 0 (of_b 0 ∷ of_a 1 ∷ []) (accepted 1 2)
    ∷ line 4 2 late_return 0 (of_a 0 ∷ of_b 1 ∷ of_b 1 ∷ []) (refused ReturnsToA 0 3 1)
    ∷ line 4 2 late_return 0 (of_b 0 ∷ of_a 1 ∷ of_a 1 ∷ []) (refused ReturnsToB 0 1 3)
    ∷ line 2 1 (1 ∷ 1 ∷ []) 0 (of_a 0 ∷ of_b 0 ∷ []) (refused SharedState 1 1 1)
    ∷ line 2 1 (1 ∷ 0 ∷ []) 0 (of_a 0 ∷ of_b 0 ∷ []) (refused SharedState 0 2 2)
    ∷ line 3 2 (1 ∷ 1 ∷ 1 ∷ 2 ∷ 2 ∷ 2 ∷ []) 0 (of_a 0 ∷ of_b 1 ∷ []) (refused SharedState 1 2 2)
    ∷ line 1 1 (0 ∷ []) 0 (of_a 0 ∷ of_b 0 ∷ []) (refused SharedState 0 1 1)
    ∷ []

-- What the check answers for a line, in an area of just the words that it needs.
abbrev pub check_line : Line → Checked
check_line l =
    check_of l.table l.states l.operations (certificate_of l.start l.looms) (room_for (length l.looms))

-- "These eleven are proved, as one table."
pub known_certificates : map check_line known ≡ map (λ (l : Line). l.answer) known
unfolding check_of judged_of fault_of looms_fault first_misfit form_of verdict_of lowest_of size_of members bit set_of union_of filled word_from last_by first_by advanced
known_certificates = refl
