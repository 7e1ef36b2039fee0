-- The check's answer: document 01, "Cell and certificate" and "Codes and their order".
-- Assumes nothing.
use Rattle.std.specs.Prelude.{ℕ, suc, ◌*◌, ◌^◌, ◌≡◌, Bool, not, cond, ◌&&◌, ◌||◌, Option, Ok, Err, List, [], ◌∷◌, ◌++◌, leb, ltb, eqb, length, take, drop}
use Rattle.std.specs.List as list
use Rattle.std.specs.Int.Bits.{bit_and}
use Rattle.sets.specs.Sets.{has_of, size_of, lowest_of, word_bits}
use Rattle.codes.specs.declared.Code.{Code}
use Rattle.codes.specs.declared.Code.TheVariants.{Start, Looms, LacksSide, SharedState, ReturnsToA, ReturnsToB, NoRoom}
use Rattle.codes.specs.declared.Code.TheVariants as codes
use Rattle.codes.specs.Codes.{refused_at, Verdict}
use Rattle.cell.specs.Limits.{edition}
use Rattle.cell.specs.Table.{entry_of, outside_of, form_of}
use Rattle.recording.specs.declared.Seat.{Seat}
use Rattle.recording.specs.declared.Certificate.{Certificate}
use Rattle.recording.specs.declared.Judged.{Judged}
use Rattle.recording.specs.declared.Checked.{Checked}
use Rattle.recording.specs.Recording.{side_count}
use Rattle.recording.specs.Words.{filled, set_of}

-- The looms of a certificate: its seats up to the count.
abbrev pub looms_of : Certificate → List Seat
looms_of c = take c.count c.seats

-- ---- the refusals that leave the area alone
-- "8: a side above 1, or an operation not fitted."
abbrev pub misfit_of : ℕ → Seat → Bool
misfit_of operations l = ltb 1 l.side || leb operations l.operation

-- The lowest such loom, if there is one.
abbrev pub lowest_misfit : ℕ → List Seat → Option ℕ
lowest_misfit operations looms = list.position (misfit_of operations) looms

-- The lowest such loom, or the number of looms.
unfoldable pub first_misfit : ℕ → List Seat → ℕ
first_misfit operations [] = 0
first_misfit operations (l ∷ ls) = cond (misfit_of operations l) 0 (suc (first_misfit operations ls))

-- "9: a side without a loom."
abbrev pub lacks_side : List Seat → Bool
lacks_side looms = eqb (side_count 0 looms) 0 || eqb (side_count 1 looms) 0

-- The words that the check works in: "2 × 2^n".
abbrev pub room_for : ℕ → ℕ
room_for count = 2 * 2 ^ count

-- 7 to 9 and 40, of a certificate whose start is a state.
unfoldable pub looms_fault : ℕ → Certificate → ℕ → Verdict
looms_fault operations c room =
    cond (outside_of 2 edition.looms c.count) (Err (refused_at Looms 0))
    (cond (ltb (first_misfit operations (looms_of c)) c.count) (Err (refused_at codes.Seat (first_misfit operations (looms_of c))))
    (cond (lacks_side (looms_of c)) (Err (refused_at LacksSide 0))
    (cond (ltb room (room_for c.count)) (Err (refused_at NoRoom 0)) (Ok tt))))

-- The first refusal of two.
abbrev pub first_of : Verdict → Verdict → Verdict
first_of (Ok done) later = later
first_of (Err refusal) later = Err refusal

-- "2 to 9 in number order, then 40": the first that applies, and its place. `room` is the area's length.
unfoldable pub fault_of : List ℕ → ℕ → ℕ → Certificate → ℕ → Verdict
fault_of table states operations c room =
    first_of (form_of table states operations) (cond (leb states c.start) (Err (refused_at Start 0)) (looms_fault operations c room))

-- ---- the answer
-- What the check comes to, and the two sets.
abbrev pub judgement : Verdict → ℕ → ℕ → Judged
judgement outcome a b = record { outcome = outcome; sets = record { a = a; b = b } }

-- The answer is a refusal with this code, at some place.
abbrev pub RefusedFor : Code → Verdict → Type 0
RefusedFor code outcome = (place : ℕ) × (outcome ≡ Err (refused_at code place))

-- The start is in a side's set, and the other side has not one loom.
abbrev pub comes_back : ℕ → ℕ → ℕ → Bool
comes_back start set others = has_of set start && not (eqb others 1)

-- "20: a state in both sets. 21: start in the set of A, B not one loom. 22: start in the set of B, A not one loom." "Place: [...] the
-- lowest shared state for 20, the start for 21 and 22, else 0." `of_a` and `of_b` are the sides' counts, a and b their sets.
abbrev pub outcome_of : ℕ → ℕ → ℕ → ℕ → ℕ → Verdict
outcome_of start of_a of_b a b =
    cond (not (eqb (bit_and a b) 0)) (Err (refused_at SharedState (lowest_of word_bits (bit_and a b))))
    (cond (comes_back start a of_b) (Err (refused_at ReturnsToA start))
    (cond (comes_back start b of_a) (Err (refused_at ReturnsToB start)) (Ok tt)))

-- The same with the sets, which are given whatever it is.
unfoldable pub verdict_of : ℕ → ℕ → ℕ → ℕ → ℕ → Judged
verdict_of start of_a of_b a b = judgement (outcome_of start of_a of_b a b) a b

-- The verdict on a certificate with these two sets.
abbrev pub verdict_on : Certificate → ℕ → ℕ → Judged
verdict_on c a b = verdict_of c.start (side_count 0 (looms_of c)) (side_count 1 (looms_of c)) a b

-- The set of side X, by a certificate over a table.
abbrev pub set_by : List ℕ → ℕ → Certificate → ℕ → ℕ
set_by table states c X = set_of (entry_of table states) (looms_of c) states c.start X

-- The fault where there is one, with no sets; else the verdict.
abbrev pub judged_by : Verdict → Judged → Judged
judged_by (Ok done) verdict = verdict
judged_by (Err refusal) verdict = judgement (Err refusal) 0 0

-- What the check comes to, and the two sets: given with 0 and 20 to 22, else empty.
unfoldable pub judged_of : List ℕ → ℕ → ℕ → Certificate → ℕ → Judged
judged_of table states operations c room =
    judged_by (fault_of table states operations c room) (verdict_on c (set_by table states c 0) (set_by table states c 1))

-- What the check comes to, and the two sizes.
abbrev pub checked : Verdict → ℕ → ℕ → Checked
checked outcome a b = record { outcome = outcome; sizes = record { a = a; b = b } }

-- The sizes of the sets in place of the sets: of no sets, 0. "Set sizes are given with 0 and 20 to 22, else both 0."
abbrev pub sizes_of : Judged → Checked
sizes_of j = checked j.outcome (size_of word_bits j.sets.a) (size_of word_bits j.sets.b)

-- "The check's answer is a code, a place and the number of states in each set."
unfoldable pub check_of : List ℕ → ℕ → ℕ → Certificate → ℕ → Checked
check_of table states operations c room = sizes_of (judged_of table states operations c room)

-- ---- the area afterwards

-- The words of side X.
abbrev pub words_by : List ℕ → ℕ → Certificate → ℕ → List ℕ
words_by table states c X = filled (entry_of table states) (looms_of c) states c.start X (2 ^ c.count)

-- "Word m of the first 2^n words afterwards holds [the states of A]; word 2^n + m the same for B. Later words stay as they were."
abbrev pub words_over : List ℕ → ℕ → Certificate → List ℕ → List ℕ
words_over table states c area = words_by table states c 0 ++ words_by table states c 1 ++ drop (room_for c.count) area

-- "A refusal writes nothing to lent memory", with the exception that past 2 to 9 and 40 the area is filled.
abbrev pub left_by : Verdict → List ℕ → List ℕ → List ℕ
left_by (Ok done) filled before = filled
left_by (Err refusal) filled before = before

unfoldable pub area_of : List ℕ → ℕ → ℕ → Certificate → List ℕ → List ℕ
area_of table states operations c area = left_by (fault_of table states operations c (length area)) (words_over table states c area) area

-- What the check leaves: its answer, and the area. `judge` answers with the sets, `check` with their sizes.
pub record Judges (table : List ℕ) (states operations : ℕ) (c : Certificate) (area : List ℕ) (answer : Judged) (after : List ℕ) : Type 0 where
  pub answer_is : answer ≡ judged_of table states operations c (length area)
  pub area_is : after ≡ area_of table states operations c area

pub record Checks (table : List ℕ) (states operations : ℕ) (c : Certificate) (area : List ℕ) (answer : Checked) (after : List ℕ) : Type 0 where
  pub answer_is : answer ≡ check_of table states operations c (length area)
  pub area_is : after ≡ area_of table states operations c area
