-- Examples: named certificates of document 01, "Known certificates", their rules, and schedules over them.
-- Assumes nothing.
use Rattle.std.specs.Prelude.{ℕ, Bool, true, false, ◌||◌, List, [], ◌∷◌, eqb}
use Rattle.cell.specs.Table.{entry_of}
use Rattle.recording.specs.declared.Seat.{Seat}
use Rattle.recording.specs.Known as known
use Rattle.recording.specs.Known.{of_a, of_b}
use Rattle.sides.specs.declared.Side.{Side}
use Rattle.sides.specs.declared.Side.TheVariants.{A, B}
use Rattle.loom.specs.Turn.{Rules}
use Rattle.agreement.specs.Machine.{Event, Act, step, side_of, after, opening}

-- q is one of the states.
abbrev pub among : List ℕ → ℕ → Bool
among [] q = false
among (x ∷ xs) q = eqb q x || among xs q

-- The numbers of the two sides.
abbrev pub numbers : Side → ℕ
numbers A = 501
numbers B = 733

-- Side A's number is 0, which "means not posted".
abbrev pub zero_for_a : Side → ℕ
zero_for_a A = 0
zero_for_a B = 733

-- Steps of these looms, one after the other, each with its side's number.
abbrev pub steps : (Side → ℕ) → List Seat → List ℕ → List Act
steps num looms [] = []
steps num looms (k ∷ ks) = step k (num (side_of looms k)) ∷ steps num looms ks

-- The events that acts leave on a group that opened with these looms and rules.
unfoldable pub events_of : (ℕ → ℕ → ℕ) → List Seat → Rules → List Act → List Event
events_of next looms R acts = (after next looms R acts (opening R.start)).log

-- sticky: 0→1 1→1 2→2; 0→2 1→1 2→2
abbrev pub sticky : ℕ → ℕ → ℕ
sticky = entry_of (1 ∷ 1 ∷ 2 ∷ 2 ∷ 1 ∷ 2 ∷ []) 3

-- Its rules.
abbrev pub sticky_rules : Rules
sticky_rules = record { start = 0; leading = A; in_leading = among (1 ∷ []); yields_alone = true }

-- returns
abbrev pub returns : ℕ → ℕ → ℕ
returns = entry_of known.returns 3

-- Its rules.
abbrev pub returns_rules : Rules
returns_rules = record { start = 0; leading = A; in_leading = among (0 ∷ 1 ∷ []); yields_alone = true }

-- Rules that render no certificate: those of "returns" with a yielding side that doesn't yield, or with the sides' roles not exchanged.
abbrev pub unyielding_rules : Rules
unyielding_rules = record { start = 0; leading = A; in_leading = among (0 ∷ 1 ∷ []); yields_alone = false }

abbrev pub unexchanged_rules : Rules
unexchanged_rules = record { start = 0; leading = B; in_leading = among (2 ∷ []); yields_alone = true }

-- A0 B1, and A0 B1 B1, and B0 A1 A1
abbrev pub pair : List Seat
pair = of_a 0 ∷ of_b 1 ∷ []

abbrev pub three : List Seat
three = of_a 0 ∷ of_b 1 ∷ of_b 1 ∷ []

abbrev pub three_exchanged : List Seat
three_exchanged = of_b 0 ∷ of_a 1 ∷ of_a 1 ∷ []

-- late return. With A0 B1 B1 the set of A is 0, 1 and 3, that of B is 2; code 21.
abbrev pub late_return : ℕ → ℕ → ℕ
late_return = entry_of known.late_return 4

-- Its rules.
abbrev pub late_return_rules : Rules
late_return_rules = record { start = 0; leading = A; in_leading = among (0 ∷ 1 ∷ 3 ∷ []); yields_alone = false }

-- late return, exchanged: the same with B0 A1 A1; code 22.
abbrev pub late_exchanged_rules : Rules
late_exchanged_rules = record { start = 0; leading = B; in_leading = among (0 ∷ 1 ∷ 3 ∷ []); yields_alone = false }

-- size 2, three looms. With A0 B1 B1 the set of A is 0, 1 and 2, that of B is 0, 2 and 3; code 20. The start, 2, is in the
-- set of B: B leads.
abbrev pub size_two : ℕ → ℕ → ℕ
size_two = entry_of known.size_two 4

-- Its rules.
abbrev pub size_two_rules : Rules
size_two_rules = record { start = 2; leading = B; in_leading = among (0 ∷ 2 ∷ 3 ∷ []); yields_alone = true }
