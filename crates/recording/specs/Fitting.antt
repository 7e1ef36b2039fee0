-- What the check's code goes by once a certificate is past 2 to 9: its looms' lookups are never refused. And the words of `Words`, by a
-- table and the looms' seats, and the two sets.
-- Assumes nothing.
use Rattle.std.specs.Prelude.{ℕ, ◌-◌, ◌*◌, ◌^◌, ◌≤◌, ◌<◌, ◌≡◌, cond, Some, List, ◌++◌, eqb, length, get_or, drop}
use Rattle.sides.specs.declared.Pair.{Pair}
use Rattle.cell.specs.Limits.{edition}
use Rattle.cell.specs.Table.{entry_of, next_of}
use Rattle.recording.specs.declared.Seat.{Seat}
use Rattle.recording.specs.Recording.{operation_at}
use Rattle.recording.specs.Words.{advanced, word_from, filled, set_of}

-- The lookup of this operation is not refused in any state, and leads to a state.
pub record Steps (table : List ℕ) (states operation : ℕ) : Type 0 where
  pub few : states ≤ edition.states
  pub leads : (q : ℕ) → q < states → entry_of table states operation q < states
  pub found : (q : ℕ) → q < states → next_of table states operation q ≡ Some (entry_of table states operation q)

-- The start is a state, the looms are within the limit, and so is each operation.
pub record Fitting (table : List ℕ) (states : ℕ) (looms : List Seat) (start : ℕ) : Type 0 where
  pub start_fits : start < states
  pub few_looms : length looms ≤ edition.looms
  pub steps : (k : ℕ) → k < length looms → Steps table states (operation_at looms k)

-- The words below m of side X.
abbrev pub words_to : List ℕ → ℕ → List Seat → ℕ → ℕ → ℕ → List ℕ
words_to table states looms start X m = filled (entry_of table states) looms states start X m

-- Word m of side X, as far as the looms below k add to it.
abbrev pub word_by : List ℕ → ℕ → List Seat → ℕ → ℕ → List ℕ → ℕ → ℕ → ℕ
word_by table states looms start X earlier m k = word_from (entry_of table states) looms states start X earlier m k

-- What a loom adds as the first of a sequence, and as the last of one: `lone` is the set of that loom alone.
abbrev pub first_in : List ℕ → ℕ → Seat → ℕ → ℕ → ℕ
first_in table states l X start = cond (eqb l.side X) (2 ^ entry_of table states l.operation start) 0

abbrev pub added_by : List ℕ → ℕ → Seat → ℕ → ℕ → List ℕ → ℕ → ℕ → ℕ
added_by table states l start X earlier m lone =
    cond (eqb m lone) (first_in table states l X start) (advanced (entry_of table states l.operation) (get_or earlier (m - lone) 0) states)

-- The two sets, as the fill hands them back, and what it leaves: the words of A and those of B, and later words as they were.
abbrev pub sets_by : List ℕ → ℕ → List Seat → ℕ → Pair ℕ
sets_by table states looms start =
    record { a = set_of (entry_of table states) looms states start 0; b = set_of (entry_of table states) looms states start 1 }

abbrev pub both_words : List ℕ → ℕ → List Seat → ℕ → List ℕ → List ℕ
both_words table states looms start area =
    words_to table states looms start 0 (2 ^ length looms)
    ++ words_to table states looms start 1 (2 ^ length looms) ++ drop (2 * 2 ^ length looms) area
