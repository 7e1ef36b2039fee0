-- A cell's table: document 01, "Cell and certificate" and "Codes and their order".
-- Assumes nothing.
use Rattle.std.specs.Prelude.{ℕ, ◌+◌, ◌*◌, Bool, not, cond, ◌&&◌, ◌||◌, Option, Some, None, Ok, Err, List, leb, ltb, eqb, length, get_or, nat_le}
use Rattle.std.specs.List as list
use Rattle.codes.specs.Codes.{refused_at, Verdict}
use Rattle.codes.specs.declared.Code.TheVariants.{States, Operations, TableLength, Entry}
use Rattle.cell.specs.Limits.{edition}

-- "It is stored operation by operation: the entry for operation o in state q stands at o × states + q."
abbrev pub position : ℕ → ℕ → ℕ → ℕ
position states o q = o * states + q

-- The entry itself; 0 past the table's end.
abbrev pub entry_of : List ℕ → ℕ → ℕ → ℕ → ℕ
entry_of table states o q = get_or table (position states o q) 0

-- The lookup fits: states and the operation are within limits, the state is below states, the table has the entry, and the entry is below
-- states.
abbrev pub is_fitted : List ℕ → ℕ → ℕ → ℕ → Bool
is_fitted table states o q =
    leb states edition.states
    && (ltb o edition.operations
    && (ltb q states && (ltb (position states o q) (length table) && ltb (entry_of table states o q) states)))

-- "A cell table gives, for each operation and state, the next state." In the code every use of a table goes through this lookup. The
-- definitions of other files take the entry itself, once they have tested the table.
unfoldable pub next_of : List ℕ → ℕ → ℕ → ℕ → Option ℕ
next_of table states o q = cond (is_fitted table states o q) (Some (entry_of table states o q)) None

-- The place of the first entry that isn't below states.
abbrev pub first_outside : ℕ → List ℕ → Option ℕ
first_outside states table = list.position (λ e. nat_le states e) table

-- n is not from low to high.
abbrev pub outside_of : ℕ → ℕ → ℕ → Bool
outside_of low high n = ltb n low || ltb high n

-- "5: an entry not below states", placed at the lowest such entry.
abbrev pub entry_refused : Option ℕ → Verdict
entry_refused None = Ok tt
entry_refused (Some place) = Err (refused_at Entry place)

-- "2, 3: states, operations not within limits. 4: table length isn't states × operations." Then 5.
unfoldable pub form_of : List ℕ → ℕ → ℕ → Verdict
form_of table states operations =
    cond (outside_of 1 edition.states states) (Err (refused_at States 0))
    (cond (outside_of 1 edition.operations operations) (Err (refused_at Operations 0))
    (cond (not (eqb (length table) (states * operations))) (Err (refused_at TableLength 0))
    (entry_refused (first_outside states table))))
