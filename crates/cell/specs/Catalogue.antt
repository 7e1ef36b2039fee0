-- The catalogue cell: document 01, "The catalogue cell"; source document 003, the type S_n.
-- Assumes nothing.
use Rattle.std.specs.Prelude.{ℕ, zero, suc, ◌+◌, ◌-◌, ◌*◌, ◌≡◌, cond, Result, Ok, Err, List, [], ◌∷◌, ◌++◌, ltb, length, drop}
use Rattle.codes.specs.declared.Code.{Code}
use Rattle.codes.specs.declared.Code.TheVariants.{NoRoom, NoSuchCell}
use Rattle.cell.specs.Limits.{edition}
use Rattle.cell.specs.Table.{outside_of}

-- A state of S_n: who won, A or B, and a row.
pub data Won : Type 0 where
  won_a : ℕ → Won
  won_b : ℕ → Won

-- "State r is (A, r) and state n + r is (B, r), r below n."
abbrev pub number_of : ℕ → Won → ℕ
number_of n (won_a r) = r
number_of n (won_b r) = n + r

-- The same read back: the winner and the row of state q.
abbrev pub won_of : ℕ → ℕ → Won
won_of n q = cond (ltb q n) (won_a q) (won_b (q - n))

-- "Operation 0: from (B, 0) to (A, 0); from (A, r) to (B, 0); from (B, r) with r above 0, no move."
abbrev pub operation_zero : Won → Won
operation_zero (won_a r) = won_b 0
operation_zero (won_b zero) = won_a 0
operation_zero (won_b (suc r)) = won_b (suc r)

-- "Operation 1: r goes up by one, and from r = n − 1 the cell goes to (B, 0)."
abbrev pub operation_one : ℕ → Won → Won
operation_one n (won_a r) = cond (ltb (suc r) n) (won_a (suc r)) (won_b 0)
operation_one n (won_b r) = cond (ltb (suc r) n) (won_b (suc r)) (won_b 0)

-- The state after operation 0, or after operation 1, in state q.
abbrev pub after_zero : ℕ → ℕ → ℕ
after_zero n q = number_of n (operation_zero (won_of n q))

abbrev pub after_one : ℕ → ℕ → ℕ
after_one n q = number_of n (operation_one n (won_of n q))

-- f of 0, 1, .. below k
abbrev pub each : (ℕ → ℕ) → ℕ → List ℕ
each f zero = []
each f (suc k) = each f k ++ (f k ∷ [])

-- "4n bytes in table order": operation 0 in each of the 2n states, and then operation 1.
unfoldable pub table_of : ℕ → List ℕ
table_of n = each (after_zero n) (2 * n) ++ each (after_one n) (2 * n)

-- "Catalogue: 41, then 40." 41: no such catalogue cell; n is from 2 to the most looms. 40: lent room too short.
unfoldable pub catalogue_code : ℕ → ℕ → Result (Unit {0}) Code
catalogue_code n room = cond (outside_of 2 edition.looms n) (Err NoSuchCell) (cond (ltb room (4 * n)) (Err NoRoom) (Ok tt))

-- What is written where nothing is refused; a refusal writes nothing.
abbrev pub written_under : Result (Unit {0}) Code → List ℕ → List ℕ → List ℕ
written_under (Ok done) written room = written
written_under (Err code) written room = room

-- "The catalogue writes 4n bytes in table order; later bytes stay." The room as the call leaves it.
unfoldable pub catalogue_room : ℕ → List ℕ → List ℕ
catalogue_room n room = written_under (catalogue_code n (length room)) (table_of n ++ drop (4 * n) room) room

-- Both of what `catalogue` leaves: its answer, and the room as it returns.
pub record Catalogued (n : ℕ) (before : List ℕ) (result : Result (Unit {0}) Code) (after : List ℕ) : Type 0 where
  pub answer : result ≡ catalogue_code n (length before)
  pub room : after ≡ catalogue_room n before
