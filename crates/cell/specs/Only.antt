-- Nothing else meets the contracts of `src/`: what each says of a result and of lent room determines them.
-- Assumes nothing.
use Rattle.std.specs.Prelude.{ℕ, ◌≡◌, Option, Result, List}
use Rattle.std.proofs.Common.{sym, ◌∙◌}
use Rattle.codes.specs.declared.Code.{Code}
use Rattle.codes.specs.Codes.{Verdict}
use Rattle.std.specs.Borrow.{Bor}
use Rattle.cell.specs.declared.Table.{Table}
use Rattle.cell.specs.Table.{form_of, next_of}
use Rattle.cell.specs.LentTable.{lent_table}
use Rattle.cell.specs.Catalogue.{Catalogued}

pub only-form : (table : List ℕ) (states operations : ℕ) (r s : Verdict) → r ≡ form_of table states operations → s ≡ form_of table states operations → r ≡ s
only-form table states operations r s p q = p ∙ sym q

pub only-next : (table : List ℕ) (states o q : ℕ) (r s : Option ℕ) → r ≡ next_of table states o q → s ≡ next_of table states o q → r ≡ s
only-next table states o q r s p t = p ∙ sym t

-- The answer and the room.
pub only-catalogue : (n : ℕ) (room : List ℕ) (r s : Result (Unit {0}) Code) (a b : List ℕ) → Catalogued n room r a → Catalogued n room s b → (r ≡ s) × (a ≡ b)
only-catalogue n room r s a b p q = (p.answer ∙ sym q.answer, p.room ∙ sym q.room)

pub only-new : (entries : Bor (List ℕ)) (states operations : ℕ) (r s : Table) → r ≡ lent_table entries states operations → s ≡ lent_table entries states operations → r ≡ s
only-new entries states operations r s p q = p ∙ sym q
