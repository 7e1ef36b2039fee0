-- A file is never refused with code 0: no code's number is 0.
-- Assumes nothing.
use Rattle.std.specs.Prelude.{ℕ, ◌<◌, List, Ok, Err}
use Rattle.cell.specs.Limits.{Limits}
use Rattle.codes.specs.declared.Code.{Code}
use Rattle.codes.proofs.CodesLaws.{number_positive}
use Rattle.codes.specs.Codes.{number_of, refused_at}
use Rattle.xdr.specs.Field.{Field}
use Rattle.format.specs.Format.{verdict_of}

-- A field is taken, or refused with a code above 0.
pub data Coded : Field → Type 0 where
  taken : (v : ℕ) → Coded (Ok v)
  refused : (code : Code) (p : ℕ) → 0 < number_of code → Coded (Err (refused_at code p))

field_coded : (f : Field) → Coded f
field_coded (Ok v) = taken v
field_coded (Err e) = refused e.code e.place (number_positive e.code)

pub verdict_coded : (L : Limits) (s : List ℕ) → Coded (verdict_of L s)
verdict_coded L s = field_coded (verdict_of L s)
