-- What a reader says, as numbers, for C.
-- Assumes nothing.
use Rattle.std.specs.Prelude.{ℕ, Result, Ok, Err, List, set}
use Rattle.codes.specs.Codes.{Refusal}
use Rattle.reader.specs.declared.Reading.{Reading}
use Rattle.boundary.specs.Numbers.{refusal_number}

-- What a field's answer says: its value, or the place of its refusal. Its code is its refusal's, 0 where it is taken.
abbrev pub field_value : Result ℕ Refusal → ℕ
field_value (Ok v) = v
field_value (Err refusal) = refusal.place

-- The numbers with a reading's written.
abbrev pub with_reading : List ℕ → Reading → List ℕ
with_reading ns r =
    set (set (set (set (set (set ns 0 (refusal_number r.word)) 1 (field_value r.word)) 2 (refusal_number r.end)) 3 (field_value r.end)) 4 r.next) 5
    r.left
