-- Positions, words and fields of an XDR file: document 01, "The order file" and "Codes and their order".
-- Assumes nothing.
use Rattle.std.specs.Prelude.{ℕ, zero, suc, ◌+◌, ◌*◌, ◌≡◌, Bool, true, cond, ◌&&◌, List, leb, ltb, length, get_or, Result, Ok, Err}
use Rattle.codes.specs.declared.Code.{Code}
use Rattle.codes.specs.declared.Code.TheVariants.{FileEnds}
use Rattle.codes.specs.declared.Refused.{Refused}
use Rattle.codes.specs.Codes.{refused_at}

-- What a field gives: its value, or its refusal with the byte where it begins. Codes of any kind C will do; one of them, `ends`, says that
-- the file ends before a field does. A field of document 01 has its codes.
abbrev pub FieldWith : Type 0 → Type 0
FieldWith C = Result ℕ (Refused C)

abbrev pub Field : Type 0
Field = FieldWith Code

-- "All words are XDR unsigned ints, big-endian."
abbrev pub joined : ℕ → ℕ → ℕ → ℕ → ℕ
joined a b c d = a * 16777216 + b * 65536 + c * 256 + d

-- The four bytes from p on lie in the file.
abbrev pub word_fits : List ℕ → ℕ → Bool
word_fits s p = leb (p + 4) (length s)

-- The word at position p; 0 where the file ends before it does.
unfoldable pub word_at : List ℕ → ℕ → ℕ
word_at s p = cond (word_fits s p) (joined (get_or s p 0) (get_or s (p + 1) 0) (get_or s (p + 2) 0) (get_or s (p + 3) 0)) 0

-- A value from low to below end.
unfoldable pub within : ℕ → ℕ → ℕ → Bool
within low end v = leb low v && ltb v end

-- The test that every value passes: what tests nothing hands out what is there.
abbrev pub anything : ℕ → Bool
anything v = true

-- "1, the file ends before a field does", and "each 1 before its value": whether the file reaches to the field's end, whether the field
-- passes its test, what it gives, the code of its own refusal. "The place is the byte where the refused field begins."
abbrev pub judged_with : {C : Type 0} → C → Bool → Bool → ℕ → C → ℕ → FieldWith C
judged_with ends reaches passes v code p = cond reaches (cond passes (Ok v) (Err (refused_at code p))) (Err (refused_at ends p))

abbrev pub judged : Bool → Bool → ℕ → Code → ℕ → Field
judged = judged_with FileEnds

-- The word at position p as a field whose value has to pass a test.
unfoldable pub field_with : {C : Type 0} → C → (ℕ → Bool) → C → List ℕ → ℕ → FieldWith C
field_with ends ok code s p = judged_with ends (word_fits s p) (ok (word_at s p)) (word_at s p) code p

abbrev pub field_at : (ℕ → Bool) → Code → List ℕ → ℕ → Field
field_at = field_with FileEnds

-- A field is taken, whatever it gives.
abbrev pub Passed : {C : Type 0} → FieldWith C → Type 0
Passed f = (v : ℕ) × (f ≡ Ok v)

-- "The fields in file order": the first refusal; with none, what the last field gives.
abbrev pub and_then : {C : Type 0} → FieldWith C → FieldWith C → FieldWith C
and_then (Ok v) g = g
and_then (Err e) g = Err e

-- A counted run: "items are judged one by one". item q is the item at q, each item is so many bytes wide; what follows the run is given.
unfoldable pub run : {C : Type 0} → (ℕ → FieldWith C) → ℕ → ℕ → ℕ → FieldWith C
run item width zero p = Ok p
run item width (suc k) p = and_then (item p) (run item width k (p + width))

-- The file ends at p, or the first extra byte is refused.
unfoldable pub end_with : {C : Type 0} → C → List ℕ → ℕ → FieldWith C
end_with code s p = cond (leb (length s) p) (Ok p) (Err (refused_at code p))

abbrev pub end_at : Code → List ℕ → ℕ → Field
end_at = end_with
