-- Opaque parts: document 01, "The order file".
-- Assumes nothing.
use Rattle.std.specs.Prelude.{ℕ, zero, suc, ◌+◌, ◌-◌, ◌%◌, Bool, true, cond, ◌&&◌, List, [], leb, length, get_or, take, drop, Ok, Err}
use Rattle.codes.specs.declared.Code.{Code}
use Rattle.codes.specs.declared.Code.TheVariants.{FileEnds}
use Rattle.codes.specs.Codes.{refused_at}
use Rattle.xdr.specs.Field.{Field, FieldWith, judged_with}

-- "Variable opaque, padded to a multiple of four": how many pad bytes follow n bytes.
unfoldable pub pad_of : ℕ → ℕ
pad_of n = (4 - n % 4) % 4

-- n bytes with their pad bytes.
abbrev pub padded : ℕ → ℕ
padded n = n + pad_of n

-- The n bytes from p on pass a test.
unfoldable pub all : (ℕ → Bool) → List ℕ → ℕ → ℕ → Bool
all ok s zero p = true
all ok s (suc n) p = ok (get_or s p 0) && all ok s n (p + 1)

-- n bytes from p on; none where the file ends before they do.
unfoldable pub part_of : List ℕ → ℕ → ℕ → List ℕ
part_of s p n = cond (leb (p + n) (length s)) (take n (drop p s)) []

-- What follows n bytes from p on and their pad bytes; "1, the file ends before a field does".
unfoldable pub past_with : {C : Type 0} → C → List ℕ → ℕ → ℕ → FieldWith C
past_with ends s n p = cond (leb (p + padded n) (length s)) (Ok (p + padded n)) (Err (refused_at ends p))

abbrev pub past_at : List ℕ → ℕ → ℕ → Field
past_at = past_with FileEnds

-- "An opaque's [...] bytes with padding [are one field]": 1 where the file ends before they do, else every byte has to pass the test.
-- "Pad bytes are stepped over and not looked at." What follows them is given.
unfoldable pub opaque_with : {C : Type 0} → C → (ℕ → Bool) → C → List ℕ → ℕ → ℕ → FieldWith C
opaque_with ends ok code s n p = judged_with ends (leb (p + padded n) (length s)) (all ok s n p) (p + padded n) code p

abbrev pub opaque_at : (ℕ → Bool) → Code → List ℕ → ℕ → ℕ → Field
opaque_at = opaque_with FileEnds
