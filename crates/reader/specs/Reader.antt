-- A reader of a lent file: document 01, "The order file". "A reader holds the lent file and its own position in it, and hands out one field
-- after another."
-- Assumes nothing.
use Rattle.std.specs.Prelude.{ℕ, ◌+◌, ◌-◌, ◌≡◌, List, [], length, take, drop, Ok, Err}
use Rattle.std.specs.Borrow.{Bor}
use Rattle.codes.specs.declared.Code.TheVariants.{FileEnds}
use Rattle.xdr.specs.Field.{Field, anything, field_at}
use Rattle.xdr.specs.Opaque.{opaque_at}
use Rattle.reader.specs.declared.Reader.{Reader}
use Rattle.reader.specs.declared.Reading.{Reading}

-- A reader of the lent file, standing at p.
abbrev pub standing : Bor (List ℕ) → ℕ → Reader
standing file p = record { file = file; at = p }

-- What is left of a file at p.
abbrev pub left_of : List ℕ → ℕ → ℕ
left_of s p = length s - p

-- The reader judges no field, it only hands it out. The word at p; "1, the file ends before a field does", with the byte where it begins.
abbrev pub word_of : List ℕ → ℕ → Field
word_of s p = field_at anything FileEnds s p

-- Where the n bytes from p on end with their padding; 1 where the file ends before they do.
abbrev pub end_of : List ℕ → ℕ → ℕ → Field
end_of s n p = opaque_at anything FileEnds s n p

-- The place past what is there, and where it is refused the place before it.
abbrev pub after : Field → ℕ → ℕ
after (Ok next) p = next
after (Err e) p = p

-- The reader past n bytes and their padding.
abbrev pub past_of : Reader → ℕ → Reader
past_of r n = standing r.file (after (end_of r.file.now n r.at) r.at)

-- The first where what was asked for is there, else the second.
abbrev pub where_there : {A : Type 0} → Field → A → A → A
where_there (Ok next) a b = a
where_there (Err e) a b = b

-- The part r of the n bytes from p on of the lent file: its bytes, and that they lie there in the file; where they are refused, the empty
-- part at the file's beginning.
pub record PartOf (file : Bor (List ℕ)) (n p : ℕ) (r : Bor (List ℕ)) : Type 0 where
  pub bytes : r.now ≡ where_there (end_of file.now n p) (take n (drop p file.now)) []
  pub block : r.ref_ptr.0 ≡ file.ref_ptr.0
  pub place : r.ref_ptr.1 ≡ where_there (end_of file.now n p) p 0 + file.ref_ptr.1

-- What a reader says at p for a part of n bytes.
abbrev pub read_of : List ℕ → ℕ → ℕ → Reading
read_of s n p = record {
  word = word_of s p;
  end = end_of s n p;
  next = after (end_of s n p) p;
  left = left_of s (after (end_of s n p) p);
}
