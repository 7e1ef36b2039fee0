-- Nothing but the answer meets a contract of this crate.
-- Assumes nothing.
use Rattle.std.specs.Prelude.{ℕ, ◌+◌, ◌<◌, ◌^◌, ◌≡◌, Bool, List, leb}
use Rattle.std.proofs.Common.{sym, ◌∙◌}
use Rattle.codes.specs.declared.Code.{Code}
use Rattle.codes.specs.declared.Code.TheVariants.{FileEnds}
use Rattle.codes.specs.Codes.{number_of}
use Rattle.xdr.specs.Field.{FieldWith, word_at, within, anything, field_with, end_with}
use Rattle.xdr.specs.Opaque.{pad_of, part_of, past_with, opaque_with}

-- two answers that are equal to one are equal
same : {A : Type 0} {a b c : A} → a ≡ c → b ≡ c → a ≡ b
same h k = h ∙ sym k

pub only-reaches : (length at count : ℕ) (r r' : Bool) → r ≡ leb (at + count) length → r' ≡ leb (at + count) length → r ≡ r'
only-reaches length at count r r' = same

pub only-word_at : (s : List ℕ) (p r r' : ℕ) → (r ≡ word_at s p) × (r < 2 ^ 32) → (r' ≡ word_at s p) × (r' < 2 ^ 32) → r ≡ r'
only-word_at s p r r' h k = same h.0 k.0

-- by any rule, with codes of any kind
module _ {C : Type 0} (ends : C) (ok : ℕ → Bool) (code : C) (s : List ℕ) (p : ℕ) where
  pub only-field_at : (r r' : FieldWith C) → r ≡ field_with ends ok code s p → r' ≡ field_with ends ok code s p → r ≡ r'
  only-field_at r r' = same

  pub only-opaque_at : (count : ℕ) (r r' : FieldWith C) → r ≡ opaque_with ends ok code s count p → r' ≡ opaque_with ends ok code s count p → r ≡ r'
  only-opaque_at count r r' = same

-- what a kind of code says of the file's end, document 01's codes and their numbers
pub only-file_ends : {C : Type 0} (ends r r' : C) → r ≡ ends → r' ≡ ends → r ≡ r'
only-file_ends ends r r' = same

pub code-only-file_ends : (r r' : Code) → r ≡ FileEnds → r' ≡ FileEnds → r ≡ r'
code-only-file_ends r r' = same

pub number-only-file_ends : (r r' : ℕ) → r ≡ number_of FileEnds → r' ≡ number_of FileEnds → r ≡ r'
number-only-file_ends r r' = same

-- what a rule says of a value, a range's and that of everything
pub only-allows : (ok : ℕ → Bool) (value : ℕ) (r r' : Bool) → r ≡ ok value → r' ≡ ok value → r ≡ r'
only-allows ok value r r' = same

pub range-only-allows : (start end value : ℕ) (r r' : Bool) → r ≡ within start end value → r' ≡ within start end value → r ≡ r'
range-only-allows start end value r r' = same

pub full-only-allows : (value : ℕ) (r r' : Bool) → r ≡ anything value → r' ≡ anything value → r ≡ r'
full-only-allows value r r' = same

pub only-pad : (count r r' : ℕ) → (r ≡ pad_of count) × (r < 4) → (r' ≡ pad_of count) × (r' < 4) → r ≡ r'
only-pad count r r' h k = same h.0 k.0

pub only-past_at : {C : Type 0} (ends : C) (s : List ℕ) (p count : ℕ) (r r' : FieldWith C) → r ≡ past_with ends s count p → r' ≡ past_with ends s count p → r ≡ r'
only-past_at ends s p count r r' = same

pub only-end_at : {C : Type 0} (s : List ℕ) (p : ℕ) (code : C) (r r' : FieldWith C) → r ≡ end_with code s p → r' ≡ end_with code s p → r ≡ r'
only-end_at s p code r r' = same

pub only-part_at : (s : List ℕ) (p count : ℕ) (r r' : List ℕ) → r ≡ part_of s p count → r' ≡ part_of s p count → r ≡ r'
only-part_at s p count r r' = same
