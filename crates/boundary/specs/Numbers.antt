-- The library's answers as numbers, for C.
-- Assumes nothing.
use Rattle.std.specs.Prelude.{ℕ, ◌+◌, ◌≡◌, Option, Some, None, Result, Ok, Err, List, length}
use Rattle.codes.specs.declared.Code.{Code}
use Rattle.codes.specs.Codes.{Refusal, number_of}
use Rattle.cell.specs.Catalogue.{catalogue_code, catalogue_room}

-- A refusal's number, and 0 where nothing is refused.
abbrev pub code_number : {T : Type 0} → Result T Code → ℕ
code_number (Ok value) = 0
code_number (Err code) = number_of code

-- The same of a refusal with a place; and the place, 0 where nothing is refused.
abbrev pub refusal_number : {T : Type 0} → Result T Refusal → ℕ
refusal_number (Ok value) = 0
refusal_number (Err refusal) = number_of refusal.code

abbrev pub refusal_place : {T : Type 0} → Result T Refusal → ℕ
refusal_place (Ok value) = 0
refusal_place (Err refusal) = refusal.place

-- A lookup's answer: 0 where there is none, else one more than the next state.
abbrev pub moved_number : Option ℕ → ℕ
moved_number (Some q) = q + 1
moved_number None = 0

-- What the catalogue leaves: its code, and the room.
pub record Catalogues (n : ℕ) (before : List ℕ) (code : ℕ) (after : List ℕ) : Type 0 where
  pub its_code : code ≡ code_number (catalogue_code n (length before))
  pub its_room : after ≡ catalogue_room n before
