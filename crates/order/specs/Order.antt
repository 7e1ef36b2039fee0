-- What reading an order file gives: document 01, "The order file" and "Codes and their order".
-- Assumes nothing.
use Rattle.std.specs.Prelude.{ℕ, zero, suc, ◌+◌, ◌*◌, ◌≡◌, cond, ◌&&◌, List, [], ◌∷◌, ◌++◌, leb, length, drop, replicate, Result, Ok, Err}
use Rattle.cell.specs.Limits.{Limits, edition}
use Rattle.recording.specs.Recording.{empty_seat}
use Rattle.recording.specs.declared.Seat.{Seat}
use Rattle.recording.specs.declared.Certificate.{Certificate}
use Rattle.codes.specs.declared.Code.TheVariants.{NoRoom}
use Rattle.codes.specs.Codes.{Refusal, refused_at}
use Rattle.xdr.specs.Field.{Field, word_at}
use Rattle.order.specs.declared.Order.{Order}
use Rattle.order.specs.declared.Piece.{Piece}
use Rattle.format.specs.declared.Plan.{Plan}
use Rattle.format.specs.Layout.{plan_of}
use Rattle.format.specs.Format.{seats_at, verdict_of}

-- The entries that the table room has to hold: "rooms of 1,024 table and 4,096 schedule entries". The other is the limit of entries.
abbrev pub table_room : Limits → ℕ
table_room L = L.states * L.operations

-- "Reading: 40 first (...), then the fields in file order"; "for 40, zero".
unfoldable pub reading_of : Limits → List ℕ → ℕ → ℕ → Field
reading_of L s table schedule = cond (leb (table_room L) table && leb L.entries schedule) (verdict_of L s) (Err (refused_at NoRoom 0))

-- The words of n items of four bytes, from p on.
unfoldable pub words_at : List ℕ → ℕ → ℕ → List ℕ
words_at s zero p = []
words_at s (suc n) p = word_at s p ∷ words_at s n (p + 4)

-- Empty seats, as many as the most looms.
abbrev pub no_seats : List Seat
no_seats = replicate edition.looms empty_seat

-- A certificate's seats: those of the n looms from p on, and empty ones beyond.
unfoldable pub seats_of : List ℕ → ℕ → ℕ → List Seat
seats_of s n p = seats_at s n p ++ drop n no_seats

-- A side without a number and a label.
abbrev pub no_piece : Piece
no_piece = record { number = 0; at = 0; length = 0 }

-- An order of which all is zero.
abbrev pub zero_order : Order
zero_order = record {
  states = 0;
  operations = 0;
  entries = 0;
  start = 0;
  count = 0;
  seats = no_seats;
  pieces = record { a = no_piece; b = no_piece };
  schedule = 0;
}

-- The certificate of an order.
abbrev pub certificate_in : Order → Certificate
certificate_in order = record { start = order.start; count = order.count; seats = order.seats }

-- "A refused reading gives its code and place, all else zero": the order of a reading that is written out as numbers.
abbrev pub order_or_zeros : Result Order Refusal → Order
order_or_zeros (Ok order) = order
order_or_zeros (Err e) = zero_order

-- The order of a file that isn't refused. A label is given by where its bytes lie in the file.
unfoldable pub accepted_of : List ℕ → Plan → Order
accepted_of s P = record {
  states = P.states;
  operations = P.operations;
  entries = P.entries;
  start = word_at s P.start;
  count = P.looms;
  seats = seats_of s P.looms (P.start + 8);
  pieces = record {
    a = record { number = word_at s P.numbers; at = P.numbers + 12; length = P.first };
    b = record { number = word_at s (P.numbers + 4); at = P.rest + 4; length = P.second };
  };
  schedule = P.acts;
}

-- What a reading returns.
unfoldable pub order_of : List ℕ → Field → Result Order Refusal
order_of s (Ok v) = Ok (accepted_of s (plan_of s))
order_of s (Err e) = Err e

-- What the two rooms hold afterwards: "a refusal writes nothing to lent memory", "room beyond the items read stays as it was".
unfoldable pub table_after : List ℕ → List ℕ → Field → List ℕ
table_after s room (Ok v) = words_at s (plan_of s).entries 12 ++ drop (plan_of s).entries room
table_after s room (Err e) = room

unfoldable pub schedule_after : List ℕ → List ℕ → Field → List ℕ
schedule_after s room (Ok v) = words_at s (plan_of s).acts ((plan_of s).schedule + 4) ++ drop (plan_of s).acts room
schedule_after s room (Err e) = room

-- A reading of file s: what it returns, and what the two rooms hold afterwards.
pub record ReadsTo (L : Limits) (s table schedule table' schedule' : List ℕ) (order : Result Order Refusal) : Type 0 where
  pub order_is : order ≡ order_of s (reading_of L s (length table) (length schedule))
  pub table_is : table' ≡ table_after s table (reading_of L s (length table) (length schedule))
  pub schedule_is : schedule' ≡ schedule_after s schedule (reading_of L s (length table) (length schedule))
