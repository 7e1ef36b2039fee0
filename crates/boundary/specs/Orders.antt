-- What a reading gives as thirty numbers, for C: code, place, states, operations, table entries, start, looms; the eight seats, a side and
-- an operation each; the two piece numbers; where each label lies and its length; schedule entries.
-- Assumes nothing.
use Rattle.std.specs.Prelude.{ℕ, ◌+◌, ◌≡◌, Result, List, length, get_or, set}
use Rattle.cell.specs.Limits.{edition}
use Rattle.recording.specs.declared.Seat.{Seat}
use Rattle.recording.specs.Recording.{empty_seat}
use Rattle.order.specs.declared.Order.{Order}
use Rattle.order.specs.declared.Piece.{Piece}
use Rattle.codes.specs.Codes.{Refusal}
use Rattle.boundary.specs.Numbers.{refusal_number, refusal_place}
use Rattle.order.specs.Order.{reading_of, order_or_zeros, order_of, table_after, schedule_after}

abbrev pub with_seat : List ℕ → ℕ → Seat → List ℕ
with_seat ns i seat = set (set ns i seat.side) (i + 1) seat.operation

-- Seat k of eight.
abbrev pub seat_at : List Seat → ℕ → Seat
seat_at seats k = get_or seats k empty_seat

abbrev pub with_seats : List ℕ → List Seat → List ℕ
with_seats ns seats =
    with_seat (with_seat (with_seat (with_seat (with_seat (with_seat (with_seat (with_seat ns 7 (seat_at seats 0)) 9 (seat_at seats 1)) 11
    (seat_at seats 2)) 13 (seat_at seats 3)) 15 (seat_at seats 4)) 17 (seat_at seats 5)) 19 (seat_at seats 6)) 21 (seat_at seats 7)

abbrev pub with_piece : List ℕ → ℕ → ℕ → Piece → List ℕ
with_piece ns number label piece = set (set (set ns number piece.number) label piece.at) (label + 1) piece.length

abbrev pub with_head : List ℕ → Order → List ℕ
with_head ns o = set (set (set (set (set (set ns 2 o.states) 3 o.operations) 4 o.entries) 5 o.start) 6 o.count) 29 o.schedule

abbrev pub with_order : List ℕ → Order → List ℕ
with_order ns o = with_piece (with_piece (with_seats (with_head ns o) o.seats) 23 25 o.pieces.a) 24 27 o.pieces.b

-- "A refused reading gives its code and place, all else zero."
abbrev pub with_read : List ℕ → Result Order Refusal → List ℕ
with_read ns read = with_order (set (set ns 0 (refusal_number read)) 1 (refusal_place read)) (order_or_zeros read)

-- What a reading of the file s leaves: in C's numbers the order, and the two rooms.
pub record Reads (s table schedule out : List ℕ) (table' schedule' out' : List ℕ) : Type 0 where
  pub its_order : out' ≡ with_read out (order_of s (reading_of edition s (length table) (length schedule)))
  pub its_table : table' ≡ table_after s table (reading_of edition s (length table) (length schedule))
  pub its_schedule : schedule' ≡ schedule_after s schedule (reading_of edition s (length table) (length schedule))
