-- A certificate and the check's answer as numbers, for C.
-- Assumes nothing.
use Rattle.std.specs.Prelude.{ℕ, List, [], ◌∷◌, get_or, set}
use Rattle.recording.specs.declared.Seat.{Seat}
use Rattle.recording.specs.declared.Certificate.{Certificate}
use Rattle.recording.specs.declared.Checked.{Checked}
use Rattle.boundary.specs.Numbers.{refusal_number, refusal_place}

-- The seat of the numbers at i and j.
abbrev pub seat_from : List ℕ → ℕ → ℕ → Seat
seat_from ns i j = record { side = get_or ns i 0; operation = get_or ns j 0 }

-- The eight seats of sixteen numbers, a side and an operation each.
abbrev pub seats_from : List ℕ → List Seat
seats_from ns =
    seat_from ns 0 1 ∷ seat_from ns 2 3 ∷ seat_from ns 4 5 ∷ seat_from ns 6 7 ∷ seat_from ns 8 9 ∷ seat_from ns 10 11 ∷ seat_from ns 12 13
    ∷ seat_from ns 14 15 ∷ []

-- The certificate of a start, a count and sixteen numbers.
abbrev pub certificate_from : ℕ → ℕ → List ℕ → Certificate
certificate_from start count ns = record { start = start; count = count; seats = seats_from ns }

-- The numbers with an answer of the check's written: code, place and the two sizes.
abbrev pub with_checked : List ℕ → Checked → List ℕ
with_checked ns c =
    set (set (set (set ns 0 (refusal_number c.outcome)) 1 (refusal_place c.outcome)) 2 c.sizes.a) 3 c.sizes.b
