-- Opening a group: document 01, "One loom's steps" and "Codes and their order".
-- Assumes nothing.
use Rattle.std.specs.Prelude.{ℕ, zero, suc, ◌<◌, ◌≤◌, ◌≡◌, Bool, cond, ◌||◌, List, [], ◌∷◌, eqb, length, get_or, replicate, Result, Ok, Err}
use Rattle.codes.specs.Codes.{Verdict}
use Rattle.codes.specs.declared.Code.{Code}
use Rattle.codes.specs.declared.Code.TheVariants.{PieceNumber}
use Rattle.cell.specs.Limits.{edition}
use Rattle.recording.specs.declared.Seat.{Seat}
use Rattle.recording.specs.declared.Certificate.{Certificate}
use Rattle.recording.specs.declared.Judged.{Judged}
use Rattle.recording.specs.Recording.{empty_seat}
use Rattle.recording.specs.Check.{judged_of, area_of}
use Rattle.loom.specs.declared.Place.TheVariants.{Begin}
use Rattle.loom.specs.declared.Loom.{Loom}
use Rattle.sides.specs.declared.Pair.{Pair}
use Rattle.sides.specs.Sides.{side_from}
use Rattle.group.specs.declared.Group.{Group}
use Rattle.group.specs.Group.{empty_loom}

-- The two numbers of an opening.
abbrev pub pieces : ℕ → ℕ → Pair ℕ
pieces a b = record { a = a; b = b }

-- The loom of a seat as it opens: at begin, with no step taken.
abbrev pub loom_of : Seat → Loom
loom_of seat = record { side = side_from seat.side; operation = seat.operation; steps = 0; place = Begin }

-- The slots of a group of n looms: a loom for each of the first n seats. "Loom slots beyond a group's count are side A, operation 0,
-- begin, count 0."
unfoldable pub slots_of : ℕ → List Seat → List Loom
slots_of n [] = []
slots_of zero (seat ∷ seats) = empty_loom ∷ slots_of zero seats
slots_of (suc n) (seat ∷ seats) = loom_of seat ∷ slots_of n seats

-- A group as it opens: the cell at the start, nothing posted, every loom at begin.
abbrev pub fresh_group : Certificate → Pair ℕ → Pair ℕ → Group
fresh_group c sets numbers = record {
  count = c.count;
  start = c.start;
  sets = sets;
  numbers = numbers;
  shared = record { cell = c.start; registers = record { a = 0; b = 0 } };
  looms = slots_of c.count c.seats;
}

-- No group: zeros and empty slots.
abbrev pub no_group : Group
no_group = record {
  count = 0;
  start = 0;
  sets = record { a = 0; b = 0 };
  numbers = record { a = 0; b = 0 };
  shared = record { cell = 0; registers = record { a = 0; b = 0 } };
  looms = replicate edition.looms empty_loom;
}

-- A refused opening: its code, and no group.
abbrev pub unopened : Code → Result Group Code
unopened code = Err code

-- "A refused opening or run returns zeros and no looms": where a group is given beside the code.
abbrev pub group_or_none : Result Group Code → Group
group_or_none (Ok g) = g
group_or_none (Err code) = no_group

-- "10: a piece number of 0."
abbrev pub lacks_number : Pair ℕ → Bool
lacks_number numbers = eqb numbers.a 0 || eqb numbers.b 0

-- What an opening comes to, by what the check came to, and with the sets that it gives.
abbrev pub opened_with : Verdict → Pair ℕ → Certificate → Pair ℕ → Result Group Code
opened_with (Err refusal) sets c numbers = unopened refusal.code
opened_with (Ok done) sets c numbers = cond (lacks_number numbers) (unopened PieceNumber) (Ok (fresh_group c sets numbers))

-- What an opening comes to, once the check has judged.
unfoldable pub opened_by : Judged → Certificate → Pair ℕ → Result Group Code
opened_by j c numbers = opened_with j.outcome j.sets c numbers

-- "Opening, which like running gives no place: the check, then 10." `room` is the area's length.
abbrev pub open_of : List ℕ → ℕ → ℕ → Certificate → Pair ℕ → ℕ → Result Group Code
open_of table states operations c numbers room = opened_by (judged_of table states operations c room) c numbers

-- What an accepted certificate's numbers keep to, so that they fit in memory: a byte each.
pub record Held (c : Certificate) : Type 0 where
  pub few : c.count ≤ edition.looms
  pub start_held : c.start < 256
  pub operation_held : (k : ℕ) → k < c.count → (get_or c.seats k empty_seat).operation < 256

-- What an opening leaves: its answer, and the area as the check leaves it.
pub record OpensTo (table : List ℕ) (states operations : ℕ) (c : Certificate) (numbers : Pair ℕ) (area : List ℕ) (answer : Result Group Code) (after : List ℕ) : Type 0 where
  pub answer_is : answer ≡ open_of table states operations c numbers (length area)
  pub area_is : after ≡ area_of table states operations c area
