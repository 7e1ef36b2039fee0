-- A group as numbers, for C: count, cell, registers A and B, numbers A and B, start, the sets of A and of B, then for each slot its side,
-- operation, place and step count.
-- Assumes nothing.
use Rattle.std.specs.Prelude.{ℕ, ◌+◌, ◌%◌, ◌≡◌, Result, Ok, Err, List, [], ◌∷◌, get_or, set}
use Rattle.loom.specs.declared.Loom.{Loom}
use Rattle.loom.specs.declared.Shared.{Shared}
use Rattle.codes.specs.declared.Code.{Code}
use Rattle.sides.specs.declared.Pair.{Pair}
use Rattle.sides.specs.Sides.{side_number, side_from}
use Rattle.loom.specs.declared.Said.{Said}
use Rattle.loom.specs.declared.Said.TheVariants.{Nothing}
use Rattle.loom.specs.Numbers.{place_number, place_from, said_number, said_applied, said_piece}
use Rattle.group.specs.declared.Group.{Group}
use Rattle.group.specs.declared.Restarted.{Restarted}
use Rattle.group.specs.declared.Stepped.{Stepped}
use Rattle.group.specs.declared.Told.{Told}
use Rattle.group.specs.Open.{group_or_none}
use Rattle.boundary.specs.Numbers.{code_number}
use Rattle.group.specs.Group.{loom_at}

-- A number of C's in a byte, and in a half word.
abbrev pub in_byte : ℕ → ℕ
in_byte n = n % 256

abbrev pub in_half : ℕ → ℕ
in_half n = n % 4294967296

-- The loom of four numbers.
abbrev pub loom_from : ℕ → ℕ → ℕ → ℕ → Loom
loom_from side operation place steps =
    record { side = side_from side; operation = in_byte operation; steps = in_byte steps; place = place_from (in_byte place) }

-- The number at a place of the list.
abbrev pub at : List ℕ → ℕ → ℕ
at ns i = get_or ns i 0

-- The loom of the slot whose numbers begin at i: 9 + 4k for slot k.
abbrev pub slot_from : List ℕ → ℕ → Loom
slot_from ns i = loom_from (at ns i) (at ns (i + 1)) (at ns (i + 2)) (at ns (i + 3))

-- The shared memory of three numbers.
abbrev pub shared_from : ℕ → ℕ → ℕ → Shared
shared_from cell a b = record { cell = in_byte cell; registers = record { a = in_half a; b = in_half b } }

abbrev pub pieces_from : List ℕ → Pair ℕ
pieces_from ns = record { a = in_half (at ns 4); b = in_half (at ns 5) }

abbrev pub sets_from : List ℕ → Pair ℕ
sets_from ns = record { a = at ns 7; b = at ns 8 }

abbrev pub looms_from : List ℕ → List Loom
looms_from ns =
    slot_from ns 9 ∷ slot_from ns 13 ∷ slot_from ns 17 ∷ slot_from ns 21 ∷ slot_from ns 25 ∷ slot_from ns 29 ∷ slot_from ns 33 ∷ slot_from ns 37 ∷ []

-- The group of forty-one numbers.
abbrev pub group_from : List ℕ → Group
group_from ns =
    record {
      count = at ns 0;
      start = in_byte (at ns 6);
      sets = sets_from ns;
      numbers = pieces_from ns;
      shared = shared_from (at ns 1) (at ns 2) (at ns 3);
      looms = looms_from ns;
    }

-- The numbers with four of them written from i on.
abbrev pub with_four : List ℕ → ℕ → ℕ → ℕ → ℕ → ℕ → List ℕ
with_four ns i side operation place steps = set (set (set (set ns i side) (i + 1) operation) (i + 2) place) (i + 3) steps

-- The numbers with a loom's written from i on.
abbrev pub with_loom : List ℕ → ℕ → Loom → List ℕ
with_loom ns i l = with_four ns i (side_number l.side) l.operation (place_number l.place) l.steps

-- The numbers with the group's written, but for its looms.
abbrev pub with_board : List ℕ → Group → List ℕ
with_board ns g =
    set (set (set (set (set (set (set (set (set ns 0 g.count) 1 g.shared.cell) 2 g.shared.registers.a) 3 g.shared.registers.b) 4 g.numbers.a) 5
    g.numbers.b) 6 g.start) 7 g.sets.a) 8 g.sets.b

-- The numbers with all of the group's written.
abbrev pub with_group : List ℕ → Group → List ℕ
with_group ns g =
    with_loom (with_loom (with_loom (with_loom (with_loom (with_loom (with_loom (with_loom (with_board ns g) 9 (loom_at g 0)) 13 (loom_at g 1)) 17
    (loom_at g 2)) 21 (loom_at g 3)) 25 (loom_at g 4)) 29 (loom_at g 5)) 33 (loom_at g 6)) 37 (loom_at g 7)

-- What a restart leaves in C's numbers: its code, and the group.
pub record Restarts (answer : Restarted) (before : List ℕ) (code : ℕ) (after : List ℕ) : Type 0 where
  pub its_code : code ≡ code_number answer.outcome
  pub its_group : after ≡ with_group before answer.group

-- The numbers with what a step says written: the mark of its answer, whether it applied, the piece number and the step count.
abbrev pub with_said : List ℕ → Said → ℕ → List ℕ
with_said ns said steps = set (set (set (set ns 0 (said_number said)) 1 (said_applied said)) 2 (said_piece said)) 3 steps

-- The same of what a step tells: a refused one says nothing, and gives no count.
abbrev pub with_told : List ℕ → Result Told Code → List ℕ
with_told ns (Ok told) = with_said ns told.said told.steps
with_told ns (Err code) = with_said ns Nothing 0

-- What a step leaves in C's numbers: its code, the group, and what it says.
pub record Steps (answer : Stepped) (group out : List ℕ) (code : ℕ) (group' out' : List ℕ) : Type 0 where
  pub its_code : code ≡ code_number answer.told
  pub its_group : group' ≡ with_group group answer.group
  pub its_word : out' ≡ with_told out answer.told

-- What an opening leaves in C's numbers: its code and the group; and the area.
pub record Opens (answer : Result Group Code) (words : List ℕ) (group : List ℕ) (code : ℕ) (group' area' : List ℕ) : Type 0 where
  pub its_code : code ≡ code_number answer
  pub its_group : group' ≡ with_group group (group_or_none answer)
  pub its_area : area' ≡ words
