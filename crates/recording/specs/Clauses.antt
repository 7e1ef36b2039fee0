-- The clauses of source document 003's definition, by a certificate over a table: what it is for each to fail.
-- Assumes nothing.
use Rattle.std.specs.Prelude.{ℕ, ◌<◌, ◌≡◌, List}
use Rattle.cell.specs.Table.{entry_of}
use Rattle.recording.specs.declared.Certificate.{Certificate}
use Rattle.recording.specs.Check.{looms_of}
use Rattle.recording.specs.Recording.{InSet, Recording, side_count}

-- Q_X, by a certificate over a table.
abbrev pub InSetOf : List ℕ → ℕ → Certificate → ℕ → ℕ → Type 0
InSetOf table states c X q = InSet (entry_of table states) (looms_of c) c.start X q

-- "No state is in both sets" fails, and where it fails first.
pub record SharedFirst (table : List ℕ) (states : ℕ) (c : Certificate) (q : ℕ) : Type 0 where
  pub in_A : InSetOf table states c 0 q
  pub in_B : InSetOf table states c 1 q
  pub none_below : (p : ℕ) → p < q → InSetOf table states c 0 p → InSetOf table states c 1 p → ⊥

-- "No state is in both sets" holds.
abbrev pub NoneShared : List ℕ → ℕ → Certificate → Type 0
NoneShared table states c = (q : ℕ) → InSetOf table states c 0 q → InSetOf table states c 1 q → ⊥

-- "The start isn't in the set of [X], or [the other side Y] has one loom" fails.
abbrev pub ReturnsTo : List ℕ → ℕ → Certificate → ℕ → ℕ → Type 0
ReturnsTo table states c X Y = InSetOf table states c X c.start × (side_count Y (looms_of c) ≡ 1 → ⊥)

-- Definition 4 with all its clauses, by a certificate over a table.
abbrev pub RecordingOf : List ℕ → ℕ → Certificate → Type 0
RecordingOf table states c = Recording (entry_of table states) (looms_of c) c.start
