-- A group as it opens: document 01, "Cell and certificate" and "One loom's steps".
-- Assumes nothing.
use Rattle.std.specs.Prelude.{ℕ, ◌<◌, ◌≡◌, ◌↔◌, List, length}
use Rattle.sets.specs.Sets.{bit}
use Rattle.cell.specs.Table.{entry_of}
use Rattle.recording.specs.declared.Certificate.{Certificate}
use Rattle.recording.specs.declared.Seat.{Seat}
use Rattle.recording.specs.Recording.{InSet, Recording}
use Rattle.recording.specs.Check.{looms_of}
use Rattle.sides.specs.declared.Side.{Side}
use Rattle.sides.specs.declared.Pair.{Pair}
use Rattle.loom.specs.declared.Place.TheVariants.{Begin}
use Rattle.sides.specs.Sides.{side_number, of_side}
use Rattle.agreement.specs.Machine.{NotZero}
use Rattle.group.specs.declared.Group.{Group}
use Rattle.group.specs.Group.{loom_at}
use Rattle.demands.specs.Fits.{Seated, WellFormed}

-- The two sets are Q_A and Q_B.
abbrev pub AreSets : (ℕ → ℕ → ℕ) → List Seat → ℕ → Pair ℕ → Type 0
AreSets next looms start sets = (s : Side) (q : ℕ) → (bit (of_side sets s) q ≡ 1) ↔ InSet next looms start (side_number s) q

-- The certificate is recording over a table that has form; neither number is 0; and the group has the certificate's looms, start and sets,
-- the numbers, the cell at the start, registers 0, and every loom at begin with count 0.
pub record NewlyOpened (table : List ℕ) (states operations : ℕ) (c : Certificate) (numbers : Pair ℕ) (g : Group) : Type 0 where
  pub good : WellFormed table states operations (looms_of c)
  pub recording : Recording (entry_of table states) (looms_of c) c.start
  pub not_zero : (s : Side) → NotZero (of_side numbers s)
  pub seated : Seated (looms_of c) g
  pub sets : AreSets (entry_of table states) (looms_of c) c.start g.sets
  pub start : g.start ≡ c.start
  pub start_fits : c.start < states
  pub numbered : g.numbers ≡ numbers
  pub shared : g.shared ≡ record { cell = c.start; registers = record { a = 0; b = 0 } }
  pub begins : (k : ℕ) → k < length (looms_of c) → (loom_at g k).place ≡ Begin
  pub uncounted : (k : ℕ) → k < length (looms_of c) → (loom_at g k).steps ≡ 0
