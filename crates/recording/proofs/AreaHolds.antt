-- The area after the check: document 01, "Cell and certificate", in the words of source document 003.
-- Assumes nothing.
use Rattle.std.specs.Prelude.{ℕ, ◌+◌, ◌^◌, ◌≤◌, ◌<◌, ◌≡◌, ◌↔◌, Ok, List, length, get_or}
use Rattle.sets.specs.Sets.{Member}
use Rattle.cell.specs.Table.{entry_of}
use Rattle.recording.specs.declared.Certificate.{Certificate}
use Rattle.recording.proofs.AreaLaws as laws
use Rattle.recording.specs.Check.{looms_of, room_for, fault_of, area_of}
use Rattle.recording.specs.Words.{ReachedBy}

-- "Word m of the first 2^n words afterwards holds the states reached by applying exactly the looms whose bits are in m, each once, an A
-- loom first; word 2^n + m the same for B. Later words stay as they were."
pub record Holds (table : List ℕ) (states : ℕ) (c : Certificate) (area after : List ℕ) : Type 0 where
  pub words_of_A : (m q : ℕ) → m < 2 ^ c.count
      → Member (get_or after m 0) q ↔ ReachedBy (entry_of table states) (looms_of c) c.start 0 m q
  pub words_of_B : (m q : ℕ) → m < 2 ^ c.count
      → Member (get_or after (2 ^ c.count + m) 0) q ↔ ReachedBy (entry_of table states) (looms_of c) c.start 1 m q
  pub later_words : (i : ℕ) → room_for c.count ≤ i → get_or after i 0 ≡ get_or area i 0
  pub as_long : length after ≡ length area

-- Past 2 to 9 and 40 the area holds all of this, whatever the table, the certificate and the area before.
pub area_holds : (table : List ℕ) (states operations : ℕ) (c : Certificate) (area : List ℕ)
    → fault_of table states operations c (length area) ≡ Ok tt → Holds table states c area (area_of table states operations c area)
area_holds table states operations c area past =
    record {
      words_of_A = laws.words_of_A table states operations c area past;
      words_of_B = laws.words_of_B table states operations c area past;
      later_words = laws.later_words table states operations c area past;
      as_long = laws.as_long table states operations c area past;
    }
