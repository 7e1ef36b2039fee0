-- The words of the check's area, as the code makes them: document 01, "Cell and certificate". Source document 003's definition is
-- `Recording`, and `WordsLaws` joins the two.
-- Over any operations, any list of looms and any number of states.
-- Assumes nothing.
use Rattle.std.specs.Prelude.{ℕ, zero, suc, ◌-◌, ◌^◌, ◌≡◌, Bool, true, false, cond, List, [], ◌∷◌, ◌++◌, eqb, length, get_or}
use Rattle.std.specs.Int.Bits.{bit_or}
use Rattle.sets.specs.Sets.{bit, has_of}
use Rattle.recording.specs.declared.Seat.{Seat}
use Rattle.recording.specs.Recording.{side_at, operation_at, times, FirstIs, reached}

-- The set with state q put in, where the test holds.
abbrev pub with_if : Bool → ℕ → ℕ → ℕ
with_if true set q = bit_or set (2 ^ q)
with_if false set q = set

-- The states that those of a set below k move to.
unfoldable pub advanced : (ℕ → ℕ) → ℕ → ℕ → ℕ
advanced move set zero = 0
advanced move set (suc k) = with_if (has_of set k) (advanced move set k) (move k)

-- All that some sets hold, and what `set` holds.
unfoldable pub union_of : ℕ → List ℕ → ℕ
union_of set [] = set
union_of set (w ∷ ws) = union_of (bit_or set w) ws

module _ (next : ℕ → ℕ → ℕ) (looms : List Seat) (states start X : ℕ) where
  -- The states that loom j leads to as the first of a sequence: one, for a loom of X.
  unfoldable pub first_by : ℕ → ℕ
  first_by j = cond (eqb (side_at looms j) X) (2 ^ next (operation_at looms j) start) 0

  -- What loom j adds to word m as the last of a sequence of the looms in m: nothing where m lacks it, the first word where m is
  -- that loom alone, else what the word without it moves to. `earlier` holds the words below m.
  unfoldable pub last_by : List ℕ → ℕ → ℕ → ℕ
  last_by earlier m j =
      cond (has_of m j)
      (cond (eqb m (2 ^ j)) (first_by j) (advanced (next (operation_at looms j)) (get_or earlier (m - 2 ^ j) 0) states))
      0

  -- Word m, as far as the looms below k add to it.
  unfoldable pub word_from : List ℕ → ℕ → ℕ → ℕ
  word_from earlier m zero = 0
  word_from earlier m (suc k) = bit_or (word_from earlier m k) (last_by earlier m k)

  -- The words below m, and word m after them.
  abbrev pub one_more : List ℕ → ℕ → List ℕ
  one_more earlier m = earlier ++ (word_from earlier m (length looms) ∷ [])

  -- "Word m [...] holds the states reached by applying exactly the looms whose bits are in m, each once, [a loom of X] first": the
  -- words below m.
  unfoldable pub filled : ℕ → List ℕ
  filled zero = []
  filled (suc m) = one_more (filled m) m

  -- The set of X: the union of its words.
  unfoldable pub set_of : ℕ
  set_of = union_of 0 (filled (2 ^ length looms))

-- What word m is to hold: "the states reached by applying exactly the looms whose bits are in m, each once, [a loom of X] first".
pub record SequenceOf (looms : List Seat) (X m : ℕ) (us : List ℕ) : Type 0 where
  pub looms_of_m : (j : ℕ) → times j us ≡ bit m j
  pub first_of_X : FirstIs looms X us

abbrev pub ReachedBy : (ℕ → ℕ → ℕ) → List Seat → ℕ → ℕ → ℕ → ℕ → Type 0
ReachedBy next looms start X m q = (us : List ℕ) × SequenceOf looms X m us × (reached next looms start us ≡ q)
