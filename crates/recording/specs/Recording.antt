-- Recording: source document 003, the sets Q_A and Q_B and Definition 4; document 01, "Cell and certificate".
-- Over any list of looms, any operations and any start, so that what is proved of it holds at any limit.
-- Assumes nothing.
use Rattle.std.specs.Prelude.{ℕ, ◌+◌, ◌≤◌, ◌≡◌, Bool, cond, ◌⊎◌, List, [], ◌∷◌, eqb, length, get_or}
use Rattle.recording.specs.declared.Seat.{Seat}

-- What is read past the last loom: side A, operation 0.
abbrev pub empty_seat : Seat
empty_seat = record { side = 0; operation = 0 }

-- The side of loom k, 0 for A and 1 for B, and its operation.
abbrev pub side_at : List Seat → ℕ → ℕ
side_at looms k = (get_or looms k empty_seat).side

abbrev pub operation_at : List Seat → ℕ → ℕ
operation_at looms k = (get_or looms k empty_seat).operation

-- One where the test holds.
abbrev pub one : Bool → ℕ
one test = cond test 1 0

-- How many looms are of side X.
abbrev pub side_count : ℕ → List Seat → ℕ
side_count X [] = 0
side_count X (l ∷ ls) = one (eqb l.side X) + side_count X ls

-- How often loom k stands in a sequence.
abbrev pub times : ℕ → List ℕ → ℕ
times k [] = 0
times k (u ∷ us) = one (eqb u k) + times k us

-- The first loom of a sequence is of side X.
abbrev pub FirstIs : List Seat → ℕ → List ℕ → Type 0
FirstIs looms X [] = ⊥
FirstIs looms X (u ∷ us) = side_at looms u ≡ X

-- "One or more distinct looms, each once, in some order, the first of them a loom of X."
pub record Sequence (looms : List Seat) (X : ℕ) (us : List ℕ) : Type 0 where
  pub looms_of_it : (k : ℕ) → length looms ≤ k → times k us ≡ 0
  pub each_once : (k : ℕ) → times k us ≤ 1
  pub first_of_X : FirstIs looms X us

-- The state that the operations of a sequence of looms, one after the other, lead to from q.
-- `next o q` is the state after operation o in state q.
abbrev pub reached : (ℕ → ℕ → ℕ) → List Seat → ℕ → List ℕ → ℕ
reached next looms q [] = q
reached next looms q (u ∷ us) = reached next looms (next (operation_at looms u) q) us

-- Q_X: "every state reached from the start by applying the operations of one or more distinct looms, each once, in some order, the
-- first of them a loom of X."
abbrev pub InSet : (ℕ → ℕ → ℕ) → List Seat → ℕ → ℕ → ℕ → Type 0
InSet next looms start X q = (us : List ℕ) × Sequence looms X us × (reached next looms start us ≡ q)

-- Definition 4, for this start, these sides and these operations.
pub record Recording (next : ℕ → ℕ → ℕ) (looms : List Seat) (start : ℕ) : Type 0 where
  -- "Two non-empty teams A and B."
  pub some_of_A : 1 ≤ side_count 0 looms
  pub some_of_B : 1 ≤ side_count 1 looms
  -- "No state is in both sets."
  pub apart : (q : ℕ) → InSet next looms start 0 q → InSet next looms start 1 q → ⊥
  -- "The start isn't in the set of A, or B has one loom."
  pub start_and_A : (InSet next looms start 0 start → ⊥) ⊎ (side_count 1 looms ≡ 1)
  -- "The start isn't in the set of B, or A has one loom."
  pub start_and_B : (InSet next looms start 1 start → ⊥) ⊎ (side_count 0 looms ≡ 1)
