-- Demand 3, as a statement on a log of events.
-- Assumes nothing.
use Rattle.std.specs.Prelude.{ℕ, ◌≡◌, List, ◌∷◌, ◌++◌}
use Rattle.sides.specs.declared.Side.{Side}
use Rattle.agreement.specs.Machine.{Event, posted, applied, answered}

-- The event e came, and `older` is the log as it was before. (A log has its latest event first.)
abbrev pub Came : Event → List Event → List Event → Type 0
Came e older log = (later : List Event) × (log ≡ later ++ (e ∷ older))

-- The event e is in the log.
abbrev pub Had : Event → List Event → Type 0
Had e log = (older : List Event) × Came e older log

-- No loom has applied its operation.
abbrev pub NoneApplied : List Event → Type 0
NoneApplied log = (k : ℕ) (s : Side) → Had (applied k s) log → ⊥

-- The winner, whatever numbers were posted.
pub record Settled (log : List Event) : Type 0 where
  -- Any two answers name the same side.
  pub one_side : (i j : ℕ) (s t : Side) (v w : ℕ) → Had (answered i s v) log → Had (answered j t w) log → s ≡ t
  -- Each answer comes after a post of its number by a loom of its side.
  pub posted_before : (i : ℕ) (s : Side) (v : ℕ) (older : List Event) → Came (answered i s v) older log →
      (k : ℕ) × Had (posted k s v) older
  -- The side of every answer, given before or after, is the side of the first loom that applied its operation.
  pub first_applied : (k : ℕ) (s : Side) (older : List Event) → Came (applied k s) older log → NoneApplied older →
      (i : ℕ) (t : Side) (v : ℕ) → Had (answered i t v) log → t ≡ s

-- Demand 3. `num s` is the number of side s.
pub record Agreed (num : Side → ℕ) (log : List Event) : Type 0 where
  pub settled : Settled log
  -- Each answer's number is its side's number.
  pub its_number : (i : ℕ) (s : Side) (v : ℕ) → Had (answered i s v) log → v ≡ num s
