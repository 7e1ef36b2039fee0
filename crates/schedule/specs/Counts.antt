-- What is counted over a schedule and its marks: document 01, "One loom's steps", "Schedules" and "Forms for parts of the code".
-- Assumes nothing.
use Rattle.std.specs.Prelude.{ℕ, ◌+◌, ◌≤◌, ◌<◌, min, ◌≡◌, Bool, true, false, not, cond, ◌&&◌, List, [], ◌∷◌, Option, Some, None, eqb, length, take}
use Rattle.recording.specs.Recording.{one}
use Rattle.sides.specs.declared.Side.{Side}
use Rattle.sides.specs.declared.Side.TheVariants.{A, B}
use Rattle.sides.specs.Sides.{of_side}
use Rattle.loom.specs.declared.Place.{Place}
use Rattle.loom.specs.declared.Place.TheVariants.{Ready}
use Rattle.loom.specs.Looms.{most_steps}
use Rattle.group.specs.declared.Group.{Group}
use Rattle.group.specs.Group.{loom_at}
use Rattle.schedule.specs.declared.Act.{Act}
use Rattle.schedule.specs.declared.Act.TheVariants.{Step, Restart, RestartAll}
use Rattle.schedule.specs.declared.Ran.{Ran}
use Rattle.schedule.specs.Acts.{act_of}
use Rattle.schedule.specs.Played.{acted_of}

-- A run's answers for a side, and the mark of an answer: "1 for an answer with side A, 2 with side B".
abbrev pub answers_for : Side → Ran → ℕ
answers_for s r = of_side r.tally.answers s

abbrev pub answer_mark : Side → ℕ
answer_mark A = 1
answer_mark B = 2

-- How many of the marks are m.
unfoldable pub how_many : ℕ → List ℕ → ℕ
how_many m [] = 0
how_many m (n ∷ marks) = one (eqb n m) + how_many m marks

-- Loom k's steps after an act that was marked m; c is how many there were before it. A step of the loom counts, unless it was refused with
-- 31, which is mark 3; a restart of it, or of all, begins anew. In a run that isn't refused no step is refused otherwise: 13 has refused
-- looms that aren't there, and 32 never comes (`always_fits` of `demands`).
unfoldable pub steps_after : ℕ → Option Act → ℕ → ℕ → ℕ
steps_after k (Some (Step j)) m c = one (eqb j k && not (eqb m 3)) + c
steps_after k (Some (Restart j)) m c = cond (eqb j k) 0 c
steps_after k (Some RestartAll) m c = 0
steps_after k None m c = c

-- Loom k's steps after a schedule with these marks; c is how many there were before it.
unfoldable pub steps_over : ℕ → List ℕ → List ℕ → ℕ → ℕ
steps_over k [] marks c = c
steps_over k (e ∷ es) [] c = c
steps_over k (e ∷ es) (m ∷ marks) c = steps_over k es marks (steps_after k (act_of e) m c)

-- "The number of this loom's steps since it opened or last restarted, refused ones not counted; it stops at 255."
abbrev pub count_over : ℕ → List ℕ → List ℕ → ℕ
count_over k schedule marks = min (steps_over k schedule marks 0) most_steps

-- "The longest run: the largest step count that any loom had at any moment." A moment is the end of a part of the schedule from its
-- beginning; the looms are those below n.
pub record IsLongest (n : ℕ) (schedule marks : List ℕ) (longest : ℕ) : Type 0 where
  pub bounds : (i k : ℕ) → k < n → count_over k (take i schedule) (take i marks) ≤ longest
  pub attained : (i : ℕ) × (k : ℕ) × (i ≤ length schedule) × (k < n) × (count_over k (take i schedule) (take i marks) ≡ longest)

-- Whether a place is ready.
abbrev pub is_ready : Place → Bool
is_ready Ready = true
is_ready _ = false

-- "ready: applies its operation to the cell": whether an act on a group is a step of a loom at ready.
abbrev pub applies : Group → Option Act → Bool
applies g (Some (Step k)) = is_ready (loom_at g k).place
applies g (Some (Restart k)) = false
applies g (Some RestartAll) = false
applies g None = false

module _ (table : List ℕ) (states operations : ℕ) where
  -- The group after a schedule.
  unfoldable pub group_after : Group → List ℕ → Group
  group_after g [] = g
  group_after g (e ∷ es) = group_after (acted_of table states operations g (act_of e)).group es

  -- How many entries of a schedule apply an operation.
  unfoldable pub applied_over : Group → List ℕ → ℕ
  applied_over g [] = 0
  applied_over g (e ∷ es) = one (applies g (act_of e)) + applied_over (acted_of table states operations g (act_of e)).group es
