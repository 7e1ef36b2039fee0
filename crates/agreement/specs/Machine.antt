-- The looms of a group as one machine: document 01, "One loom's steps"; source document 000, steps and crashes.
-- Over any looms, any operations and any rules. Each step brings the number that its loom would post, so that nothing here says who
-- posts what.
-- Assumes nothing.
use Rattle.std.specs.Prelude.{ℕ, ◌≡◌, cond, List, [], ◌∷◌, eqb, ltb, length}
use Rattle.recording.specs.declared.Seat.{Seat}
use Rattle.recording.specs.Recording.{side_at, operation_at}
use Rattle.sides.specs.declared.Side.{Side}
use Rattle.loom.specs.declared.Place.{Place}
use Rattle.loom.specs.declared.Place.TheVariants.{Begin, Posted, Looking, Ready, Applied, Bound, Answered}
use Rattle.loom.specs.declared.Shared.{Shared}
use Rattle.loom.specs.declared.Said.{Said}
use Rattle.loom.specs.declared.Said.TheVariants.{Nothing, Application, Answer}
use Rattle.sides.specs.Sides.{side_from}
use Rattle.loom.specs.Turn.{Rules, Turn, turn_of}

-- A number that can be posted: "0 means not posted".
abbrev pub NotZero : ℕ → Type 0
NotZero v = v ≡ 0 → ⊥

-- What can be seen of a machine at work.
pub data Event : Type 0 where
  -- loom k, of side s, wrote v in its side's register
  posted : ℕ → Side → ℕ → Event
  -- loom k, of side s, applied its operation to the cell
  applied : ℕ → Side → Event
  -- loom k answered with side s and number v
  answered : ℕ → Side → ℕ → Event

-- What can be done to it: loom k steps, and would post v; "a restart of a loom"; "a restart of all".
pub data Act : Type 0 where
  step : ℕ → ℕ → Act
  restart : ℕ → Act
  restart_all : Act

-- Every step among the acts brings a number that P allows its loom.
abbrev pub EachStep : (ℕ → ℕ → Type 0) → List Act → Type 0
EachStep P [] = Unit {0}
EachStep P (step k v ∷ acts) = P k v × EachStep P acts
EachStep P (restart k ∷ acts) = EachStep P acts
EachStep P (restart_all ∷ acts) = EachStep P acts

-- The memory that the looms share, each loom's place, and the events so far, the latest first.
pub record State : Type 0 where
  pub shared : Shared
  pub place : ℕ → Place
  pub log : List Event

-- The side of loom k.
abbrev pub side_of : List Seat → ℕ → Side
side_of looms k = side_from (side_at looms k)

-- The family f with the value a at k and no other changed.
unfoldable pub changed_at : {A : Type 0} → (ℕ → A) → ℕ → A → ℕ → A
changed_at f k a j = cond (eqb j k) a (f j)

-- The log after a post: a step from begin.
unfoldable pub with_post : ℕ → Side → ℕ → Place → List Event → List Event
with_post k s v Begin log = posted k s v ∷ log
with_post k s v Posted log = log
with_post k s v Looking log = log
with_post k s v Ready log = log
with_post k s v Applied log = log
with_post k s v (Bound x) log = log
with_post k s v (Answered x) log = log

-- The log after what a step said.
unfoldable pub with_said : ℕ → Side → Said → List Event → List Event
with_said k s Nothing log = log
with_said k s Application log = applied k s ∷ log
with_said k s (Answer x v) log = answered k x v ∷ log

-- The state after turn t of loom k, of side s, from place p; v is the number that it would post.
unfoldable pub turned : ℕ → Side → ℕ → Place → Turn → State → State
turned k s v p t S =
    record { shared = t.shared; place = changed_at S.place k t.place; log = with_said k s t.said (with_post k s v p S.log) }

-- The state with other places: all that a restart changes.
abbrev pub replaced : State → (ℕ → Place) → State
replaced S place = record { shared = S.shared; place = place; log = S.log }

module _ (next : ℕ → ℕ → ℕ) (looms : List Seat) (R : Rules) where
  -- One step of loom k, from its place: its turn by the table of places. A loom that has answered changes nothing.
  unfoldable pub stepped_from : ℕ → ℕ → Place → State → State
  stepped_from k v p S = turned k (side_of looms k) v p (turn_of R (side_of looms k) v (next (operation_at looms k)) S.shared p) S

  -- One step of loom k.
  unfoldable pub stepped : ℕ → ℕ → State → State
  stepped k v S = stepped_from k v (S.place k) S

  -- One act. A step of no loom of the group changes nothing.
  -- "A restart of a loom sets its place to begin [...], in any place, answered included. A restart of all does it to every loom. Neither
  -- touches the shared memory."
  unfoldable pub acted : Act → State → State
  acted (step k v) S = cond (ltb k (length looms)) (stepped k v S) S
  acted (restart k) S = replaced S (changed_at S.place k Begin)
  acted restart_all S = replaced S (λ k. Begin)

  -- Each act on what the last handed back.
  unfoldable pub after : List Act → State → State
  after [] S = S
  after (a ∷ acts) S = after acts (acted a S)

-- As a group opens: the cell at the start, both registers 0, every loom at begin; and nothing has happened.
abbrev pub opening : ℕ → State
opening start = record { shared = record { cell = start; registers = record { a = 0; b = 0 } }; place = λ k. Begin; log = [] }
