-- A schedule's acts as the demands have them, and the events that it leaves: document 01, "Schedules" and "What the contracts owe".
-- Assumes nothing.
use Rattle.std.specs.Prelude.{ℕ, ◌+◌, List, [], ◌∷◌, Option, Some, None}
use Rattle.recording.specs.Recording.{one}
use Rattle.sides.specs.declared.Side.{Side}
use Rattle.sides.specs.Sides.{same_side}
use Rattle.agreement.specs.Machine.{Event, posted, applied, answered}
use Rattle.group.specs.declared.Group.{Group}
use Rattle.demands.specs.Acts.{Act as Done, loom_steps, loom_restarts, all_restart, events_after}
use Rattle.schedule.specs.declared.Act.{Act}
use Rattle.schedule.specs.declared.Act.TheVariants.{Step, Restart, RestartAll}
use Rattle.schedule.specs.Acts.{act_of}

-- The act of an entry, before the acts of the later ones. An entry that names no act does nothing.
abbrev pub done_before : Option Act → List Done → List Done
done_before (Some (Step k)) later = loom_steps k ∷ later
done_before (Some (Restart k)) later = loom_restarts k ∷ later
done_before (Some RestartAll) later = all_restart ∷ later
done_before None later = later

-- The acts of a schedule.
unfoldable pub done_by : List ℕ → List Done
done_by [] = []
done_by (e ∷ es) = done_before (act_of e) (done_by es)

-- The events that a schedule leaves on a group, the latest first.
abbrev pub events_over : List ℕ → ℕ → ℕ → Group → List ℕ → List Event
events_over table states operations g schedule = events_after table states operations (done_by schedule) g

-- How many events of a log are answers with side s, and how many are applications.
unfoldable pub answers_in : Side → List Event → ℕ
answers_in s [] = 0
answers_in s (posted k t v ∷ log) = answers_in s log
answers_in s (applied k t ∷ log) = answers_in s log
answers_in s (answered k t v ∷ log) = one (same_side t s) + answers_in s log

unfoldable pub applications_in : List Event → ℕ
applications_in [] = 0
applications_in (posted k t v ∷ log) = applications_in log
applications_in (applied k t ∷ log) = 1 + applications_in log
applications_in (answered k t v ∷ log) = applications_in log
