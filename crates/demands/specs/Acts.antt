-- Acts on a group, and the events that they leave: document 01, "One loom's steps" and "Schedules". Each act goes through the definition
-- that the contract of `Group::step`, `Group::restart` or `Group::restart_all` cites.
-- Assumes nothing.
use Rattle.std.specs.Prelude.{ℕ, List, [], ◌∷◌, Result, Ok, Err}
use Rattle.codes.specs.declared.Code.{Code}
use Rattle.loom.specs.declared.Loom.{Loom}
use Rattle.loom.specs.Sides.{register}
use Rattle.agreement.specs.Machine.{Event, with_post, with_said}
use Rattle.group.specs.declared.Group.{Group}
use Rattle.group.specs.declared.Stepped.{Stepped}
use Rattle.group.specs.declared.Told.{Told}
use Rattle.group.specs.Group.{loom_at}
use Rattle.group.specs.Step.{step_of, restart_of, restart_all_of}

-- What can be done to a group: "a step of loom k, [...] a restart of loom k, [...] a restart of all".
pub data Act : Type 0 where
  loom_steps : ℕ → Act
  loom_restarts : ℕ → Act
  all_restart : Act

-- A group, and the events that the acts on it have left, the latest first.
pub record History : Type 0 where
  pub group : Group
  pub log : List Event

-- The log after loom l, of number k, took a step that left the group g. A refused step leaves no event. A step from begin was a post: of what the
-- register of the loom's side holds now. What a step said, an application or an answer, comes after it.
abbrev pub noted_by : ℕ → Loom → Group → Result Told Code → List Event → List Event
noted_by k l g (Ok told) log = with_said k l.side told.said (with_post k l.side (register g.shared l.side) l.place log)
noted_by k l g (Err code) log = log

-- The same of a step that came to r.
unfoldable pub noted : ℕ → Loom → Stepped → List Event → List Event
noted k l r log = noted_by k l r.group r.told log

-- The group that a step came to, and the log with its events.
abbrev pub stepped_to : ℕ → History → Stepped → History
stepped_to k h r = record { group = r.group; log = noted k (loom_at h.group k) r h.log }

-- One act on a group over a table of so many states and operations.
unfoldable pub acted_on : List ℕ → ℕ → ℕ → Act → History → History
acted_on table states operations (loom_steps k) h = stepped_to k h (step_of table states operations h.group k)
acted_on table states operations (loom_restarts k) h = record { group = (restart_of h.group k).group; log = h.log }
acted_on table states operations all_restart h = record { group = (restart_all_of h.group).group; log = h.log }

-- Each act on what the last handed back, the table unchanged.
unfoldable pub history_after : List ℕ → ℕ → ℕ → List Act → History → History
history_after table states operations [] h = h
history_after table states operations (a ∷ acts) h = history_after table states operations acts (acted_on table states operations a h)

-- A group on which nothing has been done yet.
abbrev pub untouched : Group → History
untouched g = record { group = g; log = [] }

-- The group after the acts.
abbrev pub group_after : List ℕ → ℕ → ℕ → List Act → Group → Group
group_after table states operations acts g = (history_after table states operations acts (untouched g)).group

-- The events that the acts left on it, the latest first.
abbrev pub events_after : List ℕ → ℕ → ℕ → List Act → Group → List Event
events_after table states operations acts g = (history_after table states operations acts (untouched g)).log
