-- A loom as a value, and what a step or a restart makes of it: document 01, "One loom's steps".
-- Assumes nothing.
use Rattle.std.specs.Prelude.{ℕ, ◌+◌, min}
use Rattle.sets.specs.Sets.{has_of}
use Rattle.loom.specs.declared.Place.{Place}
use Rattle.loom.specs.declared.Place.TheVariants.{Begin}
use Rattle.loom.specs.declared.Loom.{Loom}
use Rattle.loom.specs.declared.Lead.{Lead}
use Rattle.loom.specs.declared.Shared.{Shared}
use Rattle.loom.specs.declared.Turned.{Turned}
use Rattle.loom.specs.Turn.{Rules, Turn, turn_of}

-- Where the step count stops.
abbrev pub most_steps : ℕ
most_steps = 255

-- "The number of this loom's steps since it opened or last restarted [...]; it stops at 255": the count with one step more.
abbrev pub counted : ℕ → ℕ
counted n = min (n + 1) most_steps

-- "A loom is a value with its side, its operation, its step count and its place": the loom l at count n and place p. Whatever
-- changes a loom is this.
abbrev pub standing : Loom → ℕ → Place → Loom
standing l n p = record { side = l.side; operation = l.operation; steps = n; place = p }

-- "Each step hands the loom back": at its next place, with one step more.
abbrev pub moved_to : Loom → Place → Loom
moved_to l p = standing l (counted l.steps) p

-- "A restart of a loom sets its place to begin and its step count to 0, in any place, answered included."
abbrev pub restarted_of : Loom → Loom
restarted_of l = standing l 0 Begin

-- The rules that a group's looms go by, from the numbers that hold them: "the leading side if the cell's state is in its set".
abbrev pub rules_of : Lead → Rules
rules_of lead = record { start = lead.start; leading = lead.side; in_leading = has_of lead.set; yields_alone = lead.alone }

-- What a turn leaves, with the loom as a value.
abbrev pub handed_back : Loom → Turn → Turned
handed_back l t = record { loom = moved_to l t.place; shared = t.shared; said = t.said }

-- One step of the loom l by the table of places. v is the number that it posts, op q the state after its operation in state q.
abbrev pub turned_of : Rules → ℕ → (ℕ → ℕ) → Shared → Loom → Turned
turned_of R v op m l = handed_back l (turn_of R l.side v op m l.place)
