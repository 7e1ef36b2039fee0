-- Demand 3, of a group's own functions: `open`, then `step`, `restart` and `restart_all` in any order, through the definitions that their
-- contracts cite.
-- Assumes nothing.
use Rattle.std.specs.Prelude.{ℕ, ◌≡◌, List, Ok}
use Rattle.recording.specs.declared.Certificate.{Certificate}
use Rattle.sides.specs.Sides.{of_side}
use Rattle.sides.specs.declared.Pair.{Pair}
use Rattle.agreement.specs.Agreed.{Agreed}
use Rattle.group.specs.declared.Group.{Group}
use Rattle.group.specs.Open.{open_of}
use Rattle.demands.specs.Acts.{Act, events_after}
use Rattle.demands.proofs.NewlyOpenedLaws.{agreed_always}
use Rattle.demands.proofs.OpenedLaws.{newly_opened}

-- On a group that opened, whatever the acts, each on what the last handed back and the table unchanged, the events agree
-- (`Agreed`): any two answers name one side; each answer's number is that side's; each comes after a post of that number by a loom of that
-- side; and if any loom has applied its operation, every answer, given before or after, names the side of the first that did.
pub demand_three : (table : List ℕ) (states operations : ℕ) (c : Certificate) (numbers : Pair ℕ) (room : ℕ) →
    (g : Group) → open_of table states operations c numbers room ≡ Ok g →
    (acts : List Act) →
    Agreed (of_side numbers) (events_after table states operations acts g)
demand_three table states operations c numbers room g opens = agreed_always (newly_opened table states operations c numbers room g opens)
