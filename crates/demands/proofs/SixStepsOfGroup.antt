-- Demand 3's last part, of a group's own functions: six steps are enough, and no count passes six.
-- Assumes nothing.
use Rattle.std.specs.Prelude.{ℕ, ◌≤◌, ◌<◌, ◌≡◌, List, Ok}
use Rattle.recording.specs.declared.Certificate.{Certificate}
use Rattle.sides.specs.declared.Pair.{Pair}
use Rattle.group.specs.declared.Group.{Group}
use Rattle.group.specs.declared.Told.{Told}
use Rattle.group.specs.Group.{loom_at}
use Rattle.group.specs.Step.{step_of}
use Rattle.group.specs.Open.{open_of}
use Rattle.demands.specs.Acts.{Act, untouched, history_after, group_after}
use Rattle.demands.specs.Steps.{steps_of, Unrestarted, HasAnswered}
use Rattle.demands.specs.NewlyOpened.{NewlyOpened}
use Rattle.demands.proofs.NewlyOpenedLaws.{answered_by_six, counts_at_most_six, results_at_most_six}
use Rattle.demands.proofs.OpenedLaws.{newly_opened}

module _ (table : List ℕ) (states operations : ℕ) (c : Certificate) (numbers : Pair ℕ) (room : ℕ)
    -- the group that opened
    (opening : Group) (opens : open_of table states operations c numbers room ≡ Ok opening) where
  new : NewlyOpened table states operations c numbers opening
  new = newly_opened table states operations c numbers room opening opens

  -- A loom of the group that takes six steps with no restart of it, or of all, in between has answered by the sixth, from wherever the acts
  -- before have left the group, and whatever the other looms do.
  pub six_steps : (before acts : List Act) (k : ℕ) → k < opening.count → Unrestarted k acts → 6 ≤ steps_of k acts →
      HasAnswered k (history_after table states operations acts (history_after table states operations before (untouched opening)))
  six_steps before acts k here = answered_by_six new before acts k (rw new.seated.count at here)

  -- Whatever the acts, no loom of the group has counted more than six steps since it opened or last restarted.
  pub counts_within_six : (acts : List Act) (k : ℕ) → k < opening.count → (loom_at (group_after table states operations acts opening) k).steps ≤ 6
  counts_within_six acts k here = counts_at_most_six new acts k (rw new.seated.count at here)

  -- And the count in a step's result never passes six.
  pub results_within_six : (acts : List Act) (k : ℕ) (t : Told) → (step_of table states operations (group_after table states operations acts opening) k).told ≡ Ok t → t.steps ≤ 6
  results_within_six = results_at_most_six new
