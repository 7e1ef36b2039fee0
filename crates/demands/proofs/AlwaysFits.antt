-- A group that opened and the table it opened with fit, whatever the acts: a step is never refused with 32.
-- Assumes nothing.
use Rattle.std.specs.Prelude.{ℕ, ◌≡◌, List, Ok, Err}
use Rattle.codes.specs.declared.Code.TheVariants.{Unfit}
use Rattle.recording.specs.declared.Certificate.{Certificate}
use Rattle.recording.specs.Check.{looms_of}
use Rattle.sides.specs.declared.Pair.{Pair}
use Rattle.group.specs.declared.Group.{Group}
use Rattle.group.specs.Step.{step_of}
use Rattle.group.specs.Open.{open_of}
use Rattle.demands.specs.Acts.{Act, group_after}
use Rattle.demands.proofs.FitsLaws.{never_unfit}
use Rattle.demands.specs.NewlyOpened.{NewlyOpened}
use Rattle.demands.proofs.NewlyOpenedLaws.{along}
use Rattle.demands.proofs.OpenedLaws.{newly_opened}

module _ (table : List ℕ) (states operations : ℕ) (c : Certificate) (numbers : Pair ℕ) (room : ℕ)
    -- the group that opened
    (opening : Group) (opens : open_of table states operations c numbers room ≡ Ok opening) where
  new : NewlyOpened table states operations c numbers opening
  new = newly_opened table states operations c numbers room opening opens

  -- Whatever the acts before it, no step is refused with 32.
  pub always_fits : (acts : List Act) (k : ℕ) → (step_of table states operations (group_after table states operations acts opening) k).told ≡ Err Unfit → ⊥
  always_fits acts = never_unfit table states operations (looms_of c) new.good (group_after table states operations acts opening) (along new acts).fits
