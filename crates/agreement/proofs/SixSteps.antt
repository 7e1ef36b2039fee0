-- Demand 3's last part: six steps. For any looms, any operations and any rules, whatever the other looms do.
-- Assumes nothing.
use Rattle.std.specs.Prelude.{ℕ, ◌≤◌, ◌<◌, ◌≡◌, List, length}
use Rattle.std.proofs.Common.{arith}
use Rattle.recording.specs.declared.Seat.{Seat}
use Rattle.sides.specs.declared.Side.{Side}
use Rattle.loom.specs.declared.Place.TheVariants.{Answered}
use Rattle.loom.specs.Turn.{Rules}
use Rattle.agreement.specs.Machine.{Act, State, after}
use Rattle.agreement.specs.Steps.{steps_of, Unrestarted}
use Rattle.agreement.proofs.StepsLaws.{answered_at_six, rank_after}

module _ (next : ℕ → ℕ → ℕ) (looms : List Seat) (R : Rules) where
  -- A loom that takes six steps with no restart of it, or of all, in between has answered by the sixth, from wherever it began.
  pub six_steps : (acts : List Act) (S : State) (k : ℕ) → k < length looms → Unrestarted k acts → 6 ≤ steps_of k acts →
      (x : Side) × ((after next looms R acts S).place k ≡ Answered x)
  six_steps acts S k here free six = answered_at_six ((after next looms R acts S).place k) (omega (arith, rank_after next looms R acts S k here free))
