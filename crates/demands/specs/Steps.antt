-- The steps of one loom among acts on a group: document 01, "One loom's steps".
-- Assumes nothing.
use Rattle.std.specs.Prelude.{ℕ, ◌+◌, ◌≡◌, List, [], ◌∷◌, eqb}
use Rattle.recording.specs.Recording.{one}
use Rattle.sides.specs.declared.Side.{Side}
use Rattle.loom.specs.declared.Place.TheVariants.{Answered}
use Rattle.agreement.specs.Machine.{answered}
use Rattle.agreement.specs.Agreed.{Had}
use Rattle.group.specs.Group.{loom_at}
use Rattle.demands.specs.Acts.{Act, loom_steps, loom_restarts, all_restart, History}

-- How often loom k steps among the acts, refused steps and all.
unfoldable pub steps_of : ℕ → List Act → ℕ
steps_of k [] = 0
steps_of k (loom_steps j ∷ acts) = one (eqb j k) + steps_of k acts
steps_of k (loom_restarts j ∷ acts) = steps_of k acts
steps_of k (all_restart ∷ acts) = steps_of k acts

-- No act restarts loom k, or all looms.
abbrev pub Unrestarted : ℕ → List Act → Type 0
Unrestarted k [] = Unit {0}
Unrestarted k (loom_steps j ∷ acts) = Unrestarted k acts
Unrestarted k (loom_restarts j ∷ acts) = (j ≡ k → ⊥) × Unrestarted k acts
Unrestarted k (all_restart ∷ acts) = ⊥

-- Loom k stands at an answer, and that answer is in the log.
pub record HasAnswered (k : ℕ) (h : History) : Type 0 where
  pub side : Side
  pub number : ℕ
  pub there : (loom_at h.group k).place ≡ Answered side
  pub told : Had (answered k side number) h.log
