-- The steps of one loom, of any looms: document 01, "One loom's steps" and "Forms for parts of the code". `demands` has the same of a group.
-- Assumes nothing.
use Rattle.std.specs.Prelude.{ℕ, ◌+◌, List, [], ◌∷◌, T, eqb}
use Rattle.recording.specs.Recording.{one}
use Rattle.agreement.specs.Machine.{Act, step, restart, restart_all}

-- How often loom k steps among the acts.
unfoldable pub steps_of : ℕ → List Act → ℕ
steps_of k [] = 0
steps_of k (step j v ∷ acts) = one (eqb j k) + steps_of k acts
steps_of k (restart j ∷ acts) = steps_of k acts
steps_of k (restart_all ∷ acts) = steps_of k acts

-- No act restarts loom k, or all looms.
abbrev pub Unrestarted : ℕ → List Act → Type 0
Unrestarted k [] = Unit {0}
Unrestarted k (step j v ∷ acts) = Unrestarted k acts
Unrestarted k (restart j ∷ acts) = (T (eqb j k) → ⊥) × Unrestarted k acts
Unrestarted k (restart_all ∷ acts) = ⊥
