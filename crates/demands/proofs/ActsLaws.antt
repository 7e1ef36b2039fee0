-- One act more, on a group and on Figure 2's system.
-- Assumes nothing.
use Rattle.std.specs.Prelude.{ℕ, ◌≡◌, refl, List, [], ◌∷◌, ◌++◌}
use Rattle.std.proofs.Common.{ap}
use Rattle.recording.specs.declared.Seat.{Seat}
use Rattle.sides.specs.declared.Side.{Side}
use Rattle.agreement.specs.Machine.{Act as MachineAct}
use Rattle.agreement.specs.Figure.{System, Setting, moved, ran}
use Rattle.demands.specs.Acts.{Act, History, acted_on, history_after}
use Rattle.demands.specs.Processes.{numbered, all_numbered}

-- Acts with one more at the end are those acts, and then that one: on a group and its log,
pub history_one_more : (table : List ℕ) (states operations : ℕ) (acts : List Act) (a : Act) (h : History) →
    history_after table states operations (acts ++ (a ∷ [])) h ≡ acted_on table states operations a (history_after table states operations acts h)
unfolding history_after
history_one_more table states operations [] a h = refl
history_one_more table states operations (b ∷ acts) a h = history_one_more table states operations acts a (acted_on table states operations b h)

-- among the numbered acts,
pub numbered_one_more : (num : Side → ℕ) (looms : List Seat) (acts : List Act) (a : Act) →
    all_numbered num looms (acts ++ (a ∷ [])) ≡ all_numbered num looms acts ++ (numbered num looms a ∷ [])
unfolding all_numbered
numbered_one_more num looms [] a = refl
numbered_one_more num looms (b ∷ acts) a = ap (λ rest. numbered num looms b ∷ rest) (numbered_one_more num looms acts a)

-- and on Figure 2's system.
pub ran_one_more : (G : Setting) (acts : List MachineAct) (a : MachineAct) (F : System) → ran G (acts ++ (a ∷ [])) F ≡ moved G a (ran G acts F)
unfolding ran
ran_one_more G [] a F = refl
ran_one_more G (b ∷ acts) a F = ran_one_more G acts a (moved G b F)
