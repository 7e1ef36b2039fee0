-- Laws of a loom as a value and of its turn.
-- Assumes nothing.
use Rattle.std.specs.Prelude.{ℕ, ◌≤◌, ◌≡◌}
use Rattle.std.proofs.Common.{arith, ap, sym, ◌∙◌}
use Rattle.loom.specs.declared.Loom.{Loom}
use Rattle.loom.specs.declared.Place.{Place}
use Rattle.loom.specs.declared.Said.{Said}
use Rattle.loom.specs.declared.Shared.{Shared}
use Rattle.loom.specs.declared.Turned.{Turned}
use Rattle.loom.specs.Turn.{Rules, turn_of}
use Rattle.loom.specs.TurnLaws.{turn_of_next}
use Rattle.loom.specs.Looms.{most_steps, counted, moved_to, handed_back, turned_of}

-- A turn from the place p, line by line of the table: the loom n, the memory k and the saying d are what that line leaves.
pub turned_at : (R : Rules) (v : ℕ) (op : ℕ → ℕ) (m : Shared) (l : Loom) (p q : Place) (n : Loom) (k : Shared) (d : Said) →
    l.place ≡ p →
    turn_of R l.side v op m p ≡ record { place = q; shared = k; said = d } →
    n ≡ moved_to l q →
    ◌≡◌ {A = Turned} (record { loom = n; shared = k; said = d }) (turned_of R v op m l)
turned_at R v op m l p q n k d at line step =
    ap {B = Turned} (λ (x : Loom). record { loom = x; shared = k; said = d }) step
    ∙ sym (ap (handed_back l) (ap (turn_of R l.side v op m) at ∙ line))

-- A turn asks for one state only: the one after the loom's operation in the cell's state.
pub turned_of_next : (R : Rules) (v : ℕ) (op : ℕ → ℕ) (m : Shared) (l : Loom) → turned_of R v op m l ≡ turned_of R v (λ _. op m.cell) m l
turned_of_next R v op m l = ap (handed_back l) (turn_of_next R l.side v op m l.place)

-- No step takes a count past its end.
pub counted_within : (n : ℕ) → counted n ≤ most_steps
counted_within n = omega arith
