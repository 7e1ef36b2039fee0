-- What a restart of all comes to, on any group whatever.
-- Assumes nothing.
use Rattle.std.specs.Prelude.{ℕ, zero, suc, ◌≤◌, ◌<◌, ◌≡◌, refl, length}
use Rattle.std.proofs.Math.Decide.{ℕ_discrete}
use Rattle.std.proofs.Common.{not-suc-le-zero, arith, ap, ◌∙◌, length-set, get_or-set_same, get_or-set_other}
use Rattle.loom.specs.Looms.{restarted_of}
use Rattle.group.specs.declared.Group.{Group}
use Rattle.group.specs.Group.{empty_loom, loom_at, restarted_below}

-- A restart of the looms below n leaves the others as they were.
pub restarted_beyond : (g : Group) (n j : ℕ) → n ≤ j → loom_at (restarted_below g n) j ≡ loom_at g j
unfolding restarted_below
restarted_beyond g zero j past = refl
restarted_beyond g (suc n) j past =
    get_or-set_other (restarted_below g n).looms n j (restarted_of (loom_at (restarted_below g n) n)) empty_loom (λ e. omega arith)
    ∙ restarted_beyond g n j (omega arith)

-- It leaves as many slots as there were.
restarted_slots : (g : Group) (n : ℕ) → length (restarted_below g n).looms ≡ length g.looms
unfolding restarted_below
restarted_slots g zero = refl
restarted_slots g (suc n) =
    length-set (restarted_below g n).looms n (restarted_of (loom_at (restarted_below g n) n)) ∙ restarted_slots g n

-- The looms below n are restarted.
pub restarted_each : (g : Group) (n j : ℕ) → n ≤ length g.looms → j < n → loom_at (restarted_below g n) j ≡ restarted_of (loom_at g j)
unfolding restarted_below
restarted_each g zero j within below = absurd (not-suc-le-zero below)
restarted_each g (suc n) j within below =
    elim (ℕ_discrete j n) [
      | yes e ↦ last e
      | no e ↦
          get_or-set_other (restarted_below g n).looms n j (restarted_of (loom_at (restarted_below g n) n)) empty_loom e
          ∙ restarted_each g n j (omega arith) (omega arith)
    ]
  where
    last : j ≡ n → loom_at (restarted_below g (suc n)) j ≡ restarted_of (loom_at g j)
    last e =
        rw e
        (get_or-set_same (restarted_below g n).looms n (restarted_of (loom_at (restarted_below g n) n)) empty_loom
        (omega (arith, restarted_slots g n))
        ∙ ap restarted_of (restarted_beyond g n n (omega arith)))
