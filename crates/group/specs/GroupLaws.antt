-- Laws of a group as a value.
-- Assumes nothing.
use Rattle.std.specs.Prelude.{ℕ, zero, suc, ◌+◌, ◌≤◌, ◌<◌, ◌≡◌, refl, false, List, ltb, leb, set, get_or, count_by}
use Rattle.std.proofs.Common.{add-one, ap, ltb-false, leb-false}
use Rattle.std.proofs.lemmas.Bool.{or_parts}
use Rattle.std.proofs.lemmas.List.Recursion.{is_sum_by}
use Rattle.cell.specs.Limits.{edition}
use Rattle.recording.specs.Recording.{one}
use Rattle.sides.specs.declared.Side.{Side}
use Rattle.loom.specs.declared.Loom.{Loom}
use Rattle.sides.specs.Sides.{same_side}
use Rattle.loom.specs.Looms.{restarted_of}
use Rattle.group.specs.declared.Group.{Group}
use Rattle.group.specs.Group.{empty_loom, count_of, with_looms, no_loom, restarted_at, restarted_below, looms_restarted}

-- Counting the looms of a side, by std's count.
pub count_of_side : (s : Side) (looms : List Loom) → count_of s looms ≡ count_by (λ l. same_side l.side s) looms
unfolding count_of
count_of_side s looms = is_sum_by (count_of s) (λ l. one (same_side l.side s)) refl (λ l ls. refl) looms

-- A loom that a group has is below the group's count, and the count within the limit.
pub has_loom : (g : Group) (k : ℕ) → no_loom g k ≡ false → (k < g.count) × (g.count ≤ edition.looms)
has_loom g k h =
    let parts = or_parts (ltb edition.looms g.count) (leb g.count k) h in
    (leb-false g.count k parts.1, ltb-false edition.looms g.count parts.0)

-- Restarting the looms below i, and then loom i, is restarting those below the next.
pub restarted_next : (ls first : List Loom) (i : ℕ) → ls ≡ looms_restarted first i →
    set ls i (restarted_of (get_or ls i empty_loom)) ≡ looms_restarted first (i + 1)
unfolding looms_restarted
restarted_next ls first i e = rw add-one (ap (λ x. set x i (restarted_of (get_or x i empty_loom))) e)

-- A restart of the looms below n changes the looms of the group, and nothing else.
pub restarted_looms : (g : Group) (n : ℕ) → with_looms g (looms_restarted g.looms n) ≡ restarted_below g n
unfolding looms_restarted restarted_below
restarted_looms g zero = refl
restarted_looms g (suc n) = ap (λ h. restarted_at h n) (restarted_looms g n)
