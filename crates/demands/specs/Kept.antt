-- What no act changes, on any group whatever: all but the shared memory, and the looms' places and counts.
-- Assumes nothing.
use Rattle.std.specs.Prelude.{ℕ, ◌≡◌, length}
use Rattle.loom.specs.declared.Loom.{Loom}
use Rattle.group.specs.declared.Group.{Group}
use Rattle.group.specs.Group.{loom_at}

-- The loom l has the side and the operation of the loom m.
pub record SameLoom (l m : Loom) : Type 0 where
  pub side : l.side ≡ m.side
  pub operation : l.operation ≡ m.operation

-- The group h has all that acts leave alone as the group g has it.
pub record Kept (g h : Group) : Type 0 where
  pub count : h.count ≡ g.count
  pub start : h.start ≡ g.start
  pub sets : h.sets ≡ g.sets
  pub numbers : h.numbers ≡ g.numbers
  pub slots : length h.looms ≡ length g.looms
  pub looms : (k : ℕ) → SameLoom (loom_at h k) (loom_at g k)
