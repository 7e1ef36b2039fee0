-- A group with its log, and the machine of looms: how the one is a picture of the other.
-- Assumes nothing.
use Rattle.std.specs.Prelude.{ℕ, ◌<◌, ◌≡◌, List, eqb, length}
use Rattle.recording.specs.declared.Seat.{Seat}
use Rattle.recording.specs.Recording.{side_count}
use Rattle.sides.specs.Sides.{side_number, of_side}
use Rattle.sides.specs.declared.Pair.{Pair}
use Rattle.loom.specs.Turn.{Rules}
use Rattle.loom.specs.Looms.{rules_of}
use Rattle.agreement.specs.Machine.{State}
use Rattle.group.specs.Group.{loom_at, yielding_of, leading_of}
use Rattle.demands.specs.Acts.{History}

-- The rules that looms in these seats go by, from the start and the two sets.
abbrev pub rules_by : List Seat → ℕ → Pair ℕ → Rules
rules_by looms start sets =
    rules_of (record {
      start = start;
      side = leading_of start sets;
      set = of_side sets (leading_of start sets);
      alone = eqb (side_count (side_number (yielding_of start sets)) looms) 1;
    })

-- The same memory, the same place for each loom of the group, the same events.
pub record Pictured (looms : List Seat) (h : History) (S : State) : Type 0 where
  pub shared : h.group.shared ≡ S.shared
  pub place : (k : ℕ) → k < length looms → (loom_at h.group k).place ≡ S.place k
  pub log : h.log ≡ S.log
