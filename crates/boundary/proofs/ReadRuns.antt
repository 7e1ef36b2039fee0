-- A file that reads gets past 12, 13 and 40 of a run: the two say alike what a schedule is.
-- Assumes nothing.
use Rattle.std.specs.Prelude.{ℕ, ◌≤◌, ◌≡◌, Ok, List, take}
use Rattle.std.proofs.Common.{sym, subst}
use Rattle.cell.specs.Limits.{edition}
use Rattle.format.specs.Layout.{plan_of}
use Rattle.order.specs.declared.Order.{Order}
use Rattle.order.specs.Order.{accepted_of, ReadsTo}
use Rattle.order.proofs.ReadsPassLaws.{order_read, schedule_read, file_passes}
use Rattle.schedule.specs.Run.{refusal_of}
use Rattle.boundary.proofs.ReadRunsLaws.{none_refuses}

-- Read a file into two rooms, and run what was read, with room enough for the marks.
pub reads_run : (s table schedule table' schedule' : List ℕ) (order : Order) → ReadsTo edition s table schedule table' schedule' (Ok order)
    → (room : ℕ) → order.schedule ≤ room → refusal_of order.count (take order.schedule schedule') room ≡ Ok tt
unfolding accepted_of
reads_run s table schedule table' schedule' order reads room enough =
    subst (λ (o : Order). o.schedule ≤ room → refusal_of o.count (take o.schedule schedule') room ≡ Ok tt)
    (sym (order_read s table schedule table' schedule' order reads))
    (λ fits.
    subst (λ (es : List ℕ). refusal_of (plan_of s).looms es room ≡ Ok tt) (sym (schedule_read s table schedule table' schedule' order reads))
    (none_refuses s (file_passes s table schedule table' schedule' order reads) room fits))
    enough
