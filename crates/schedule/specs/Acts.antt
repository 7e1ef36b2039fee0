-- Entries as acts: document 01, "Schedules" and "Codes and their order".
-- Assumes nothing.
use Rattle.std.specs.Prelude.{ℕ, ◌-◌, Bool, true, false, cond, List, Option, Some, None, ltb, eqb}
use Rattle.std.specs.List.{list_all}
use Rattle.cell.specs.Limits.{first_restart, entry_of_all}
use Rattle.schedule.specs.declared.Act.{Act}
use Rattle.schedule.specs.declared.Act.TheVariants.{Step, Restart, RestartAll}

-- "Entry k is a step of loom k, 16 + k a restart of loom k, 32 a restart of all." Any other names no act.
unfoldable pub act_of : ℕ → Option Act
act_of e =
    cond (ltb e first_restart) (Some (Step e))
    (cond (ltb e entry_of_all) (Some (Restart (e - first_restart))) (cond (eqb e entry_of_all) (Some RestartAll) None))

-- Whether there is an act, and its loom is one of a group of so many.
abbrev pub is_named : ℕ → Option Act → Bool
is_named count (Some (Step k)) = ltb k count
is_named count (Some (Restart k)) = ltb k count
is_named count (Some RestartAll) = true
is_named count None = false

-- "13: an entry naming no act or no loom of this group": whether there is none.
abbrev pub all_named : ℕ → List ℕ → Bool
all_named count = list_all (λ e. is_named count (act_of e))
