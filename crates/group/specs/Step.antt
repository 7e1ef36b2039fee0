-- A step, a restart of one and a restart of all: document 01, "One loom's steps" and "Codes and their order".
-- Assumes nothing.
use Rattle.std.specs.Prelude.{ℕ, ◌*◌, Bool, true, false, not, cond, ◌||◌, List, eqb, leb, length, Option, Some, None, Result, Ok, Err}
use Rattle.codes.specs.declared.Code.{Code}
use Rattle.codes.specs.declared.Code.TheVariants.{NoLoom, HasAnswered, Unfit}
use Rattle.cell.specs.Limits.{edition}
use Rattle.cell.specs.Table.{entry_of, outside_of}
use Rattle.sides.specs.Sides.{of_side}
use Rattle.loom.specs.declared.Loom.{Loom}
use Rattle.loom.specs.declared.Shared.{Shared}
use Rattle.loom.specs.declared.Said.{Said}
use Rattle.loom.specs.declared.Turned.{Turned}
use Rattle.loom.specs.Turn.{Rules, has_answered}
use Rattle.loom.specs.Looms.{turned_of}
use Rattle.group.specs.declared.Group.{Group}
use Rattle.group.specs.declared.Told.{Told}
use Rattle.group.specs.declared.Outcome.{Outcome}
use Rattle.group.specs.declared.Stepped.{Stepped}
use Rattle.group.specs.declared.Restarted.{Restarted}
use Rattle.group.specs.Group.{loom_at, group_rules, with_loom, with_shared, too_many, no_loom, restarted_at, restarted_below}

-- "32, given exactly if states or operations are outside limits, the table's length is wrong, the cell's state isn't below states, the
-- loom's operation isn't fitted, or the table's entry for them isn't below states." o is the loom's operation, q the cell's state.
unfoldable pub is_unfit : List ℕ → ℕ → ℕ → ℕ → ℕ → Bool
is_unfit table states operations o q =
    outside_of 1 edition.states states
    || (outside_of 1 edition.operations operations
    || (not (eqb (length table) (states * operations))
    || (leb states q
    || (leb operations o
    || leb states (entry_of table states o q)))))

-- The state after operation o in state q, where group and table fit.
abbrev pub fitted_of : List ℕ → ℕ → ℕ → ℕ → ℕ → Option ℕ
fitted_of table states operations o q = cond (is_unfit table states operations o q) None (Some (entry_of table states o q))

-- The order of the two refusals: 32, then 31. What is granted is the state that the operation leads to.
abbrev pub permit_of : Option ℕ → Bool → Result ℕ Code
permit_of None answered = Err Unfit
permit_of (Some s) true = Err HasAnswered
permit_of (Some s) false = Ok s

-- Whether the loom l may take a step on the memory m.
abbrev pub may_step : List ℕ → ℕ → ℕ → Shared → Loom → Result ℕ Code
may_step table states operations m l = permit_of (fitted_of table states operations l.operation m.cell) (has_answered l.place)

-- "A refused step [...] returns what it was given": memory and loom.
abbrev pub unmoved : Code → Shared → Loom → Outcome
unmoved code m l = record { shared = m; loom = l; said = Err code }

-- A step that was taken: what the turn leaves.
abbrev pub taken : Turned → Outcome
taken t = record { shared = t.shared; loom = t.loom; said = Ok t.said }

-- A step of the loom l on the memory m: 32, then 31, then the table of places. v is the number that it posts.
unfoldable pub step_on_of : Rules → ℕ → List ℕ → ℕ → ℕ → Shared → Loom → Outcome
step_on_of R v table states operations m l =
    cond (is_unfit table states operations l.operation m.cell) (unmoved Unfit m l)
    (cond (has_answered l.place) (unmoved HasAnswered m l)
    (taken (turned_of R v (entry_of table states l.operation) m l)))

-- "A refused step [...] returns what it was given": the group; it says nothing, and gives no count.
abbrev pub refused : Code → Group → Stepped
refused code g = record { group = g; told = Err code }

-- What a step tells: what it says, and the loom's count; a refused step, its code alone.
abbrev pub told_of : ℕ → Result Said Code → Result Told Code
told_of steps (Ok said) = Ok (record { said = said; steps = steps })
told_of steps (Err code) = Err code

-- The outcome of a step of loom k with its memory and its loom in their places in the group, whether it was taken or refused.
abbrev pub in_place : Group → ℕ → Outcome → Stepped
in_place g k r = record { group = with_loom (with_shared g r.shared) k r.loom; told = told_of r.loom.steps r.said }

-- The same by what the step said: a refused one leaves the group.
abbrev pub settled_by : Group → ℕ → Outcome → Result Said Code → Stepped
settled_by g k r (Ok said) = in_place g k r
settled_by g k r (Err code) = refused code g

-- What the step of loom k comes to in its group: the memory and the loom take their places there, where it was taken.
unfoldable pub settled : Group → ℕ → Outcome → Stepped
settled g k r = settled_by g k r r.said

-- The step of loom k of a group, on the group's memory, by the group's rules and its side's number.
abbrev pub own_step : List ℕ → ℕ → ℕ → Group → ℕ → Outcome
own_step table states operations g k =
    step_on_of (group_rules g) (of_side g.numbers (loom_at g k).side) table states operations g.shared (loom_at g k)

-- "Step: 30; then 32 [...]; then 31."
unfoldable pub step_of : List ℕ → ℕ → ℕ → Group → ℕ → Stepped
step_of table states operations g k = cond (no_loom g k) (refused NoLoom g) (settled g k (own_step table states operations g k))

-- What a restart comes to, and the group it leaves.
abbrev pub restarted : Result (Unit {0}) Code → Group → Restarted
restarted outcome g = record { group = g; outcome = outcome }

-- "Restart of one: 30." "Neither touches the shared memory of a group."
unfoldable pub restart_of : Group → ℕ → Restarted
restart_of g k = cond (no_loom g k) (restarted (Err NoLoom) g) (restarted (Ok tt) (restarted_at g k))

-- "Restart of all: 30 only for a group of more than 8."
unfoldable pub restart_all_of : Group → Restarted
restart_all_of g = cond (too_many g) (restarted (Err NoLoom) g) (restarted (Ok tt) (restarted_below g g.count))
