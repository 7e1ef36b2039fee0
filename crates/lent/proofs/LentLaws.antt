-- Laws of the step on a lent record: it says neither more nor less than the step on a record by value.
-- Assumes nothing.
use Rattle.std.specs.Prelude.{ℕ, ◌≡◌, refl, Bool, true, false, cond, List, Err}
use Rattle.codes.specs.declared.Code.{Code}
use Rattle.codes.specs.declared.Code.TheVariants.{HasAnswered, Unfit}
use Rattle.loom.specs.declared.Loom.{Loom}
use Rattle.loom.specs.declared.Shared.{Shared}
use Rattle.loom.specs.declared.Turned.{Turned}
use Rattle.loom.specs.Turn.{Rules, has_answered}
use Rattle.cell.specs.Table.{entry_of}
use Rattle.loom.specs.Looms.{turned_of}
use Rattle.group.specs.declared.Outcome.{Outcome}
use Rattle.group.specs.Step.{is_unfit, unmoved, taken, step_on_of}
use Rattle.lent.specs.declared.Lent.{Lent}
use Rattle.lent.specs.Lent.{left, returned_of, left_of}

-- What is handed back and what stays in the record, together.
abbrev pub together : Lent → Shared → Outcome
together r m = record { shared = m; loom = r.loom; said = r.said }

-- Of an outcome chosen among two refusals and a turn: a code is a refusal's.
refused_is_unmoved : (unfit answered : Bool) (m : Shared) (l : Loom) (t : Turned) (code : Code) →
    (cond unfit (unmoved Unfit m l) (cond answered (unmoved HasAnswered m l) (taken t))).said ≡ Err code →
    left (cond unfit (unmoved Unfit m l) (cond answered (unmoved HasAnswered m l) (taken t))) ≡ m
refused_is_unmoved true answered m l t code h = refl
refused_is_unmoved false true m l t code h = refl
refused_is_unmoved false false m l t code h = cc

module _ (R : Rules) (v : ℕ) (table : List ℕ) (states operations : ℕ) (m : Shared) (l : Loom) where
  -- What is handed back and what stays in the record are the whole of the step by value.
  pub lent_is_by_value : together (returned_of R v table states operations m l) (left_of R v table states operations m l) ≡ step_on_of R v table states operations m l
  lent_is_by_value = refl

  -- "A refused step [...] returns what it was given": the record stands as it was.
  pub refusal_leaves_the_record : (code : Code) → (returned_of R v table states operations m l).said ≡ Err code → left_of R v table states operations m l ≡ m
  unfolding step_on_of
  refusal_leaves_the_record =
      refused_is_unmoved (is_unfit table states operations l.operation m.cell) (has_answered l.place) m l (turned_of R v (entry_of table states l.operation) m l)
