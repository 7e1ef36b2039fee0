-- A run as a fold of a group's own step and restarts over a schedule: document 01, "Schedules".
-- Assumes nothing.
use Rattle.std.specs.Prelude.{ℕ, ◌+◌, max, List, [], ◌∷◌, Option, Some, None, Result, Ok, Err}
use Rattle.codes.specs.declared.Code.{Code}
use Rattle.codes.specs.declared.Code.TheVariants.{HasAnswered}
use Rattle.sides.specs.declared.Side.{Side}
use Rattle.sides.specs.declared.Side.TheVariants.{A, B}
use Rattle.sides.specs.Sides.{same_side}
use Rattle.recording.specs.Recording.{one}
use Rattle.loom.specs.declared.Said.{Said}
use Rattle.loom.specs.declared.Said.TheVariants.{Nothing, Application, Answer}
use Rattle.loom.specs.Numbers.{said_number, said_applied}
use Rattle.group.specs.declared.Group.{Group}
use Rattle.group.specs.declared.Told.{Told}
use Rattle.group.specs.declared.Stepped.{Stepped}
use Rattle.group.specs.Step.{step_of, restart_of, restart_all_of}
use Rattle.schedule.specs.declared.Act.{Act}
use Rattle.schedule.specs.declared.Act.TheVariants.{Step, Restart, RestartAll}
use Rattle.schedule.specs.declared.Tally.{Tally}
use Rattle.schedule.specs.declared.Ran.{Ran}
use Rattle.schedule.specs.Acts.{act_of}

-- The mark of what an act tells: "1 for an answer with side A, 2 with side B, 3 for a step of a loom that had already answered [...], else 0."
abbrev pub mark_of : Result Told Code → ℕ
mark_of (Ok told) = said_number told.said
mark_of (Err HasAnswered) = 3
mark_of (Err _) = 0

-- How many answers with side s an act gives, how many operations it applies, and its loom's step count; nothing of a refused one.
abbrev pub answers_said : Side → Said → ℕ
answers_said s Nothing = 0
answers_said s Application = 0
answers_said s (Answer t v) = one (same_side t s)

abbrev pub answers_told : Side → Result Told Code → ℕ
answers_told s (Ok told) = answers_said s told.said
answers_told s (Err code) = 0

abbrev pub applied_told : Result Told Code → ℕ
applied_told (Ok told) = said_applied told.said
applied_told (Err code) = 0

abbrev pub steps_told : Result Told Code → ℕ
steps_told (Ok told) = told.steps
steps_told (Err code) = 0

-- What a restart comes to, which says nothing and applies nothing.
abbrev pub silent : Told
silent = record { said = Nothing; steps = 0 }

abbrev pub after_restart : Group → Stepped
after_restart g = record { told = Ok silent; group = g }

-- Nothing counted yet, and a run with no entry taken yet.
abbrev pub no_tally : Tally
no_tally = record { entries = 0; answers = record { a = 0; b = 0 }; applied = 0; longest = 0 }

abbrev pub begun : Group → Ran
begun g = record { group = g; tally = no_tally }

-- "The result gives the final group, the entries, the answers for A and for B, the operations applied, and the longest run": the counts,
-- and the run, with one act more. Whatever changes a run is this.
unfoldable pub tallied : Tally → Result Told Code → Tally
tallied t told = record {
  entries = t.entries + 1;
  answers = record { a = t.answers.a + answers_told A told; b = t.answers.b + answers_told B told };
  applied = t.applied + applied_told told;
  longest = max t.longest (steps_told told);
}

abbrev pub with_acted : Ran → Stepped → Ran
with_acted r x = record { group = x.group; tally = tallied r.tally x.told }

module _ (table : List ℕ) (states operations : ℕ) where
  -- One act on a group, by the group's own step and restarts. Where there is none, nothing is done.
  unfoldable pub acted_of : Group → Option Act → Stepped
  acted_of g (Some (Step k)) = step_of table states operations g k
  acted_of g (Some (Restart k)) = after_restart (restart_of g k).group
  acted_of g (Some RestartAll) = after_restart (restart_all_of g).group
  acted_of g None = after_restart g

  -- "A run [...] takes each entry in order": r is the run so far.
  unfoldable pub played_of : Ran → List ℕ → Ran
  played_of r [] = r
  played_of r (e ∷ es) = played_of (with_acted r (acted_of r.group (act_of e))) es

  -- "[It] writes one byte an entry": the marks of a schedule from a group on.
  unfoldable pub marks_of : Group → List ℕ → List ℕ
  marks_of g [] = []
  marks_of g (e ∷ es) = mark_of (acted_of g (act_of e)).told ∷ marks_of (acted_of g (act_of e)).group es
