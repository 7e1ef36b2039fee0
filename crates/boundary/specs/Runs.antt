-- A run's answer as numbers, for C.
-- Assumes nothing.
use Rattle.std.specs.Prelude.{ℕ, ◌≡◌, Result, List, set}
use Rattle.codes.specs.declared.Code.{Code}
use Rattle.schedule.specs.declared.Ran.{Ran}
use Rattle.schedule.specs.declared.Tally.{Tally}
use Rattle.schedule.specs.Run.{shown}
use Rattle.boundary.specs.Numbers.{code_number}
use Rattle.boundary.specs.Groups.{with_group}

-- The numbers with a run's written: code, entries, answers for A and for B, operations applied, the longest run.
abbrev pub with_ran : List ℕ → ℕ → Tally → List ℕ
with_ran ns code t = set (set (set (set (set (set ns 0 code) 1 t.entries) 2 t.answers.a) 3 t.answers.b) 4 t.applied) 5 t.longest

-- What a run leaves: the marks and the area, and in C's numbers the final group and the counts.
pub record Runs (answer : Result Ran Code) (marked words group out : List ℕ) (marks' area' group' out' : List ℕ) : Type 0 where
  pub its_marks : marks' ≡ marked
  pub its_area : area' ≡ words
  pub its_group : group' ≡ with_group group (shown answer).group
  pub its_counts : out' ≡ with_ran out (code_number answer) (shown answer).tally
