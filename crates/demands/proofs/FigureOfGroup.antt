-- Demand 2's second half, of a group's own functions: each step is the step of source document 003's Figure 2, and each restart its crash.
-- Assumes nothing.
use Rattle.std.specs.Prelude.{ℕ, ◌≡◌, List, [], ◌∷◌, ◌++◌, Ok}
use Rattle.cell.specs.Table.{entry_of}
use Rattle.recording.specs.declared.Certificate.{Certificate}
use Rattle.recording.specs.Check.{looms_of}
use Rattle.sides.specs.Sides.{of_side}
use Rattle.sides.specs.declared.Pair.{Pair}
use Rattle.agreement.specs.Figure.{System, Setting, moved, ran, initial}
use Rattle.agreement.specs.Fitted.{Renders}
use Rattle.group.specs.declared.Group.{Group}
use Rattle.group.specs.Group.{group_rules}
use Rattle.group.specs.Open.{open_of}
use Rattle.demands.specs.Acts.{Act, untouched, acted_on, history_after}
use Rattle.demands.proofs.ActsLaws.{history_one_more, numbered_one_more, ran_one_more}
use Rattle.demands.specs.Processes.{setting_in, numbered, all_numbered, SameState}
use Rattle.demands.proofs.NewlyOpenedLaws.{rules_render, same_state_always}
use Rattle.demands.proofs.OpenedLaws.{newly_opened}

module _ (table : List ℕ) (states operations : ℕ) (c : Certificate) (numbers : Pair ℕ) (room : ℕ)
    -- the group that opened
    (opening : Group) (opens : open_of table states operations c numbers room ≡ Ok opening) where
  -- What Figure 2's algorithm is given by it.
  abbrev setting : Setting
  setting = setting_in table states (looms_of c) opening

  -- The setting is the certificate's: its start; the set of the leading side, whose set the paper calls Q_A; whether the yielding side has
  -- one loom; and the start is not in the yielding side's set.
  pub setting_renders : Renders (entry_of table states) (looms_of c) c.start (group_rules opening)
  setting_renders = rules_render (newly_opened table states operations c numbers room opening opens)

  -- Figure 2's system after these acts: a step of a loom is a step of its process, with its side's number for v, and a restart is a crash.
  abbrev system : List Act → System
  system acts = ran setting (all_numbered (of_side numbers) (looms_of c) acts) (initial setting)

  -- After any acts the group and Figure 2's system are in the same state: place for line, register for register, answer for return.
  pub figure_of_group : (acts : List Act) →
      SameState (looms_of c) (group_rules opening) setting (history_after table states operations acts (untouched opening)) (system acts)
  figure_of_group = same_state_always (newly_opened table states operations c numbers room opening opens)

  -- And so after one act more, of ours and of Figure 2's: each step of a loom is its process's step, and each restart its crash.
  pub each_act : (acts : List Act) (a : Act) →
      SameState (looms_of c) (group_rules opening) setting
      (acted_on table states operations a (history_after table states operations acts (untouched opening)))
      (moved setting (numbered (of_side numbers) (looms_of c) a) (system acts))
  each_act acts a =
      rw (
        history_one_more table states operations acts a (untouched opening),
        numbered_one_more (of_side numbers) (looms_of c) acts a,
        ran_one_more setting (all_numbered (of_side numbers) (looms_of c) acts) (numbered (of_side numbers) (looms_of c) a) (initial setting),
      )
      at
      (figure_of_group (acts ++ (a ∷ [])))
