-- A newly opened group is a picture of the machine at its opening, and stays one; so what is proved of the machine holds of it.
-- Assumes nothing.
use Rattle.std.specs.Prelude.{ℕ, ◌≤◌, ◌<◌, ◌≡◌, refl, List, [], ◌∷◌, length, Ok}
use Rattle.std.proofs.Common.{arith, ap, sym, subst, ◌∙◌}
use Rattle.cell.specs.Table.{entry_of}
use Rattle.recording.specs.declared.Certificate.{Certificate}
use Rattle.recording.specs.declared.Seat.{Seat}
use Rattle.recording.specs.Check.{looms_of}
use Rattle.sides.specs.declared.Side.{Side}
use Rattle.sides.specs.Sides.{other, of_side}
use Rattle.sides.specs.declared.Pair.{Pair}
use Rattle.loom.specs.Sides.{register}
use Rattle.agreement.specs.Machine.{NotZero, Act as MachineAct, EachStep, State, side_of, after, opening}
use Rattle.agreement.specs.Fitted.{Renders, Fitted}
use Rattle.agreement.specs.Agreed.{Agreed}
use Rattle.agreement.proofs.Agreement.{agreed}
use Rattle.agreement.proofs.MachineLaws.{each_step_weaker}
use Rattle.agreement.proofs.SixSteps as machine
use Rattle.agreement.specs.Figure.{ran, initial}
use Rattle.agreement.specs.Matched.{Matched, answers_of}
use Rattle.agreement.proofs.FigureTwo.{figure_two}
use Rattle.agreement.proofs.StepsLaws.{rank_at_most_six, spoken_after}
use Rattle.group.specs.declared.Group.{Group}
use Rattle.group.specs.declared.Told.{Told}
use Rattle.group.specs.Group.{loom_at, group_rules}
use Rattle.group.specs.Step.{step_of}
use Rattle.demands.specs.Acts.{Act, loom_steps, loom_restarts, all_restart, untouched, history_after, group_after, events_after}
use Rattle.demands.specs.Fits.{Fits}
use Rattle.demands.specs.Pictured.{Pictured}
use Rattle.demands.proofs.PicturedLaws.{rules_of_seats, Along, along_always}
use Rattle.demands.proofs.RendersLaws.{renders_of_sets}
use Rattle.demands.specs.NewlyOpened.{NewlyOpened}
use Rattle.demands.specs.Processes.{setting_in, numbered, all_numbered, SameState}
use Rattle.demands.specs.Steps.{steps_of, Unrestarted, HasAnswered}
use Rattle.demands.proofs.StepsLaws.{steps_numbered, unrestarted_numbered, AllWithin, within_always, result_at_most_six}

-- Each step among numbered acts brings its side's number.
pub each_numbered : (num : Side → ℕ) (looms : List Seat) (acts : List Act) → EachStep (λ k v. v ≡ num (side_of looms k)) (all_numbered num looms acts)
unfolding all_numbered numbered
each_numbered num looms [] = tt
each_numbered num looms (loom_steps k ∷ acts) = (refl, each_numbered num looms acts)
each_numbered num looms (loom_restarts k ∷ acts) = each_numbered num looms acts
each_numbered num looms (all_restart ∷ acts) = each_numbered num looms acts

module _ {table : List ℕ} {states operations : ℕ} {c : Certificate} {numbers : Pair ℕ} {g : Group}
    (new : NewlyOpened table states operations c numbers g) where
  -- The rules read off it render the certificate.
  pub rules_render : Renders (entry_of table states) (looms_of c) c.start (group_rules g)
  rules_render =
      rw (rules_of_seats (looms_of c) g new.good.sides new.seated, new.start)
      (renders_of_sets (entry_of table states) (looms_of c) c.start g.sets new.sets new.recording)

  -- So what the theorems of the machine ask is there.
  pub fitted : Fitted (entry_of table states) (looms_of c) c.start (group_rules g)
  fitted = record { recording = new.recording; sides = new.good.sides; renders = rules_render }

  -- Group and table fit.
  pub fits_at_opening : Fits states (looms_of c) g
  fits_at_opening = record { seated = new.seated; cell = rw new.shared new.start_fits }

  -- Whatever the acts, the group is a picture of the machine after them.
  pub along : (acts : List Act) →
      Along table states operations (looms_of c) new.good (group_rules g) (of_side numbers)
      (history_after table states operations acts (untouched g))
      (after (entry_of table states) (looms_of c) (group_rules g) (all_numbered (of_side numbers) (looms_of c) acts) (opening c.start))
  along acts =
      along_always table states operations (looms_of c) new.good (group_rules g) (of_side numbers) acts (untouched g) (opening c.start)
      record {
        fits = fits_at_opening;
        rules = refl;
        numbers = ap of_side new.numbered;
        pictured = record { shared = new.shared; place = new.begins; log = refl };
      }

  -- Demand 3: whatever the acts, the log agrees.
  pub agreed_always : (acts : List Act) → Agreed (of_side numbers) (events_after table states operations acts g)
  agreed_always acts =
      rw (along acts).pictured.log
      (agreed fitted (of_side numbers) new.not_zero (all_numbered (of_side numbers) (looms_of c) acts) (each_numbered (of_side numbers) (looms_of c) acts))

  counts_within : (acts : List Act) → AllWithin (length (looms_of c)) (group_after table states operations acts g)
  counts_within acts =
      within_always table states operations (looms_of c) new.good acts (untouched g) fits_at_opening
      (λ k here. omega (arith, new.uncounted k here))

  -- Six steps from wherever the group has come to: the loom has answered, and its answer is in the log.
  pub answered_by_six : (before acts : List Act) (k : ℕ) → k < length (looms_of c) → Unrestarted k acts → 6 ≤ steps_of k acts →
      HasAnswered k (history_after table states operations acts (history_after table states operations before (untouched g)))
  answered_by_six before acts k here free six =
      let done = machine.six_steps next (looms_of c) (group_rules g) (machine_acts acts) came k here (unrestarted_numbered (of_side numbers) (looms_of c) k acts free)
      (rw (steps_numbered (of_side numbers) (looms_of c) k acts) six) in
      let spoken = spoken_after next (looms_of c) (group_rules g) (machine_acts acts) came
      (spoken_after next (looms_of c) (group_rules g) (machine_acts before) (opening c.start) (λ j. tt)) k in
      let said = rw done.1 at spoken in
      record {
        side = done.0;
        number = said.0;
        there = onward.pictured.place k here ∙ done.1;
        told = rw onward.pictured.log said.1;
      }
    where
      next : ℕ → ℕ → ℕ
      next = entry_of table states

      machine_acts : List Act → List MachineAct
      machine_acts = all_numbered (of_side numbers) (looms_of c)

      came : State
      came = after next (looms_of c) (group_rules g) (machine_acts before) (opening c.start)

      onward : Along table states operations (looms_of c) new.good (group_rules g) (of_side numbers)
          (history_after table states operations acts (history_after table states operations before (untouched g)))
          (after next (looms_of c) (group_rules g) (machine_acts acts) came)
      onward = along_always table states operations (looms_of c) new.good (group_rules g) (of_side numbers) acts _ _ (along before)

  -- No loom counts more than six steps.
  pub counts_at_most_six : (acts : List Act) (k : ℕ) → k < length (looms_of c) → (loom_at (group_after table states operations acts g) k).steps ≤ 6
  counts_at_most_six acts k here =
      omega (
        arith,
        rank_at_most_six (loom_at (group_after table states operations acts g) k).place,
        counts_within acts k here,
      )

  -- Nor does a step's result.
  pub results_at_most_six : (acts : List Act) (k : ℕ) (t : Told) → (step_of table states operations (group_after table states operations acts g) k).told ≡ Ok t → t.steps ≤ 6
  results_at_most_six acts k =
      result_at_most_six table states operations (looms_of c) new.good (group_after table states operations acts g) (along acts).fits (counts_within acts) k

  -- Whatever the acts, the looms and Figure 2's processes stay in the same state.
  pub same_state_always : (acts : List Act) →
      SameState (looms_of c) (group_rules g) (setting_in table states (looms_of c) g)
      (history_after table states operations acts (untouched g))
      (ran (setting_in table states (looms_of c) g) (all_numbered (of_side numbers) (looms_of c) acts) (initial (setting_in table states (looms_of c) g)))
  same_state_always acts =
      record {
        cell = ap (λ m. m.cell) pictured.shared ∙ matched.cell;
        leading = ap (λ m. register m (group_rules g).leading) pictured.shared ∙ matched.leading;
        yielding = ap (λ m. register m (other (group_rules g).leading)) pictured.shared ∙ matched.yielding;
        place = λ k here. pictured.place k here ∙ matched.place k;
        answers = ap answers_of pictured.log ∙ matched.answers;
      }
    where
      machine_acts : List MachineAct
      machine_acts = all_numbered (of_side numbers) (looms_of c) acts

      not_zero_acts : EachStep (λ k v. NotZero v) machine_acts
      not_zero_acts =
          each_step_weaker (λ k v. v ≡ of_side numbers (side_of (looms_of c) k)) (λ k v. NotZero v)
          (λ k v e none. new.not_zero (side_of (looms_of c) k) (sym e ∙ none)) machine_acts (each_numbered (of_side numbers) (looms_of c) acts)

      matched : Matched (group_rules g).leading (setting_in table states (looms_of c) g)
          (after (entry_of table states) (looms_of c) (group_rules g) machine_acts (opening c.start))
          (ran (setting_in table states (looms_of c) g) machine_acts (initial (setting_in table states (looms_of c) g)))
      matched =
          subst
          (λ q. Matched (group_rules g).leading (setting_in table states (looms_of c) g)
          (after (entry_of table states) (looms_of c) (group_rules g) machine_acts (opening q))
          (ran (setting_in table states (looms_of c) g) machine_acts (initial (setting_in table states (looms_of c) g))))
          rules_render.the_start
          (figure_two (entry_of table states) (looms_of c) (group_rules g) machine_acts not_zero_acts)

      pictured : Pictured (looms_of c) (history_after table states operations acts (untouched g))
          (after (entry_of table states) (looms_of c) (group_rules g) machine_acts (opening c.start))
      pictured = (along acts).pictured
