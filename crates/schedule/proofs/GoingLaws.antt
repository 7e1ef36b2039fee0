-- A run under way, entry by entry.
-- Assumes nothing.
use Rattle.std.specs.Prelude.{ℕ, ◌+◌, ◌<◌, ◌≡◌, List, ◌++◌, Result, length, get_or, set, take, drop}
use Rattle.std.proofs.Common.{arith, sym, subst, ◌∙◌}
use Rattle.codes.specs.declared.Code.{Code}
use Rattle.loom.specs.declared.Lead.{Lead}
use Rattle.group.specs.declared.Group.{Group}
use Rattle.group.specs.Group.{lead_of}
use Rattle.demands.specs.Kept.{Kept}
use Rattle.group.specs.declared.Told.{Told}
use Rattle.group.specs.declared.Stepped.{Stepped}
use Rattle.schedule.specs.declared.Tally.{Tally}
use Rattle.schedule.specs.Acts.{act_of}
use Rattle.schedule.specs.Played.{mark_of, tallied, begun, acted_of, played_of, marks_of}
use Rattle.schedule.specs.PlayedLaws.{Within, within_next, Turned, played_next, marks_next, bytes_after, played_past, marks_all}
use Rattle.schedule.specs.InPlace.{acted_by, Fitting, ran_by}
use Rattle.schedule.proofs.InPlaceLaws.{lead_kept, kept_by_acted, fitting_after}

module _ (table : List ℕ) (states operations : ℕ) (opening : Group) (lead : Lead) (schedule first : List ℕ) where
  -- After i entries the run has come to the group g and the tally t, and has written `marks` over the bytes that there were at first: what
  -- is left to do from here on is what there was to do, the marks written and those to come are all marks, and no later byte has changed;
  -- what the looms go by is as it was at first, and the group fits its table.
  pub record Going (i : ℕ) (g : Group) (t : Tally) (marks : List ℕ) : Type 0 where
    pub counts : Within i t
    pub leads : lead ≡ lead_of g
    pub fitting : Fitting table states operations g
    pub left : played_of table states operations (ran_by t g) (drop i schedule) ≡ played_of table states operations (begun opening) schedule
    pub written : take i marks ++ marks_of table states operations g (drop i schedule) ≡ marks_of table states operations opening schedule
    pub later : drop i marks ≡ drop i first

  -- One entry more, whose act told `told` and left the group h.
  pub going_next : (i : ℕ) (g h : Group) (t : Tally) (told : Result Told Code) (marks : List ℕ) → Going i g t marks → i < length schedule → i < length marks →
      acted_by told h ≡ acted_of table states operations g (act_of (get_or schedule i 0)) →
      Going (i + 1) h (tallied t told) (set marks i (mark_of told))
  going_next i g h t told marks going here room did =
      let turn : Turned table states operations schedule i g (acted_by told h) = record { here = here; did = did } in
      let kept = subst (λ (x : Stepped). Kept g x.group) (sym did) (kept_by_acted table states operations g (act_of (get_or schedule i 0))) in
      record {
        counts = within_next i t told going.counts;
        leads = going.leads ∙ sym (lead_kept g h kept);
        fitting = subst (λ (x : Stepped). Fitting table states operations x.group) (sym did) (fitting_after table states operations g going.fitting (act_of (get_or schedule i 0)));
        left = played_next table states operations turn t ∙ going.left;
        written = marks_next table states operations turn marks room ∙ going.written;
        later = bytes_after marks first i (mark_of told) going.later;
      }

  pub going_last : (i : ℕ) (g : Group) (t : Tally) (marks : List ℕ) → Going i g t marks → i ≡ length schedule →
      (ran_by t g ≡ played_of table states operations (begun opening) schedule)
      × (marks ≡ marks_of table states operations opening schedule ++ drop (length schedule) first)
  going_last i g t marks going end = (
    sym (played_past table states operations (ran_by t g) schedule i (omega arith)) ∙ going.left,
    marks_all table states operations g schedule marks first _ i end going.written going.later,
  )
