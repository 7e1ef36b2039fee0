-- Laws of a run as a fold.
-- Assumes nothing.
use Rattle.std.specs.Prelude.{ℕ, ◌+◌, ◌≤◌, ◌<◌, ◌≡◌, refl, List, [], ◌∷◌, ◌++◌, Result, Ok, Err, length, get_or, set, drop}
use Rattle.std.proofs.Common.{arith, add-one, ◌∙◌, append-nil, take-append-drop, drop_of_length-le, drop-drop, take-suc-set, drop-set-lt}
use Rattle.std.proofs.Math.Path.{sym, ap}
use Rattle.std.proofs.Math.ListN.{take}
use Rattle.std.proofs.Math.Seq.{drop-cons, append_snoc}
use Rattle.group.specs.declared.Group.{Group}
use Rattle.codes.specs.declared.Code.{Code}
use Rattle.sides.specs.declared.Side.{Side}
use Rattle.sides.specs.declared.Side.TheVariants.{A, B}
use Rattle.sides.specs.Sides.{same_side}
use Rattle.recording.specs.OrdersLaws.{one_at_most}
use Rattle.loom.specs.declared.Said.{Said}
use Rattle.loom.specs.declared.Said.TheVariants.{Nothing, Application, Answer}
use Rattle.loom.specs.Numbers.{said_applied}
use Rattle.group.specs.declared.Told.{Told}
use Rattle.group.specs.declared.Stepped.{Stepped}
use Rattle.schedule.specs.declared.Tally.{Tally}
use Rattle.schedule.specs.declared.Ran.{Ran}
use Rattle.schedule.specs.Acts.{act_of}
use Rattle.schedule.specs.Played.{answers_said, answers_told, applied_told, mark_of, no_tally, tallied, with_acted, acted_of, played_of, marks_of}

-- What an act adds to a count is at most one.
pub answers_at_most_one : (s : Side) (told : Result Told Code) → answers_told s told ≤ 1
answers_at_most_one s (Ok told) = by_said told.said
  where
    by_said : (said : Said) → answers_said s said ≤ 1
    by_said Nothing = omega arith
    by_said Application = omega arith
    by_said (Answer t v) = one_at_most (same_side t s)
answers_at_most_one s (Err code) = omega arith

pub applied_at_most_one : (told : Result Told Code) → applied_told told ≤ 1
applied_at_most_one (Ok told) = by_said told.said
  where
    by_said : (said : Said) → said_applied said ≤ 1
    by_said Nothing = omega arith
    by_said Application = omega arith
    by_said (Answer t v) = omega arith
applied_at_most_one (Err code) = omega arith

-- The counts after i entries: i entries, and no more answers or applications.
pub record Within (i : ℕ) (t : Tally) : Type 0 where
  pub taken : t.entries ≡ i
  pub for_a : t.answers.a ≤ i
  pub for_b : t.answers.b ≤ i
  pub applications : t.applied ≤ i

pub within_none : Within 0 no_tally
within_none = record { taken = refl; for_a = omega arith; for_b = omega arith; applications = omega arith }

pub within_next : (i : ℕ) (t : Tally) (told : Result Told Code) → Within i t → Within (i + 1) (tallied t told)
unfolding tallied
within_next i t told w = record {
  taken = omega arith;
  for_a = omega (arith, answers_at_most_one A told);
  for_b = omega (arith, answers_at_most_one B told);
  applications = omega (arith, applied_at_most_one told);
}

-- A mark written at i joins those before it, and leaves the bytes after it.
pub mark_written : (marks later : List ℕ) (i m : ℕ) → i < length marks → take (i + 1) (set marks i m) ++ later ≡ take i marks ++ (m ∷ later)
mark_written marks later i m here = rw (add-one, take-suc-set marks i m here, append_snoc)

pub bytes_after : (marks first : List ℕ) (i m : ℕ) → drop i marks ≡ drop i first → drop (i + 1) (set marks i m) ≡ drop (i + 1) first
bytes_after marks first i m same =
    drop-set-lt (i + 1) marks i m (omega arith) ∙ (sym (drop-drop 1 i marks) ∙ (ap (drop 1) same ∙ drop-drop 1 i first))

-- A turn of the loop at entry i: the act of that entry came to x on the group g.
pub record Turned (table : List ℕ) (states operations : ℕ) (schedule : List ℕ) (i : ℕ) (g : Group) (x : Stepped) : Type 0 where
  pub here : i < length schedule
  pub did : x ≡ acted_of table states operations g (act_of (get_or schedule i 0))

module _ (table : List ℕ) (states operations : ℕ) where
  -- The run from entry i on is entry i, and the run from the next on; and so its marks.
  pub played_from : (r : Ran) (schedule : List ℕ) (i : ℕ) → i < length schedule →
      played_of table states operations r (drop i schedule)
      ≡ played_of table states operations (with_acted r (acted_of table states operations r.group (act_of (get_or schedule i 0)))) (drop (i + 1) schedule)
  unfolding played_of
  played_from r schedule i here = rw (add-one i, drop-cons schedule i 0 here)

  pub marks_from : (g : Group) (schedule : List ℕ) (i : ℕ) → i < length schedule →
      marks_of table states operations g (drop i schedule)
      ≡ mark_of (acted_of table states operations g (act_of (get_or schedule i 0))).told
      ∷ marks_of table states operations (acted_of table states operations g (act_of (get_or schedule i 0))).group (drop (i + 1) schedule)
  unfolding marks_of
  marks_from g schedule i here = rw (add-one i, drop-cons schedule i 0 here)

  -- From the end on nothing is done.
  pub played_past : (r : Ran) (schedule : List ℕ) (i : ℕ) → length schedule ≤ i → played_of table states operations r (drop i schedule) ≡ r
  unfolding played_of
  played_past r schedule i past = rw (drop_of_length-le schedule past)

  pub marks_past : (g : Group) (schedule : List ℕ) (i : ℕ) → length schedule ≤ i → marks_of table states operations g (drop i schedule) ≡ []
  unfolding marks_of
  marks_past g schedule i past = rw (drop_of_length-le schedule past)

  -- One turn of the loop leaves the rest to do.
  module _ {schedule : List ℕ} {i : ℕ} {g : Group} {x : Stepped} (turn : Turned table states operations schedule i g x) where
    pub played_next : (t : Tally) →
        played_of table states operations (with_acted (record { group = g; tally = t }) x) (drop (i + 1) schedule)
        ≡ played_of table states operations (record { group = g; tally = t }) (drop i schedule)
    played_next t = rw turn.did (sym (played_from (record { group = g; tally = t }) schedule i turn.here))

    pub marks_next : (marks : List ℕ) → i < length marks →
        take (i + 1) (set marks i (mark_of x.told)) ++ marks_of table states operations x.group (drop (i + 1) schedule)
        ≡ take i marks ++ marks_of table states operations g (drop i schedule)
    marks_next marks room =
        mark_written marks (marks_of table states operations x.group (drop (i + 1) schedule)) i (mark_of x.told) room
        ∙ ap (λ l. take i marks ++ l) (rw turn.did (sym (marks_from g schedule i turn.here)))

  -- At the end the marks written are all marks, and the later bytes are those that were there.
  pub marks_all : (g : Group) (schedule marks first all : List ℕ) (i : ℕ) →
      i ≡ length schedule →
      take i marks ++ marks_of table states operations g (drop i schedule) ≡ all →
      drop i marks ≡ drop i first →
      marks ≡ all ++ drop (length schedule) first
  marks_all g schedule marks first all i end written later =
      let whole : take i marks ≡ all =
      sym (append-nil (take i marks))
      ∙ (ap (λ l. take i marks ++ l) (sym (marks_past g schedule i (omega arith))) ∙ written) in
      sym (take-append-drop i marks)
      ∙ (ap (λ l. l ++ drop i marks) whole ∙ (ap (λ l. all ++ l) later ∙ ap (λ n. all ++ drop n first) end))
