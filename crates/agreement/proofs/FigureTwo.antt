-- The machine of looms is the machine of Figure 2: along any acts, each step is that machine's step and each restart its crash, place for
-- line, register for register, answer for return.
-- Assumes nothing.
use Rattle.std.specs.Prelude.{ℕ, ◌≡◌, List}
use Rattle.std.proofs.Common.{ap, sym, ◌∙◌}
use Rattle.recording.specs.declared.Seat.{Seat}
use Rattle.sides.specs.declared.Side.{Side}
use Rattle.loom.specs.Turn.{Rules}
use Rattle.agreement.specs.Machine.{NotZero, Act, EachStep, after, opening}
use Rattle.agreement.specs.Figure.{Value, Access, Objects, access, ran, initial}
use Rattle.agreement.specs.Matched.{setting_of, place_at, Matched}
use Rattle.agreement.proofs.JoinedLaws.{joined_after, joined_opening, line_at, line_at_its_place}
use Rattle.agreement.proofs.MatchedLaws.{team_of_access}

module _ (next : ℕ → ℕ → ℕ) (looms : List Seat) (R : Rules) where
  -- Whatever the acts, the looms and Figure 2's processes stay in the same state.
  pub figure_two : (acts : List Act) → EachStep (λ k v. NotZero v) acts →
      Matched R.leading (setting_of next looms R)
      (after next looms R acts (opening R.start))
      (ran (setting_of next looms R) acts (initial (setting_of next looms R)))
  figure_two acts not_zero =
      let joined = joined_after next looms R acts (opening R.start) (initial (setting_of next looms R)) not_zero (joined_opening next looms R) in
      record {
        cell = joined.same.cell;
        leading = joined.same.leading;
        yielding = joined.same.yielding;
        place = joined.place;
        answers = joined.answers;
      }

-- Line for place: two lines of one team that are one place (20 and 26, which both return R_A) do the same.
pub one_place_one_line : (L : Side) (a b : Access) → team_of_access a ≡ team_of_access b → place_at L a ≡ place_at L b →
    (op : ℕ → ℕ) (v : ℕ) (q : Value) (M : Objects) → access op v a q M ≡ access op v b q M
one_place_one_line L a b team place op v q M =
    line_at_its_place L a op v q M ∙ ap (λ c. access op v c q M) (ap (λ X. line_at L X (place_at L a)) team ∙ ap (line_at L (team_of_access b)) place) ∙
    sym (line_at_its_place L b op v q M)
