-- Each turn of a loom is the step of Figure 2 at the line of its place.
-- Assumes nothing.
use Rattle.std.specs.Prelude.{ℕ, zero, suc, ◌≡◌, Bool, true, false, ◌&&◌, List, ◌∷◌, eqb}
use Rattle.std.proofs.Math.Path.{refl, ap, sym}
use Rattle.std.proofs.Common.{◌∙◌}
use Rattle.std.proofs.Math.Bool.{cond, and-true}
use Rattle.std.proofs.Math.Option.{none, some}
use Rattle.recording.specs.declared.Seat.{Seat}
use Rattle.sides.specs.declared.Side.{Side}
use Rattle.sides.specs.declared.Side.TheVariants.{A, B}
use Rattle.loom.specs.declared.Place.TheVariants.{Looking, Ready, Bound}
use Rattle.loom.specs.declared.Shared.{Shared}
use Rattle.sides.specs.Sides.{other, same_side}
use Rattle.loom.specs.Sides.{register, with_cell}
use Rattle.loom.specs.Turn.{Rules, Turn, turn_of, decided, looks, after_posted, after_looking}
use Rattle.sides.specs.SidesLaws.{other_other, same_as_itself}
use Rattle.loom.specs.SidesLaws.{cell_kept, register_written, register_kept, register_untouched}
use Rattle.agreement.specs.Machine.{NotZero, Event, with_post, with_said}
use Rattle.agreement.specs.Figure.{Team, team_a, team_b, Value, Line, line5, line6, line7, line9, line11, line16, line17, line18, line20, line22, line23, line26, Access, at5, at6, at8, at9, at11, at12, at16, at17, at19, at20, at22, at23, at26, at27, Process, running, returned, Objects, Return, Done, Setting, test, after_line19, access, with_return, ahead}
use Rattle.agreement.specs.Matched.{side_of_team, setting_of, number, place_at, place_of, Given, answers_of, returns_of}

-- Whose code a line is in.
abbrev pub team_of_line : Line → Team
team_of_line line5 = team_a
team_of_line line6 = team_a
team_of_line line7 = team_a
team_of_line line9 = team_a
team_of_line line11 = team_a
team_of_line line16 = team_b
team_of_line line17 = team_b
team_of_line line18 = team_b
team_of_line line20 = team_b
team_of_line line22 = team_b
team_of_line line23 = team_b
team_of_line line26 = team_b

abbrev pub team_of_access : Access → Team
team_of_access at5 = team_a
team_of_access at6 = team_a
team_of_access at8 = team_a
team_of_access at9 = team_a
team_of_access at11 = team_a
team_of_access at12 = team_a
team_of_access at16 = team_b
team_of_access at17 = team_b
team_of_access at19 = team_b
team_of_access at20 = team_b
team_of_access at22 = team_b
team_of_access at23 = team_b
team_of_access at26 = team_b
team_of_access at27 = team_b

-- A process runs its own team's code.
abbrev pub InCode : Team → Process → Type 0
InCode X (running l q) = team_of_line l ≡ X
InCode X (returned Y r) = Unit {0}

-- What a register holds is no 0.
abbrev pub Proper : Value → Type 0
Proper none = Unit {0}
Proper (some v) = NotZero v

-- Of two lines of one team, either is of that team.
pub team_of_cond : (b : Bool) (X : Team) (x y : Access) → team_of_access x ≡ X → team_of_access y ≡ X → team_of_access (cond b x y) ≡ X
team_of_cond true X x y hx hy = hx
team_of_cond false X x y hx hy = hy

-- The place of one of two lines.
pub place_of_cond : (L : Side) (b : Bool) (x y : Access) → place_at L (cond b x y) ≡ cond b (place_at L x) (place_at L y)
place_of_cond L true x y = refl
place_of_cond L false x y = refl

-- Local computation stays in the code.
pub ahead_in_code : (G : Setting) (l : Line) (q : Value) → team_of_access (ahead G l q) ≡ team_of_line l
unfolding ahead
ahead_in_code G line5 q = refl
ahead_in_code G line6 q = refl
ahead_in_code G line7 q =
    team_of_cond (test (λ s. eqb s G.q0) q) team_a at8 (cond (test G.in_qa q) at11 at12) refl (team_of_cond (test G.in_qa q) team_a at11 at12 refl refl)
ahead_in_code G line9 q = refl
ahead_in_code G line11 q = team_of_cond (test G.in_qa q) team_a at11 at12 refl refl
ahead_in_code G line16 q = refl
ahead_in_code G line17 q = refl
ahead_in_code G line18 q =
    team_of_cond
    (test (λ s. eqb s G.q0) q)
    team_b
    (cond G.lone_b at19 at22)
    (cond (test G.in_qa q) at26 at27)
    (team_of_cond G.lone_b team_b at19 at22 refl refl)
    (team_of_cond (test G.in_qa q) team_b at26 at27 refl refl)
ahead_in_code G line20 q = refl
ahead_in_code G line22 q = refl
ahead_in_code G line23 q = refl
ahead_in_code G line26 q = team_of_cond (test G.in_qa q) team_b at26 at27 refl refl

-- The memory of the looms and the objects of the figure.
pub record Same (L : Side) (m : Shared) (M : Objects) : Type 0 where
  pub cell : m.cell ≡ M.O
  pub leading : register m L ≡ number M.RA
  pub yielding : register m (other L) ≡ number M.RB
  pub proper : Proper M.RA

-- What turn t of loom k and an atomic operation leave is the same.
pub record Equal (L : Side) (G : Setting) (X : Team) (t : Turn) (d : Done) : Type 0 where
  pub same : Same L t.shared d.objects
  pub place : t.place ≡ place_of L G d.process
  pub code : InCode X d.process

-- The leading side never looks; the yielding side looks where it has one loom.
pub leading_looks : (R : Rules) → looks R R.leading ≡ false
leading_looks R = by_side R.leading R.yields_alone
  where
    by_side : (L : Side) (b : Bool) → b && same_side L (other L) ≡ false
    by_side A true = refl
    by_side A false = refl
    by_side B true = refl
    by_side B false = refl

pub yielding_looks : (R : Rules) → looks R (other R.leading) ≡ R.yields_alone
yielding_looks R = rw (same_as_itself (other R.leading)) (and-true R.yields_alone)

-- An application changes the cell and the object alike, and no register.
pub same_applied : {L : Side} (op : ℕ → ℕ) (m : Shared) (M : Objects) → Same L m M →
    Same L (with_cell m (op m.cell)) (record { O = op M.O; RA = M.RA; RB = M.RB })
same_applied {L} op m M same =
    record {
      cell = ap op same.cell;
      leading = register_untouched m (op m.cell) L ∙ same.leading;
      yielding = register_untouched m (op m.cell) (other L) ∙ same.yielding;
      proper = same.proper;
    }

-- From line 19 a process of team B goes on in its code, and returns nothing.
pub code_after_line_nineteen : (r q : Value) → InCode team_b (after_line19 r q)
unfolding after_line19
code_after_line_nineteen none q = refl
code_after_line_nineteen (some v) q = refl

pub no_return_at_line_nineteen : (k : ℕ) (r q : Value) (returns : List Return) → returns_of (with_return k (after_line19 r q) returns) ≡ returns_of returns
unfolding after_line19 with_return
no_return_at_line_nineteen k none q returns = refl
no_return_at_line_nineteen k (some v) q returns = refl

-- One more answer, with the number that was returned.
pub one_more_given : (k : ℕ) {v w : ℕ} {before after : List Given} → v ≡ w → before ≡ after →
    ◌≡◌ {A = List Given} (record { loom = k; number = v } ∷ before) (record { loom = k; number = w } ∷ after)
one_more_given k same old = cc

module _ (next : ℕ → ℕ → ℕ) (looms : List Seat) (R : Rules) where
  -- The side decided by the cell is that of the register which is returned.
  pub decided_is_line : (q : ℕ) (x y : Access) → place_at R.leading x ≡ Bound R.leading → place_at R.leading y ≡ Bound (other R.leading) →
      Bound (decided R q) ≡ place_at R.leading (cond (R.in_leading q) x y)
  decided_is_line q x y hx hy = by_test (R.in_leading q)
    where
      by_test : (b : Bool) → Bound (cond b R.leading (other R.leading)) ≡ place_at R.leading (cond b x y)
      by_test true = sym hx
      by_test false = sym hy

  -- From line 7 and from line 18, by the state that was read.
  pub place_after_line_six : (q : ℕ) → after_posted R R.leading q ≡ place_at R.leading (ahead (setting_of next looms R) line7 (some q))
  unfolding after_posted ahead
  place_after_line_six q =
      rw
      (leading_looks R, place_of_cond R.leading (eqb q R.start) at8 (cond (R.in_leading q) at11 at12))
      (ap (λ p. cond (eqb q R.start) Ready p) (decided_is_line q at11 at12 refl refl))

  pub place_after_line_seventeen : (q : ℕ) → after_posted R (other R.leading) q ≡ place_at R.leading (ahead (setting_of next looms R) line18 (some q))
  unfolding after_posted ahead
  place_after_line_seventeen q =
      rw (
        yielding_looks R,
        place_of_cond R.leading (eqb q R.start) (cond R.yields_alone at19 at22) (cond (R.in_leading q) at26 at27),
        place_of_cond R.leading R.yields_alone at19 at22,
      )
      (ap (λ p. cond (eqb q R.start) (cond R.yields_alone Looking Ready) p) (decided_is_line q at26 at27 refl refl))

  -- Line 19: a register that holds 0 was never written.
  pub place_after_line_nineteen : (m : Shared) (r q : Value) → Proper r → register m R.leading ≡ number r →
      after_looking (other R.leading) (register m (other (other R.leading))) ≡ place_of R.leading (setting_of next looms R) (after_line19 r q)
  unfolding after_looking after_line19 ahead
  place_after_line_nineteen m none q proper holds = rw (other_other R.leading, holds)
  place_after_line_nineteen m (some zero) q proper holds = absurd (proper refl)
  place_after_line_nineteen m (some (suc v)) q proper holds = rw (other_other R.leading, holds) (ap Bound (other_other R.leading))

  -- Memory that is not written stays the same.
  pub turn_is_access : (a : Access) (v : ℕ) (op : ℕ → ℕ) (m : Shared) (q : Value) (M : Objects) → NotZero v → Same R.leading m M →
      Equal
      R.leading
      (setting_of next looms R)
      (team_of_access a)
      (turn_of R (side_of_team R.leading (team_of_access a)) v op m (place_at R.leading a))
      (access op v a q M)
  unfolding turn_of access ahead
  turn_is_access at5 v op m q M some' same =
      record {
        same =
            record {
              cell = cell_kept m R.leading v ∙ same.cell;
              leading = register_written m R.leading v;
              yielding = register_kept m R.leading v ∙ same.yielding;
              proper = some';
            };
        place = refl;
        code = refl;
      }
  turn_is_access at6 v op m q M some' same =
      record { same = same; place = ap (after_posted R R.leading) same.cell ∙ place_after_line_six M.O; code = refl }
  turn_is_access at8 v op m q M some' same = record { same = same_applied op m M same; place = refl; code = refl }
  turn_is_access at9 v op m q M some' same =
      record { same = same; place = ap (λ s. Bound (decided R s)) same.cell ∙ decided_is_line M.O at11 at12 refl refl; code = refl }
  turn_is_access at11 v op m q M some' same = record { same = same; place = refl; code = tt }
  turn_is_access at12 v op m q M some' same = record { same = same; place = refl; code = tt }
  turn_is_access at16 v op m q M some' same =
      record {
        same =
            record {
              cell = cell_kept m (other R.leading) v ∙ same.cell;
              leading = (rw (other_other R.leading) at (register_kept m (other R.leading) v)) ∙ same.leading;
              yielding = register_written m (other R.leading) v;
              proper = same.proper;
            };
        place = refl;
        code = refl;
      }
  turn_is_access at17 v op m q M some' same =
      record { same = same; place = ap (after_posted R (other R.leading)) same.cell ∙ place_after_line_seventeen M.O; code = refl }
  turn_is_access at19 v op m q M some' same =
      record { same = same; place = place_after_line_nineteen m M.RA q same.proper same.leading; code = code_after_line_nineteen M.RA q }
  turn_is_access at20 v op m q M some' same = record { same = same; place = refl; code = tt }
  turn_is_access at22 v op m q M some' same = record { same = same_applied op m M same; place = refl; code = refl }
  turn_is_access at23 v op m q M some' same =
      record { same = same; place = ap (λ s. Bound (decided R s)) same.cell ∙ decided_is_line M.O at26 at27 refl refl; code = refl }
  turn_is_access at26 v op m q M some' same = record { same = same; place = refl; code = tt }
  turn_is_access at27 v op m q M some' same = record { same = same; place = refl; code = tt }

  -- Answer for return.
  pub answer_is_return : (a : Access) (k : ℕ) (s : Side) (v : ℕ) (op : ℕ → ℕ) (m : Shared) (q : Value) (M : Objects) (log : List Event) (returns : List Return) →
      Same R.leading m M → answers_of log ≡ returns_of returns →
      answers_of (with_said k s (turn_of R s v op m (place_at R.leading a)).said (with_post k s v (place_at R.leading a) log)) ≡
      returns_of (with_return k (access op v a q M).process returns)
  unfolding turn_of access with_said with_post with_return answers_of returns_of
  answer_is_return at5 k s v op m q M log returns same old = old
  answer_is_return at6 k s v op m q M log returns same old = old
  answer_is_return at8 k s v op m q M log returns same old = old
  answer_is_return at9 k s v op m q M log returns same old = old
  answer_is_return at11 k s v op m q M log returns same old = one_more_given k same.leading old
  answer_is_return at12 k s v op m q M log returns same old = one_more_given k same.yielding old
  answer_is_return at16 k s v op m q M log returns same old = old
  answer_is_return at17 k s v op m q M log returns same old = old
  answer_is_return at19 k s v op m q M log returns same old = old ∙ sym (no_return_at_line_nineteen k M.RA q returns)
  answer_is_return at20 k s v op m q M log returns same old = one_more_given k same.leading old
  answer_is_return at22 k s v op m q M log returns same old = old
  answer_is_return at23 k s v op m q M log returns same old = old
  answer_is_return at26 k s v op m q M log returns same old = one_more_given k same.leading old
  answer_is_return at27 k s v op m q M log returns same old = one_more_given k same.yielding old
