-- The machine of looms and the machine of Figure 2, act by act.
-- Assumes nothing.
use Rattle.std.specs.Prelude.{ℕ, ◌≡◌, Bool, cond, ltb, length}
use Rattle.std.proofs.Math.Path.{refl, sym}
use Rattle.std.proofs.Common.{ap, ◌∙◌}
use Rattle.std.proofs.Math.Bool.{true, false}
use Rattle.std.proofs.Math.Option.{none}
use mathlib.Core.List.{List, [], ◌∷◌}
use Rattle.recording.specs.declared.Seat.{Seat}
use Rattle.recording.specs.Recording.{operation_at}
use Rattle.sides.specs.declared.Side.{Side}
use Rattle.sides.specs.declared.Side.TheVariants.{A, B}
use Rattle.loom.specs.declared.Place.{Place}
use Rattle.loom.specs.declared.Place.TheVariants.{Begin, Posted, Looking, Ready, Applied, Bound, Answered}
use Rattle.sides.specs.Sides.{other, same_side}
use Rattle.loom.specs.Sides.{register}
use Rattle.loom.specs.Turn.{Rules, turn_of}
use Rattle.sides.specs.SidesLaws.{same_as_itself}
use Rattle.agreement.specs.Machine.{NotZero, Act, step, restart, restart_all, EachStep, State, side_of, changed_at, with_post, with_said, turned, stepped_from, stepped, acted, after, opening}
use Rattle.agreement.proofs.MachineLaws.{changed_itself, changed_other}
use Rattle.agreement.proofs.LogLaws.{changed_all}
use Rattle.agreement.specs.Figure.{Team, team_a, team_b, Value, Access, at5, at6, at8, at9, at11, at12, at16, at17, at19, at20, at22, at23, at26, at27, Process, running, returned, Objects, System, Setting, first_line, access, ahead, moved_from, moved, ran, initial}
use Rattle.agreement.specs.Matched.{team_of, side_of_team, setting_of, place_at, place_of, answers_of, returns_of}
use Rattle.agreement.proofs.MatchedLaws.{team_of_access, InCode, ahead_in_code, Same, Equal, turn_is_access, answer_is_return}

-- The side of a side's team is that side.
pub side_of_team_lem : (L s : Side) → side_of_team L (team_of L s) ≡ s
side_of_team_lem A A = refl
side_of_team_lem A B = refl
side_of_team_lem B A = refl
side_of_team_lem B B = refl

-- The other side is another side.
pub other_is_another : (L : Side) → same_side (other L) L ≡ false
other_is_another A = refl
other_is_another B = refl

-- Either team's first line is the place where a loom begins.
pub place_of_first : (L : Side) (G : Setting) (X : Team) → place_of L G (running (first_line X) none) ≡ Begin
unfolding ahead
place_of_first L G team_a = refl
place_of_first L G team_b = refl

-- Either team's first line is in its code.
pub code_of_first : (X : Team) → InCode X (running (first_line X) none)
code_of_first team_a = refl
code_of_first team_b = refl

module _ (next : ℕ → ℕ → ℕ) (looms : List Seat) (R : Rules) where
  -- The two machines in one state, with what is needed to go on.
  pub record Joined (S : State) (F : System) : Type 0 where
    pub same : Same R.leading S.shared F.objects
    pub place : (k : ℕ) → S.place k ≡ place_of R.leading (setting_of next looms R) (F.process k)
    pub code : (k : ℕ) → InCode (team_of R.leading (side_of looms k)) (F.process k)
    pub answers : answers_of S.log ≡ returns_of F.returns

  -- A change of both at loom k.
  pub place_joined : (S : State) (F : System) (k : ℕ) (p : Place) (P : Process) →
      ((j : ℕ) → S.place j ≡ place_of R.leading (setting_of next looms R) (F.process j)) →
      p ≡ place_of R.leading (setting_of next looms R) P →
      (j : ℕ) → changed_at S.place k p j ≡ place_of R.leading (setting_of next looms R) (changed_at F.process k P j)
  place_joined S F k p P old new =
      changed_all
      (λ j P'. changed_at S.place k p j ≡ place_of R.leading (setting_of next looms R) P')
      F.process
      k
      P
      (changed_itself S.place k p ∙ new)
      (λ j apart. changed_other S.place k p j apart ∙ old j)

  -- A step of both, by the line of the process.
  pub joined_stepped : (S : State) (F : System) (k v : ℕ) → NotZero v → Joined S F → (P : Process) (p : Place) →
      p ≡ place_of R.leading (setting_of next looms R) P → InCode (team_of R.leading (side_of looms k)) P → P ≡ F.process k →
      Joined (stepped_from next looms R k v p S) (moved_from (setting_of next looms R) k v P F)
  unfolding stepped_from turned moved_from turn_of with_post with_said
  joined_stepped S F k v some' joined (running l q) p there own here = rw there stepped_at
    where
      a : Access
      a = ahead (setting_of next looms R) l q

      side : side_of looms k ≡ side_of_team R.leading (team_of_access a)
      side = sym (ap (side_of_team R.leading) (ahead_in_code (setting_of next looms R) l q ∙ own) ∙ side_of_team_lem R.leading (side_of looms k))

      equal : Equal R.leading (setting_of next looms R) (team_of_access a)
          (turn_of R (side_of looms k) v (next (operation_at looms k)) S.shared (place_at R.leading a))
          (access (next (operation_at looms k)) v a q F.objects)
      equal = rw side (turn_is_access next looms R a v (next (operation_at looms k)) S.shared q F.objects some' joined.same)

      stepped_at : Joined (stepped_from next looms R k v (place_at R.leading a) S) (moved_from (setting_of next looms R) k v (running l q) F)
      stepped_at =
          record {
            same = equal.same;
            place = place_joined S F k _ _ joined.place equal.place;
            code =
                changed_all
                (λ j P. InCode (team_of R.leading (side_of looms j)) P)
                F.process
                k
                _
                (rw (ahead_in_code (setting_of next looms R) l q ∙ own) at equal.code)
                (λ j apart. joined.code j);
            answers =
                answer_is_return
                next
                looms
                R
                a
                k
                (side_of looms k)
                v
                (next (operation_at looms k))
                S.shared
                q
                F.objects
                S.log
                F.returns
                joined.same
                joined.answers;
          }
  joined_stepped S F k v some' joined (returned X r) p there own here = rw there stayed
    where
      stayed : Joined (stepped_from next looms R k v (Answered (side_of_team R.leading X)) S) F
      stayed =
          record {
            same = joined.same;
            place =
                changed_all
                (λ j p'. p' ≡ place_of R.leading (setting_of next looms R) (F.process j))
                S.place
                k
                (Answered (side_of_team R.leading X))
                (ap (place_of R.leading (setting_of next looms R)) here)
                (λ j apart. joined.place j);
            code = joined.code;
            answers = joined.answers;
          }

  -- Every act keeps the two machines in one state, and so does every list of acts.
  pub joined_acted : (a : Act) (acts : List Act) (S : State) (F : System) → EachStep (λ k v. NotZero v) (a ∷ acts) → Joined S F →
      Joined (acted next looms R a S) (moved (setting_of next looms R) a F)
  unfolding acted moved stepped
  joined_acted (step k v) acts S F not_zero joined = by_test (ltb k (length looms))
    where
      by_test : (b : Bool) → Joined (cond b (stepped next looms R k v S) S) (cond b (moved_from (setting_of next looms R) k v (F.process k) F) F)
      by_test true = joined_stepped S F k v not_zero.0 joined (F.process k) (S.place k) (joined.place k) (joined.code k) refl
      by_test false = joined
  joined_acted (restart k) acts S F not_zero joined =
      record {
        same = joined.same;
        place = place_joined S F k Begin _ joined.place (sym (place_of_first R.leading (setting_of next looms R) (team_of R.leading (side_of looms k))));
        code =
            changed_all
            (λ j P. InCode (team_of R.leading (side_of looms j)) P)
            F.process
            k
            _
            (code_of_first (team_of R.leading (side_of looms k)))
            (λ j apart. joined.code j);
        answers = joined.answers;
      }
  joined_acted restart_all acts S F not_zero joined =
      record {
        same = joined.same;
        place = λ j. sym (place_of_first R.leading (setting_of next looms R) (team_of R.leading (side_of looms j)));
        code = λ j. code_of_first (team_of R.leading (side_of looms j));
        answers = joined.answers;
      }

  pub joined_after : (acts : List Act) (S : State) (F : System) → EachStep (λ k v. NotZero v) acts → Joined S F →
      Joined (after next looms R acts S) (ran (setting_of next looms R) acts F)
  unfolding after ran
  joined_after [] S F not_zero joined = joined
  joined_after (step k v ∷ acts) S F not_zero joined = joined_after acts _ _ not_zero.1 (joined_acted (step k v) acts S F not_zero joined)
  joined_after (restart k ∷ acts) S F not_zero joined = joined_after acts _ _ not_zero (joined_acted (restart k) acts S F not_zero joined)
  joined_after (restart_all ∷ acts) S F not_zero joined = joined_after acts _ _ not_zero (joined_acted restart_all acts S F not_zero joined)

  -- They open in one state.
  pub joined_opening : Joined (opening R.start) (initial (setting_of next looms R))
  unfolding answers_of returns_of
  joined_opening =
      record {
        same = record { cell = refl; leading = empty R.leading; yielding = empty (other R.leading); proper = tt };
        place = λ j. sym (place_of_first R.leading (setting_of next looms R) (team_of R.leading (side_of looms j)));
        code = λ j. code_of_first (team_of R.leading (side_of looms j));
        answers = refl;
      }
    where
      empty : (x : Side) → register (opening R.start).shared x ≡ 0
      empty A = refl
      empty B = refl

-- A line of a team at which a loom at place p goes on. (At a place where that team never stands, its first line.)
pub line_at : Side → Team → Place → Access
line_at L team_a Begin = at5
line_at L team_a Posted = at6
line_at L team_a Looking = at5
line_at L team_a Ready = at8
line_at L team_a Applied = at9
line_at L team_a (Bound x) = cond (same_side x L) at11 at12
line_at L team_a (Answered x) = at5
line_at L team_b Begin = at16
line_at L team_b Posted = at17
line_at L team_b Looking = at19
line_at L team_b Ready = at22
line_at L team_b Applied = at23
line_at L team_b (Bound x) = cond (same_side x L) at26 at27
line_at L team_b (Answered x) = at16

-- A line does what that line of its place does.
pub line_at_its_place : (L : Side) (a : Access) (op : ℕ → ℕ) (v : ℕ) (q : Value) (M : Objects) →
    access op v a q M ≡ access op v (line_at L (team_of_access a) (place_at L a)) q M
unfolding line_at access
line_at_its_place L at5 op v q M = refl
line_at_its_place L at6 op v q M = refl
line_at_its_place L at8 op v q M = refl
line_at_its_place L at9 op v q M = refl
line_at_its_place L at11 op v q M = rw (same_as_itself L)
line_at_its_place L at12 op v q M = rw (other_is_another L)
line_at_its_place L at16 op v q M = refl
line_at_its_place L at17 op v q M = refl
line_at_its_place L at19 op v q M = refl
line_at_its_place L at20 op v q M = rw (same_as_itself L)
line_at_its_place L at22 op v q M = refl
line_at_its_place L at23 op v q M = refl
line_at_its_place L at26 op v q M = rw (same_as_itself L)
line_at_its_place L at27 op v q M = rw (other_is_another L)
