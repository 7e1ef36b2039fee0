-- Laws of a run's refusals, one for each way that they end, and what it says that there is none.
-- Assumes nothing.
use Rattle.std.specs.Prelude.{ℕ, ◌≤◌, ◌<◌, ◌≡◌, refl, Bool, true, false, cond, List, ◌++◌, Result, Ok, Err, ltb, length, drop}
use Rattle.std.specs.Result.{result_and, result_map_both}
use Rattle.std.proofs.Common.{lt-ltb, le-ltb}
use borrow.Author.Tests.{ltb-false}
use Rattle.codes.specs.declared.Code.{Code}
use Rattle.codes.specs.declared.Code.TheVariants.{Schedule, Act, NoRoom}
use Rattle.cell.specs.Limits.{edition}
use Rattle.group.specs.declared.Group.{Group}
use Rattle.schedule.specs.declared.Ran.{Ran}
use Rattle.schedule.specs.Acts.{all_named}
use Rattle.schedule.specs.Played.{begun, played_of, marks_of}
use Rattle.schedule.specs.Run.{Playable, refusal_of, code_of, ran_of, marked_of}

module _ (count : ℕ) (schedule : List ℕ) (room : ℕ) where
  pub refusal_long : edition.entries < length schedule → refusal_of count schedule room ≡ Err Schedule
  unfolding refusal_of
  refusal_long h = simp (lt-ltb _ _ h)

  module _ (short : length schedule ≤ edition.entries) where
    pub refusal_unnamed : all_named count schedule ≡ false → refusal_of count schedule room ≡ Err Act
    unfolding refusal_of
    refusal_unnamed h = simp (le-ltb _ _ short, h)

    module _ (named : all_named count schedule ≡ true) where
      pub refusal_room : room < length schedule → refusal_of count schedule room ≡ Err NoRoom
      unfolding refusal_of
      refusal_room h = simp (le-ltb _ _ short, named, lt-ltb _ _ h)

      pub refusal_none : length schedule ≤ room → refusal_of count schedule room ≡ Ok tt
      unfolding refusal_of
      refusal_none h = simp (le-ltb _ _ short, named, le-ltb _ _ h)

  pub playable : refusal_of count schedule room ≡ Ok tt → Playable count schedule room
  unfolding refusal_of
  playable = go (ltb edition.entries (length schedule)) refl (all_named count schedule) refl (ltb room (length schedule)) refl
    where
      go : (l : Bool) → ltb edition.entries (length schedule) ≡ l →
          (n : Bool) → all_named count schedule ≡ n →
          (r : Bool) → ltb room (length schedule) ≡ r →
          cond {A = Result (Unit {0}) Code} l (Err Schedule) (cond n (cond r (Err NoRoom) (Ok tt)) (Err Act)) ≡ Ok tt → Playable count schedule room
      go true long n named r rest none = cc
      go false long false named r rest none = cc
      go false long true named true rest none = cc
      go false long true named false rest none =
          record { short = ltb-false _ _ long; named = named; room_enough = ltb-false _ _ rest }

-- What it says of a run of a group that nothing refuses it: the schedule can be played, and the result is that of playing it.
pub record Unrefused (table : List ℕ) (states operations : ℕ) (opening : Group) (schedule : List ℕ) (room : ℕ) (run : Ran) : Type 0 where
  pub plays : Playable opening.count schedule room
  pub result : run ≡ played_of table states operations (begun opening) schedule

-- The opening's refusal comes first, and then the run's own.
module _ (opened : Result Group Code) (schedule : List ℕ) (room : ℕ) where
  pub code_of_opening : (code : Code) → opened ≡ Err code → code_of opened schedule room ≡ Err code
  code_of_opening code h = rw h

  pub code_of_run : (g : Group) → opened ≡ Ok g → code_of opened schedule room ≡ refusal_of g.count schedule room
  code_of_run g h = rw h

-- What it says that there is no refusal: the group opened, and the schedule can be played.
pub code_says : (opened : Result Group Code) (schedule : List ℕ) (room : ℕ) → code_of opened schedule room ≡ Ok tt →
    (g : Group) × ((opened ≡ Ok g) × Playable g.count schedule room)
code_says (Ok g) schedule room none = (g, (refl, playable g.count schedule room none))
code_says (Err code) schedule room none = cc

module _ (table : List ℕ) (states operations : ℕ) (opened : Result Group Code) (schedule : List ℕ) where
  pub ran_refused : (room : ℕ) (code : Code) → code_of opened schedule room ≡ Err code → ran_of table states operations opened schedule room ≡ Err code
  ran_refused room code h = rw h

  pub ran_played : (room : ℕ) (g : Group) → code_of opened schedule room ≡ Ok tt → opened ≡ Ok g →
      ran_of table states operations opened schedule room ≡ Ok (played_of table states operations (begun g) schedule)
  ran_played room g h is = rw (h, is)

  pub marked_refused : (marks : List ℕ) (code : Code) → code_of opened schedule (length marks) ≡ Err code → marked_of table states operations opened schedule marks ≡ marks
  marked_refused marks code h = rw h

  pub marked_played : (marks : List ℕ) (g : Group) → code_of opened schedule (length marks) ≡ Ok tt → opened ≡ Ok g →
      marked_of table states operations opened schedule marks ≡ marks_of table states operations g schedule ++ drop (length schedule) marks
  marked_played marks g h is = rw (h, is)

module _ (table : List ℕ) (states operations : ℕ) where
  -- A run that isn't refused has opened a group.
  pub opened_first : (opened : Result Group Code) (schedule : List ℕ) (room : ℕ) (run : Ran) → ran_of table states operations opened schedule room ≡ Ok run →
      (opening : Group) × (opened ≡ Ok opening)
  opened_first (Ok g) schedule room run is = (g, refl)
  opened_first (Err code) schedule room run is = cc

  pub unrefused : (opening : Group) (schedule : List ℕ) (room : ℕ) (run : Ran) → ran_of table states operations (Ok opening) schedule room ≡ Ok run →
      Unrefused table states operations opening schedule room run
  unrefused opening schedule room run = by_verdict (refusal_of opening.count schedule room) refl
    where
      by_verdict : (v : Result (Unit {0}) Code) → refusal_of opening.count schedule room ≡ v →
          result_map_both (λ g. played_of table states operations (begun g) schedule) (λ code. code) (result_and v (Ok opening)) ≡ Ok run →
          Unrefused table states operations opening schedule room run
      by_verdict (Err code) h is = cc
      by_verdict (Ok t) h is = record { plays = playable opening.count schedule room h; result = cc }

  -- A run that isn't refused is one of the group that opened first.
  pub unrefused_first : (opened : Result Group Code) (schedule : List ℕ) (room : ℕ) (run : Ran) (is : ran_of table states operations opened schedule room ≡ Ok run) →
      Unrefused table states operations (opened_first opened schedule room run is).0 schedule room run
  unfolding opened_first
  unrefused_first (Ok g) schedule room run is = unrefused g schedule room run is
  unrefused_first (Err code) schedule room run is = cc
