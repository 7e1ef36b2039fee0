-- How the machine of looms and Figure 2 stand to one another: place for line, register for register, answer for return.
-- The paper's A is the leading side and its B the yielding side: "if q0 ∈ Q_B, [...] we would
-- reverse the roles of A and B in the code".
-- Assumes nothing.
use Rattle.std.specs.Prelude.{ℕ, ◌≡◌, cond, List, [], ◌∷◌, length}
use Rattle.std.proofs.Math.Option.{none, some}
use Rattle.recording.specs.declared.Seat.{Seat}
use Rattle.recording.specs.Recording.{operation_at}
use Rattle.sides.specs.declared.Side.{Side}
use Rattle.loom.specs.declared.Place.{Place}
use Rattle.loom.specs.declared.Place.TheVariants.{Begin, Posted, Looking, Ready, Applied, Bound, Answered}
use Rattle.sides.specs.Sides.{other, same_side}
use Rattle.loom.specs.Sides.{register}
use Rattle.loom.specs.Turn.{Rules}
use Rattle.agreement.specs.Machine.{Event, posted, applied, answered, State, side_of}
use Rattle.agreement.specs.Figure.{Team, team_a, team_b, Value, Access, at5, at6, at8, at9, at11, at12, at16, at17, at19, at20, at22, at23, at26, at27, Process, running, returned, Return, System, Setting, ahead}

-- The team of a side, and the side of a team, where L leads.
abbrev pub team_of : Side → Side → Team
team_of L s = cond (same_side s L) team_a team_b

abbrev pub side_of_team : Side → Team → Side
side_of_team L team_a = L
side_of_team L team_b = other L

-- What the algorithm is given by looms and their rules.
abbrev pub setting_of : (ℕ → ℕ → ℕ) → List Seat → Rules → Setting
setting_of next looms R =
    record {
      q0 = R.start;
      in_qa = R.in_leading;
      lone_b = R.yields_alone;
      processes = length looms;
      team = λ k. team_of R.leading (side_of looms k);
      op = λ k. next (operation_at looms k);
    }

-- "0 means not posted."
abbrev pub number : Value → ℕ
number none = 0
number (some v) = v

-- Place for line: where a loom stands whose process touches a shared object next at this line.
abbrev pub place_at : Side → Access → Place
place_at L at5 = Begin
place_at L at16 = Begin
place_at L at6 = Posted
place_at L at17 = Posted
place_at L at19 = Looking
place_at L at8 = Ready
place_at L at22 = Ready
place_at L at9 = Applied
place_at L at23 = Applied
place_at L at11 = Bound L
place_at L at20 = Bound L
place_at L at26 = Bound L
place_at L at12 = Bound (other L)
place_at L at27 = Bound (other L)

-- Where a loom stands by its process: where its local computation leads, or answered.
abbrev pub place_of : Side → Setting → Process → Place
place_of L G (running l q) = place_at L (ahead G l q)
place_of L G (returned X r) = Answered (side_of_team L X)

-- A loom and the number that it answered with.
pub record Given : Type 0 where
  pub loom : ℕ
  pub number : ℕ

-- The answers in a log, and the returns of a system, the latest first.
unfoldable pub answers_of : List Event → List Given
answers_of [] = []
answers_of (posted k s v ∷ log) = answers_of log
answers_of (applied k s ∷ log) = answers_of log
answers_of (answered k s v ∷ log) = record { loom = k; number = v } ∷ answers_of log

unfoldable pub returns_of : List Return → List Given
returns_of [] = []
returns_of (r ∷ returns) = record { loom = r.process; number = number r.value } ∷ returns_of returns

-- The machine and the system are in the same state.
pub record Matched (L : Side) (G : Setting) (S : State) (F : System) : Type 0 where
  pub cell : S.shared.cell ≡ F.objects.O
  pub leading : register S.shared L ≡ number F.objects.RA
  pub yielding : register S.shared (other L) ≡ number F.objects.RB
  pub place : (k : ℕ) → S.place k ≡ place_of L G (F.process k)
  pub answers : answers_of S.log ≡ returns_of F.returns
