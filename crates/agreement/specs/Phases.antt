-- The invariant behind demand 3, in three phases. A machine is
--   fresh      until a loom applies its operation or the yielding loom yields;
--   even       where the cell is at the start again, or still, and the leading side can no longer lose;
--   first X us where the looms `us`, each once, a loom of X first, have taken the cell away from the start.
-- Assumes nothing.
use Rattle.std.specs.Prelude.{ℕ, ◌<◌, ◌≡◌, Bool, true, false, List, [], ◌∷◌, T, length}
use Rattle.recording.specs.declared.Seat.{Seat}
use Rattle.recording.specs.Recording.{times, Sequence, reached}
use Rattle.sides.specs.declared.Side.{Side}
use Rattle.loom.specs.declared.Place.{Place}
use Rattle.loom.specs.declared.Place.TheVariants.{Begin, Posted, Looking, Ready, Applied, Bound, Answered}
use Rattle.loom.specs.declared.Shared.{Shared}
use Rattle.sides.specs.Sides.{side_number, other}
use Rattle.loom.specs.Sides.{register}
use Rattle.loom.specs.Turn.{Rules}
use Rattle.agreement.specs.Machine.{NotZero, Event, posted, applied, answered, State, side_of}
use Rattle.agreement.specs.Agreed.{Had, NoneApplied}

-- The phases.
pub data Phase : Type 0 where
  fresh : Phase
  even : Phase
  first : Side → List ℕ → Phase

-- What a log says where X is to win: an answer names X and comes after a post of its number; the first application is of X.
abbrev pub Fits : Side → Event → List Event → Type 0
Fits X (posted k s v) older = Unit {0}
Fits X (applied k s) older = NoneApplied older → s ≡ X
Fits X (answered k s v) older = (s ≡ X) × ((j : ℕ) × Had (posted j s v) older)

-- Every event fits.
abbrev pub AllFit : Side → List Event → Type 0
AllFit X [] = Unit {0}
AllFit X (e ∷ older) = Fits X e older × AllFit X older

-- What a register holds, a loom of its side has posted.
abbrev pub Honest : Shared → List Event → Type 0
Honest m log = (x : Side) → NotZero (register m x) → (j : ℕ) × Had (posted j x (register m x)) log

-- Whether a loom has left the beginning.
abbrev pub begun : Place → Bool
begun Begin = false
begun Posted = true
begun Looking = true
begun Ready = true
begun Applied = true
begun (Bound x) = true
begun (Answered x) = true

module _ (next : ℕ → ℕ → ℕ) (looms : List Seat) (start : ℕ) (R : Rules) where
  -- The side that is bound to win.
  abbrev pub Wins : Phase → Side → Type 0
  Wins fresh x = ⊥
  Wins even x = x ≡ R.leading
  Wins (first X us) x = x ≡ X

  -- Loom k may be ready to apply its operation.
  abbrev pub MayApply : Phase → ℕ → Type 0
  MayApply fresh k = Unit {0}
  MayApply even k = side_of looms k ≡ R.leading
  MayApply (first X us) k = times k us ≡ 0

  -- Loom k may be looking at the other side's register.
  abbrev pub MayLook : Phase → ℕ → Type 0
  MayLook fresh k = Unit {0}
  MayLook even k = Unit {0}
  MayLook (first X us) k = times k us ≡ 0

  -- A loom may have applied its operation and not yet read the cell.
  abbrev pub MayRead : Phase → Type 0
  MayRead fresh = ⊥
  MayRead even = R.in_leading start ≡ true
  MayRead (first X us) = Unit {0}

  -- What is known of loom k by its place.
  abbrev pub Stands : Phase → ℕ → Place → Type 0
  Stands phase k Begin = Unit {0}
  Stands phase k Posted = Unit {0}
  Stands phase k Looking = (side_of looms k ≡ other R.leading) × (R.yields_alone ≡ true) × MayLook phase k
  Stands phase k Ready = MayApply phase k
  Stands phase k Applied = MayRead phase
  Stands phase k (Bound x) = Wins phase x
  Stands phase k (Answered x) = Wins phase x

  -- A loom that has left the beginning is one of the group, and its side's register is filled.
  abbrev pub Begun : Shared → ℕ → Place → Type 0
  Begun m k p = T (begun p) → (k < length looms) × NotZero (register m (side_of looms k))

  -- Fresh: the cell is at the start and no loom has applied its operation.
  pub record Fresh (m : Shared) (log : List Event) : Type 0 where
    pub at_start : m.cell ≡ start
    pub unapplied : NoneApplied log
    pub fit : (X : Side) → AllFit X log

  -- Even: the cell is at the start, the leading side has posted, and the yielding side has one loom.
  pub record Even (m : Shared) (log : List Event) : Type 0 where
    pub at_start : m.cell ≡ start
    pub led : NotZero (register m R.leading)
    pub alone : R.yields_alone ≡ true
    pub fit : AllFit R.leading log

  -- First: the cell is where the looms `us` have taken it, a loom of X first.
  pub record First (X : Side) (us : List ℕ) (m : Shared) (log : List Event) : Type 0 where
    pub reaches : m.cell ≡ reached next looms start us
    pub order : Sequence looms (side_number X) us
    pub led : NotZero (register m X)
    pub some_applied : NoneApplied log → ⊥
    pub fit : AllFit X log

  -- What is known of memory and log.
  abbrev pub Phased : Phase → Shared → List Event → Type 0
  Phased fresh m log = Fresh m log
  Phased even m log = Even m log
  Phased (first X us) m log = First X us m log × (m.cell ≡ start → ⊥)

  -- The invariant.
  pub record Holds (S : State) : Type 0 where
    pub phase : Phase
    pub phased : Phased phase S.shared S.log
    pub stands : (k : ℕ) → Stands phase k (S.place k)
    pub begins : (k : ℕ) → Begun S.shared k (S.place k)
    pub honest : Honest S.shared S.log
