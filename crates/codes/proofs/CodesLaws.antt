-- No two codes have one number, and none has 0, which is no refusal.
-- Assumes nothing.
use Rattle.std.specs.Prelude.{ℕ, ◌<◌, ◌≡◌, refl, cond, eqb}
use Rattle.std.proofs.Common.{sym, ap, ◌∙◌, arith}
use Rattle.codes.specs.declared.Code.{Code}
use Rattle.codes.specs.declared.Code.TheVariants.{FileEnds, States, Operations, TableLength, Entry, Start, Looms, Seat, LacksSide, PieceNumber, Label, Schedule, Act, ExtraBytes, SharedState, ReturnsToA, ReturnsToB, NoLoom, HasAnswered, Unfit, NoRoom, NoSuchCell}
use Rattle.codes.specs.Codes.{number_of}

-- The code of a number; of a number that no code has, the last.
code_of : ℕ → Code
code_of n =
    cond (eqb n 1) FileEnds
    (cond (eqb n 2) States
    (cond (eqb n 3) Operations
    (cond (eqb n 4) TableLength
    (cond (eqb n 5) Entry
    (cond (eqb n 6) Start
    (cond (eqb n 7) Looms
    (cond (eqb n 8) Seat
    (cond (eqb n 9) LacksSide
    (cond (eqb n 10) PieceNumber
    (cond (eqb n 11) Label
    (cond (eqb n 12) Schedule
    (cond (eqb n 13) Act
    (cond (eqb n 14) ExtraBytes
    (cond (eqb n 20) SharedState
    (cond (eqb n 21) ReturnsToA
    (cond (eqb n 22) ReturnsToB
    (cond (eqb n 30) NoLoom
    (cond (eqb n 31) HasAnswered
    (cond (eqb n 32) Unfit
    (cond (eqb n 40) NoRoom
    NoSuchCell))))))))))))))))))))

-- The code of a code's number is that code.
code_back : (c : Code) → code_of (number_of c) ≡ c
unfolding code_of
code_back FileEnds = refl
code_back States = refl
code_back Operations = refl
code_back TableLength = refl
code_back Entry = refl
code_back Start = refl
code_back Looms = refl
code_back Seat = refl
code_back LacksSide = refl
code_back PieceNumber = refl
code_back Label = refl
code_back Schedule = refl
code_back Act = refl
code_back ExtraBytes = refl
code_back SharedState = refl
code_back ReturnsToA = refl
code_back ReturnsToB = refl
code_back NoLoom = refl
code_back HasAnswered = refl
code_back Unfit = refl
code_back NoRoom = refl
code_back NoSuchCell = refl

pub number_says : (c d : Code) → number_of c ≡ number_of d → c ≡ d
number_says c d h = sym (code_back c) ∙ ap code_of h ∙ code_back d

pub number_positive : (c : Code) → 0 < number_of c
number_positive FileEnds = omega arith
number_positive States = omega arith
number_positive Operations = omega arith
number_positive TableLength = omega arith
number_positive Entry = omega arith
number_positive Start = omega arith
number_positive Looms = omega arith
number_positive Seat = omega arith
number_positive LacksSide = omega arith
number_positive PieceNumber = omega arith
number_positive Label = omega arith
number_positive Schedule = omega arith
number_positive Act = omega arith
number_positive ExtraBytes = omega arith
number_positive SharedState = omega arith
number_positive ReturnsToA = omega arith
number_positive ReturnsToB = omega arith
number_positive NoLoom = omega arith
number_positive HasAnswered = omega arith
number_positive Unfit = omega arith
number_positive NoRoom = omega arith
number_positive NoSuchCell = omega arith
