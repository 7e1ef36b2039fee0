-- Demand 2, its first half, of the numbers that C has from a check: 0, 20, 21 and 22, each by its clause of 003's definition, with the place;
-- and the eleven known certificates by document 01's own numbers.
-- Assumes nothing.
use Rattle.std.specs.Prelude.{ℕ, ◌≡◌, ◌↔◌, Ok, List, [], ◌∷◌, map}
use Rattle.std.proofs.Common.{ap}
use Rattle.codes.specs.declared.Code.TheVariants.{SharedState, ReturnsToA, ReturnsToB}
use Rattle.recording.specs.declared.Certificate.{Certificate}
use Rattle.recording.specs.declared.Checked.{Checked}
use Rattle.recording.specs.Check.{fault_of, check_of}
use Rattle.recording.specs.Clauses.{InSetOf, SharedFirst, NoneShared, ReturnsTo, RecordingOf}
use Rattle.recording.specs.Known.{Line, known, check_line, known_certificates}
use Rattle.recording.proofs.Accepted.{accepts_exactly, check_says}
use Rattle.boundary.specs.Numbers.{refusal_number, refusal_place}
use Rattle.boundary.proofs.CheckNumbersLaws.{none_is_zero, number_says_code, placed}

-- What the first two numbers of a check, its code and its place, say of a certificate over a table.
pub record NumbersSay (table : List ℕ) (states : ℕ) (c : Certificate) (code place : ℕ) : Type 0 where
  -- Accepted exactly when recording.
  pub accepted : (code ≡ 0) ↔ RecordingOf table states c
  -- 20 exactly when a state is in both sets; the place is the lowest one.
  pub shared : (code ≡ 20) ↔ ((q : ℕ) × InSetOf table states c 0 q × InSetOf table states c 1 q)
  pub shared_place : code ≡ 20 → SharedFirst table states c place
  -- 21 exactly when no state is, and the start is in the set of A while B has not one loom; 22 with the sides exchanged.
  pub returns_to_A : (code ≡ 21) ↔ (NoneShared table states c × ReturnsTo table states c 0 1)
  pub returns_to_A_place : code ≡ 21 → place ≡ c.start
  pub returns_to_B : (code ≡ 22) ↔ (NoneShared table states c × ReturnsTo table states c 1 0)
  pub returns_to_B_place : code ≡ 22 → place ≡ c.start

-- Past 2 to 9 and 40, the numbers say all of this, whatever the table, the certificate and the area's length.
pub numbers_say : (table : List ℕ) (states operations : ℕ) (c : Certificate) (room : ℕ) → fault_of table states operations c room ≡ Ok tt
    → NumbersSay table states c (refusal_number (check_of table states operations c room).outcome) (refusal_place (check_of table states operations c room).outcome)
numbers_say table states operations c room past =
    let outcome = (check_of table states operations c room).outcome in
    let says = check_says table states operations c room past in
    let is_none = none_is_zero outcome in
    let is_shared = number_says_code SharedState outcome in
    let is_to_A = number_says_code ReturnsToA outcome in
    let is_to_B = number_says_code ReturnsToB outcome in
    record {
      accepted = (λ n. says.accepted.0 (is_none.0 n), λ r. is_none.1 (says.accepted.1 r));
      shared = (λ n. says.shared.0 (is_shared.0 n), λ q. is_shared.1 (says.shared.1 q));
      shared_place = λ n. says.shared_place _ (placed SharedState outcome (is_shared.0 n));
      returns_to_A = (λ n. says.returns_to_A.0 (is_to_A.0 n), λ r. is_to_A.1 (says.returns_to_A.1 r));
      returns_to_A_place = λ n. says.returns_to_A_place _ (placed ReturnsToA outcome (is_to_A.0 n));
      returns_to_B = (λ n. says.returns_to_B.0 (is_to_B.0 n), λ r. is_to_B.1 (says.returns_to_B.1 r));
      returns_to_B_place = λ n. says.returns_to_B_place _ (placed ReturnsToB outcome (is_to_B.0 n));
    }

-- Code 0 exactly when none of 2 to 9 and 40 applies and the certificate is recording, with no condition.
pub zero_exactly : (table : List ℕ) (states operations : ℕ) (c : Certificate) (room : ℕ)
    → (refusal_number (check_of table states operations c room).outcome ≡ 0) ↔ ((fault_of table states operations c room ≡ Ok tt) × RecordingOf table states c)
zero_exactly table states operations c room =
    let is_none = none_is_zero (check_of table states operations c room).outcome in
    let exactly = accepts_exactly table states operations c room in
    (λ n. exactly.0 (is_none.0 n), λ both. is_none.1 (exactly.1 both))

-- A line of numbers: code, place and sizes.
abbrev pub numbers : Checked → List ℕ
numbers answer = refusal_number answer.outcome ∷ refusal_place answer.outcome ∷ answer.sizes.a ∷ answer.sizes.b ∷ []

abbrev pub four : ℕ → ℕ → ℕ → ℕ → List ℕ
four code place a b = code ∷ place ∷ a ∷ b ∷ []

-- sticky; size 2; size 2, three looms; returns; returns, sides exchanged; late return; late return, exchanged; test and set; toggle;
-- plain write; one state.
pub known_numbers : map (λ (l : Line). numbers (check_line l)) known
    ≡ four 0 0 1 1 ∷ four 0 0 2 1 ∷ four 20 0 3 3 ∷ four 0 0 2 1 ∷ four 0 0 1 2 ∷ four 21 0 3 1 ∷ four 22 0 1 3 ∷ four 20 1 1 1 ∷ four 20 0 2 2 ∷ four 20 1 2 2
    ∷ four 20 0 1 1 ∷ []
known_numbers = ap (map numbers) known_certificates
