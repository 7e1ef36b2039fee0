-- Demand 2, its first half: past 2 to 9 and 40 the check accepts exactly the recording certificates, and 20, 21 and 22 each say which
-- clause of source document 003's definition fails, and where.
-- Assumes nothing.
use Rattle.std.specs.Prelude.{ℕ, ◌≡◌, ◌↔◌, Ok, Err, List}
use Rattle.codes.specs.declared.Code.TheVariants.{SharedState, ReturnsToA, ReturnsToB}
use Rattle.codes.specs.Codes.{refused_at}
use Rattle.sets.specs.Sets.{Member, size_of, word_bits}
use Rattle.recording.specs.declared.Certificate.{Certificate}
use Rattle.recording.specs.declared.Checked.{Checked}
use Rattle.recording.proofs.AcceptedLaws as laws
use Rattle.recording.specs.Check.{RefusedFor, fault_of, set_by, check_of}
use Rattle.recording.specs.Clauses.{InSetOf, SharedFirst, NoneShared, ReturnsTo, RecordingOf}

-- What an answer of the check says of a certificate over a table.
pub record Says (table : List ℕ) (states : ℕ) (c : Certificate) (answer : Checked) : Type 0 where
  -- Accepted exactly when recording.
  pub accepted : (answer.outcome ≡ Ok tt) ↔ RecordingOf table states c
  -- 20 exactly when a state is in both sets; the place is the lowest one.
  pub shared : RefusedFor SharedState answer.outcome ↔ ((q : ℕ) × InSetOf table states c 0 q × InSetOf table states c 1 q)
  pub shared_place : (place : ℕ) → answer.outcome ≡ Err (refused_at SharedState place) → SharedFirst table states c place
  -- 21 exactly when no state is, and the start is in the set of A while B has not one loom; 22 with the sides exchanged.
  pub returns_to_A : RefusedFor ReturnsToA answer.outcome ↔ (NoneShared table states c × ReturnsTo table states c 0 1)
  pub returns_to_A_place : (place : ℕ) → answer.outcome ≡ Err (refused_at ReturnsToA place) → place ≡ c.start
  pub returns_to_B : RefusedFor ReturnsToB answer.outcome ↔ (NoneShared table states c × ReturnsTo table states c 1 0)
  pub returns_to_B_place : (place : ℕ) → answer.outcome ≡ Err (refused_at ReturnsToB place) → place ≡ c.start
  -- The sizes are those of the two sets, whose members are the states of Q_A and of Q_B.
  pub size_of_A : answer.sizes.a ≡ size_of word_bits (set_by table states c 0)
  pub size_of_B : answer.sizes.b ≡ size_of word_bits (set_by table states c 1)
  pub members : (X q : ℕ) → Member (set_by table states c X) q ↔ InSetOf table states c X q

-- Past 2 to 9 and 40, the check's answer says all of this, whatever the table, the certificate and the area's length.
pub check_says : (table : List ℕ) (states operations : ℕ) (c : Certificate) (room : ℕ)
    → fault_of table states operations c room ≡ Ok tt → Says table states c (check_of table states operations c room)
check_says table states operations c room past =
    record {
      accepted = laws.accepted table states operations c room past;
      shared = laws.shared_refused table states operations c room past;
      shared_place = laws.shared_place table states operations c room past;
      returns_to_A = laws.returns_to_A table states operations c room past;
      returns_to_A_place = laws.returns_to_A_place table states operations c room past;
      returns_to_B = laws.returns_to_B table states operations c room past;
      returns_to_B_place = laws.returns_to_B_place table states operations c room past;
      size_of_A = (laws.sizes_given table states operations c room past).0;
      size_of_B = (laws.sizes_given table states operations c room past).1;
      members = laws.set_is_Q table states operations c room past;
    }

-- Whatever the table, the certificate and the area's length: no refusal (code 0) exactly when none of 2 to 9 and 40 applies and the certificate is
-- recording.
pub accepts_exactly : (table : List ℕ) (states operations : ℕ) (c : Certificate) (room : ℕ)
    → ((check_of table states operations c room).outcome ≡ Ok tt) ↔ ((fault_of table states operations c room ≡ Ok tt) × RecordingOf table states c)
unfolding check_of
accepts_exactly table states operations c room = (
  λ none. let past = laws.past_faults table states operations c room none in
      (past, (laws.accepted table states operations c room past).0 none),
  λ both. (laws.accepted table states operations c room both.0).1 both.1,
)
