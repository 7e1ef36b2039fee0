-- Rules made from Q_A, Q_B and the start of a recording certificate render it.
-- Assumes nothing.
use Rattle.std.specs.Prelude.{ℕ, ◌≡◌, refl, Bool, true, false, cond, ◌↔◌, List, eqb}
use Rattle.std.proofs.Common.{eq-eqb, eqb-true}
use Rattle.std.proofs.lemmas.Bool.{eqb-false}
use Rattle.sets.specs.Sets.{has_of}
use Rattle.recording.specs.declared.Seat.{Seat}
use Rattle.recording.specs.Recording.{InSet, Recording}
use Rattle.sides.specs.declared.Side.TheVariants.{A, B}
use Rattle.sides.specs.Sides.{side_number}
use Rattle.sides.specs.SidesLaws.{other_other}
use Rattle.sides.specs.declared.Pair.{Pair}
use Rattle.agreement.specs.Fitted.{Renders}
use Rattle.group.specs.Group.{yielding_of, leading_of}
use Rattle.demands.specs.Pictured.{rules_by}
use Rattle.demands.specs.NewlyOpened.{AreSets}

-- A test for one number holds of that number alone.
test_of_equal : (m n : ℕ) → (eqb m n ≡ true) ↔ (m ≡ n)
test_of_equal m n = (eqb-true m n, eq-eqb m n)

module _ (next : ℕ → ℕ → ℕ) (looms : List Seat) (start : ℕ) (sets : Pair ℕ) (are : AreSets next looms start sets) (recording : Recording next looms start) where
  -- The start is not in the set of the yielding side: A yields only where the start is in the set of B, and no state is in both.
  start_not_yielding : InSet next looms start (side_number (yielding_of start sets)) start → ⊥
  start_not_yielding = by_test (has_of sets.b start) refl
    where
      by_test : (b : Bool) → has_of sets.b start ≡ b → InSet next looms start (side_number (cond b A B)) start → ⊥
      by_test true in_b of_a = recording.apart start of_a ((are B start).0 (eqb-true _ 1 in_b))
      by_test false notB of_b = eqb-false _ 1 notB ((are B start).1 of_b)

  -- So the rules render the certificate.
  pub renders_of_sets : Renders next looms start (rules_by looms start sets)
  renders_of_sets =
      record {
        the_start = refl;
        the_set = λ q. (λ e. (are (leading_of start sets) q).0 (eqb-true _ 1 e), λ inside. eq-eqb _ 1 ((are (leading_of start sets) q).1 inside));
        the_count = rw (other_other (yielding_of start sets)) (test_of_equal _ 1);
        the_yielding = rw (other_other (yielding_of start sets)) start_not_yielding;
      }
