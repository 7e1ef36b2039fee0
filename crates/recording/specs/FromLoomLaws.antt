-- Laws of a walk over a certificate's looms: what is found from loom k on.
-- Assumes nothing.
use Rattle.std.specs.Prelude.{ℕ, ◌+◌, ◌≤◌, ◌<◌, ◌≡◌, true, false, List, [], ◌∷◌, eqb, length, get_or, take, drop}
use Rattle.std.proofs.Common.{◌∙◌, add-one, arith, drop_of_length-le, drop-cons, get_or-take}
use Rattle.recording.specs.declared.Seat.{Seat}
use Rattle.recording.specs.Check.{misfit_of, first_misfit}
use Rattle.recording.specs.CheckLaws.{as_many}
use Rattle.recording.specs.Recording.{empty_seat, one, side_count}

-- The looms are the first `count` seats: loom k is seat k.
module _ (seats : List Seat) (count : ℕ) (enough : count ≤ length seats) where
  many : length (take count seats) ≡ count
  many = as_many seats count enough

  -- The looms from k on are loom k and those from the next.
  pub from_loom : (k : ℕ) → k < count → drop k (take count seats) ≡ get_or seats k empty_seat ∷ drop (k + 1) (take count seats)
  from_loom k within =
      drop-cons (take count seats) k empty_seat (omega (arith, many))
      ∙ rw (get_or-take count seats k empty_seat within, add-one)

  pub no_more_looms : (k : ℕ) → count ≤ k → drop k (take count seats) ≡ []
  no_more_looms k past = drop_of_length-le (take count seats) {i = k} (omega (arith, many))

  -- The first misfit, looked for from loom k on: there, further on, or nowhere.
  module _ (operations : ℕ) where
    pub misfit_here : (k : ℕ) → k < count → misfit_of operations (get_or seats k empty_seat) ≡ true
        → k + first_misfit operations (drop k (take count seats)) ≡ k
    unfolding first_misfit
    misfit_here k within h = rw (from_loom k within, h) (omega arith)

    pub misfit_further : (k : ℕ) → k < count → misfit_of operations (get_or seats k empty_seat) ≡ false
        → (k + 1) + first_misfit operations (drop (k + 1) (take count seats)) ≡ k + first_misfit operations (drop k (take count seats))
    unfolding first_misfit
    misfit_further k within h = rw (from_loom k within, h) (omega arith)

    pub misfit_nowhere : (k : ℕ) → count ≤ k → k + first_misfit operations (drop k (take count seats)) ≡ k
    unfolding first_misfit
    misfit_nowhere k past = rw (no_more_looms k past) (omega arith)

  -- The looms of a side from loom k on, and from the next.
  pub side_count_further : (X k : ℕ) → k < count
      → side_count X (drop k (take count seats)) ≡ one (eqb (get_or seats k empty_seat).side X) + side_count X (drop (k + 1) (take count seats))
  side_count_further X k within = rw (from_loom k within)

  pub side_count_done : (X k : ℕ) → count ≤ k → side_count X (drop k (take count seats)) ≡ 0
  side_count_done X k past = rw (no_more_looms k past)
