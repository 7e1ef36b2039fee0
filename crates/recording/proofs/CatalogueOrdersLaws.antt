-- Where orders of the catalogue certificate's looms lead: from the start (B, 0), loom 0 first, to (A, j) after j more looms; another loom
-- first, to (B, i) after i looms other than loom 0. For any n.
-- Assumes nothing.
use Rattle.std.specs.Prelude.{ℕ, zero, suc, ◌+◌, ◌-◌, ◌*◌, ◌≤◌, ◌<◌, ◌≡◌, eqb, length, get_or, List, [], ◌∷◌}
use Rattle.std.proofs.Math.Path.{refl, ap}
use Rattle.std.proofs.Common.{sym, subst, ◌∙◌, not-suc-le-zero, eq-eqb, ne_eqb, arith}
use Rattle.std.proofs.Math.Decide.{dec_le, ℕ_discrete}
use Rattle.std.proofs.Math.Dec.{eqb-zero-suc}
use Rattle.std.proofs.lemmas.List.{length-replicate, get_or-replicate}
use Rattle.cell.specs.Catalogue.{table_of, after_zero}
use Rattle.cell.specs.CatalogueLaws.{zero_from_start, zero_of_number, one_of_number, entry_of_zero, entry_of_one}
use Rattle.cell.specs.Table.{entry_of}
use Rattle.recording.specs.declared.Seat.{Seat}
use Rattle.recording.specs.CatalogueCertificate.{follower, catalogue_looms}
use Rattle.recording.specs.OrdersLaws.{one_at_most}
use Rattle.recording.specs.Recording.{empty_seat, side_at, operation_at, one, times, Sequence, reached, InSet}

-- ---- counting looms
-- The looms of a sequence other than loom 0.
unfoldable pub others : List ℕ → ℕ
others [] = 0
others (zero ∷ us) = others us
others (suc u ∷ us) = suc (others us)

-- How often looms 1 to k stand in a sequence.
tally : ℕ → List ℕ → ℕ
tally zero us = 0
tally (suc k) us = tally k us + times (suc k) us

tally_none : (k : ℕ) → tally k [] ≡ 0
unfolding tally
tally_none zero = refl
tally_none (suc k) = omega (arith, tally_none k)

tally_leader : (k : ℕ) (us : List ℕ) → tally k (zero ∷ us) ≡ tally k us
unfolding tally
tally_leader zero us = refl
tally_leader (suc k) us = omega (arith, tally_leader k us, ap one (eqb-zero-suc k))

tally_beyond : (k u : ℕ) (us : List ℕ) → k ≤ u → tally k (suc u ∷ us) ≡ tally k us
unfolding tally
tally_beyond zero u us past = refl
tally_beyond (suc k) u us past = omega (arith, tally_beyond k u us (omega arith), ap one (ne_eqb (suc u) (suc k) (λ e. omega arith)))

tally_within : (k u : ℕ) (us : List ℕ) → u < k → tally k (suc u ∷ us) ≡ suc (tally k us)
unfolding tally
tally_within zero u us within = absurd (not-suc-le-zero within)
tally_within (suc k) u us within = go (ℕ_discrete u k) (tally_within k u us)
  where
    go : Dec (u ≡ k) → (u < k → tally k (suc u ∷ us) ≡ suc (tally k us)) → tally (suc k) (suc u ∷ us) ≡ suc (tally (suc k) us)
    go (yes same) before = omega (arith, tally_beyond k u us (omega arith), ap one (eq-eqb (suc u) (suc k) (ap suc same)))
    go (no other) before = omega (arith, before (omega arith), ap one (ne_eqb (suc u) (suc k) (λ e. other (omega arith))))

tally_at_most : (k : ℕ) (us : List ℕ) → ((i : ℕ) → times i us ≤ 1) → tally k us ≤ k
unfolding tally
tally_at_most zero us once = omega arith
tally_at_most (suc k) us once = omega (arith, tally_at_most k us once, once (suc k))

-- All looms of a sequence are below n.
abbrev Below : ℕ → List ℕ → Type 0
Below n us = (i : ℕ) → n ≤ i → times i us ≡ 0

below_rest : (n u : ℕ) (us : List ℕ) → Below n (u ∷ us) → Below n us
below_rest n u us below i past = omega (arith, below i past)

below_first : (n u : ℕ) (us : List ℕ) → Below n (u ∷ us) → u < n
below_first n u us below =
    elim (dec_le n u) [ yes past ↦ absurd (omega (arith, below u past, ap one (eq-eqb u u refl))) | no within ↦ omega arith ]

others_counted : (k : ℕ) (us : List ℕ) → Below (suc k) us → others us ≡ tally k us
unfolding others
others_counted k [] below = sym (tally_none k)
others_counted k (zero ∷ us) below = others_counted k us (below_rest (suc k) zero us below) ∙ sym (tally_leader k us)
others_counted k (suc u ∷ us) below =
    ap suc (others_counted k us (below_rest (suc k) (suc u) us below))
    ∙ sym (tally_within k u us (omega (arith, below_first (suc k) (suc u) us below)))

-- Distinct looms below n have at most n - 1 others than loom 0 among them.
others_at_most : (n : ℕ) (us : List ℕ) → 1 ≤ n → Below n us → ((i : ℕ) → times i us ≤ 1) → others us ≤ n - 1
others_at_most zero us some below once = absurd (not-suc-le-zero some)
others_at_most (suc k) us some below once = omega (arith, others_counted k us below, tally_at_most k us once)

-- ---- looms in turn
-- Looms j, j + 1, .., k of them.
unfoldable pub in_turn : ℕ → ℕ → List ℕ
in_turn j zero = []
in_turn j (suc k) = j ∷ in_turn (suc j) k

in_turn_before : (j k i : ℕ) → i < j → times i (in_turn j k) ≡ 0
unfolding in_turn
in_turn_before j zero i early = refl
in_turn_before j (suc k) i early = omega (arith, in_turn_before (suc j) k i (omega arith), ap one (ne_eqb j i (λ e. omega arith)))

in_turn_after : (j k i : ℕ) → j + k ≤ i → times i (in_turn j k) ≡ 0
unfolding in_turn
in_turn_after j zero i late = refl
in_turn_after j (suc k) i late = omega (arith, in_turn_after (suc j) k i (omega arith), ap one (ne_eqb j i (λ e. omega arith)))

in_turn_once : (j k i : ℕ) → times i (in_turn j k) ≤ 1
unfolding in_turn
in_turn_once j zero i = omega arith
in_turn_once j (suc k) i = go (ℕ_discrete j i) (in_turn_once (suc j) k i)
  where
    go : Dec (j ≡ i) → times i (in_turn (suc j) k) ≤ 1 → one (eqb j i) + times i (in_turn (suc j) k) ≤ 1
    go (yes same) rest = omega (arith, one_at_most (eqb j i), in_turn_before (suc j) k i (omega arith))
    go (no other) rest = omega (arith, ap one (ne_eqb j i other))

others_in_turn : (j k : ℕ) → others (in_turn (suc j) k) ≡ k
unfolding others in_turn
others_in_turn j zero = refl
others_in_turn j (suc k) = ap suc (others_in_turn (suc j) k)

-- ---- the looms
module _ (n : ℕ) (several : 2 ≤ n) where
  follows : (k : ℕ) → suc k < n → get_or (catalogue_looms n) (suc k) empty_seat ≡ follower
  follows k within = get_or-replicate (n - 1) k follower empty_seat (omega arith)

  step_zero_start : entry_of (table_of n) (2 * n) 0 n ≡ 0
  step_zero_start =
      entry_of_zero n n (omega arith) ∙ subst (λ (x : ℕ). after_zero n x ≡ 0) (omega arith) (zero_from_start n 0)

  step_zero_past : (q : ℕ) → n < q → q < 2 * n → entry_of (table_of n) (2 * n) 0 q ≡ q
  step_zero_past q past within = entry_of_zero n q within ∙ zero_of_number n q past

  step_one : (q : ℕ) → suc q < 2 * n → entry_of (table_of n) (2 * n) 1 q ≡ suc q
  step_one q within = entry_of_one n q (omega arith) ∙ one_of_number n q within

  -- A loom other than loom 0 goes up by one.
  step_up : (u q p : ℕ) → suc u < n → suc q < 2 * n → suc q ≡ p
      → entry_of (table_of n) (2 * n) (operation_at (catalogue_looms n) (suc u)) q ≡ p
  step_up u q p within room same =
      ap (λ (l : Seat). entry_of (table_of n) (2 * n) l.operation q) (follows u within) ∙ step_one q room ∙ same

  -- ---- where a sequence leads
  to : ℕ → List ℕ → ℕ
  to q us = reached (entry_of (table_of n) (2 * n)) (catalogue_looms n) q us

  -- Without loom 0, one row up with each loom.
  run_up : (us : List ℕ) (r : ℕ) → Below n us → times 0 us ≡ 0 → r + others us < n
      → to r us ≡ r + others us
  unfolding others to
  run_up [] r below none room = omega arith
  run_up (zero ∷ us) r below none room = absurd (omega arith)
  run_up (suc u ∷ us) r below none room =
      ap (λ (q : ℕ). to q us) (step_up u r (suc r) (below_first n (suc u) us below) (omega arith) refl)
      ∙ run_up us (suc r) (below_rest n (suc u) us below) (omega (arith, none)) (omega arith)
      ∙ omega arith

  -- Past the start among B's rows, one row up with each loom but loom 0, which stays.
  run_on : (us : List ℕ) (r : ℕ) → Below n us → 1 ≤ r → r + others us < n
      → to (n + r) us ≡ n + (r + others us)
  unfolding others to
  run_on [] r below some room = omega arith
  run_on (zero ∷ us) r below some room =
      ap (λ (q : ℕ). to q us) (step_zero_past (n + r) (omega arith) (omega arith)) ∙ run_on us r (below_rest n zero us below) some room
  run_on (suc u ∷ us) r below some room =
      ap (λ (q : ℕ). to q us) (step_up u (n + r) (n + suc r) (below_first n (suc u) us below) (omega arith) (omega arith))
      ∙ run_on us (suc r) (below_rest n (suc u) us below) (omega arith) (omega arith)
      ∙ omega arith

  -- ---- the orders, and the states that they reach
  -- Loom 0 is the one loom of A.
  of_A : (u : ℕ) → u < n → side_at (catalogue_looms n) u ≡ 0 → u ≡ 0
  of_A zero within side = refl
  of_A (suc u) within side = absurd (omega (arith, ap (λ (l : Seat). l.side) (follows u within)))

  of_B : (u : ℕ) → side_at (catalogue_looms n) u ≡ 1 → u ≡ 0 → ⊥
  of_B zero side e = omega arith
  of_B (suc u) side e = omega arith

  pub looms_counted : length (catalogue_looms n) ≡ n
  looms_counted = omega (arith, length-replicate (n - 1) follower)

  below_all : (X : ℕ) (us : List ℕ) → Sequence (catalogue_looms n) X us → Below n us
  below_all X us order i past = order.looms_of_it i (subst (λ (k : ℕ). k ≤ i) (sym looms_counted) past)

  -- Loom 0 first: to a row of A.
  pub reaches_A : (q : ℕ) → InSet (entry_of (table_of n) (2 * n)) (catalogue_looms n) n 0 q → q < n
  unfolding to others
  reaches_A q by = go by.0 by.1 by.2
    where
      go : (us : List ℕ) → Sequence (catalogue_looms n) 0 us → to n us ≡ q → q < n
      go [] order goes = absurd order.first_of_X
      go (suc u ∷ us) order goes =
          absurd (omega (arith, of_A (suc u) (below_first n (suc u) us (below_all 0 (suc u ∷ us) order)) order.first_of_X))
      go (zero ∷ us) order goes =
          let below = below_rest n zero us (below_all 0 (zero ∷ us) order) in
          let many = others_at_most n us (omega arith) below (λ i. omega (arith, order.each_once i)) in
          let end : to 0 us ≡ 0 + others us = run_up us 0 below (omega (arith, order.each_once 0)) (omega arith) in
          let start : to n (zero ∷ us) ≡ to 0 us = ap (λ (p : ℕ). to p us) step_zero_start in
          omega arith

  -- Another loom first: to a row of B past the start.
  pub reaches_B : (q : ℕ) → InSet (entry_of (table_of n) (2 * n)) (catalogue_looms n) n 1 q → (n < q) × (q < 2 * n)
  unfolding to others
  reaches_B q by = go by.0 by.1 by.2
    where
      go : (us : List ℕ) → Sequence (catalogue_looms n) 1 us → to n us ≡ q → (n < q) × (q < 2 * n)
      go [] order goes = absurd order.first_of_X
      go (zero ∷ us) order goes = absurd (of_B zero order.first_of_X refl)
      go (suc u ∷ us) order goes =
          let below = below_all 1 (suc u ∷ us) order in
          let many : suc (others us) ≤ n - 1 = others_at_most n (suc u ∷ us) (omega arith) below order.each_once in
          let end : to (n + 1) us ≡ n + (1 + others us) = run_on us 1 (below_rest n (suc u) us below) (omega arith) (omega arith) in
          let start : to n (suc u ∷ us) ≡ to (n + 1) us =
          ap (λ (p : ℕ). to p us) (step_up u n (n + 1) (below_first n (suc u) us below) (omega arith) (omega arith)) in
          omega arith

  -- ---- and the other way: an order for each of these states
  order_in_turn : (X j k : ℕ) → j + suc k ≤ n → side_at (catalogue_looms n) j ≡ X → Sequence (catalogue_looms n) X (in_turn j (suc k))
  unfolding in_turn
  order_in_turn X j k room side =
      record {
        looms_of_it = λ i past. in_turn_after j (suc k) i (omega (arith, looms_counted));
        each_once = in_turn_once j (suc k);
        first_of_X = side;
      }

  pub row_of_A : (q : ℕ) → q < n → InSet (entry_of (table_of n) (2 * n)) (catalogue_looms n) n 0 q
  unfolding to in_turn
  row_of_A q within = (
    in_turn 0 (suc q),
    order_in_turn 0 0 q (omega arith) refl,
    ap (λ (p : ℕ). to p (in_turn 1 q)) step_zero_start
        ∙ run_up (in_turn 1 q) 0 (λ i past. in_turn_after 1 q i (omega arith)) (in_turn_before 1 q 0 (omega arith)) (omega (arith, others_in_turn 0 q))
        ∙ omega (arith, others_in_turn 0 q),
  )

  pub row_of_B : (q : ℕ) → n < q → q < 2 * n → InSet (entry_of (table_of n) (2 * n)) (catalogue_looms n) n 1 q
  unfolding to in_turn
  row_of_B q past within =
      let k : ℕ = q - n - 1 in (
        in_turn 1 (suc k),
        order_in_turn 1 1 k (omega arith) (ap (λ (l : Seat). l.side) (follows 0 several)),
        ap (λ (p : ℕ). to p (in_turn 2 k)) (step_up 0 n (n + 1) several (omega arith) (omega arith))
            ∙ run_on (in_turn 2 k) 1 (λ i past. in_turn_after 2 k i (omega arith)) (omega arith) (omega (arith, others_in_turn 1 k))
            ∙ omega (arith, others_in_turn 1 k),
      )
