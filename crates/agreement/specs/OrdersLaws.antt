-- Laws of 003's sequences of looms and of its teams, over any looms and any operations.
-- Assumes nothing.
use Rattle.std.specs.Prelude.{ℕ, zero, suc, ◌+◌, ◌≤◌, ◌<◌, ◌≡◌, refl, Bool, true, false, List, [], ◌∷◌, ◌++◌, eqb, length}
use Rattle.std.proofs.Common.{le_of_suc-le-suc, not-suc-le-zero, arith, ap, sym, eq-eqb, ne_eqb, eqb-true}
use Rattle.std.proofs.Math.Decide.{dec_lt}
use Rattle.recording.specs.declared.Seat.{Seat}
use Rattle.recording.specs.Recording.{side_at, operation_at, one, side_count, times, FirstIs, Sequence, reached}
use Rattle.recording.specs.OrdersLaws.{one_at_most}

-- How often a loom stands in a sequence with one more at its end.
pub times_of_one_more : (j k : ℕ) (us : List ℕ) → times j (us ++ (k ∷ [])) ≡ times j us + one (eqb k j)
times_of_one_more j k [] = omega arith
times_of_one_more j k (u ∷ us) = omega (arith, times_of_one_more j k us)

-- Another loom is not k.
pub not_itself : (j k : ℕ) → (j ≡ k → ⊥) → one (eqb k j) ≡ 0
not_itself j k apart = ap one (ne_eqb k j (λ e. apart (sym e)))

-- Loom k is k, once.
pub once_itself : (k : ℕ) → one (eqb k k) ≡ 1
once_itself k = ap one (eq-eqb k k refl)

-- A loom other than k that is not in the sequence is not in it with k at its end.
pub not_in_one_more : (j k : ℕ) (us : List ℕ) → (j ≡ k → ⊥) → times j us ≡ 0 → times j (us ++ (k ∷ [])) ≡ 0
not_in_one_more j k us apart h = omega (arith, times_of_one_more j k us, not_itself j k apart)

module _ (next : ℕ → ℕ → ℕ) (looms : List Seat) where
  -- The operation of the last loom comes last.
  pub reached_by_one_more : (q k : ℕ) (us : List ℕ) → reached next looms q (us ++ (k ∷ [])) ≡ next (operation_at looms k) (reached next looms q us)
  reached_by_one_more q k [] = refl
  reached_by_one_more q k (u ∷ us) = reached_by_one_more (next (operation_at looms u) q) k us

-- The same loom is first where one more comes at the end.
pub first_of_one_more : (looms : List Seat) (X k : ℕ) (us : List ℕ) → FirstIs looms X us → FirstIs looms X (us ++ (k ∷ []))
first_of_one_more looms X k [] h = absurd h
first_of_one_more looms X k (u ∷ us) h = h

-- One loom alone is a sequence of its side.
pub order_of_one : (looms : List Seat) (X k : ℕ) → k < length looms → side_at looms k ≡ X → Sequence looms X (k ∷ [])
order_of_one looms X k here side =
    record {
      looms_of_it = λ j past. omega (arith, not_itself j k (λ e. omega arith));
      each_once = λ j. omega (arith, one_at_most (eqb k j));
      first_of_X = side;
    }

-- A loom that is not yet in an order may come at its end.
pub order_of_one_more : (looms : List Seat) (X k : ℕ) (us : List ℕ) → Sequence looms X us → k < length looms → times k us ≡ 0 →
    Sequence looms X (us ++ (k ∷ []))
order_of_one_more looms X k us order here new =
    record {
      looms_of_it = λ j past. not_in_one_more j k us (λ e. omega arith) (order.looms_of_it j past);
      each_once = λ j. each j (eqb k j) refl;
      first_of_X = first_of_one_more looms X k us order.first_of_X;
    }
  where
    each : (j : ℕ) (b : Bool) → eqb k j ≡ b → times j (us ++ (k ∷ [])) ≤ 1
    each j true e = rw (← eqb-true k j e) (omega (arith, times_of_one_more k k us, once_itself k))
    each j false e = omega (arith, times_of_one_more j k us, ap one e, order.each_once j)

-- An order of X has a loom of X in it.
pub loom_of_order : (looms : List Seat) (X : ℕ) (us : List ℕ) → Sequence looms X us →
    (u : ℕ) × (u < length looms) × (side_at looms u ≡ X) × (times u us ≡ 0 → ⊥)
loom_of_order looms X [] order = absurd order.first_of_X
loom_of_order looms X (u ∷ us) order = (u, by_cases (dec_lt u (length looms)), order.first_of_X, present)
  where
    present : times u (u ∷ us) ≡ 0 → ⊥
    present none = omega (arith, once_itself u)

    by_cases : Dec (u < length looms) → u < length looms
    by_cases (yes here) = here
    by_cases (no past) = absurd (present (order.looms_of_it u (omega arith)))

-- A side with a loom is counted.
pub some_of_side : (X : ℕ) (looms : List Seat) (k : ℕ) → k < length looms → side_at looms k ≡ X → 1 ≤ side_count X looms
some_of_side X [] k here side = absurd (not-suc-le-zero here)
some_of_side X (l ∷ looms) zero here side = omega (arith, ap one (eq-eqb l.side X side))
some_of_side X (l ∷ looms) (suc k) here side = omega (arith, some_of_side X looms k (le_of_suc-le-suc here) side)

-- Two looms of a side that has one loom are the same loom.
pub lone : (X : ℕ) (looms : List Seat) → side_count X looms ≤ 1 → (i j : ℕ) → i < length looms → j < length looms →
    side_at looms i ≡ X → side_at looms j ≡ X → i ≡ j
lone X [] alone i j hi hj si sj = absurd (not-suc-le-zero hi)
lone X (l ∷ looms) alone zero zero hi hj si sj = refl
lone X (l ∷ looms) alone zero (suc j) hi hj si sj =
    absurd (omega (arith, ap one (eq-eqb l.side X si), some_of_side X looms j (le_of_suc-le-suc hj) sj))
lone X (l ∷ looms) alone (suc i) zero hi hj si sj =
    absurd (omega (arith, ap one (eq-eqb l.side X sj), some_of_side X looms i (le_of_suc-le-suc hi) si))
lone X (l ∷ looms) alone (suc i) (suc j) hi hj si sj =
    ap suc (lone X looms (omega arith) i j (le_of_suc-le-suc hi) (le_of_suc-le-suc hj) si sj)
