-- The looms of a set, walked by the lowest digit.
-- Assumes nothing.
use Rattle.std.specs.Prelude.{ℕ, ◌+◌, ◌-◌, ◌^◌, ◌≤◌, ◌<◌, ◌≡◌, refl}
use Rattle.std.proofs.Common.{sym, ap, ◌∙◌, lt_of_lt_of_le, arith, eq-eqb, ne_eqb, pow_mono}
use Rattle.std.proofs.Math.Decide.{dec_lt, ℕ_discrete}
use Rattle.sets.specs.Sets.{bit, lowest_of, word_bits}
use Rattle.sets.specs.MembersLaws.{lowest_is_lowest}
use Rattle.sets.specs.SetsLaws.{bit_zero, bit_beyond, below_by_members}
use Rattle.recording.specs.OrdersLaws.{without}
use Rattle.recording.specs.Recording.{one}
use Rattle.recording.proofs.VerdictLaws.{lowest_there}

-- What is left of m from loom k on: no loom below k, and the looms of m from there.
pub record LeftFrom (m k left : ℕ) : Type 0 where
  pub none_below : (i : ℕ) → i < k → bit left i ≡ 0
  pub as_in_m : (i : ℕ) → k ≤ i → bit left i ≡ bit m i

-- At first all of it.
pub all_left : (m : ℕ) → LeftFrom m 0 m
all_left m = record { none_below = λ i below. absurd (let no : ⊥ = omega (arith, below) in no); as_in_m = λ i past. refl }

-- Loom j is the next of m from loom k on, of n in all.
pub record NextLoom (m n k j : ℕ) : Type 0 where
  pub past : k ≤ j
  pub within : j < n
  pub has : bit m j ≡ 1
  pub none_between : (i : ℕ) → k ≤ i → i < j → bit m i ≡ 0

module _ (m n k left : ℕ) (small : m < 2 ^ n) (few : n ≤ word_bits) (so : LeftFrom m k left) where
  left_small : left < 2 ^ word_bits
  left_small =
      lt_of_lt_of_le
      (below_by_members n left
      (λ i past.
      elim (dec_lt i k) [
        | yes below ↦ so.none_below i below
        | no above ↦ so.as_in_m i (omega (arith, above)) ∙ bit_beyond n m i small past
      ]))
      (pow_mono few)

  module _ (some : left ≡ 0 → ⊥) (j : ℕ) (is : j ≡ lowest_of word_bits left) where
    pub lowest_has : bit left j ≡ 1
    lowest_has = ap (bit left) is ∙ lowest_there word_bits left left_small some

    none_under : (i : ℕ) → i < j → bit left i ≡ 0
    none_under i below = (lowest_is_lowest word_bits left).none_below i (omega (arith, below, is))

    not_before : k ≤ j
    not_before =
        elim (dec_lt j k) [
          | yes before ↦ absurd (let no : ⊥ = omega (arith, lowest_has, so.none_below j before) in no)
          | no after ↦ omega (arith, after)
        ]

    -- The lowest digit of what is left is the next loom.
    pub next_loom : NextLoom m n k j
    next_loom =
        record {
          past = not_before;
          within =
              elim (dec_lt j n) [
                | yes below ↦ below
                | no beyond ↦ absurd (let no : ⊥ = omega (arith, lowest_has, so.as_in_m j not_before, bit_beyond n m j small (omega (arith, beyond))) in no)
              ];
          has = sym (so.as_in_m j not_before) ∙ lowest_has;
          none_between = λ i past below. sym (so.as_in_m i past) ∙ none_under i below;
        }

    -- Without it, what is left is from the loom behind it.
    pub left_behind : LeftFrom m (j + 1) (left - 2 ^ j)
    left_behind =
        record {
          none_below = λ i below.
              elim (ℕ_discrete j i) [
                | yes same ↦ omega (arith, without left j lowest_has i, ap one (eq-eqb j i same), sym (ap (bit left) same) ∙ lowest_has)
                | no other ↦ omega (arith, without left j lowest_has i, ap one (ne_eqb j i other), none_under i (omega (arith, below, other)))
              ];
          as_in_m = λ i past.
              let other : j ≡ i → ⊥ = λ e. omega (arith, past) in
              omega (arith, without left j lowest_has i, ap one (ne_eqb j i other), so.as_in_m i (omega (arith, past, not_before)));
        }

-- Nothing is left: the looms from k on aren't in m.
pub none_left : (m k left : ℕ) → LeftFrom m k left → left ≡ 0 → (i : ℕ) → k ≤ i → bit m i ≡ 0
none_left m k left so none i past = sym (so.as_in_m i past) ∙ ap (λ (x : ℕ). bit x i) none ∙ bit_zero i
