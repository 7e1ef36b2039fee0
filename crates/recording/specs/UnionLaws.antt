-- Members of a union, of a set of one state, and of a set below a bound.
-- Assumes nothing.
use Rattle.std.specs.Prelude.{ℕ, ◌^◌, ◌≤◌, ◌<◌, ◌≡◌, ◌⊎◌}
use Rattle.std.proofs.Common.{◌∙◌, inl, inr, arith}
use Rattle.std.proofs.Math.Decide.{dec_le, ℕ_discrete}
use Rattle.std.specs.Int.Bits.{bit_or}
use Rattle.sets.specs.Sets.{bit}
use Rattle.sets.specs.SetsLaws.{bit_small, bit_beyond, below_by_members, bit_zero, bit-bit_or, bit_single_other}

-- A member of a union is a member of one of the two, and the other way round.
pub in_union : (a b q : ℕ) → bit (bit_or a b) q ≡ 1 → (bit a q ≡ 1) ⊎ (bit b q ≡ 1)
in_union a b q has = go (ℕ_discrete (bit a q) 1)
  where
    go : Dec (bit a q ≡ 1) → (bit a q ≡ 1) ⊎ (bit b q ≡ 1)
    go (yes there) = inl there
    go (no elsewhere) = inr (omega (arith, bit-bit_or a b q, bit_small a q, bit_small b q))

pub union_first : (a b q : ℕ) → bit a q ≡ 1 → bit (bit_or a b) q ≡ 1
union_first a b q has = omega (arith, bit-bit_or a b q, bit_small b q)

pub union_second : (a b q : ℕ) → bit b q ≡ 1 → bit (bit_or a b) q ≡ 1
union_second a b q has = omega (arith, bit-bit_or a b q, bit_small a q)

-- The one member of a set of one.
pub in_single : (p q : ℕ) → bit (2 ^ p) q ≡ 1 → p ≡ q
in_single p q has = go (ℕ_discrete p q)
  where
    go : Dec (p ≡ q) → p ≡ q
    go (yes same) = same
    go (no apart) = absurd (omega (arith, bit_single_other p q apart))

-- The empty set has no member.
pub empty_has_none : (q : ℕ) → bit 0 q ≡ 1 → ⊥
empty_has_none q has = omega (arith, bit_zero q)

-- A member of a set below 2 ^ k is below k.
pub member_below : (k w q : ℕ) → w < 2 ^ k → bit w q ≡ 1 → q < k
member_below k w q small has = go (dec_le k q)
  where
    go : Dec (k ≤ q) → q < k
    go (yes beyond) = absurd (omega (arith, bit_beyond k w q small beyond))
    go (no within) = omega arith

pub union_below : (k a b : ℕ) → a < 2 ^ k → b < 2 ^ k → bit_or a b < 2 ^ k
union_below k a b small other =
    below_by_members k (bit_or a b)
    (λ q past. bit-bit_or a b q ∙ omega (arith, bit_beyond k a q small past, bit_beyond k b q other past))

pub single_below : (k q : ℕ) → q < k → 2 ^ q < 2 ^ k
single_below k q within = below_by_members k (2 ^ q) (λ p past. bit_single_other q p (λ e. omega arith))
