-- What each code of the verdict says of the two sets, both ways.
-- Assumes nothing.
use Rattle.std.specs.Prelude.{ℕ, ◌^◌, ◌<◌, ◌≡◌, refl, Bool, true, false, not, Ok, Err, ◌&&◌, ◌⊎◌, eqb}
use Rattle.std.proofs.Common.{sym, ap, subst, ◌∙◌, inl, inr, lt_of_le_of_lt, arith, eq-eqb, ne_eqb}
use Rattle.std.proofs.Math.Decide.{ℕ_discrete, dec_lt}
use Rattle.std.specs.Int.Bits.{bit_and}
use Rattle.std.proofs.lemmas.Nat.{and_le_l}
use Rattle.codes.specs.declared.Code.{Code}
use Rattle.codes.specs.declared.Code.TheVariants.{SharedState, ReturnsToA, ReturnsToB}
use Rattle.codes.specs.Codes as codes
use Rattle.codes.specs.Codes.{number_of, refused_at}
use Rattle.sets.specs.Sets.{bit, has_of, lowest_of, word_bits}
use Rattle.sets.specs.MembersLaws.{Lowest, lowest_is_lowest}
use Rattle.sets.specs.SetsLaws.{bit_small, bit_beyond, bit_zero, bit-bit_and, equal_members}
use Rattle.recording.specs.declared.Judged.{Judged}
use Rattle.recording.specs.Check.{judgement, comes_back, verdict_of}
use Rattle.recording.specs.CheckLaws.{verdict_shared, verdict_returns_A, verdict_returns_B, verdict_accepted}

-- ---- what the tests say
-- A state that two sets have in common, and two sets with none.
abbrev pub Shared : ℕ → ℕ → Type 0
Shared a b = (q : ℕ) × (bit a q ≡ 1) × (bit b q ≡ 1)

abbrev pub Apart : ℕ → ℕ → Type 0
Apart a b = (q : ℕ) → bit a q ≡ 1 → bit b q ≡ 1 → ⊥

-- The start is in a set, and the other side has not one loom.
abbrev pub Back : ℕ → ℕ → ℕ → Type 0
Back start set others = (bit set start ≡ 1) × (others ≡ 1 → ⊥)

abbrev pub Away : ℕ → ℕ → ℕ → Type 0
Away start set others = (bit set start ≡ 1 → ⊥) ⊎ (others ≡ 1)

common_none : (a b : ℕ) → Apart a b → bit_and a b ≡ 0
common_none a b apart = equal_members (bit_and a b) 0 (λ q. bit-bit_and a b q ∙ none q ∙ sym (bit_zero q))
  where
    none : (q : ℕ) → Prim.Native.Nat.min (bit a q) (bit b q) ≡ 0
    none q =
        elim (ℕ_discrete (bit a q) 1) [
          | yes in_a ↦ elim (ℕ_discrete (bit b q) 1) [ yes in_b ↦ absurd (apart q in_a in_b) | no out ↦ omega (arith, bit_small b q) ]
          | no out ↦ omega (arith, bit_small a q)
        ]

in_common : (a b q : ℕ) → bit (bit_and a b) q ≡ 1 → (bit a q ≡ 1) × (bit b q ≡ 1)
in_common a b q has = omega (arith, bit-bit_and a b q, bit_small a q, bit_small b q)

common_has : (a b : ℕ) → Shared a b → bit_and a b ≡ 0 → ⊥
common_has a b shared none =
    omega (arith, bit-bit_and a b shared.0, shared.1, shared.2, ap (λ (w : ℕ). bit w shared.0) none, bit_zero shared.0)

apart_of_none : (a b : ℕ) → bit_and a b ≡ 0 → Apart a b
apart_of_none a b none q in_a in_b = common_has a b (q, in_a, in_b) none

comes_back_lem : (start set others : ℕ) → Back start set others → comes_back start set others ≡ true
comes_back_lem start set others back = rw (eq-eqb (bit set start) 1 back.0, ne_eqb others 1 back.1)

stays_away : (start set others : ℕ) → Away start set others → comes_back start set others ≡ false
stays_away start set others (inl out) = rw (ne_eqb (bit set start) 1 out)
stays_away start set others (inr one) = go (has_of set start)
  where
    go : (t : Bool) → t && not (eqb others 1) ≡ false
    go true = rw (eq-eqb others 1 one)
    go false = refl

away_or_back : (start set others : ℕ) → Away start set others ⊎ Back start set others
away_or_back start set others =
    elim (ℕ_discrete (bit set start) 1) [
      | yes there ↦ elim (ℕ_discrete others 1) [ yes one ↦ inl (inr one) | no more ↦ inr (there, more) ]
      | no out ↦ inl (inl out)
    ]

-- The lowest state of a set that isn't empty is in it.
pub lowest_there : (k w : ℕ) → w < 2 ^ k → (w ≡ 0 → ⊥) → bit w (lowest_of k w) ≡ 1
lowest_there k w small some = go (dec_lt (lowest_of k w) k)
  where
    low : Lowest k w (lowest_of k w)
    low = lowest_is_lowest k w

    none : (lowest_of k w < k → ⊥) → (q : ℕ) → bit w q ≡ 0
    none past q =
        elim (dec_lt q k) [
          | yes within ↦ low.none_below q (omega arith)
          | no beyond ↦ bit_beyond k w q small (omega arith)
        ]

    go : Dec (lowest_of k w < k) → bit w (lowest_of k w) ≡ 1
    go (yes within) = low.is_member within
    go (no past) = absurd (some (equal_members w 0 (λ q. none past q ∙ sym (bit_zero q))))

-- ---- the verdict
-- What each outcome says, and its place.
pub data Verdict (start of_a of_b a b : ℕ) : codes.Verdict → Type 0 where
  both_have : Shared a b → Verdict start of_a of_b a b (Err (refused_at SharedState (lowest_of word_bits (bit_and a b))))
  back_to_A : Apart a b → Back start a of_b → Verdict start of_a of_b a b (Err (refused_at ReturnsToA start))
  back_to_B : Apart a b → Away start a of_b → Back start b of_a → Verdict start of_a of_b a b (Err (refused_at ReturnsToB start))
  recorded : Apart a b → Away start a of_b → Away start b of_a → Verdict start of_a of_b a b (Ok tt)

-- What an answer comes to.
abbrev pub outcome_in : Judged → codes.Verdict
outcome_in j = j.outcome

module _ (start of_a of_b a b : ℕ) where
  pub when_shared : Shared a b → verdict_of start of_a of_b a b ≡ judgement (Err (refused_at SharedState (lowest_of word_bits (bit_and a b)))) a b
  when_shared shared = verdict_shared start of_a of_b a b (common_has a b shared)

  pub when_back_to_A : Apart a b → Back start a of_b → verdict_of start of_a of_b a b ≡ judgement (Err (refused_at ReturnsToA start)) a b
  when_back_to_A apart back = verdict_returns_A start of_a of_b a b (common_none a b apart) (comes_back_lem start a of_b back)

  pub when_back_to_B : Apart a b → Away start a of_b → Back start b of_a → verdict_of start of_a of_b a b ≡ judgement (Err (refused_at ReturnsToB start)) a b
  when_back_to_B apart away back =
      verdict_returns_B start of_a of_b a b (common_none a b apart) (stays_away start a of_b away) (comes_back_lem start b of_a back)

  pub when_recorded : Apart a b → Away start a of_b → Away start b of_a → verdict_of start of_a of_b a b ≡ judgement (Ok tt) a b
  when_recorded apart away off =
      verdict_accepted start of_a of_b a b (common_none a b apart) (stays_away start a of_b away) (stays_away start b of_a off)

  module _ (small : a < 2 ^ word_bits) where
    common_small : bit_and a b < 2 ^ word_bits
    common_small = lt_of_le_of_lt (and_le_l a b) small

    -- Where a state is shared, the lowest one is.
    pub lowest_shared : Shared a b
        → (bit a (lowest_of word_bits (bit_and a b)) ≡ 1) × (bit b (lowest_of word_bits (bit_and a b)) ≡ 1)
        × ((q : ℕ) → q < lowest_of word_bits (bit_and a b) → bit a q ≡ 1 → bit b q ≡ 1 → ⊥)
    lowest_shared shared =
        let there = in_common a b (lowest_of word_bits (bit_and a b)) (lowest_there word_bits (bit_and a b) common_small (common_has a b shared)) in (
          there.0,
          there.1,
          λ q lower in_a in_b. omega (arith, bit-bit_and a b q, (lowest_is_lowest word_bits (bit_and a b)).none_below q lower),
        )

    pub verdict_says : Verdict start of_a of_b a b (verdict_of start of_a of_b a b).outcome
    verdict_says = go (ℕ_discrete (bit_and a b) 0)
      where
        at : (j : Judged) → verdict_of start of_a of_b a b ≡ j → Verdict start of_a of_b a b j.outcome
            → Verdict start of_a of_b a b (verdict_of start of_a of_b a b).outcome
        at j e v = subst (Verdict start of_a of_b a b) (ap outcome_in (sym e)) v

        last : Apart a b → Away start a of_b → (Away start b of_a ⊎ Back start b of_a) → Verdict start of_a of_b a b (verdict_of start of_a of_b a b).outcome
        last apart away (inl off) = at (judgement (Ok tt) a b) (when_recorded apart away off) (recorded apart away off)
        last apart away (inr back) = at (judgement (Err (refused_at ReturnsToB start)) a b) (when_back_to_B apart away back) (back_to_B apart away back)

        next : Apart a b → (Away start a of_b ⊎ Back start a of_b) → Verdict start of_a of_b a b (verdict_of start of_a of_b a b).outcome
        next apart (inl away) = last apart away (away_or_back start b of_a)
        next apart (inr back) = at (judgement (Err (refused_at ReturnsToA start)) a b) (when_back_to_A apart back) (back_to_A apart back)

        go : Dec (bit_and a b ≡ 0) → Verdict start of_a of_b a b (verdict_of start of_a of_b a b).outcome
        go (yes none) = next (apart_of_none a b none) (away_or_back start a of_b)
        go (no some) =
            let there = in_common a b (lowest_of word_bits (bit_and a b)) (lowest_there word_bits (bit_and a b) common_small some) in
            let shared : Shared a b = (lowest_of word_bits (bit_and a b), there.0, there.1) in
            at (judgement (Err (refused_at SharedState (lowest_of word_bits (bit_and a b)))) a b) (when_shared shared) (both_have shared)

-- Whatever it comes to, the sets are given.
pub verdict_gives : (start of_a of_b a b : ℕ) → ((verdict_of start of_a of_b a b).sets.a ≡ a) × ((verdict_of start of_a of_b a b).sets.b ≡ b)
unfolding verdict_of
verdict_gives start of_a of_b a b = (refl, refl)

-- One refusal has one code and one place.
abbrev number_in : codes.Verdict → ℕ
number_in (Ok done) = 0
number_in (Err refusal) = number_of refusal.code

abbrev place_in : codes.Verdict → ℕ
place_in (Ok done) = 0
place_in (Err refusal) = refusal.place

module _ {code other : Code} {p q : ℕ} (e : ◌≡◌ {A = codes.Verdict} (Err (refused_at code p)) (Err (refused_at other q))) where
  same_number : number_of code ≡ number_of other
  same_number = ap number_in e

  pub same_place : p ≡ q
  same_place = ap place_in e

-- An outcome taken back to what it says.
module _ {start of_a of_b a b : ℕ} where
  pub says_shared : {o : codes.Verdict} {place : ℕ} → Verdict start of_a of_b a b o → o ≡ Err (refused_at SharedState place) → Shared a b
  says_shared (both_have shared) e = shared
  says_shared (back_to_A apart back) e = absurd (omega (arith, same_number e))
  says_shared (back_to_B apart away back) e = absurd (omega (arith, same_number e))
  says_shared (recorded apart away off) e = cc

  pub says_back_to_A : {o : codes.Verdict} {place : ℕ} → Verdict start of_a of_b a b o → o ≡ Err (refused_at ReturnsToA place) → Apart a b × Back start a of_b
  says_back_to_A (both_have shared) e = absurd (omega (arith, same_number e))
  says_back_to_A (back_to_A apart back) e = (apart, back)
  says_back_to_A (back_to_B apart away back) e = absurd (omega (arith, same_number e))
  says_back_to_A (recorded apart away off) e = cc

  pub says_back_to_B : {o : codes.Verdict} {place : ℕ} → Verdict start of_a of_b a b o → o ≡ Err (refused_at ReturnsToB place) → Apart a b × Back start b of_a
  says_back_to_B (both_have shared) e = absurd (omega (arith, same_number e))
  says_back_to_B (back_to_A apart back) e = absurd (omega (arith, same_number e))
  says_back_to_B (back_to_B apart away back) e = (apart, back)
  says_back_to_B (recorded apart away off) e = cc

  pub says_recorded : {o : codes.Verdict} → Verdict start of_a of_b a b o → o ≡ Ok tt → Apart a b × Away start a of_b × Away start b of_a
  says_recorded (both_have shared) e = cc
  says_recorded (back_to_A apart back) e = cc
  says_recorded (back_to_B apart away back) e = cc
  says_recorded (recorded apart away off) e = (apart, away, off)
