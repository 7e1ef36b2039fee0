-- Nothing else meets the contracts of `src/lib.rt`: what each says of a result determines the result.
-- Assumes nothing.
use Rattle.std.specs.Prelude.{ℕ, ◌≡◌, Bool}
use Rattle.std.proofs.Common.{sym, ◌∙◌}
use Rattle.sets.specs.Sets.{has_of, Union, Common, Inserted, size_of, lowest_of, word_bits}
use Rattle.sets.specs.SetsLaws.{equal_members}

pub only-has : (set state : ℕ) (r s : Bool) → r ≡ has_of set state → s ≡ has_of set state → r ≡ s
only-has set state r s p q = p ∙ sym q

pub only-union : (a b r s : ℕ) → Union a b r → Union a b s → r ≡ s
unfolding Union
only-union a b r s p q = equal_members r s (λ state. p state ∙ sym (q state))

pub only-common : (a b r s : ℕ) → Common a b r → Common a b s → r ≡ s
unfolding Common
only-common a b r s p q = equal_members r s (λ state. p state ∙ sym (q state))

pub only-insert : (set state r s : ℕ) → Inserted word_bits set state r → Inserted word_bits set state s → r ≡ s
unfolding Inserted
only-insert set state r s p q = equal_members r s (λ other. p other ∙ sym (q other))

pub only-size : (set r s : ℕ) → r ≡ size_of word_bits set → s ≡ size_of word_bits set → r ≡ s
only-size set r s p q = p ∙ sym q

pub only-lowest : (set r s : ℕ) → r ≡ lowest_of word_bits set → s ≡ lowest_of word_bits set → r ≡ s
only-lowest set r s p q = p ∙ sym q
