-- A set of states, kept as one number: document 01, "Cell and certificate".
-- No definition but `word_bits` speaks of a width: a set of one word and a set of four are the same definitions.
-- Assumes nothing.
use Rattle.std.specs.Prelude.{ℕ, zero, suc, ◌/◌, ◌%◌, ◌^◌, min, max, ◌≡◌, Bool, cond, ◌&&◌, List, [], ◌∷◌, ◌++◌, eqb, ltb, length, get_or}

-- "A set of states is kept as one 64-bit word." The digit of w at state q: 1 where q is in the set, else 0.
unfoldable pub bit : ℕ → ℕ → ℕ
bit w q = w / 2 ^ q % 2

-- The digits of a word.
abbrev pub word_bits : ℕ
word_bits = 64

-- State q is in the set w.
abbrev pub Member : ℕ → ℕ → Type 0
Member w q = bit w q ≡ 1

-- The same as a test. "A number beyond the word is in no set": its digit there is 0.
abbrev pub has_of : ℕ → ℕ → Bool
has_of w q = eqb (bit w q) 1

-- q alone where the digit is 1, nothing where it is 0
abbrev pub keep : ℕ → ℕ → List ℕ
keep zero q = []
keep (suc d) q = q ∷ []

-- The members of w below k, rising.
unfoldable pub members : ℕ → ℕ → List ℕ
members zero w = []
members (suc k) w = members k w ++ keep (bit w k) k

-- "Its size is the number of ones in it": how many members w has below k.
unfoldable pub size_of : ℕ → ℕ → ℕ
size_of k w = length (members k w)

-- "The lowest shared state is the count of zeros below the lowest one": the least member of w below k, and k where there is none.
unfoldable pub lowest_of : ℕ → ℕ → ℕ
lowest_of k w = get_or (members k w) 0 k

-- r holds the states of a and those of b, and no other.
unfoldable pub Union : ℕ → ℕ → ℕ → Type 0
Union a b r = (q : ℕ) → bit r q ≡ max (bit a q) (bit b q)

-- r holds the states that a and b have in common, and no other.
unfoldable pub Common : ℕ → ℕ → ℕ → Type 0
Common a b r = (q : ℕ) → bit r q ≡ min (bit a q) (bit b q)

-- r holds the states of w and, where q is below k, q. A state beyond the k digits of a word adds nothing.
unfoldable pub Inserted : ℕ → ℕ → ℕ → ℕ → Type 0
Inserted k w q r = (p : ℕ) → bit r p ≡ cond (ltb q k && eqb p q) 1 (bit w p)
