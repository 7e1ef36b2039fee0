-- The fill, one word more: what the loop over the words keeps.
-- Assumes nothing.
use Rattle.std.specs.Prelude.{ℕ, zero, suc, ◌+◌, ◌-◌, ◌^◌, ◌≤◌, ◌<◌, ◌≡◌, Bool, true, false, List, [], ◌∷◌, ◌++◌, eqb, length, get_or, drop, set}
use Rattle.std.proofs.Math.Path.{refl, ap₂}
use Rattle.std.proofs.Common.{sym, ap, ◌∙◌, le_of_eq, add-one, arith, eqb-true, pow_pos, drop-cons}
use Rattle.std.proofs.Math.Bool.{cond}
use Rattle.std.specs.Int.Bits.{bit_or}
use Rattle.std.proofs.Math.ListN.{get_or-append}
use Rattle.std.proofs.Math.Seq.{append_snoc}
use Rattle.std.proofs.lemmas.List.{set_at}
use Rattle.sets.specs.Sets.{bit, has_of}
use Rattle.cell.specs.Table.{entry_of}
use Rattle.recording.specs.declared.Seat.{Seat}
use Rattle.recording.specs.Fitting.{words_to, word_by}
use Rattle.recording.specs.OrdersLaws.{single_within}
use Rattle.recording.specs.Recording.{operation_at}
use Rattle.recording.proofs.SetLaws.{union_end}
use Rattle.recording.specs.Words.{advanced, union_of, first_by, last_by, word_from, filled}
use Rattle.recording.specs.WordsLaws.{length_filled}

-- Word m looks at the words below m alone.
module _ (next : ℕ → ℕ → ℕ) (looms : List Seat) (states start X : ℕ) (earlier rest : List ℕ) (m : ℕ) (enough : m ≤ length earlier) where
  last_by_prefix : (j : ℕ)
      → last_by next looms states start X (earlier ++ rest) m j ≡ last_by next looms states start X earlier m j
  unfolding last_by
  last_by_prefix j = go (has_of m j) refl
    where
      by : ℕ → ℕ
      by word = cond (eqb m (2 ^ j)) (first_by next looms states start X j) (advanced (next (operation_at looms j)) word states)

      go : (b : Bool) → has_of m j ≡ b
          → cond b (by (get_or (earlier ++ rest) (m - 2 ^ j) 0)) 0 ≡ cond b (by (get_or earlier (m - 2 ^ j) 0)) 0
      go true has =
          ap by
          (get_or-append earlier rest 0 (m - 2 ^ j)
          (omega (arith, single_within m j (eqb-true (bit m j) 1 has), pow_pos j)))
      go false lacks = refl

  pub word_by_prefix : (k : ℕ)
      → word_from next looms states start X (earlier ++ rest) m k ≡ word_from next looms states start X earlier m k
  unfolding word_from
  word_by_prefix zero = refl
  word_by_prefix (suc k) = ap₂ bit_or (word_by_prefix k) (last_by_prefix k)

module _ (table : List ℕ) (states : ℕ) (looms : List Seat) (start X m : ℕ) where
  pub words_length : length (words_to table states looms start X m) ≡ m
  words_length = length_filled (entry_of table states) looms states start X m

  -- The words below m + 1 are those below m and the word that the code makes of them, whatever stands behind.
  words_more : (rest : List ℕ)
      → words_to table states looms start X (m + 1)
      ≡ words_to table states looms start X m
      ++ (word_by table states looms start X (words_to table states looms start X m ++ rest) m (length looms) ∷ [])
  unfolding filled
  words_more rest =
      rw (add-one m)
      (ap (λ (w : ℕ). words_to table states looms start X m ++ (w ∷ []))
      (sym (word_by_prefix (entry_of table states) looms states start X (words_to table states looms start X m) rest m
      (le_of_eq (sym words_length)) (length looms))))

  module _ (before : List ℕ) (within : m < length before) (area : List ℕ)
      (so_far : area ≡ words_to table states looms start X m ++ drop m before)
      (w : ℕ) (made : w ≡ word_by table states looms start X area m (length looms)) where
    one_more : words_to table states looms start X (m + 1) ≡ words_to table states looms start X m ++ (w ∷ [])
    one_more =
        words_more (drop m before)
        ∙ ap (λ (x : ℕ). words_to table states looms start X m ++ (x ∷ []))
        (ap (λ (l : List ℕ). word_by table states looms start X l m (length looms)) (sym so_far) ∙ sym made)

    pub fill_more : set area m w ≡ words_to table states looms start X (m + 1) ++ drop (m + 1) before
    fill_more =
        ap (λ (l : List ℕ). set l m w) (so_far ∙ ap (λ (l : List ℕ). words_to table states looms start X m ++ l) (drop-cons before m 0 within))
        ∙ set_at (words_to table states looms start X m) (get_or before m 0) (drop (suc m) before) w m words_length
        ∙ sym (append_snoc (words_to table states looms start X m) w (drop (suc m) before))
        ∙ ap₂ (λ (l k : List ℕ). l ++ k) (sym one_more) (ap (λ (i : ℕ). drop i before) (sym (add-one m)))

    pub union_more : (so : ℕ) → so ≡ union_of 0 (words_to table states looms start X m) → bit_or so w ≡ union_of 0 (words_to table states looms start X (m + 1))
    union_more so e =
        ap (λ (x : ℕ). bit_or x w) e ∙ sym (union_end 0 (words_to table states looms start X m) w) ∙ ap (union_of 0) (sym one_more)
