-- Past 2 to 9 no lookup of the check is refused; and what the looms of a word add to it, one by one.
-- Assumes nothing.
use Rattle.std.specs.Prelude.{ℕ, zero, suc, ◌+◌, ◌-◌, ◌^◌, ◌≤◌, ◌<◌, ◌≡◌, true, Some, List, get_or}
use Rattle.std.proofs.Math.Path.{sym, ap}
use Rattle.std.proofs.Common.{ap₂, ◌∙◌, add-zero, add-suc, add-one, arith}
use Rattle.std.proofs.Math.Bool.{false}
use borrow.Author.Tests.{eq-eqb, ne_eqb}
use Rattle.std.specs.Int.Bits.{bit_or, or_zero_r}
use Rattle.sets.specs.Sets.{bit, has_of, Inserted, word_bits}
use Rattle.sets.specs.SetsLaws.{inserted_is}
use Rattle.cell.specs.Table.{entry_of, next_of}
use Rattle.recording.specs.declared.Seat.{Seat}
use Rattle.recording.specs.Fitting.{Steps, word_by, added_by}
use Rattle.recording.specs.Recording.{empty_seat}
use Rattle.recording.specs.Words.{first_by, last_by, word_from}

module _ (table : List ℕ) (states operation q : ℕ) (steps : Steps table states operation) (state : q < states) where
  -- The state that the lookup answers, put into a set.
  pub put_next : (to set r : ℕ) → Some to ≡ next_of table states operation q
      → Inserted word_bits set to r → r ≡ bit_or set (2 ^ entry_of table states operation q)
  put_next to set r looked put =
      let same : to ≡ entry_of table states operation q = cc (steps.found q state) in
      inserted_is word_bits set to r put (omega (arith, steps.few, steps.leads q state)) ∙ ap (λ (p : ℕ). bit_or set (2 ^ p)) same

-- What a loom of word m adds to it, by its seat; a loom that isn't in m adds nothing.
module _ (table : List ℕ) (states : ℕ) (looms : List Seat) (start X : ℕ) (earlier : List ℕ) (m : ℕ) where
  last_lacking : (j : ℕ) → has_of m j ≡ false → last_by (entry_of table states) looms states start X earlier m j ≡ 0
  unfolding last_by
  last_lacking j lacks = rw lacks

  last_added : (j : ℕ) → has_of m j ≡ true
      → last_by (entry_of table states) looms states start X earlier m j
      ≡ added_by table states (get_or looms j empty_seat) start X earlier m (2 ^ j)
  unfolding last_by first_by
  last_added j has = rw has

  -- Looms that aren't in m may be left out.
  pub word_skips : (k d : ℕ) → ((i : ℕ) → k ≤ i → i < k + d → bit m i ≡ 0)
      → word_by table states looms start X earlier m (k + d) ≡ word_by table states looms start X earlier m k
  unfolding word_from
  word_skips k zero none = ap (word_by table states looms start X earlier m) (add-zero k)
  word_skips k (suc d) none =
      let lacks : has_of m (k + d) ≡ false = ne_eqb (bit m (k + d)) 1 (λ e. omega (arith, none (k + d) (omega arith) (omega arith))) in
      rw (add-suc k d)
      (ap (bit_or (word_by table states looms start X earlier m (k + d))) (last_lacking (k + d) lacks)
      ∙ or_zero_r (word_by table states looms start X earlier m (k + d))
      ∙ word_skips k d (λ i past below. none i past (omega (arith, below))))

  -- From loom k on, the next loom of m is j: one loom more.
  pub word_more : (k j set added : ℕ) → k ≤ j → bit m j ≡ 1 → ((i : ℕ) → k ≤ i → i < j → bit m i ≡ 0)
      → set ≡ word_by table states looms start X earlier m k
      → added ≡ added_by table states (get_or looms j empty_seat) start X earlier m (2 ^ j)
      → bit_or set added ≡ word_by table states looms start X earlier m (j + 1)
  unfolding word_from
  word_more k j set added past has none so by =
      let there : k + (j - k) ≡ j = omega (arith, past) in
      rw (add-one j)
      (ap₂ bit_or
      (so ∙ sym (word_skips k (j - k) (λ i above below. none i above (omega (arith, past, below)))) ∙ ap (word_by table states looms start X earlier m) there)
      (by ∙ sym (last_added j (eq-eqb (bit m j) 1 has))))
