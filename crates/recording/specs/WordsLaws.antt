-- The words of the area hold what source document 003 says: bit q of word m is set exactly when some order of exactly the looms in m,
-- a loom of X first, reaches q. So the union of the words of X is Q_X.
-- Assumes nothing.
use Rattle.std.specs.Prelude.{ℕ, zero, suc, ◌+◌, ◌-◌, ◌^◌, ◌≤◌, ◌<◌, ◌≡◌, ◌⊎◌, Bool, cond, length, List, [], ◌∷◌, ◌++◌}
use Rattle.std.proofs.Math.Path.{refl, subst}
use Rattle.std.proofs.Common.{sym, ap, ◌∙◌, inl, inr, not-suc-le-zero, add-one, arith}
use Rattle.std.proofs.Math.Logic.{⊎_elim}
use Rattle.std.proofs.Math.Bool.{true, false}
use Rattle.std.proofs.Math.Decide.{ℕ_discrete}
use Rattle.std.proofs.Math.Nat.{le_refl}
use borrow.Author.Tests.{eqb-true, eq-eqb, ne_eqb}
use Rattle.std.specs.Int.Bits.{bit_or}
use Rattle.std.proofs.Math.Dec.{eqb}
use Rattle.std.proofs.Math.ListN.{get_or, length-append, get_or-append}
use lib.Measure.{by_dom}
use Rattle.std.proofs.Math.Pow.{pow_pos}
use Rattle.std.proofs.lemmas.List.{get_or_at}
use lib.WfN.{lt-wf_rel}
use Rattle.sets.specs.Sets.{bit, has_of}
use Rattle.sets.specs.SetsLaws.{bit_small, bit_zero, bit_single_same}
use Rattle.recording.specs.declared.Seat.{Seat}
use Rattle.recording.specs.UnionLaws.{in_union, union_first, union_second, in_single, empty_has_none, member_below, union_below, single_below}
use Rattle.recording.specs.OrdersLaws.{single_digits, single_within, without, alone, times_end, reached_end, first_end, last_loom}
use Rattle.recording.specs.Recording.{operation_at, side_at, one, times, reached}
use Rattle.recording.specs.Words.{with_if, advanced, first_by, last_by, word_from, filled, SequenceOf, ReachedBy}

-- ---- a set moved by an operation
-- q is where a member of the set, below k, moves to.
abbrev pub MovedTo : (ℕ → ℕ) → ℕ → ℕ → ℕ → Type 0
MovedTo move set k q = (p : ℕ) × (p < k) × (bit set p ≡ 1) × (move p ≡ q)

-- One more state, as the code takes them in turn.
pub advanced_with : (move : ℕ → ℕ) (set k : ℕ) → has_of set k ≡ true
    → advanced move set (k + 1) ≡ bit_or (advanced move set k) (2 ^ move k)
unfolding advanced
advanced_with move set k has = rw (add-one k) (rw has refl)

pub advanced_past : (move : ℕ → ℕ) (set k : ℕ) → has_of set k ≡ false → advanced move set (k + 1) ≡ advanced move set k
unfolding advanced
advanced_past move set k lacks = rw (add-one k) (rw lacks refl)

one_further : (move : ℕ → ℕ) (set k q : ℕ) → MovedTo move set k q → MovedTo move set (suc k) q
one_further move set k q m = (m.0, omega (arith, m.1), m.2, m.3)

pub in_advanced : (move : ℕ → ℕ) (set k q : ℕ) → bit (advanced move set k) q ≡ 1 → MovedTo move set k q
unfolding advanced
in_advanced move set zero q has = absurd (empty_has_none q has)
in_advanced move set (suc k) q has = go (has_of set k) refl (in_advanced move set k q) has
  where
    go : (b : Bool) → has_of set k ≡ b → (bit (advanced move set k) q ≡ 1 → MovedTo move set k q)
        → bit (with_if b (advanced move set k) (move k)) q ≡ 1 → MovedTo move set (suc k) q
    go true e before h =
        ⊎_elim (λ old. one_further move set k q (before old))
        (λ new. (k, le_refl (suc k), eqb-true (bit set k) 1 e, in_single (move k) q new))
        (in_union (advanced move set k) (2 ^ move k) q h)
    go false e before h = one_further move set k q (before h)

-- What was there stays, and a member of the set brings the state that it moves to.
with_keeps : (b : Bool) (set p q : ℕ) → bit set q ≡ 1 → bit (with_if b set p) q ≡ 1
with_keeps true set p q has = union_first set (2 ^ p) q has
with_keeps false set p q has = has

pub advanced_has : (move : ℕ → ℕ) (set k p : ℕ) → p < k → bit set p ≡ 1 → bit (advanced move set k) (move p) ≡ 1
unfolding advanced
advanced_has move set zero p within has = absurd (not-suc-le-zero within)
advanced_has move set (suc k) p within has = go (ℕ_discrete p k) (λ less. advanced_has move set k p less has)
  where
    go : Dec (p ≡ k) → (p < k → bit (advanced move set k) (move p) ≡ 1)
        → bit (with_if (has_of set k) (advanced move set k) (move k)) (move p) ≡ 1
    go (yes same) before =
        rw (← same, eq-eqb (bit set p) 1 has) (union_second (advanced move set p) (2 ^ move p) (move p) (bit_single_same (move p)))
    go (no other) before = with_keeps (has_of set k) (advanced move set k) (move k) (move p) (before (omega arith))

-- A set moved stays below 2 ^ states where each of its states moves to a state.
pub advanced_below : (move : ℕ → ℕ) (set k states : ℕ) → ((p : ℕ) → p < k → move p < states) → advanced move set k < 2 ^ states
unfolding advanced
advanced_below move set zero states fits = pow_pos states
advanced_below move set (suc k) states fits =
    go (has_of set k) (advanced_below move set k states (λ p less. fits p (omega arith)))
  where
    go : (b : Bool) → advanced move set k < 2 ^ states → with_if b (advanced move set k) (move k) < 2 ^ states
    go true before = union_below states (advanced move set k) (2 ^ move k) before (single_below states (move k) (fits k (le_refl (suc k))))
    go false before = before

-- What holds of a number if it holds of all below it holds of every number.
by_less : (P : ℕ → Type 0) → ((m : ℕ) → ((k : ℕ) → k < m → P k) → P m) → (m : ℕ) → P m
by_less P step m = by_dom ◌<◌ P step m (lt-wf_rel.wf.apply m)

cond_below : (b : Bool) (k a c : ℕ) → a < k → c < k → cond b a c < k
cond_below true k a c small other = small
cond_below false k a c small other = other

-- The start is a state, and the looms' operations lead from states to states.
pub record Closed (next : ℕ → ℕ → ℕ) (looms : List Seat) (states start : ℕ) : Type 0 where
  pub start_fits : start < states
  pub steps_fit : (k q : ℕ) → k < length looms → q < states → next (operation_at looms k) q < states

-- ---- the last loom of an order of the looms in m
last_in : (m : ℕ) (vs : List ℕ) (v : ℕ) → ((i : ℕ) → times i (vs ++ (v ∷ [])) ≡ bit m i) → bit m v ≡ 1
last_in m vs v digits = omega (arith, digits v, times_end v vs v, bit_small m v, ap one (eq-eqb v v refl))

before_last : (m : ℕ) (vs : List ℕ) (v : ℕ) → bit m v ≡ 1 → ((i : ℕ) → times i (vs ++ (v ∷ [])) ≡ bit m i)
    → (i : ℕ) → times i vs ≡ bit (m - 2 ^ v) i
before_last m vs v has digits i = omega (arith, digits i, times_end i vs v, without m v has i)

not_alone : (m u : ℕ) (us : List ℕ) → m ≡ 0 → ((i : ℕ) → times i (u ∷ us) ≡ bit m i) → ⊥
not_alone m u us none digits =
    omega (arith, digits u, ap one (eq-eqb u u refl), ap (λ (x : ℕ). bit x u) none, bit_zero u)

module _ (next : ℕ → ℕ → ℕ) (looms : List Seat) (states start X : ℕ) where
  -- ---- the words in their list
  -- Word m by itself.
  unfoldable pub word_at : ℕ → ℕ
  word_at m = word_from next looms states start X (filled next looms states start X m) m (length looms)

  pub length_filled : (m : ℕ) → length (filled next looms states start X m) ≡ m
  unfolding filled
  length_filled zero = refl
  length_filled (suc m) = simp length-append (omega (arith, length_filled m))

  pub filled_at : (m k : ℕ) → k < m → get_or (filled next looms states start X m) k 0 ≡ word_at k
  unfolding filled word_at
  filled_at zero k within = absurd (not-suc-le-zero within)
  filled_at (suc m) k within = go (ℕ_discrete k m) (filled_at m k)
    where
      go : Dec (k ≡ m) → (k < m → get_or (filled next looms states start X m) k 0 ≡ word_at k)
          → get_or (filled next looms states start X (suc m)) k 0 ≡ word_at k
      go (yes same) before =
          rw same (get_or_at (filled next looms states start X m) (word_at m) [] 0 m (length_filled m))
      go (no other) before =
          get_or-append (filled next looms states start X m) (word_at m ∷ []) 0 k (omega (arith, length_filled m))
          ∙ before (omega arith)

  -- ---- what one loom adds, and what a word holds
  -- q comes to word m by loom j: as the first of the order, or after a state of the word without j.
  abbrev pub Brought : List ℕ → ℕ → ℕ → ℕ → Type 0
  Brought earlier m j q =
      ((m ≡ 2 ^ j) × (side_at looms j ≡ X) × (next (operation_at looms j) start ≡ q))
      ⊎ MovedTo (next (operation_at looms j)) (get_or earlier (m - 2 ^ j) 0) states q

  pub in_first : (j q : ℕ) → bit (first_by next looms states start X j) q ≡ 1
      → (side_at looms j ≡ X) × (next (operation_at looms j) start ≡ q)
  unfolding first_by
  in_first j q = go (eqb (side_at looms j) X) refl
    where
      go : (b : Bool) → eqb (side_at looms j) X ≡ b → bit (cond b (2 ^ next (operation_at looms j) start) 0) q ≡ 1
          → (side_at looms j ≡ X) × (next (operation_at looms j) start ≡ q)
      go true e has = (eqb-true (side_at looms j) X e, in_single (next (operation_at looms j) start) q has)
      go false e has = absurd (empty_has_none q has)

  pub in_last : (earlier : List ℕ) (m j q : ℕ) → bit (last_by next looms states start X earlier m j) q ≡ 1
      → (bit m j ≡ 1) × Brought earlier m j q
  unfolding last_by
  in_last earlier m j q = go (has_of m j) refl
    where
      moved : ℕ
      moved = advanced (next (operation_at looms j)) (get_or earlier (m - 2 ^ j) 0) states

      by : (b : Bool) → eqb m (2 ^ j) ≡ b → bit (cond b (first_by next looms states start X j) moved) q ≡ 1 → Brought earlier m j q
      by true e has = let first = in_first j q has in inl (eqb-true m (2 ^ j) e, first.0, first.1)
      by false e has = inr (in_advanced (next (operation_at looms j)) (get_or earlier (m - 2 ^ j) 0) states q has)

      go : (b : Bool) → has_of m j ≡ b
          → bit (cond b (cond (eqb m (2 ^ j)) (first_by next looms states start X j) moved) 0) q ≡ 1
          → (bit m j ≡ 1) × Brought earlier m j q
      go true e has = (eqb-true (bit m j) 1 e, by (eqb m (2 ^ j)) refl has)
      go false e has = absurd (empty_has_none q has)

  pub last_has_first : (earlier : List ℕ) (j : ℕ) → side_at looms j ≡ X
      → bit (last_by next looms states start X earlier (2 ^ j) j) (next (operation_at looms j) start) ≡ 1
  unfolding last_by first_by
  last_has_first earlier j side =
      rw (eq-eqb (bit (2 ^ j) j) 1 (bit_single_same j), eq-eqb (2 ^ j) (2 ^ j) refl, eq-eqb (side_at looms j) X side)
      (bit_single_same (next (operation_at looms j) start))

  pub last_has_moved : (earlier : List ℕ) (m j p : ℕ) → bit m j ≡ 1 → (m ≡ 2 ^ j → ⊥)
      → p < states → bit (get_or earlier (m - 2 ^ j) 0) p ≡ 1
      → bit (last_by next looms states start X earlier m j) (next (operation_at looms j) p) ≡ 1
  unfolding last_by
  last_has_moved earlier m j p has more within there =
      rw (eq-eqb (bit m j) 1 has, ne_eqb m (2 ^ j) more)
      (advanced_has (next (operation_at looms j)) (get_or earlier (m - 2 ^ j) 0) states p within there)

  pub in_word : (earlier : List ℕ) (m k q : ℕ) → bit (word_from next looms states start X earlier m k) q ≡ 1
      → (j : ℕ) × (j < k) × (bit (last_by next looms states start X earlier m j) q ≡ 1)
  unfolding word_from
  in_word earlier m zero q has = absurd (empty_has_none q has)
  in_word earlier m (suc k) q has =
      ⊎_elim (λ old. let j = in_word earlier m k q old in (j.0, omega (arith, j.1), j.2)) (λ new. (k, le_refl (suc k), new))
      (in_union (word_from next looms states start X earlier m k) (last_by next looms states start X earlier m k) q has)

  pub word_has : (earlier : List ℕ) (m k j q : ℕ) → j < k → bit (last_by next looms states start X earlier m j) q ≡ 1
      → bit (word_from next looms states start X earlier m k) q ≡ 1
  unfolding word_from
  word_has earlier m zero j q within has = absurd (not-suc-le-zero within)
  word_has earlier m (suc k) j q within has = go (ℕ_discrete j k) (λ less. word_has earlier m k j q less has)
    where
      rest : ℕ
      rest = word_from next looms states start X earlier m k

      go : Dec (j ≡ k) → (j < k → bit rest q ≡ 1) → bit (bit_or rest (last_by next looms states start X earlier m k)) q ≡ 1
      go (yes same) before =
          union_second rest (last_by next looms states start X earlier m k) q
          (subst (λ (i : ℕ). bit (last_by next looms states start X earlier m i) q ≡ 1) same has)
      go (no other) before = union_first rest (last_by next looms states start X earlier m k) q (before (omega arith))

  -- ---- soundness: whatever stands in word m, an order of exactly its looms reaches
  reached_first : (m j q : ℕ) → m ≡ 2 ^ j → side_at looms j ≡ X → next (operation_at looms j) start ≡ q → ReachedBy next looms start X m q
  reached_first m j q only side goes = (
    j ∷ [],
    record { looms_of_m = λ i. omega (arith, ap (λ (x : ℕ). bit x i) only, single_digits j i); first_of_X = side },
    goes,
  )

  reached_then : (m j p q : ℕ) → bit m j ≡ 1 → ReachedBy next looms start X (m - 2 ^ j) p → next (operation_at looms j) p ≡ q → ReachedBy next looms start X m q
  reached_then m j p q has before goes =
      let us = before.0 in (
        us ++ (j ∷ []),
        record {
          looms_of_m = λ i. times_end i us j ∙ omega (arith, before.1.looms_of_m i, without m j has i);
          first_of_X = first_end looms X us j before.1.first_of_X;
        },
        reached_end next looms start us j ∙ ap (next (operation_at looms j)) before.2 ∙ goes,
      )

  -- Without loom j a word is an earlier one.
  earlier_word : (m j : ℕ) → bit m j ≡ 1 → get_or (filled next looms states start X m) (m - 2 ^ j) 0 ≡ word_at (m - 2 ^ j)
  earlier_word m j has = filled_at m (m - 2 ^ j) (omega (arith, single_within m j has, pow_pos j))

  sound_step : (m : ℕ) → ((k : ℕ) → k < m → (p : ℕ) → bit (word_at k) p ≡ 1 → ReachedBy next looms start X k p)
      → (q : ℕ) → bit (word_at m) q ≡ 1 → ReachedBy next looms start X m q
  sound_step m before q has = go (unfold word_at in in_word earlier m (length looms) q has)
    where
      earlier : List ℕ
      earlier = filled next looms states start X m

      by : (j : ℕ) → bit m j ≡ 1 → Brought earlier m j q → ReachedBy next looms start X m q
      by j has (inl first) = reached_first m j q first.0 first.1 first.2
      by j has (inr moved) =
          reached_then m j moved.0 q has
          (before (m - 2 ^ j) (omega (arith, single_within m j has, pow_pos j)) moved.0
          (subst (λ (w : ℕ). bit w moved.0 ≡ 1) (earlier_word m j has) moved.2)) moved.3

      go : (j : ℕ) × (j < length looms) × (bit (last_by next looms states start X earlier m j) q ≡ 1) → ReachedBy next looms start X m q
      go j = let last = in_last earlier m j.0 q j.2 in by j.0 last.0 last.1

  pub word_sound : (m q : ℕ) → bit (word_at m) q ≡ 1 → ReachedBy next looms start X m q
  word_sound = by_less (λ (m : ℕ). (q : ℕ) → bit (word_at m) q ≡ 1 → ReachedBy next looms start X m q) sound_step

  -- ---- the bound: a word holds states alone
  pub last_below : Closed next looms states start → (earlier : List ℕ) (m j : ℕ) → j < length looms
      → last_by next looms states start X earlier m j < 2 ^ states
  unfolding last_by first_by
  last_below closed earlier m j within =
      cond_below (has_of m j) (2 ^ states)
      (cond (eqb m (2 ^ j)) (first_by next looms states start X j) (advanced move (get_or earlier (m - 2 ^ j) 0) states)) 0
      (cond_below (eqb m (2 ^ j)) (2 ^ states) (first_by next looms states start X j)
      (advanced move (get_or earlier (m - 2 ^ j) 0) states)
      (cond_below (eqb (side_at looms j) X) (2 ^ states) (2 ^ move start) 0
      (single_below states (move start) (closed.steps_fit j start within closed.start_fits)) (pow_pos states))
      (advanced_below move (get_or earlier (m - 2 ^ j) 0) states states (λ p. closed.steps_fit j p within)))
      (pow_pos states)
    where
      move : ℕ → ℕ
      move = next (operation_at looms j)

  pub word_below : Closed next looms states start → (earlier : List ℕ) (m k : ℕ) → k ≤ length looms
      → word_from next looms states start X earlier m k < 2 ^ states
  unfolding word_from
  word_below closed earlier m zero within = pow_pos states
  word_below closed earlier m (suc k) within =
      union_below states (word_from next looms states start X earlier m k) (last_by next looms states start X earlier m k)
      (word_below closed earlier m k (omega arith)) (last_below closed earlier m k within)

  -- ---- completeness: whatever an order of exactly the looms in m reaches stands in word m, by the order's last loom
  module _ (closed : Closed next looms states start) where
    complete_first : (m j : ℕ) → j < length looms → side_at looms j ≡ X → m ≡ 2 ^ j → bit (word_at m) (next (operation_at looms j) start) ≡ 1
    unfolding word_at
    complete_first m j within side only =
        word_has (filled next looms states start X m) m (length looms) j (next (operation_at looms j) start) within
        (rw only (last_has_first (filled next looms states start X (2 ^ j)) j side))

    complete_then : (m j p : ℕ) → j < length looms → bit m j ≡ 1 → (m ≡ 2 ^ j → ⊥) → bit (word_at (m - 2 ^ j)) p ≡ 1
        → bit (word_at m) (next (operation_at looms j) p) ≡ 1
    complete_then m j p within has more there =
        unfold word_at in word_has (filled next looms states start X m) m (length looms) j (next (operation_at looms j) p) within
        (last_has_moved (filled next looms states start X m) m j p has more
        (member_below states (word_at (m - 2 ^ j)) p (word_below closed (filled next looms states start X (m - 2 ^ j)) (m - 2 ^ j) (length looms) (le_refl (length looms))) there)
        (rw (earlier_word m j has) there))

    Complete : ℕ → Type 0
    Complete m = m < 2 ^ length looms → (us : List ℕ) → SequenceOf looms X m us → bit (word_at m) (reached next looms start us) ≡ 1

    complete_end : (m : ℕ) → ((k : ℕ) → k < m → Complete k) → m < 2 ^ length looms
        → (vs : List ℕ) (v : ℕ) → SequenceOf looms X m (vs ++ (v ∷ [])) → bit (word_at m) (reached next looms start (vs ++ (v ∷ []))) ≡ 1
    unfolding Complete
    complete_end m before small [] v order =
        complete_first m v (member_below (length looms) m v small (last_in m [] v order.looms_of_m)) order.first_of_X
        (alone m v (λ i. omega (arith, order.looms_of_m i)))
    complete_end m before small (u ∷ vs) v order =
        let has = last_in m (u ∷ vs) v order.looms_of_m in
        let rest = before_last m (u ∷ vs) v has order.looms_of_m in
        let less : m - 2 ^ v < m = omega (arith, single_within m v has, pow_pos v) in
        rw (reached_end next looms start (u ∷ vs) v)
        (complete_then m v (reached next looms start (u ∷ vs)) (member_below (length looms) m v small has) has
        (λ only. not_alone (m - 2 ^ v) u vs (omega arith) rest)
        (before (m - 2 ^ v) less (omega arith) (u ∷ vs) (record { looms_of_m = rest; first_of_X = order.first_of_X })))

    complete_step : (m : ℕ) → ((k : ℕ) → k < m → Complete k) → Complete m
    unfolding Complete
    complete_step m before small [] order = absurd order.first_of_X
    complete_step m before small (u ∷ us) order =
        let last = last_loom u us in
        subst (λ (l : List ℕ). bit (word_at m) (reached next looms start l) ≡ 1) (sym last.2)
        (complete_end m before small last.0 last.1 (subst (SequenceOf looms X m) last.2 order))

    pub word_complete : (m : ℕ) → m < 2 ^ length looms → (us : List ℕ) → SequenceOf looms X m us → bit (word_at m) (reached next looms start us) ≡ 1
    unfolding Complete
    word_complete = by_less Complete complete_step
