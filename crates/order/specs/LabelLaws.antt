-- A trimmed label is the label without its trailing spaces: only spaces are left off, and no space ends it.
-- Assumes nothing.
use Rattle.std.specs.Prelude.{ℕ, zero, suc, ◌+◌, ◌-◌, ◌≤◌, ◌<◌, ◌≡◌, refl, Bool, true, false, cond, List, eqb, get_or}
use Rattle.std.proofs.Common.{eq-or-lt_of_le, le_of_suc-le-suc, arith, sym, ap, ◌∙◌, ⊎_elim, eq-eqb, ne_eqb, eqb-true}
use Rattle.std.proofs.lemmas.Bool.{eqb-false}
use Rattle.order.specs.Label.{space, trimmed_of, by_side}

-- The last of some bytes is a space, or it isn't.
pub trimmed_space : (s : List ℕ) (n : ℕ) → 0 < n → get_or s (n - 1) 0 ≡ space → trimmed_of s n ≡ trimmed_of s (n - 1)
unfolding trimmed_of
trimmed_space s zero l h = absurd (omega arith)
trimmed_space s (suc k) l h =
    let e : suc k - 1 ≡ k = omega arith in
    rw (e, eq-eqb (get_or s k 0) space (rw e at h))

pub trimmed_ends : (s : List ℕ) (n : ℕ) → 0 < n → (get_or s (n - 1) 0 ≡ space → ⊥) → trimmed_of s n ≡ n
unfolding trimmed_of
trimmed_ends s zero l h = absurd (omega arith)
trimmed_ends s (suc k) l h =
    let e : suc k - 1 ≡ k = omega arith in
    let other : get_or s k 0 ≡ space → ⊥ = rw e at h in
    rw (ne_eqb (get_or s k 0) space other)

pub trimmed_none : (s : List ℕ) (n : ℕ) → n ≤ 0 → trimmed_of s n ≡ 0
unfolding trimmed_of
trimmed_none s zero h = refl
trimmed_none s (suc k) h = absurd (omega arith)

-- What is left ends at the last byte that isn't a space; nothing is left of spaces alone.
pub trimmed_at : (s : List ℕ) (n k : ℕ) → k < n → (get_or s k 0 ≡ space → ⊥) → ((j : ℕ) → k < j → j < n → get_or s j 0 ≡ space)
    → trimmed_of s n ≡ k + 1
unfolding trimmed_of
trimmed_at s zero k l here past = absurd (omega arith)
trimmed_at s (suc n) k l here past =
    ⊎_elim (λ (e : k ≡ n). rw (ne_eqb (get_or s n 0) space (rw e at here)) (omega arith))
    (λ (b : k < n). rw (eq-eqb (get_or s n 0) space (past n b (omega arith))) (trimmed_at s n k b here (λ j m u. past j m (omega arith))))
    (eq-or-lt_of_le (le_of_suc-le-suc l))

pub trimmed_all : (s : List ℕ) (n : ℕ) → ((j : ℕ) → j < n → get_or s j 0 ≡ space) → trimmed_of s n ≡ 0
unfolding trimmed_of
trimmed_all s zero each = refl
trimmed_all s (suc n) each = rw (eq-eqb (get_or s n 0) space (each n (omega arith))) (trimmed_all s n (λ j l. each j (omega arith)))

-- By the last of suc k bytes: a space, or not.
module _ (s : List ℕ) (k : ℕ) where
  most_by : (t : Bool) → trimmed_of s k ≤ k → cond t (trimmed_of s k) (suc k) ≤ suc k
  most_by true h = omega arith
  most_by false h = omega arith

  off_by : (t : Bool) (j : ℕ) → eqb (get_or s k 0) space ≡ t → (trimmed_of s k ≤ j → j < k → get_or s j 0 ≡ space)
      → cond t (trimmed_of s k) (suc k) ≤ j → j < suc k → get_or s j 0 ≡ space
  off_by true j e before h l =
      ⊎_elim (λ (b : j ≡ k). ap (λ (i : ℕ). get_or s i 0) b ∙ eqb-true (get_or s k 0) space e) (λ (b : j < k). before h b) (eq-or-lt_of_le (le_of_suc-le-suc l))
  off_by false j e before h l = absurd (omega arith)

  ends_by : (t : Bool) (j : ℕ) → eqb (get_or s k 0) space ≡ t → (trimmed_of s k ≡ suc j → get_or s j 0 ≡ space → ⊥)
      → cond t (trimmed_of s k) (suc k) ≡ suc j → get_or s j 0 ≡ space → ⊥
  ends_by true j e before h l = before h l
  ends_by false j e before h l =
      let same : j ≡ k = omega arith in
      eqb-false (get_or s k 0) space e (ap (λ (i : ℕ). get_or s i 0) (sym same) ∙ l)

-- What is left is no longer than what there was; what is left off is spaces; and no space ends what is left.
pub trimmed_most : (s : List ℕ) (n : ℕ) → trimmed_of s n ≤ n
unfolding trimmed_of
trimmed_most s zero = omega arith
trimmed_most s (suc k) = most_by s k (eqb (get_or s k 0) space) (trimmed_most s k)

pub left_off_spaces : (s : List ℕ) (n j : ℕ) → trimmed_of s n ≤ j → j < n → get_or s j 0 ≡ space
unfolding trimmed_of
left_off_spaces s zero j h l = absurd (omega arith)
left_off_spaces s (suc k) j h l = off_by s k (eqb (get_or s k 0) space) j refl (left_off_spaces s k j) h l

pub ends_in_no_space : (s : List ℕ) (n j : ℕ) → trimmed_of s n ≡ suc j → get_or s j 0 ≡ space → ⊥
unfolding trimmed_of
ends_in_no_space s zero j h l = let z : ◌≡◌ {A = ℕ} 0 (suc j) = h in omega arith
ends_in_no_space s (suc k) j h l = ends_by s k (eqb (get_or s k 0) space) j refl (ends_in_no_space s k j) h l

-- A side number that is neither 0 nor 1.
pub other_side : {A : Type 0} (side : ℕ) (a b other : A) → (side ≡ 0 → ⊥) → (side ≡ 1 → ⊥) → by_side side a b other ≡ other
other_side zero a b other h k = absurd (h refl)
other_side (suc zero) a b other h k = absurd (k refl)
other_side (suc (suc n)) a b other h k = refl
