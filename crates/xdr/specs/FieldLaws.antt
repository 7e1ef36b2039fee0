-- What a word, a field, a run and the file's end take, and what they refuse.
-- Assumes nothing.
use Rattle.std.specs.Prelude.{ℕ, zero, suc, ◌+◌, ◌-◌, ◌*◌, ◌^◌, ◌≤◌, ◌<◌, ◌≡◌, refl, Bool, true, false, cond, List, leb, ltb, length, get_or, Ok, Err}
use Rattle.std.proofs.Common.{zero-mul, suc-mul, sub-one, arith, sym, ap, ◌∙◌, leb-true, ltb-true, le-leb, lt-ltb, le-ltb}
use Rattle.std.proofs.Math.Bool.{and-eq-true_iff}
use Rattle.std.proofs.lemmas.Bool.{lt-leb}
use Rattle.codes.specs.declared.Refused.{Refused}
use Rattle.codes.specs.Codes.{refused_at}
use Rattle.xdr.specs.Field.{FieldWith, joined, word_fits, word_at, within, judged_with, field_with, Passed, and_then, run, end_with}

-- The word at a position within the file, and past its end.
pub word_inside : (s : List ℕ) (p : ℕ) → p + 4 ≤ length s
    → word_at s p ≡ joined (get_or s p 0) (get_or s (p + 1) 0) (get_or s (p + 2) 0) (get_or s (p + 3) 0)
unfolding word_at
word_inside s p h = simp (le-leb (p + 4) (length s) h)

pub word_past : (s : List ℕ) (p : ℕ) → length s < p + 4 → word_at s p ≡ 0
unfolding word_at
word_past s p h = simp (lt-leb (p + 4) (length s) h)

-- A word of a file of bytes is below 2 ^ 32, wherever it stands.
pub word_small : (s : List ℕ) (p : ℕ) → ((i : ℕ) → get_or s i 0 < 256) → word_at s p < 2 ^ 32
unfolding word_at
word_small s p bytes = go (word_fits s p)
  where
    go : (fits : Bool) → cond fits (joined (get_or s p 0) (get_or s (p + 1) 0) (get_or s (p + 2) 0) (get_or s (p + 3) 0)) 0 < 2 ^ 32
    go true = omega (arith, bytes p, bytes (p + 1), bytes (p + 2), bytes (p + 3))
    go false = omega arith

-- A value within limits, below them, at or past their end; and back.
pub within_takes : (low end v : ℕ) → low ≤ v → v < end → within low end v ≡ true
unfolding within
within_takes low end v l h = simp (le-leb low v l, lt-ltb v end h)

pub within_low : (low end v : ℕ) → v < low → within low end v ≡ false
unfolding within
within_low low end v l = simp (lt-leb low v l)

pub within_high : (low end v : ℕ) → low ≤ v → end ≤ v → within low end v ≡ false
unfolding within
within_high low end v l h = simp (le-leb low v l, le-ltb v end h)

pub within_taken : (low end v : ℕ) → within low end v ≡ true → (low ≤ v) × (v < end)
unfolding within
within_taken low end v h =
    let parts = (and-eq-true_iff (leb low v) (ltb v end)).0 h in (leb-true low v parts.0, ltb-true v end parts.1)

-- What a judged field takes, and what it refuses: its end past the file's first, then its test.
module _ {C : Type 0} (ends : C) (reaches passes : Bool) (v : ℕ) (code : C) (p : ℕ) where
  pub judged_takes : reaches ≡ true → passes ≡ true → judged_with ends reaches passes v code p ≡ Ok v
  judged_takes f t = simp (f, t)

  pub judged_refuses : reaches ≡ true → passes ≡ false → judged_with ends reaches passes v code p ≡ Err (refused_at code p)
  judged_refuses f t = simp (f, t)

  pub judged_ends : reaches ≡ false → judged_with ends reaches passes v code p ≡ Err (refused_at ends p)
  judged_ends f = simp f

-- What is known of a judged field that is taken.
pub record Taken (reaches passes : Bool) (v u : ℕ) : Type 0 where
  pub inside : reaches ≡ true
  pub good : passes ≡ true
  pub value : u ≡ v

pub judged_taken : {C : Type 0} (ends : C) (reaches passes : Bool) (v : ℕ) (code : C) (p u : ℕ) → judged_with ends reaches passes v code p ≡ Ok u → Taken reaches passes v u
judged_taken ends true true v code p u h = record { inside = refl; good = refl; value = cc }
judged_taken ends true false v code p u h = cc
judged_taken ends false t v code p u h = cc

-- The same of a field: what it takes, what it refuses, and what is known of one that is taken.
module _ {C : Type 0} (ends : C) (ok : ℕ → Bool) (code : C) (s : List ℕ) (p : ℕ) where
  pub field_takes : word_fits s p ≡ true → ok (word_at s p) ≡ true → field_with ends ok code s p ≡ Ok (word_at s p)
  unfolding field_with
  field_takes = judged_takes ends (word_fits s p) (ok (word_at s p)) (word_at s p) code p

  pub field_refuses : word_fits s p ≡ true → ok (word_at s p) ≡ false → field_with ends ok code s p ≡ Err (refused_at code p)
  unfolding field_with
  field_refuses = judged_refuses ends (word_fits s p) (ok (word_at s p)) (word_at s p) code p

  pub field_ends : word_fits s p ≡ false → field_with ends ok code s p ≡ Err (refused_at ends p)
  unfolding field_with
  field_ends = judged_ends ends (word_fits s p) (ok (word_at s p)) (word_at s p) code p

  pub field_taken : (u : ℕ) → field_with ends ok code s p ≡ Ok u → Taken (word_fits s p) (ok (word_at s p)) (word_at s p) u
  unfolding field_with
  field_taken u = judged_taken ends (word_fits s p) (ok (word_at s p)) (word_at s p) code p u

  -- a taken field's four bytes lie in the file
  pub field_inside : (u : ℕ) → field_with ends ok code s p ≡ Ok u → p + 4 ≤ length s
  field_inside u h = leb-true (p + 4) (length s) (field_taken u h).inside

-- The same of a field with limits whose value v has been read.
module _ {C : Type 0} (ends : C) (low end : ℕ) (code : C) (s : List ℕ) (p v : ℕ) (f : word_fits s p ≡ true) (e : v ≡ word_at s p) where
  pub limits_take : low ≤ v → v < end → Ok v ≡ field_with ends (within low end) code s p
  limits_take l h =
      ap Ok e ∙ sym (field_takes ends (within low end) code s p f (ap (within low end) (sym e) ∙ within_takes low end v l h))

  pub limits_refuse : within low end v ≡ false → Err (refused_at code p) ≡ field_with ends (within low end) code s p
  limits_refuse h = sym (field_refuses ends (within low end) code s p f (ap (within low end) (sym e) ∙ h))

-- Of two fields in a row both are taken, or the first refusal is given.
pub then_takes : {C : Type 0} (f g : FieldWith C) (v : ℕ) → f ≡ Ok v → and_then f g ≡ g
then_takes f g v h = simp h

pub then_refuses : {C : Type 0} (f g : FieldWith C) (e : Refused C) → f ≡ Err e → and_then f g ≡ Err e
then_refuses f g e h = simp h

pub then_taken : {C : Type 0} (f g : FieldWith C) (u : ℕ) → and_then f g ≡ Ok u → Passed f × (g ≡ Ok u)
then_taken (Ok v) g u h = ((v, refl), h)
then_taken (Err e) g u h = cc

pub then_both : {C : Type 0} (f g : FieldWith C) → Passed (and_then f g) → Passed f × Passed g
then_both f g (u, h) = ((then_taken f g u h).0, (u, (then_taken f g u h).1))

pub then_passes : {C : Type 0} (f g : FieldWith C) → Passed f → Passed g → Passed (and_then f g)
then_passes f g (v, e) (u, h) = (u, then_takes f g v e ∙ h)

-- An empty run is taken; one that isn't empty begins with its first item.
pub run_none : {C : Type 0} (item : ℕ → FieldWith C) (width n p : ℕ) → n ≤ 0 → run item width n p ≡ Ok p
unfolding run
run_none item width zero p h = refl
run_none item width (suc k) p h = absurd (omega arith)

pub run_more : {C : Type 0} (item : ℕ → FieldWith C) (width n p : ℕ) → 0 < n → run item width n p ≡ and_then (item p) (run item width (n - 1) (p + width))
unfolding run
run_more item width zero p h = absurd (omega arith)
run_more item width (suc k) p h = rw sub-one

-- A run goes on after an item that is taken, and stops at one that is refused.
pub run_goes_on : {C : Type 0} (item : ℕ → FieldWith C) (width n p v : ℕ) → 0 < n → item p ≡ Ok v → run item width (n - 1) (p + width) ≡ run item width n p
run_goes_on item width n p v some h = sym (run_more item width n p some ∙ then_takes _ _ v h)

pub run_stops : {C : Type 0} (item : ℕ → FieldWith C) (width n p : ℕ) (e : Refused C) → 0 < n → item p ≡ Err e → Err e ≡ run item width n p
run_stops item width n p e some h = sym (run_more item width n p some ∙ then_refuses _ _ e h)

-- item j of the rest is item j + 1 of the run
next_place : (p j width : ℕ) → p + width + j * width ≡ p + suc j * width
next_place p j width = omega (arith, suc-mul j width)

first_place : (p width : ℕ) → p + zero * width ≡ p
first_place p width = omega (arith, zero-mul width)

-- What a run takes: each of its items.
pub run_takes : {C : Type 0} (item : ℕ → FieldWith C) (width n p : ℕ) → ((j : ℕ) → j < n → Passed (item (p + j * width))) → run item width n p ≡ Ok (p + n * width)
unfolding run
run_takes item width zero p h = ap Ok (sym (first_place p width))
run_takes item width (suc k) p h =
    let first = h zero (omega arith) in
    let rest : (j : ℕ) → j < k → Passed (item (p + width + j * width)) = λ j l. rw (next_place p j width) (h (suc j) (omega arith)) in
    then_takes (item p) _ first.0 (rw first_place at first.1) ∙ run_takes item width k (p + width) rest ∙ ap Ok (next_place p k width)

-- What is known of a run that is taken: each item is, and what follows the run stands after the last.
both_places : {C : Type 0} (item : ℕ → FieldWith C) (width k p : ℕ) → Passed (item p) → ((j : ℕ) → j < k → Passed (item (p + width + j * width)))
    → (j : ℕ) → j < suc k → Passed (item (p + j * width))
both_places item width k p first rest zero l = rw (first_place p width) first
both_places item width k p first rest (suc j) l = rw (← next_place p j width) (rest j (omega arith))

pub run_taken : {C : Type 0} (item : ℕ → FieldWith C) (width n p u : ℕ) → run item width n p ≡ Ok u
    → ((j : ℕ) → j < n → Passed (item (p + j * width))) × (u ≡ p + n * width)
unfolding run
run_taken item width zero p u h = ((λ j l. absurd (omega arith)), (let e : p ≡ u = cc in sym e ∙ sym (first_place p width)))
run_taken item width (suc k) p u h =
    let parts = then_taken (item p) (run item width k (p + width)) u h in
    let rest = run_taken item width k (p + width) u parts.1 in
    (both_places item width k p parts.0 rest.0, rest.1 ∙ next_place p k width)

-- The file's end.
pub end_takes : {C : Type 0} (code : C) (s : List ℕ) (p : ℕ) → length s ≤ p → end_with code s p ≡ Ok p
unfolding end_with
end_takes code s p h = simp (le-leb (length s) p h)

pub end_taken : {C : Type 0} (code : C) (s : List ℕ) (p u : ℕ) → end_with code s p ≡ Ok u → length s ≤ p
unfolding end_with
end_taken code s p u h = leb-true (length s) p (judged_taken code true (leb (length s) p) p code p u h).good
