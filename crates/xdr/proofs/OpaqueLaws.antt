-- What an opaque part takes, and what it refuses.
-- Assumes nothing.
use Rattle.std.specs.Prelude.{ℕ, zero, suc, ◌+◌, ◌≤◌, ◌<◌, ◌≡◌, refl, Bool, true, false, List, [], IsTrue, ◌↔◌, leb, length, get_or, take, drop, Ok, Err}
use Rattle.std.proofs.Common.{add-zero, get_or-take, get_or-drop, arith, sym, ap, ◌∙◌, leb-true, leb-false, le-leb}
use Rattle.std.proofs.Math.Bool.{and-eq-true_iff}
use Rattle.std.proofs.lemmas.Bool.{lt-leb}
use Rattle.std.proofs.lemmas.List.{length-drop, get_or_default}
use Rattle.std.proofs.Math.Seq.{length-take-le}
use Rattle.std.specs.List.{AllPass}
use Rattle.codes.specs.Codes.{refused_at}
use Rattle.xdr.specs.Field.{anything}
use Rattle.xdr.specs.FieldLaws.{Taken, judged_takes, judged_refuses, judged_ends, judged_taken}
use Rattle.xdr.specs.Opaque.{pad_of, padded, all, part_of, past_with, opaque_with}

-- A longer part has no fewer bytes with its pad bytes.
pub padded_grows : (n m : ℕ) → n ≤ m → padded n ≤ padded m
unfolding pad_of
padded_grows n m h = omega arith

-- All pass exactly if each does.
pub all_pass : (ok : ℕ → Bool) (s : List ℕ) (n p : ℕ) → ((j : ℕ) → j < n → ok (get_or s (p + j) 0) ≡ true) → all ok s n p ≡ true
unfolding all
all_pass ok s zero p each = refl
all_pass ok s (suc k) p each =
    let first : ok (get_or s p 0) ≡ true = rw add-zero at (each 0 (omega arith)) in
    let rest = all_pass ok s k (p + 1) (λ j l. let e : p + 1 + j ≡ p + (j + 1) = omega arith in rw e (each (j + 1) (omega arith))) in
    simp (first, rest)

pub all_each : (ok : ℕ → Bool) (s : List ℕ) (n p : ℕ) → all ok s n p ≡ true → (j : ℕ) → j < n → ok (get_or s (p + j) 0) ≡ true
unfolding all
all_each ok s zero p h j l = absurd (omega arith)
all_each ok s (suc k) p h zero l = rw add-zero ((and-eq-true_iff (ok (get_or s p 0)) _).0 h).0
all_each ok s (suc k) p h (suc j) l =
    let e : p + suc j ≡ p + 1 + j = omega arith in rw e (all_each ok s k (p + 1) ((and-eq-true_iff (ok (get_or s p 0)) _).0 h).1 j (omega arith))

-- What is true exactly if each byte of the part passes is that test.
same_truth : (a b : Bool) → (a ≡ true → b ≡ true) → (b ≡ true → a ≡ true) → a ≡ b
same_truth true b f g = sym (f refl)
same_truth false true f g = g refl
same_truth false false f g = refl

pub all_is : (ok : ℕ → Bool) (s : List ℕ) (n p : ℕ) (b : Bool) → p + n ≤ length s → (IsTrue b ↔ AllPass ok (take n (drop p s))) → b ≡ all ok s n p
all_is ok s n p b inside h =
    let size : length (take n (drop p s)) ≡ n = length-take-le n (drop p s) (omega (arith, length-drop {A = ℕ})) in
    let byte : (j d : ℕ) → j < n → get_or (take n (drop p s)) j d ≡ get_or s (p + j) 0 =
    λ j d l. get_or-take n (drop p s) j d l ∙ get_or-drop p s j d ∙ get_or_default s (p + j) d 0 (omega arith) in
    same_truth b (all ok s n p) (λ t. all_pass ok s n p (λ j l. ap ok (sym (byte j 0 l)) ∙ h.0 t j 0 (rw size l)))
    (λ t. h.1 (λ j d l. let l' : j < n = rw size at l in ap ok (byte j d l') ∙ all_each ok s n p t j l'))

-- What an opaque part takes, what it refuses, and what is known of one that is taken.
module _ {C : Type 0} (ends : C) (ok : ℕ → Bool) (code : C) (s : List ℕ) (n p : ℕ) where
  pub opaque_takes : leb (p + padded n) (length s) ≡ true → all ok s n p ≡ true → opaque_with ends ok code s n p ≡ Ok (p + padded n)
  unfolding opaque_with
  opaque_takes = judged_takes ends (leb (p + padded n) (length s)) (all ok s n p) (p + padded n) code p

  pub opaque_refuses : leb (p + padded n) (length s) ≡ true → all ok s n p ≡ false → opaque_with ends ok code s n p ≡ Err (refused_at code p)
  unfolding opaque_with
  opaque_refuses = judged_refuses ends (leb (p + padded n) (length s)) (all ok s n p) (p + padded n) code p

  pub opaque_ends : leb (p + padded n) (length s) ≡ false → opaque_with ends ok code s n p ≡ Err (refused_at ends p)
  unfolding opaque_with
  opaque_ends = judged_ends ends (leb (p + padded n) (length s)) (all ok s n p) (p + padded n) code p

  pub opaque_taken : (u : ℕ) → opaque_with ends ok code s n p ≡ Ok u → Taken (leb (p + padded n) (length s)) (all ok s n p) (p + padded n) u
  unfolding opaque_with
  opaque_taken u = judged_taken ends (leb (p + padded n) (length s)) (all ok s n p) (p + padded n) code p u

-- The same of a part whose pad bytes have been counted.
module _ {C : Type 0} (ends : C) (ok : ℕ → Bool) (code : C) (s : List ℕ) (n p pads : ℕ) (e : pads ≡ pad_of n) where
  after : p + n + pads ≡ p + padded n
  after = omega arith

  pub part_takes : leb (p + n + pads) (length s) ≡ true → all ok s n p ≡ true → opaque_with ends ok code s n p ≡ Ok (p + n + pads)
  part_takes f t = opaque_takes ends ok code s n p (rw after at f) t ∙ ap Ok (sym after)

  pub part_refuses : leb (p + n + pads) (length s) ≡ true → all ok s n p ≡ false → opaque_with ends ok code s n p ≡ Err (refused_at code p)
  part_refuses f t = opaque_refuses ends ok code s n p (rw after at f) t

  pub part_ends : leb (p + n + pads) (length s) ≡ false → opaque_with ends ok code s n p ≡ Err (refused_at ends p)
  part_ends f = opaque_ends ends ok code s n p (rw after at f)

-- A part whose bytes run past the file's end, before any pad.
pub bytes_end : {C : Type 0} (ends : C) (ok : ℕ → Bool) (code : C) (s : List ℕ) (n p : ℕ) → leb (p + n) (length s) ≡ false → opaque_with ends ok code s n p ≡ Err (refused_at ends p)
bytes_end ends ok code s n p f =
    let h : length s < p + n = leb-false (p + n) (length s) f in
    opaque_ends ends ok code s n p (lt-leb (p + padded n) (length s) (omega arith))

-- What follows a part lies in the file.
pub past_taken : {C : Type 0} (ends : C) (s : List ℕ) (n p u : ℕ) → past_with ends s n p ≡ Ok u → (p + padded n ≤ length s) × (u ≡ p + padded n)
unfolding past_with
past_taken ends s n p u h =
    let t = judged_taken ends true (leb (p + padded n) (length s)) (p + padded n) ends p u h in
    (leb-true (p + padded n) (length s) t.good, t.value)

-- Every byte passes the test that everything passes, so a part with no test of its own is what follows it.
pub all_anything : (s : List ℕ) (n p : ℕ) → all anything s n p ≡ true
unfolding all
all_anything s zero p = refl
all_anything s (suc n) p = all_anything s n (p + 1)

pub past_is_opaque : {C : Type 0} (ends : C) (s : List ℕ) (n p : ℕ) → past_with ends s n p ≡ opaque_with ends anything ends s n p
unfolding past_with opaque_with
past_is_opaque ends s n p = rw all_anything

-- A part that lies in the file, and one that doesn't.
pub part_inside : (s : List ℕ) (p n : ℕ) → p + n ≤ length s → part_of s p n ≡ take n (drop p s)
unfolding part_of
part_inside s p n h = simp (le-leb (p + n) (length s) h)

pub part_outside : (s : List ℕ) (p n : ℕ) → length s < p + n → part_of s p n ≡ []
unfolding part_of
part_outside s p n h = simp (lt-leb (p + n) (length s) h)
