-- Laws of a reader: the fields, runs, parts and end of a file, as `xdr` defines them and `order` reads them, are what the reader hands out
-- and the test of it.
-- Assumes nothing.
use Rattle.std.specs.Prelude.{ℕ, zero, suc, ◌+◌, ◌-◌, ◌≤◌, ◌≡◌, refl, Ok, Err, Bool, true, false, cond, ◌&&◌, List, eqb, leb, length, get_or, take, drop}
use Rattle.std.proofs.Common.{add-zero, arith, ap, ◌∙◌, get_or-take, get_or-drop, leb-true, leb-false, eq-eqb, ne_eqb}
use Rattle.codes.specs.declared.Code.{Code}
use Rattle.codes.specs.declared.Code.TheVariants.{FileEnds}
use Rattle.codes.specs.Codes.{number_of, refused_at}
use Rattle.xdr.specs.Field.{Field, FieldWith, anything, word_fits, word_at, judged, judged_with, field_at, field_with, run, end_with}
use Rattle.xdr.specs.Opaque.{padded, all, opaque_at, opaque_with}
use Rattle.xdr.proofs.OpaqueLaws.{all_anything, opaque_taken}
use Rattle.reader.specs.Reader.{left_of, end_of, read_of}

-- What is handed out at p, with a test of its own: refused with the code at p where it does not pass. The code is of any kind C, in which
-- `named` says each code of document 01: itself, or its number.
abbrev pub tested : {C : Type 0} → (Code → C) → Bool → C → ℕ → Field → FieldWith C
tested named passes code p (Ok v) = cond passes (Ok v) (Err (refused_at code p))
tested named passes code p (Err e) = Err (refused_at (named e.code) e.place)

-- The same with a test of the value that is handed out.
abbrev pub tested_by : {C : Type 0} → (Code → C) → (ℕ → Bool) → C → ℕ → Field → FieldWith C
tested_by named ok code p (Ok v) = cond (ok v) (Ok v) (Err (refused_at code p))
tested_by named ok code p (Err e) = Err (refused_at (named e.code) e.place)

module _ {C : Type 0} (named : Code → C) where
  -- A judged field is tested after it is handed out.
  tested_is_judged : (reaches passes : Bool) (v : ℕ) (code : C) (p : ℕ)
      → tested named passes code p (judged reaches true v FileEnds p) ≡ judged_with (named FileEnds) reaches passes v code p
  tested_is_judged true true v code p = refl
  tested_is_judged true false v code p = refl
  tested_is_judged false passes v code p = refl

  tested_by_value : (ok : ℕ → Bool) (reaches : Bool) (v : ℕ) (code : C) (p : ℕ)
      → tested_by named ok code p (judged reaches true v FileEnds p) ≡ judged_with (named FileEnds) reaches (ok v) v code p
  tested_by_value ok true v code p = refl
  tested_by_value ok false v code p = refl

  -- A word read at p, and tested, is the file's field at p.
  pub word_is_field : (ok : ℕ → Bool) (code : C) (s : List ℕ) (n p : ℕ)
      → tested_by named ok code p (read_of s n p).word ≡ field_with (named FileEnds) ok code s p
  unfolding field_with
  word_is_field ok code s n p = tested_by_value ok (word_fits s p) (word_at s p) code p

  -- So words read one after another are the file's run of fields.
  pub words_are_run : (ok : ℕ → Bool) (code : C) (s : List ℕ) (n width count p : ℕ)
      → run (λ (q : ℕ). tested_by named ok code q (read_of s n q).word) width count p ≡ run (field_with (named FileEnds) ok code s) width count p
  words_are_run ok code s n width count p = λ i. run (λ (q : ℕ). word_is_field ok code s n q i) width count p

  -- A part read at p, its bytes tested, is the file's opaque part at p.
  pub part_is_opaque : (ok : ℕ → Bool) (code : C) (s : List ℕ) (n p : ℕ)
      → tested named (all ok s n p) code p (read_of s n p).end ≡ opaque_with (named FileEnds) ok code s n p
  unfolding opaque_with
  part_is_opaque ok code s n p =
      ap (λ (t : Bool). tested named (all ok s n p) code p (judged (leb (p + padded n) (length s)) t (p + padded n) FileEnds p)) (all_anything s n p)
      ∙ tested_is_judged (leb (p + padded n) (length s)) (all ok s n p) (p + padded n) code p

-- So of document 01's codes, as they are and by their numbers, of which 1 says that the file ends.
module _ (ok : ℕ → Bool) (s : List ℕ) (n p : ℕ) where
  pub word_is_coded : (code : Code) → tested_by (λ c. c) ok code p (read_of s n p).word ≡ field_at ok code s p
  word_is_coded code = word_is_field (λ c. c) ok code s n p

  pub word_is_numbered : (code : ℕ) → tested_by number_of ok code p (read_of s n p).word ≡ field_with 1 ok code s p
  word_is_numbered code = word_is_field number_of ok code s n p

  pub words_are_coded : (code : Code) (width count : ℕ)
      → run (λ (q : ℕ). tested_by (λ c. c) ok code q (read_of s n q).word) width count p ≡ run (field_at ok code s) width count p
  words_are_coded code width count = words_are_run (λ c. c) ok code s n width count p

  pub words_are_numbered : (code width count : ℕ)
      → run (λ (q : ℕ). tested_by number_of ok code q (read_of s n q).word) width count p ≡ run (field_with 1 ok code s) width count p
  words_are_numbered code width count = words_are_run number_of ok code s n width count p

  pub part_is_coded : (code : Code) → tested (λ c. c) (all ok s n p) code p (read_of s n p).end ≡ opaque_at ok code s n p
  part_is_coded code = part_is_opaque (λ c. c) ok code s n p

  pub part_is_numbered : (code : ℕ) → tested number_of (all ok s n p) code p (read_of s n p).end ≡ opaque_with 1 ok code s n p
  part_is_numbered code = part_is_opaque number_of ok code s n p

-- The file's end is where nothing is left.
pub nothing_left_is_end : {C : Type 0} (code : C) (s : List ℕ) (p : ℕ) → cond (eqb (left_of s p) 0) (Ok p) (Err (refused_at code p)) ≡ end_with code s p
unfolding end_with
nothing_left_is_end code s p = go (leb (length s) p) refl
  where
    go : (t : Bool) → leb (length s) p ≡ t → cond (eqb (left_of s p) 0) (Ok p) (Err (refused_at code p)) ≡ cond (leb (length s) p) (Ok p) (Err (refused_at code p))
    go true e = let h = leb-true (length s) p e in let z : length s - p ≡ 0 = omega (arith, h) in simp (e, eq-eqb (length s - p) 0 z)
    go false e = let h = leb-false (length s) p e in let z : (length s - p ≡ 0 → ⊥) = λ w. omega (arith, h, w) in simp (e, ne_eqb (length s - p) 0 z)

-- A part that is there lies within the file.
pub part_inside : (s : List ℕ) (n p q : ℕ) → end_of s n p ≡ Ok q → p + n ≤ length s
part_inside s n p q h = omega (arith, leb-true (p + padded n) (length s) (opaque_taken FileEnds anything FileEnds s n p q h).inside)

-- The bytes of the part that is handed out pass a test where the file's do.
pub part_bytes : (ok : ℕ → Bool) (s : List ℕ) (n p : ℕ) → all ok (take n (drop p s)) n 0 ≡ all ok s n p
unfolding all
part_bytes ok s n p = go n 0 (omega arith) ∙ ap (all ok s n) (add-zero p)
  where
    go : (k j : ℕ) → j + k ≤ n → all ok (take n (drop p s)) k j ≡ all ok s k (p + j)
    go zero j h = refl
    go (suc k) j h =
        let byte : get_or (take n (drop p s)) j 0 ≡ get_or s (p + j) 0 = get_or-take n (drop p s) j 0 (omega arith) ∙ get_or-drop p s j 0 in
        let rest : all ok (take n (drop p s)) k (j + 1) ≡ all ok s k (p + j + 1) = go k (j + 1) (omega arith) ∙ ap (all ok s k) (omega arith) in
        λ i. ok (byte i) && rest i
