-- Nothing else meets the contracts of `src/lib.rt`: what each says of a result determines the result. A part is determined by its bytes
-- and where they lie; the name of its borrow is no fact that a program sees.
-- Assumes nothing.
use Rattle.std.specs.Prelude.{ℕ, ◌≡◌, List}
use Rattle.std.proofs.Common.{sym, ◌∙◌}
use Rattle.std.specs.Borrow.{Bor}
use Rattle.xdr.specs.Field.{Field}
use Rattle.reader.specs.declared.Reader.{Reader}
use Rattle.reader.specs.declared.Reading.{Reading}
use Rattle.reader.specs.Reader.{standing, left_of, word_of, end_of, past_of, read_of, PartOf}

pub only-at : (file : Bor (List ℕ)) (at : ℕ) (r s : Reader) → r ≡ standing file at → s ≡ standing file at → r ≡ s
only-at file at r s p q = p ∙ sym q

module _ (d : Reader) where
  pub only-place : (r s : ℕ) → r ≡ d.at → s ≡ d.at → r ≡ s
  only-place r s p q = p ∙ sym q

  pub only-left : (r s : ℕ) → r ≡ left_of d.file.now d.at → s ≡ left_of d.file.now d.at → r ≡ s
  only-left r s p q = p ∙ sym q

  pub only-word : (r s : Field) → r ≡ word_of d.file.now d.at → s ≡ word_of d.file.now d.at → r ≡ s
  only-word r s p q = p ∙ sym q

  pub only-end : (count : ℕ) (r s : Field) → r ≡ end_of d.file.now count d.at → s ≡ end_of d.file.now count d.at → r ≡ s
  only-end count r s p q = p ∙ sym q

  pub only-past : (count : ℕ) (r s : Reader) → r ≡ past_of d count → s ≡ past_of d count → r ≡ s
  only-past count r s p q = p ∙ sym q

-- of the reader's `part`, at its file and position, and of `part_at`
pub only-part : (file : Bor (List ℕ)) (count at : ℕ) (r s : Bor (List ℕ)) → PartOf file count at r → PartOf file count at s → (r.now ≡ s.now) × (r.ref_ptr ≡ s.ref_ptr)
only-part file count at r s p q = (p.bytes ∙ sym q.bytes, λ i. ((p.block ∙ sym q.block) i, (p.place ∙ sym q.place) i))

pub only-part_at : (file : Bor (List ℕ)) (count at : ℕ) (r s : Bor (List ℕ)) → PartOf file count at r → PartOf file count at s → (r.now ≡ s.now) × (r.ref_ptr ≡ s.ref_ptr)
only-part_at = only-part

pub only-read : (file : List ℕ) (count at : ℕ) (r s : Reading) → r ≡ read_of file count at → s ≡ read_of file count at → r ≡ s
only-read file count at r s p q = p ∙ sym q
