-- Nothing else meets the contracts of `src/`: each is the library's own, and so is the lemma.
-- Assumes nothing.
use Rattle.std.specs.Prelude.{ℕ, ◌≡◌, Bool, Option, Result, List, [], length}
use Rattle.std.proofs.Common.{sym, ◌∙◌}
use Rattle.sets.specs.Sets.{has_of, Union, Common, Inserted, size_of, lowest_of, word_bits}
use Rattle.sets.specs.Only.{only-has, only-union, only-common, only-insert, only-size, only-lowest}
use Rattle.cell.specs.Table.{form_of, next_of}
use Rattle.recording.specs.declared.Certificate.{Certificate}
use Rattle.recording.specs.Check.{check_of, area_of}
use Rattle.group.specs.declared.Group.{Group}
use Rattle.codes.specs.declared.Code.{Code}
use Rattle.codes.specs.Codes.{Refusal}
use Rattle.schedule.specs.declared.Ran.{Ran}
use Rattle.order.specs.Label.{by_side, trim_of}
use Rattle.group.specs.declared.Stepped.{Stepped}
use Rattle.group.specs.declared.Restarted.{Restarted}
use Rattle.boundary.specs.Numbers.{moved_number, code_number, refusal_number, refusal_place, Catalogues}
use Rattle.group.specs.Open.{group_or_none}
use Rattle.boundary.specs.Certificates.{certificate_from, with_checked}
use Rattle.boundary.specs.Groups.{in_byte, in_half, loom_from, shared_from, with_group, with_said, Opens, Steps, Restarts}
use Rattle.boundary.specs.Records.{LentSteps}
use Rattle.boundary.specs.Readings.{with_reading}
use Rattle.loom.specs.declared.Loom.{Loom}
use Rattle.loom.specs.declared.Shared.{Shared}
use Rattle.loom.specs.declared.Said.{Said}
use Rattle.reader.specs.Reader.{read_of}
use Rattle.boundary.specs.Orders.{Reads}
use Rattle.boundary.specs.Runs.{Runs}

pub only-linuktabay_has : (set state : ℕ) (r s : Bool) → r ≡ has_of set state → s ≡ has_of set state → r ≡ s
only-linuktabay_has = only-has

pub only-linuktabay_union : (a b r s : ℕ) → Union a b r → Union a b s → r ≡ s
only-linuktabay_union = only-union

pub only-linuktabay_common : (a b r s : ℕ) → Common a b r → Common a b s → r ≡ s
only-linuktabay_common = only-common

pub only-linuktabay_insert : (set state r s : ℕ) → Inserted word_bits set state r → Inserted word_bits set state s → r ≡ s
only-linuktabay_insert = only-insert

pub only-linuktabay_size : (set r s : ℕ) → r ≡ size_of word_bits set → s ≡ size_of word_bits set → r ≡ s
only-linuktabay_size = only-size

pub only-linuktabay_lowest : (set r s : ℕ) → r ≡ lowest_of word_bits set → s ≡ lowest_of word_bits set → r ≡ s
only-linuktabay_lowest = only-lowest

pub only-linuktabay_catalogue : (n : ℕ) (room : List ℕ) (r s : ℕ) (a b : List ℕ) → Catalogues n room r a → Catalogues n room s b → (r ≡ s) × (a ≡ b)
only-linuktabay_catalogue n room r s a b p q = (p.its_code ∙ sym q.its_code, p.its_room ∙ sym q.its_room)

pub only-linuktabay_form_code : (table : List ℕ) (states operations r s : ℕ)
    → r ≡ refusal_number (form_of table states operations) → s ≡ refusal_number (form_of table states operations) → r ≡ s
only-linuktabay_form_code table states operations r s p q = p ∙ sym q

pub only-linuktabay_form_place : (table : List ℕ) (states operations r s : ℕ)
    → r ≡ refusal_place (form_of table states operations) → s ≡ refusal_place (form_of table states operations) → r ≡ s
only-linuktabay_form_place table states operations r s p q = p ∙ sym q

pub only-linuktabay_next : (table : List ℕ) (states o q r s : ℕ)
    → r ≡ moved_number (next_of table states o q) → s ≡ moved_number (next_of table states o q) → r ≡ s
only-linuktabay_next table states o q r s p t = p ∙ sym t

pub only-certificate_from : (start count : ℕ) (ns : List ℕ) (r s : Certificate)
    → r ≡ certificate_from start count ns → s ≡ certificate_from start count ns → r ≡ s
only-certificate_from start count ns r s p q = p ∙ sym q

-- The four numbers and the area.
pub only-linuktabay_check : (table : List ℕ) (states operations : ℕ) (c : Certificate) (out area x y a b : List ℕ)
    → (x ≡ with_checked out (check_of table states operations c (length area))) × (a ≡ area_of table states operations c area)
    → (y ≡ with_checked out (check_of table states operations c (length area))) × (b ≡ area_of table states operations c area)
    → (x ≡ y) × (a ≡ b)
only-linuktabay_check table states operations c out area x y a b p q = (p.0 ∙ sym q.0, p.1 ∙ sym q.1)

-- The code, the group's numbers and, where there is one, the area or what was said.
pub only-linuktabay_open : (answer : Result Group Code) (words group : List ℕ) (r s : ℕ) (g h a b : List ℕ)
    → Opens answer words group r g a → Opens answer words group s h b → (r ≡ s) × (g ≡ h) × (a ≡ b)
only-linuktabay_open answer words group r s g h a b p q =
    (p.its_code ∙ sym q.its_code, p.its_group ∙ sym q.its_group, p.its_area ∙ sym q.its_area)

pub only-linuktabay_step : (answer : Stepped) (group out : List ℕ) (r s : ℕ) (g h x y : List ℕ)
    → Steps answer group out r g x → Steps answer group out s h y → (r ≡ s) × (g ≡ h) × (x ≡ y)
only-linuktabay_step answer group out r s g h x y p q =
    (p.its_code ∙ sym q.its_code, p.its_group ∙ sym q.its_group, p.its_word ∙ sym q.its_word)

pub only-linuktabay_restart : (answer : Restarted) (group : List ℕ) (r s : ℕ) (g h : List ℕ)
    → Restarts answer group r g → Restarts answer group s h → (r ≡ s) × (g ≡ h)
only-linuktabay_restart answer group r s g h p q = (p.its_code ∙ sym q.its_code, p.its_group ∙ sym q.its_group)

pub only-linuktabay_restart_all : (answer : Restarted) (group : List ℕ) (r s : ℕ) (g h : List ℕ)
    → Restarts answer group r g → Restarts answer group s h → (r ≡ s) × (g ≡ h)
only-linuktabay_restart_all = only-linuktabay_restart

-- The marks, the area, the final group's numbers and the counts.
pub only-linuktabay_run : (answer : Result Ran Code) (marked words group out : List ℕ) (m n a b g h x y : List ℕ)
    → Runs answer marked words group out m a g x → Runs answer marked words group out n b h y → (m ≡ n) × (a ≡ b) × (g ≡ h) × (x ≡ y)
only-linuktabay_run answer marked words group out m n a b g h x y p q =
    (p.its_marks ∙ sym q.its_marks, p.its_area ∙ sym q.its_area, p.its_group ∙ sym q.its_group, p.its_counts ∙ sym q.its_counts)

-- The thirty numbers and the two rooms.
pub only-linuktabay_read : (s table schedule out t u v w x y : List ℕ)
    → Reads s table schedule out t v x → Reads s table schedule out u w y → (t ≡ u) × (v ≡ w) × (x ≡ y)
only-linuktabay_read s table schedule out t u v w x y p q =
    (p.its_table ∙ sym q.its_table, p.its_schedule ∙ sym q.its_schedule, p.its_order ∙ sym q.its_order)

pub only-linuktabay_label : (a b : List ℕ) (side r s : ℕ)
    → r ≡ length (by_side side (trim_of a) (trim_of b) []) → s ≡ length (by_side side (trim_of a) (trim_of b) []) → r ≡ s
only-linuktabay_label a b side r s p q = p ∙ sym q

pub only-with_group : (ns : List ℕ) (g : Group) (r s : List ℕ) → r ≡ with_group ns g → s ≡ with_group ns g → r ≡ s
only-with_group ns g r s p q = p ∙ sym q

pub only-linuktabay_step_lent : (table : List ℕ) (states operations : ℕ) (own out : List ℕ) (r s : ℕ) (g h x y : List ℕ)
    → LentSteps table states operations own out r g x → LentSteps table states operations own out s h y → (r ≡ s) × (g ≡ h) × (x ≡ y)
only-linuktabay_step_lent table states operations own out r s g h x y p q =
    (p.its_code ∙ sym q.its_code, p.its_record ∙ sym q.its_record, p.its_word ∙ sym q.its_word)

pub only-linuktabay_reading : (s : List ℕ) (at count : ℕ) (out x y : List ℕ)
    → x ≡ with_reading out (read_of s count at) → y ≡ with_reading out (read_of s count at) → x ≡ y
only-linuktabay_reading s at count out x y p q = p ∙ sym q

-- What this crate's modules lend each other.
pub only-in_byte : (n r s : ℕ) → r ≡ in_byte n → s ≡ in_byte n → r ≡ s
only-in_byte n r s p q = p ∙ sym q

pub only-in_half : (n r s : ℕ) → r ≡ in_half n → s ≡ in_half n → r ≡ s
only-in_half n r s p q = p ∙ sym q

pub only-loom_from : (side operation place steps : ℕ) (r s : Loom) → r ≡ loom_from side operation place steps → s ≡ loom_from side operation place steps → r ≡ s
only-loom_from side operation place steps r s p q = p ∙ sym q

pub only-with_said : (ns : List ℕ) (said : Said) (steps : ℕ) (r s : List ℕ) → r ≡ with_said ns said steps → s ≡ with_said ns said steps → r ≡ s
only-with_said ns said steps r s p q = p ∙ sym q

pub only-group_or_none : (opened : Result Group Code) (r s : Group) → r ≡ group_or_none opened → s ≡ group_or_none opened → r ≡ s
only-group_or_none opened r s p q = p ∙ sym q

pub only-code_number : {T : Type 0} (answer : Result T Code) (r s : ℕ) → r ≡ code_number answer → s ≡ code_number answer → r ≡ s
only-code_number answer r s p q = p ∙ sym q

pub only-refusal_number : {T : Type 0} (answer : Result T Refusal) (r s : ℕ) → r ≡ refusal_number answer → s ≡ refusal_number answer → r ≡ s
only-refusal_number answer r s p q = p ∙ sym q

pub only-refusal_place : {T : Type 0} (answer : Result T Refusal) (r s : ℕ) → r ≡ refusal_place answer → s ≡ refusal_place answer → r ≡ s
only-refusal_place answer r s p q = p ∙ sym q

pub only-moved_number : (moved : Option ℕ) (r s : ℕ) → r ≡ moved_number moved → s ≡ moved_number moved → r ≡ s
only-moved_number moved r s p q = p ∙ sym q

pub only-shared_from : (cell a b : ℕ) (r s : Shared) → r ≡ shared_from cell a b → s ≡ shared_from cell a b → r ≡ s
only-shared_from cell a b r s p q = p ∙ sym q
