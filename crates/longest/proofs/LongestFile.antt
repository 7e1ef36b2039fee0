-- A file of 20,648 bytes that is taken: 64 states, 16 operations, every entry 0; eight looms, the first of side B; labels of 32 spaces; a
-- schedule of 4,096 steps of loom 0.
-- Assumes nothing.
use Rattle.std.specs.Prelude.{ℕ, ◌+◌, ◌*◌, ◌≤◌, ◌<◌, ◌≡◌, refl, Bool, true, List, [], ◌∷◌, ◌++◌, length, get_or, replicate, Ok}
use Rattle.std.proofs.Common.{arith, sym, ap, ◌∙◌, length-append, get_or-append-add, le-leb}
use Rattle.std.proofs.lemmas.List.{length-replicate, get_or-replicate}
use Rattle.std.proofs.Math.ListN.{get_or-append}
use Rattle.cell.specs.Limits.{edition}
use Rattle.codes.specs.declared.Code.{Code}
use Rattle.xdr.specs.Field.{word_at, within, field_at, field_with, Passed, run}
use Rattle.xdr.specs.FieldLaws.{word_inside, field_takes, run_takes, end_takes}
use Rattle.xdr.specs.Opaque.{pad_of, all, opaque_with}
use Rattle.format.specs.declared.Plan.{Plan}
use Rattle.format.specs.declared.Items.TheVariants.{Entries, Acts}
use Rattle.format.specs.Layout.{plan_of}
use Rattle.format.specs.LayoutLaws.{plan_is}
use Rattle.format.specs.Format.{names_act, item_at, run_of, seats_at, sides_at, label_at, verdict_of}
use Rattle.format.proofs.AcceptedLaws.{Passes, file_takes}

-- The words before the table, those after it to the schedule's entries.
abbrev head : List ℕ
head = 0 ∷ 0 ∷ 0 ∷ 64 ∷ 0 ∷ 0 ∷ 0 ∷ 16 ∷ 0 ∷ 0 ∷ 4 ∷ 0 ∷ []

abbrev one : List ℕ
one = 0 ∷ 0 ∷ 0 ∷ 1 ∷ []

abbrev label : List ℕ
label = 0 ∷ 0 ∷ 0 ∷ 32 ∷ replicate 32 32

abbrev middle : List ℕ
middle = replicate 4 0 ++ (0 ∷ 0 ∷ 0 ∷ 8 ∷ one ++ (replicate 60 0 ++ (one ++ (one ++ (label ++ (label ++ (0 ∷ 0 ∷ 16 ∷ 0 ∷ [])))))))

middle_length : length middle ≡ 156
middle_length = refl

unfoldable pub front : List ℕ
front = head ++ (replicate 4096 0 ++ middle)

unfoldable pub longest_file : List ℕ
longest_file = front ++ replicate 16384 0

front_length : length front ≡ 4264
unfolding front
front_length = simp length-append (omega (arith, middle_length))

pub longest_length : length longest_file ≡ 20648
unfolding longest_file
longest_length = simp (length-append, length-replicate) (omega (arith, front_length))

-- The table's bytes are 0, and the schedule's entries' bytes.
table_zero : (k : ℕ) → k < 4096 → get_or longest_file (12 + k) 0 ≡ 0
unfolding longest_file front
table_zero k l =
    let inside : k < length {A = ℕ} (replicate 4096 0) = rw (length-replicate {A = ℕ} 4096 0) l in
    get_or-append (head ++ (replicate 4096 0 ++ middle)) (replicate 16384 0) 0 (12 + k) (omega (arith, front_length))
    ∙ get_or-append-add head (replicate 4096 0 ++ middle) k 0
    ∙ get_or-append (replicate 4096 0) middle 0 k inside
    ∙ get_or-replicate {A = ℕ} 4096 k 0 0 l

schedule_zero : (k : ℕ) → k < 16384 → get_or longest_file (4264 + k) 0 ≡ 0
unfolding longest_file
schedule_zero k l =
    ap (λ (n : ℕ). get_or (front ++ replicate 16384 0) (n + k) 0) (sym front_length)
    ∙ get_or-append-add front (replicate 16384 0) k 0
    ∙ get_or-replicate {A = ℕ} 16384 k 0 0 l

-- A word of bytes that are 0, from where such bytes begin.
zero_word : (from size k : ℕ) → ((j : ℕ) → j < size → get_or longest_file (from + j) 0 ≡ 0) → k + 4 ≤ size → from + size ≤ 20648
    → word_at longest_file (from + k) ≡ 0
zero_word from size k zeros l fits =
    let at : (i : ℕ) → i < 4 → get_or longest_file (from + k + i) 0 ≡ 0 =
    λ i h. let e : from + k + i ≡ from + (k + i) = omega arith in rw e (zeros (k + i) (omega arith)) in
    let first : get_or longest_file (from + k) 0 ≡ 0 = zeros k (omega arith) in
    word_inside longest_file (from + k) (omega (arith, longest_length))
    ∙ simp (first, at 1 (omega arith), at 2 (omega arith), at 3 (omega arith))

-- A field of such a word, which is taken where 0 passes.
zero_field : (ok : ℕ → Bool) (code : Code) (from size k : ℕ) → ((j : ℕ) → j < size → get_or longest_file (from + j) 0 ≡ 0) → k + 4 ≤ size → from + size ≤ 20648
    → ok 0 ≡ true → Passed (field_at ok code longest_file (from + k))
zero_field ok code from size k zeros l fits good = (
  word_at longest_file (from + k),
  field_takes _ ok code longest_file (from + k) (le-leb (from + k + 4) (length longest_file) (omega (arith, longest_length)))
      (ap ok (zero_word from size k zeros l fits) ∙ good),
)

-- The plan, word by word.
abbrev plan : Plan
plan = record {
  states = 64;
  operations = 16;
  entries = 1024;
  start = 4108;
  looms = 8;
  numbers = 4180;
  first = 32;
  rest = 4224;
  second = 32;
  schedule = 4260;
  acts = 4096;
}

plan_of_longest : plan ≡ plan_of longest_file
unfolding longest_file front word_at pad_of
plan_of_longest = plan_is longest_file 1024 8 32 0 32 0 64 16 4096 refl refl refl refl refl refl refl refl refl

states_word : word_at longest_file 0 ≡ 64
unfolding longest_file front word_at
states_word = refl

count_word : word_at longest_file 8 ≡ 1024
unfolding longest_file front word_at
count_word = refl

table_taken : run (item_at (Entries 64) longest_file) 4 1024 12 ≡ Ok (12 + 1024 * 4)
unfolding item_at within
table_taken = run_takes (item_at (Entries 64) longest_file) 4 1024 12 (λ j l. zero_field (within 0 64) Code.Entry 12 4096 (j * 4) table_zero (omega arith) (omega arith) refl)

acts_taken : run (item_at (Acts 8) longest_file) 4 4096 4264 ≡ Ok (4264 + 4096 * 4)
unfolding item_at names_act
acts_taken = run_takes (item_at (Acts 8) longest_file) 4 4096 4264 (λ j l. zero_field (names_act 8) Code.Act 4264 16384 (j * 4) schedule_zero (omega arith) (omega arith) refl)

entries_pass : Passed (run_of (Entries (word_at longest_file 0)) longest_file (word_at longest_file 8) 12)
entries_pass = (4108, rw (states_word, count_word) table_taken)

each_passes : Passes edition longest_file plan
unfolding longest_file front word_at within field_with item_at run sides_at seats_at label_at opaque_with pad_of all
each_passes = record {
  states = (64, refl);
  operations = (16, refl);
  size = (1024, refl);
  entries = entries_pass;
  start = (0, refl);
  count = (8, refl);
  looms = (4180, refl);
  sides = (4112, refl);
  number_A = (1, refl);
  number_B = (1, refl);
  label_A = (4224, refl);
  label_B = (4260, refl);
  schedule = (4096, refl);
  acts = (20648, acts_taken);
  end = (20648, end_takes Code.ExtraBytes longest_file 20648 (omega (arith, longest_length)));
}

-- "The longest file has 20,648 bytes": this one has, and is taken.
pub longest_taken : Passed (verdict_of edition longest_file)
unfolding verdict_of
longest_taken = rw (← plan_of_longest) (file_takes edition longest_file plan each_passes)
