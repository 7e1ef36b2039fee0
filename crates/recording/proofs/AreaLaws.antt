-- Past 2 to 9 and 40: what each word of the area holds afterwards.
-- Assumes nothing.
use Rattle.std.specs.Prelude.{ℕ, ◌+◌, ◌-◌, ◌^◌, ◌≤◌, ◌<◌, ◌≡◌, ◌↔◌, Ok, List, ◌++◌, length, get_or, drop}
use Rattle.std.proofs.Common.{sym, ap, subst, ◌∙◌, arith, length-append, length-drop, get_or-append-add, get_or-drop}
use Rattle.std.proofs.Math.ListN.{get_or-append}
use Rattle.sets.specs.Sets.{Member}
use Rattle.cell.specs.Table.{entry_of}
use Rattle.recording.specs.declared.Certificate.{Certificate}
use Rattle.recording.specs.AdmittedLaws.{Admitted, admitted, counted, closed}
use Rattle.recording.specs.Check.{looms_of, room_for, fault_of, words_by, area_of}
use Rattle.recording.specs.CheckLaws.{area_past}
use Rattle.recording.proofs.SetLaws.{word_members}
use Rattle.recording.specs.Words.{ReachedBy}
use Rattle.recording.specs.WordsLaws.{length_filled, filled_at}

module _ (table : List ℕ) (states operations : ℕ) (c : Certificate) (area : List ℕ) (past : fault_of table states operations c (length area) ≡ Ok tt) where
  abbrev after : List ℕ
  after = area_of table states operations c area

  ok : Admitted table states operations c (length area)
  ok = admitted table states operations c (length area) past

  abbrev size : ℕ
  size = 2 ^ c.count

  -- The two sides' words, and how many they are.
  abbrev words : List ℕ
  words = words_by table states c 0 ++ words_by table states c 1

  many : (X : ℕ) → length (words_by table states c X) ≡ size
  many X = length_filled (entry_of table states) (looms_of c) states c.start X size

  in_all : length words ≡ room_for c.count
  in_all = length-append (words_by table states c 0) (words_by table states c 1) ∙ omega (arith, many 0, many 1)

  after_is : after ≡ words ++ drop (room_for c.count) area
  after_is = area_past table states operations c area past

  at : (i : ℕ) → i < room_for c.count → get_or after i 0 ≡ get_or words i 0
  at i within = ap (λ (l : List ℕ). get_or l i 0) after_is ∙ get_or-append words (drop (room_for c.count) area) 0 i (omega (arith, in_all))

  -- Word m of side X holds what some order of exactly its looms reaches.
  word_holds : (X m q w : ℕ) → m < size → w ≡ get_or (words_by table states c X) m 0
      → Member w q ↔ ReachedBy (entry_of table states) (looms_of c) c.start X m q
  word_holds X m q w within is =
      let small : m < 2 ^ length (looms_of c) = subst (λ (n : ℕ). m < 2 ^ n) (sym (counted table states operations c (length area) ok)) within in
      subst (λ (v : ℕ). Member v q ↔ ReachedBy (entry_of table states) (looms_of c) c.start X m q)
      (sym (is ∙ filled_at (entry_of table states) (looms_of c) states c.start X size m within))
      (word_members (entry_of table states) (looms_of c) states c.start X (closed table states operations c (length area) ok) m q small)

  pub words_of_A : (m q : ℕ) → m < 2 ^ c.count
      → Member (get_or (area_of table states operations c area) m 0) q ↔ ReachedBy (entry_of table states) (looms_of c) c.start 0 m q
  words_of_A m q within =
      word_holds 0 m q (get_or after m 0) within
      (at m (omega (arith, within)) ∙ get_or-append (words_by table states c 0) (words_by table states c 1) 0 m (omega (arith, many 0)))

  pub words_of_B : (m q : ℕ) → m < 2 ^ c.count
      → Member (get_or (area_of table states operations c area) (2 ^ c.count + m) 0) q ↔ ReachedBy (entry_of table states) (looms_of c) c.start 1 m q
  words_of_B m q within =
      word_holds 1 m q (get_or after (size + m) 0) within
      (at (size + m) (omega (arith, within))
      ∙ ap (λ (n : ℕ). get_or words (n + m) 0) (sym (many 0))
      ∙ get_or-append-add (words_by table states c 0) (words_by table states c 1) m 0)

  pub later_words : (i : ℕ) → room_for c.count ≤ i → get_or (area_of table states operations c area) i 0 ≡ get_or area i 0
  later_words i beyond =
      let there : room_for c.count + (i - room_for c.count) ≡ i = omega (arith, beyond) in
      let behind : length words + (i - room_for c.count) ≡ i = omega (arith, in_all, beyond) in
      ap (λ (l : List ℕ). get_or l i 0) after_is
      ∙ ap (λ (n : ℕ). get_or (words ++ drop (room_for c.count) area) n 0) (sym behind)
      ∙ get_or-append-add words (drop (room_for c.count) area) (i - room_for c.count) 0
      ∙ get_or-drop (room_for c.count) area (i - room_for c.count) 0
      ∙ ap (λ (n : ℕ). get_or area n 0) there

  pub as_long : length (area_of table states operations c area) ≡ length area
  as_long =
      ap length after_is ∙ length-append words (drop (room_for c.count) area)
      ∙ omega (arith, in_all, length-drop (room_for c.count) area, ok.enough)
