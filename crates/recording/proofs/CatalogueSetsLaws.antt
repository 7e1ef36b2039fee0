-- The two sets of the catalogue certificate: its looms pass the check's tests, and its sets are the rows of A and those of B but the start.
-- Assumes nothing.
use Rattle.std.specs.Prelude.{ℕ, zero, suc, ◌+◌, ◌-◌, ◌*◌, ◌≤◌, ◌<◌, min, ◌≡◌, refl, ◌↔◌, Ok, List, length, replicate}
use Rattle.std.proofs.Common.{sym, ap, ap₂, subst, ◌∙◌, inl, inr, take_at, arith}
use Rattle.std.proofs.Math.Path.{transport}
use Rattle.std.proofs.Math.Decide.{dec_le, dec_lt}
use Rattle.sets.specs.Sets.{bit, members, size_of, word_bits}
use Rattle.sets.specs.MembersLaws.{bit_cases, size_more}
use Rattle.cell.specs.Catalogue.{table_of}
use Rattle.cell.specs.CatalogueLaws.{catalogue_has_form}
use Rattle.cell.specs.Limits.{edition}
use Rattle.cell.specs.Table.{entry_of}
use Rattle.cell.specs.TableLaws.{form_of_good}
use Rattle.recording.specs.declared.Certificate.{Certificate}
use Rattle.recording.specs.declared.Seat.{Seat}
use Rattle.recording.proofs.AcceptedLaws.{set_is_Q}
use Rattle.recording.specs.CatalogueCertificate.{follower, catalogue_looms, CatalogueCertificate}
use Rattle.recording.proofs.CatalogueOrdersLaws.{looms_counted, reaches_A, reaches_B, row_of_A, row_of_B}
use Rattle.recording.specs.Check.{looms_of, first_misfit, room_for, fault_of, judgement, set_by, judged_of}
use Rattle.recording.specs.CheckLaws.{fault_looms, fault_none, judged_past}
use Rattle.recording.specs.Known.{certificate_of}
use Rattle.recording.specs.Recording.{empty_seat, InSet, side_count}
use Rattle.recording.proofs.VerdictLaws.{when_recorded}

-- There is such a certificate.
pub catalogue_certificate : (n : ℕ) → 2 ≤ n → CatalogueCertificate n (certificate_of n (catalogue_looms n))
catalogue_certificate n several =
    record {
      start_is = refl;
      count_is = looms_counted n several;
      looms_are = take_at (catalogue_looms n) (replicate (edition.looms - length (catalogue_looms n)) empty_seat) (length (catalogue_looms n)) refl;
    }

-- The size of a set that is an interval of states.
interval_size : (low high w : ℕ) → ((q : ℕ) → (bit w q ≡ 1) ↔ ((low ≤ q) × (q < high))) → (k : ℕ) → size_of k w ≡ min k high - min k low
unfolding size_of members
interval_size low high w is zero = omega arith
interval_size low high w is (suc k) = size_more k w ∙ go (dec_le low k) (dec_lt k high) (interval_size low high w is k)
  where
    out : ((low ≤ k) × (k < high) → ⊥) → bit w k ≡ 0
    out not_there = elim (bit_cases w k) [ inl none ↦ none | inr there ↦ absurd (not_there ((is k).0 there)) ]

    go : Dec (low ≤ k) → Dec (k < high) → size_of k w ≡ min k high - min k low → size_of k w + bit w k ≡ min (suc k) high - min (suc k) low
    go (yes above) (yes below) before = omega (arith, (is k).1 (above, below))
    go (yes above) (no past) before = omega (arith, out (λ there. past there.1))
    go (no early) below before = omega (arith, out (λ there. early there.0))

-- ---- the looms
followers_fit : (k : ℕ) → first_misfit 2 (replicate k follower) ≡ k
unfolding first_misfit
followers_fit zero = refl
followers_fit (suc k) = ap suc (followers_fit k)

followers_of_A : (k : ℕ) → side_count 0 (replicate k follower) ≡ 0
followers_of_A zero = refl
followers_of_A (suc k) = omega (arith, followers_of_A k)

followers_of_B : (k : ℕ) → side_count 1 (replicate k follower) ≡ k
followers_of_B zero = refl
followers_of_B (suc k) = omega (arith, followers_of_B k)

all_fit : (n : ℕ) → 2 ≤ n → first_misfit 2 (catalogue_looms n) ≡ n
unfolding first_misfit
all_fit n several = omega (arith, followers_fit (n - 1))

one_of_A : (n : ℕ) → side_count 0 (catalogue_looms n) ≡ 1
one_of_A n = omega (arith, followers_of_A (n - 1))

rest_of_B : (n : ℕ) → side_count 1 (catalogue_looms n) ≡ n - 1
rest_of_B n = omega (arith, followers_of_B (n - 1))

module _ (n : ℕ) (several : 2 ≤ n) (few : n ≤ edition.looms) (c : Certificate) (is : CatalogueCertificate n c) (room : ℕ) (enough : room_for n ≤ room) where
  -- ---- past 2 to 9 and 40
  past : fault_of (table_of n) (2 * n) 2 c room ≡ Ok tt
  past =
      fault_looms (table_of n) (2 * n) 2 c room (form_of_good (table_of n) (2 * n) 2 (catalogue_has_form n several few))
      (omega (arith, is.start_is))
      ∙ fault_none 2 c room (omega (arith, is.count_is)) (omega (arith, is.count_is))
      (omega (arith, is.count_is, all_fit n several, ap (first_misfit 2) is.looms_are))
      (λ none. omega (arith, one_of_A n, ap (side_count 0) is.looms_are))
      (λ none. omega (arith, rest_of_B n, ap (side_count 1) is.looms_are))
      (subst (λ (k : ℕ). room_for k ≤ room) (sym is.count_is) enough)

  -- ---- the sets
  set_a : ℕ
  set_a = set_by (table_of n) (2 * n) c 0

  set_b : ℕ
  set_b = set_by (table_of n) (2 * n) c 1

  of_these : (X q : ℕ) → InSet (entry_of (table_of n) (2 * n)) (looms_of c) c.start X q ≡ InSet (entry_of (table_of n) (2 * n)) (catalogue_looms n) n X q
  of_these X q = ap₂ (λ (l : List Seat) (s : ℕ). InSet (entry_of (table_of n) (2 * n)) l s X q) is.looms_are is.start_is

  rows_of_A : (q : ℕ) → (bit set_a q ≡ 1) ↔ ((0 ≤ q) × (q < n))
  unfolding set_a
  rows_of_A q =
      let Q = set_is_Q (table_of n) (2 * n) 2 c room past 0 q in (
        λ has. (omega arith, reaches_A n several q (transport (of_these 0 q) (Q.0 has))),
        λ within. Q.1 (transport (sym (of_these 0 q)) (row_of_A n several q within.1)),
      )

  rows_of_B : (q : ℕ) → (bit set_b q ≡ 1) ↔ ((n + 1 ≤ q) × (q < 2 * n))
  unfolding set_b
  rows_of_B q =
      let Q = set_is_Q (table_of n) (2 * n) 2 c room past 1 q in (
        λ has. let there = reaches_B n several q (transport (of_these 1 q) (Q.0 has)) in (omega (arith, there.0), there.1),
        λ within. Q.1 (transport (sym (of_these 1 q)) (row_of_B n several q (omega (arith, within.0)) within.1)),
      )

  -- ---- the answer
  pub recorded : judged_of (table_of n) (2 * n) 2 c room ≡ judgement (Ok tt) (set_by (table_of n) (2 * n) c 0) (set_by (table_of n) (2 * n) c 1)
  unfolding set_a set_b
  recorded =
      judged_past (table_of n) (2 * n) 2 c room past
      ∙ when_recorded c.start (side_count 0 (looms_of c)) (side_count 1 (looms_of c)) set_a set_b
      (λ q in_a in_b. omega (arith, (rows_of_A q).0 in_a, (rows_of_B q).0 in_b))
      (inl (λ there. omega (arith, (rows_of_A c.start).0 there, is.start_is)))
      (inl (λ there. omega (arith, (rows_of_B c.start).0 there, is.start_is)))

  pub size_of_A : size_of word_bits (set_by (table_of n) (2 * n) c 0) ≡ n
  unfolding set_a
  size_of_A = interval_size 0 n set_a rows_of_A word_bits ∙ omega arith

  pub size_of_B : size_of word_bits (set_by (table_of n) (2 * n) c 1) ≡ n - 1
  unfolding set_b
  size_of_B = interval_size (n + 1) (2 * n) set_b rows_of_B word_bits ∙ omega arith
