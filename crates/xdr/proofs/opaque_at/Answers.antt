-- The part lies in the file, so that its bytes are those that are tested.
use Rattle.std.specs.Prelude.{ℕ, ◌≡◌, ◌≤◌, ◌↔◌, ◌+◌, ◌-◌, Bool, true, false, IsTrue, List, length, take, drop, Ok, Err}
use Rattle.std.specs.List.{AllPass}
use Rattle.std.proofs.Common.{sym, ◌∙◌, arith, rules, le-leb}
use native.Mathlib.Nat.{add-sub_cancel_left}
use Rattle.codes.specs.Codes.{refused_at}
use Rattle.xdr.specs.Opaque.{padded, all, past_with, opaque_with}
use Rattle.xdr.proofs.OpaqueLaws.{all_is, opaque_takes, opaque_refuses, past_taken}
use Rattle.xdr.proofs.opaque_at.Goals as goal

pub returns-in_err-next : goal.returns-in_err-next
unfolding past_with opaque_with
returns-in_err-next g c = search rules

pub overflow_add-part : goal.overflow_add-part
overflow_add-part g c = omega (arith, (past_taken _ _ _ _ _ (sym c.in_ok-next.ensures)).0)

pub slice_bounds-part-end : goal.slice_bounds-part-end
slice_bounds-part-end g c = let inside = past_taken _ _ _ _ _ (sym c.in_ok-next.ensures) in omega arith

-- The test's answer b is of the bytes in the slice.
module _ {C : Type 0} (ends : C) (ok : ℕ → Bool) (code : C) (s : List ℕ) (n p u : ℕ) (b : Bool) (past : past_with ends s n p ≡ Ok u)
    (tested : IsTrue b ↔ AllPass ok (take (p + n - p) (drop p s))) where
  inside : (p + padded n ≤ length s) × (u ≡ p + padded n)
  inside = past_taken ends s n p u past

  all_tested : b ≡ all ok s n p
  all_tested = all_is ok s n p b (omega (arith, inside.0)) (rw add-sub_cancel_left at tested)

  takes : b ≡ true → Ok u ≡ opaque_with ends ok code s n p
  takes good = rw inside.1 (sym (opaque_takes ends ok code s n p (le-leb (p + padded n) (length s) inside.0) (sym all_tested ∙ good)))

  refuses : b ≡ false → Err (refused_at code p) ≡ opaque_with ends ok code s n p
  refuses bad = sym (opaque_refuses ends ok code s n p (le-leb (p + padded n) (length s) inside.0) (sym all_tested ∙ bad))

pub returns-then-all : goal.returns-then-all
returns-then-all g c =
    let a = c.args in
    let ok = g.R.Rule.allows a.rule in
    let tested : IsTrue c.all.result ↔ AllPass ok (take (a.at + a.count - a.at) (drop a.at a.file.now)) = search rules in
    takes _ ok a.code a.file.now a.count a.at _ _ (sym c.in_ok-next.ensures) tested c.if-all.true

pub returns : goal.returns
returns g c =
    let a = c.args in
    let ok = g.R.Rule.allows a.rule in
    let tested : IsTrue c.all.result ↔ AllPass ok (take (a.at + a.count - a.at) (drop a.at a.file.now)) = search rules in
    rw c.refused.ensures (refuses _ ok a.code a.file.now a.count a.at _ _ (sym c.in_ok-next.ensures) tested c.if-all.false)
