-- The schedule of a file that is taken: every entry names an act, and there aren't too many.
-- Assumes nothing.
use Rattle.std.specs.Prelude.{ℕ, zero, suc, ◌+◌, ◌*◌, ◌≤◌, ◌<◌, ◌≡◌, refl, true, Ok, List, length}
use Rattle.std.proofs.Common.{sym, subst, ◌∙◌, suc-mul, zero-mul, arith, le-ltb}
use Rattle.codes.specs.declared.Code.TheVariants.{Act}
use Rattle.cell.specs.Limits.{edition}
use Rattle.xdr.specs.Field.{word_at}
use Rattle.xdr.specs.FieldLaws.{field_taken, run_taken}
use Rattle.format.proofs.AcceptedLaws.{Passes, bounds}
use Rattle.format.specs.Format.{names_act, item_at}
use Rattle.format.specs.Layout.{plan_of}
use Rattle.order.specs.Order.{words_at}
use Rattle.order.proofs.ReadsPassLaws.{words_length}
use Rattle.schedule.specs.Acts.{all_named}
use Rattle.schedule.specs.Run.{refusal_of}
use Rattle.boundary.specs.EntriesLaws.{named_alike}

all_named_lem : (looms : ℕ) (s : List ℕ) (n p : ℕ) → looms ≤ edition.looms → ((j : ℕ) → j < n → names_act looms (word_at s (p + j * 4)) ≡ true)
    → all_named looms (words_at s n p) ≡ true
unfolding words_at
all_named_lem looms s zero p few each = refl
all_named_lem looms s (suc n) p few each =
    let first : names_act looms (word_at s p) ≡ true =
    subst (λ (q : ℕ). names_act looms (word_at s q) ≡ true) (omega (arith, zero-mul 4)) (each 0 (omega arith)) in
    let rest : all_named looms (words_at s n (p + 4)) ≡ true =
    all_named_lem looms s n (p + 4) few
    (λ j below. subst (λ (q : ℕ). names_act looms (word_at s q) ≡ true) (omega (arith, suc-mul j 4)) (each (suc j) (omega (arith, below)))) in
    rw (sym (named_alike looms (word_at s p) few) ∙ first, rest)

pub none_refuses : (s : List ℕ) → Passes edition s (plan_of s) → (room : ℕ) → (plan_of s).acts ≤ room
    → refusal_of (plan_of s).looms (words_at s (plan_of s).acts ((plan_of s).schedule + 4)) room ≡ Ok tt
unfolding refusal_of item_at
none_refuses s passes room enough =
    let limits = bounds edition s passes in
    let long = words_length s (plan_of s).acts ((plan_of s).schedule + 4) in
    let acts = (run_taken _ _ _ _ _ passes.acts.1).0 in
    rw (
      le-ltb edition.entries (length (words_at s (plan_of s).acts ((plan_of s).schedule + 4))) (omega (arith, long, limits.count)),
      all_named_lem (plan_of s).looms s (plan_of s).acts ((plan_of s).schedule + 4) limits.looms
          (λ j below. (field_taken _ (names_act (plan_of s).looms) Act s ((plan_of s).schedule + 4 + j * 4) (acts j below).0 (acts j below).1).good),
      le-ltb room (length (words_at s (plan_of s).acts ((plan_of s).schedule + 4))) (omega (arith, long, enough)),
    )
