-- What stands past the last byte that isn't a space is spaces.
use Rattle.std.specs.Prelude.{ℕ, ◌≡◌, ◌≢◌, ◌<◌, length, get_or, take}
use Rattle.std.proofs.Common.{ap, sym, rules}
use Rattle.order.specs.Label.{trim_of}
use Rattle.order.specs.LabelLaws.{trimmed_at, trimmed_all}
use Rattle.order.proofs.trimmed.Goals as goal

pub returns-in-Some-clause-bytes : goal.returns-in-Some-clause-bytes
unfolding trim_of
returns-in-Some-clause-bytes c =
    let s = c.args.label.now in
    let inside : c.in-Some.last < length s = search rules in
    let here : get_or s c.in-Some.last 0 ≢ 32 = search rules in
    let past : (j : ℕ) → c.in-Some.last < j → j < length s → get_or s j 0 ≡ 32 = search rules in
    ap (λ (n : ℕ). take n s) (sym (trimmed_at s (length s) c.in-Some.last inside here past))

pub returns-in-None-clause-bytes : goal.returns-in-None-clause-bytes
unfolding trim_of
returns-in-None-clause-bytes c =
    let s = c.args.label.now in
    let each : (j : ℕ) → j < length s → get_or s j 0 ≡ 32 = search rules in
    ap (λ (n : ℕ). take n s) (sym (trimmed_all s (length s) each))
