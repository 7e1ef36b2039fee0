-- Laws of entries as acts.
-- Assumes nothing.
use Rattle.std.specs.Prelude.{ℕ, ◌+◌, ◌≤◌, ◌<◌, ◌≡◌, Bool, true, false, ◌&&◌, List, length, get_or, drop}
use Rattle.std.proofs.Common.{add-one, sym, ap, ◌∙◌, drop_of_length-le, drop-cons}
use Rattle.schedule.specs.Acts.{act_of, is_named, all_named}

-- Whether all are named from entry i on: entry i, and all from the next on.
named_from : (count : ℕ) (schedule : List ℕ) (i : ℕ) → i < length schedule →
    all_named count (drop i schedule) ≡ is_named count (act_of (get_or schedule i 0)) && all_named count (drop (i + 1) schedule)
unfolding all_named
named_from count schedule i here = rw (add-one, drop-cons schedule i 0 here)

-- Where entry i is not named, not all from i on are; where it is, it is up to the rest.
module _ (count : ℕ) (schedule : List ℕ) (i : ℕ) (here : i < length schedule) (named : Bool) (is : named ≡ is_named count (act_of (get_or schedule i 0))) where
  pub unnamed_here : named ≡ false → false ≡ all_named count (drop i schedule)
  unnamed_here no-act =
      sym (named_from count schedule i here ∙ ap (λ t. t && all_named count (drop (i + 1) schedule)) (sym is ∙ no-act))

  pub named_further : named ≡ true → all_named count (drop (i + 1) schedule) ≡ all_named count (drop i schedule)
  named_further act = sym (named_from count schedule i here ∙ ap (λ t. t && all_named count (drop (i + 1) schedule)) (sym is ∙ act))

-- From the end on there is none that isn't.
pub named_past : (count : ℕ) (schedule : List ℕ) (i : ℕ) → length schedule ≤ i → all_named count (drop i schedule) ≡ true
unfolding all_named
named_past count schedule i past = rw (drop_of_length-le schedule past)
