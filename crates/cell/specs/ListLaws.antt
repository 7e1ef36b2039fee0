-- Laws of lists that a loop over lent room wants.
-- Assumes nothing.
use Rattle.std.specs.Prelude.{ℕ, suc, ◌<◌, ◌≡◌, List, ◌++◌, length, get_or, set, take, drop}
use Rattle.std.proofs.Common.{sym, ap, ◌∙◌, le_of_lt, take-suc, drop-cons, length-take-le}
use Rattle.std.proofs.lemmas.List.{set_at}
use Rattle.std.proofs.Math.Seq.{append_snoc, take-length}

-- Room that holds the first i of `source` and its own rest, with one more of `source` written.
pub written_more : (source room : List ℕ) (i : ℕ) → i < length source → i < length room
    → set (take i source ++ drop i room) i (get_or source i 0) ≡ take (suc i) source ++ drop (suc i) room
written_more source room i more there =
    ap (λ (rest : List ℕ). set (take i source ++ rest) i (get_or source i 0)) (drop-cons room i 0 there)
    ∙ set_at (take i source) (get_or room i 0) (drop (suc i) room) (get_or source i 0) i (length-take-le i source (le_of_lt more))
    ∙ sym (append_snoc (take i source) (get_or source i 0) (drop (suc i) room))
    ∙ ap (λ (front : List ℕ). front ++ drop (suc i) room) (sym (take-suc source i 0 more))

-- Room with all of `source` written.
pub written_all : (source room : List ℕ) (n : ℕ) → length source ≡ n → take n source ++ drop n room ≡ source ++ drop n room
written_all source room n all = ap (λ (front : List ℕ). front ++ drop n room) (ap (λ (k : ℕ). take k source) (sym all) ∙ take-length source)
