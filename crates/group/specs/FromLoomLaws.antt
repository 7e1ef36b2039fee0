-- Laws of a group's looms from one on, and of what they go by from its parts.
-- Assumes nothing.
use Rattle.std.specs.Prelude.{ℕ, ◌+◌, ◌*◌, ◌≤◌, ◌<◌, min, ◌≡◌, List, eqb, length, take, drop, get_or}
use Rattle.std.proofs.Math.Decide.{dec_le}
use Rattle.std.proofs.Common.{arith, add-one, sym, ap, ◌∙◌, length-take, drop_of_length-le, drop-cons, get_or-take, take_all, mul-le-mul}
use Rattle.cell.specs.Limits.{edition}
use Rattle.recording.specs.Recording.{one}
use Rattle.sides.specs.declared.Side.{Side}
use Rattle.sides.specs.Sides.{other, same_side, of_side}
use Rattle.loom.specs.declared.Loom.{Loom}
use Rattle.loom.specs.declared.Lead.{Lead}
use Rattle.loom.specs.Looms.{rules_of}
use Rattle.group.specs.declared.Group.{Group}
use Rattle.group.specs.Group.{empty_loom, count_of, yielding_of, leading_of, lead_of, group_rules, loom_at}
use Rattle.group.specs.Step.{step_on_of, own_step}

-- Counting from loom i on is loom i and counting from the next on.
pub count_from : (s : Side) (looms : List Loom) (n i : ℕ) → i < n → n ≤ length looms →
    count_of s (drop i (take n looms)) ≡ one (same_side (get_or looms i empty_loom).side s) + count_of s (drop (i + 1) (take n looms))
unfolding count_of
count_from s looms n i below within =
    let short : i < length (take n looms) = simp length-take (omega arith) in
    rw (drop-cons (take n looms) i empty_loom short, add-one, get_or-take)

-- From the last loom on there is none to count.
pub count_past : (s : Side) (looms : List Loom) (n i : ℕ) → n ≤ i → count_of s (drop i (take n looms)) ≡ 0
unfolding count_of
count_past s looms n i past =
    let all : length (take n looms) ≤ i = simp length-take (omega arith) in
    rw (drop_of_length-le (take n looms) all)

-- What the looms go by, from its parts: y is the yielding side, s the leading side, w its set and n the count of the yielding side.
pub lead_of_parts : (g : Group) (y s : Side) (w n : ℕ) →
    y ≡ yielding_of g.start g.sets →
    s ≡ other y →
    w ≡ of_side g.sets s →
    n ≡ count_of y (take g.count g.looms) →
    ◌≡◌ {A = Lead} (record { start = g.start; side = s; set = w; alone = eqb n 1 }) (lead_of g)
unfolding lead_of
lead_of_parts g y s w n ey es ew en =
    let leads : s ≡ leading_of g.start g.sets = es ∙ ap other ey in
    rw (ew ∙ ap (of_side g.sets) leads, leads, en ∙ ap (λ x. count_of x (take g.count g.looms)) ey)

-- Of a list no longer than m, the first n are the first n or m, whichever is less.
pub take_within : {A : Type 0} (n m : ℕ) (xs : List A) → length xs ≤ m → take (min n m) xs ≡ take n xs
take_within n m xs short =
    elim (dec_le n m) [
      | yes below ↦ let is : min n m ≡ n = omega arith in ap (λ i. take i xs) is
      | no past ↦ let is : min n m ≡ m = omega arith in ap (λ i. take i xs) is ∙ (take_all m xs short ∙ sym (take_all n xs (omega arith)))
    ]

-- The product of states and operations within the limits is a number of the machine.
pub entries_within : (states operations : ℕ) → states ≤ edition.states → operations ≤ edition.operations
    → states * operations ≤ edition.states * edition.operations
entries_within states operations few fitted = mul-le-mul few fitted

-- The step of loom k from the group's rules and its side's number, held elsewhere.
pub own_step_lem : (g : Group) (k : ℕ) (table : List ℕ) (states operations : ℕ) (lead : Lead) (v : ℕ) →
    lead ≡ lead_of g →
    v ≡ of_side g.numbers (loom_at g k).side →
    step_on_of (rules_of lead) v table states operations g.shared (loom_at g k) ≡ own_step table states operations g k
own_step_lem g k table states operations lead v el ev =
    ap (λ x. step_on_of (rules_of x) v table states operations g.shared (loom_at g k)) el
    ∙ ap (λ n. step_on_of (group_rules g) n table states operations g.shared (loom_at g k)) ev
