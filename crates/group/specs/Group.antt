-- A group as a value: its rules, its numbers and its looms. Document 01, "One loom's steps" and "Codes and their order".
-- Assumes nothing.
use Rattle.std.specs.Prelude.{ℕ, zero, suc, ◌+◌, Bool, cond, ◌||◌, List, [], ◌∷◌, eqb, leb, ltb, take, set, get_or}
use Rattle.sets.specs.Sets.{has_of}
use Rattle.cell.specs.Limits.{edition}
use Rattle.recording.specs.Recording.{one}
use Rattle.sides.specs.declared.Side.{Side}
use Rattle.sides.specs.declared.Side.TheVariants.{A, B}
use Rattle.loom.specs.declared.Place.TheVariants.{Begin}
use Rattle.loom.specs.declared.Loom.{Loom}
use Rattle.loom.specs.declared.Lead.{Lead}
use Rattle.loom.specs.declared.Shared.{Shared}
use Rattle.sides.specs.declared.Pair.{Pair}
use Rattle.sides.specs.Sides.{other, same_side, of_side}
use Rattle.loom.specs.Turn.{Rules}
use Rattle.loom.specs.Looms.{rules_of, restarted_of}
use Rattle.group.specs.declared.Group.{Group}

-- "Loom slots beyond a group's count are side A, operation 0, begin, count 0."
abbrev pub empty_loom : Loom
empty_loom = record { side = A; operation = 0; steps = 0; place = Begin }

-- Loom k of a group.
abbrev pub loom_at : Group → ℕ → Loom
loom_at g k = get_or g.looms k empty_loom

-- How many looms of a list are of the side s.
unfoldable pub count_of : Side → List Loom → ℕ
count_of s [] = 0
count_of s (l ∷ ls) = one (same_side l.side s) + count_of s ls

-- "The yielding side is B, except that it is A when the start is in the set of B."
abbrev pub yielding_of : ℕ → Pair ℕ → Side
yielding_of start sets = cond (has_of sets.b start) A B

-- "The other side is the leading side."
abbrev pub leading_of : ℕ → Pair ℕ → Side
leading_of start sets = other (yielding_of start sets)

-- What the looms of a group go by: the start, the leading side and its set, and whether the yielding side has one loom.
unfoldable pub lead_of : Group → Lead
lead_of g = record {
  start = g.start;
  side = leading_of g.start g.sets;
  set = of_side g.sets (leading_of g.start g.sets);
  alone = eqb (count_of (yielding_of g.start g.sets) (take g.count g.looms)) 1;
}

-- The same, as the rules of a step.
abbrev pub group_rules : Group → Rules
group_rules g = rules_of (lead_of g)

-- The group with l for its loom k. Whatever changes a group's loom is this.
abbrev pub with_loom : Group → ℕ → Loom → Group
with_loom g k l = record {
  count = g.count;
  start = g.start;
  sets = g.sets;
  numbers = g.numbers;
  shared = g.shared;
  looms = set g.looms k l;
}

-- The group with another memory. Whatever changes a group's memory is this.
abbrev pub with_shared : Group → Shared → Group
with_shared g m = record {
  count = g.count;
  start = g.start;
  sets = g.sets;
  numbers = g.numbers;
  shared = m;
  looms = g.looms;
}

-- The group with other looms.
abbrev pub with_looms : Group → List Loom → Group
with_looms g ls = record {
  count = g.count;
  start = g.start;
  sets = g.sets;
  numbers = g.numbers;
  shared = g.shared;
  looms = ls;
}

-- "30: [...] a group of more than 8."
abbrev pub too_many : Group → Bool
too_many g = ltb edition.looms g.count

-- "30: no such loom, or a group of more than 8": loom k among so many looms; and of a group.
abbrev pub none_of : ℕ → ℕ → Bool
none_of count k = ltb edition.looms count || leb count k

abbrev pub no_loom : Group → ℕ → Bool
no_loom g k = none_of g.count k

-- "A restart of a loom": of loom k, with the rest of the group as it was.
abbrev pub restarted_at : Group → ℕ → Group
restarted_at g k = with_loom g k (restarted_of (loom_at g k))

-- "A restart of all does it to every loom": to the looms below n, one after the other.
unfoldable pub restarted_below : Group → ℕ → Group
restarted_below g zero = g
restarted_below g (suc n) = restarted_at (restarted_below g n) n

-- The same on looms by themselves.
unfoldable pub looms_restarted : List Loom → ℕ → List Loom
looms_restarted ls zero = ls
looms_restarted ls (suc n) = set (looms_restarted ls n) n (restarted_of (get_or (looms_restarted ls n) n empty_loom))
