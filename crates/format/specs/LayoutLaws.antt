-- The plan of a file, from words that were read one after the other.
-- Assumes nothing.
use Rattle.std.specs.Prelude.{ℕ, ◌+◌, ◌≡◌, List}
use Rattle.xdr.specs.Field.{word_at}
use Rattle.xdr.specs.Opaque.{pad_of}
use Rattle.format.specs.Layout.{start_from, numbers_from, plan_of}

-- Each number is rewritten by the word that it was read from, the last first, since its place names the earlier ones.
pub plan_is : (s : List ℕ) (entries looms first pads second pads' states operations acts : ℕ)
    → entries ≡ word_at s 8
    → looms ≡ word_at s (start_from entries + 4)
    → first ≡ word_at s (numbers_from (start_from entries) looms + 8)
    → pads ≡ pad_of first
    → second ≡ word_at s (numbers_from (start_from entries) looms + 8 + 4 + first + pads)
    → pads' ≡ pad_of second
    → states ≡ word_at s 0
    → operations ≡ word_at s 4
    → acts ≡ word_at s (numbers_from (start_from entries) looms + 8 + 4 + first + pads + 4 + second + pads')
    → record {
      states = states;
      operations = operations;
      entries = entries;
      start = start_from entries;
      looms = looms;
      numbers = numbers_from (start_from entries) looms;
      first = first;
      rest = numbers_from (start_from entries) looms + 8 + 4 + first + pads;
      second = second;
      schedule = numbers_from (start_from entries) looms + 8 + 4 + first + pads + 4 + second + pads';
      acts = acts;
    } ≡ plan_of s
unfolding plan_of
plan_is s entries looms first pads second pads' states operations acts e l f p s' p' q o a = rw (a, o, q, p', s', p, f, l, e)
