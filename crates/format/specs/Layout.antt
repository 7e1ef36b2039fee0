-- Where the parts of an order file begin: document 01, "The order file". "In order: states; operations; the table as a counted array;
-- start; looms as a counted array of (side, operation); number A; number B; label A and label B as variable opaque, padded to a multiple
-- of four; the schedule as a counted array."
-- Assumes nothing.
use Rattle.std.specs.Prelude.{ℕ, ◌+◌, ◌*◌, ◌<◌, ◌^◌, List}
use Rattle.xdr.specs.Field.{word_at}
use Rattle.xdr.specs.Opaque.{pad_of}
use Rattle.format.specs.declared.Plan.{Plan}

-- The start follows the table, which stands after three words.
abbrev pub start_from : ℕ → ℕ
start_from entries = 12 + 4 * entries

-- Number A follows the looms, two words each, which stand after the start and their count.
abbrev pub numbers_from : ℕ → ℕ → ℕ
numbers_from start looms = start + 8 + 8 * looms

-- What follows an opaque part of so many bytes whose length stands at p.
abbrev pub past_part : ℕ → ℕ → ℕ
past_part p n = p + 4 + n + pad_of n

-- The plan of a file, as its words say; 0 for a word that the file lacks.
unfoldable pub plan_of : List ℕ → Plan
plan_of s =
    let entries = word_at s 8 in
    let start = start_from entries in
    let looms = word_at s (start + 4) in
    let numbers = numbers_from start looms in
    let first = word_at s (numbers + 8) in
    let rest = past_part (numbers + 8) first in
    let second = word_at s rest in
    let schedule = past_part rest second in
    record {
      states = word_at s 0;
      operations = word_at s 4;
      entries = entries;
      start = start;
      looms = looms;
      numbers = numbers;
      first = first;
      rest = rest;
      second = second;
      schedule = schedule;
      acts = word_at s schedule;
    }

-- A plan whose places and counts are far below the largest position, as those of words are.
pub record Small (P : Plan) : Type 0 where
  pub start : P.start < 2 ^ 40
  pub looms : P.looms < 2 ^ 32
  pub numbers : P.numbers < 2 ^ 40
  pub rest : P.rest < 2 ^ 40
  pub schedule : P.schedule < 2 ^ 40
  pub acts : P.acts < 2 ^ 32
