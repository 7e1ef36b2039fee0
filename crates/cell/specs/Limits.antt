-- The upper limits of document 01, "What is on the order". Lower limits, and the ranges of a label's bytes and of a piece number, stand in
-- the definitions that test them.
-- Assumes nothing.
use Rattle.std.specs.Prelude.{ℕ}

-- "States 1 to 64, operations 1 to 16, looms 2 to 8, [...] labels 0 to 32 bytes, [...] schedules 0 to 4,096 entries."
pub record Limits : Type 0 where
  pub states : ℕ
  pub operations : ℕ
  pub looms : ℕ
  pub label : ℕ
  pub entries : ℕ

-- Today's edition.
abbrev pub edition : Limits
edition = record { states = 64; operations = 16; looms = 8; label = 32; entries = 4096 }

-- "Entry k is a step of loom k, 16 + k a restart of loom k, 32 a restart of all": where restarts begin among a schedule's entries, and the
-- entry of all.
abbrev pub first_restart : ℕ
first_restart = 16

abbrev pub entry_of_all : ℕ
entry_of_all = 32
