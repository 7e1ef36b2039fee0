-- The reader of a file and a run say alike which entries name an act: an entry that the one passes, the other doesn't refuse with 13.
-- Assumes nothing.
use Rattle.std.specs.Prelude.{ℕ, ◌+◌, ◌-◌, ◌≤◌, ◌<◌, ◌≡◌, ltb}
use Rattle.std.proofs.Math.Bool.{or-false}
use Rattle.std.proofs.Math.Decide.{dec_lt}
use Rattle.std.proofs.Common.{arith, lt-ltb, le-ltb, le-leb, eq-eqb, ne_eqb}
use Rattle.std.proofs.lemmas.Bool.{lt-leb}
use Rattle.cell.specs.Limits.{edition, first_restart, entry_of_all}
use Rattle.xdr.specs.Field.{within}
use Rattle.format.specs.Format.{names_act}
use Rattle.schedule.specs.Acts.{act_of, is_named}

-- An entry of a loom's restart is below the last of them exactly where its loom is one of so many.
restart_of_a_loom : (looms e : ℕ) → first_restart ≤ e → ltb e (first_restart + looms) ≡ ltb (e - first_restart) looms
restart_of_a_loom looms e past = go (dec_lt e (first_restart + looms))
  where
    go : Dec (e < first_restart + looms) → ltb e (first_restart + looms) ≡ ltb (e - first_restart) looms
    go (yes here) = simp (lt-ltb e (first_restart + looms) here, lt-ltb (e - first_restart) looms (omega arith))
    go (no beyond) = simp (le-ltb e (first_restart + looms) (omega arith), le-ltb (e - first_restart) looms (omega arith))

pub named_alike : (looms e : ℕ) → looms ≤ edition.looms → names_act looms e ≡ is_named looms (act_of e)
unfolding names_act within act_of
named_alike looms e few = go (dec_lt e first_restart) (dec_lt e entry_of_all) (dec_lt entry_of_all e)
  where
    go : Dec (e < first_restart) → Dec (e < entry_of_all) → Dec (entry_of_all < e) → names_act looms e ≡ is_named looms (act_of e)
    go (yes step) _ _ = simp (lt-ltb e first_restart step, lt-leb first_restart e step, ne_eqb e entry_of_all (λ h. omega arith), or-false)
    go (no restart) (yes below) _ =
        simp (le-ltb e looms (omega arith), le-ltb e first_restart (omega arith), lt-ltb e entry_of_all below, le-leb first_restart e (omega arith), ne_eqb e entry_of_all (λ h. omega arith), or-false)
        (restart_of_a_loom looms e (omega arith))
    go (no restart) (no past) (yes beyond) =
        simp (le-ltb e looms (omega arith), le-ltb e first_restart (omega arith), le-ltb e entry_of_all (omega arith), le-leb first_restart e (omega arith), le-ltb e (first_restart + looms) (omega arith), ne_eqb e entry_of_all (λ h. omega arith))
    go (no restart) (no past) (no all) =
        simp (le-ltb e looms (omega arith), le-ltb e first_restart (omega arith), le-ltb e entry_of_all (omega arith), le-leb first_restart e (omega arith), le-ltb e (first_restart + looms) (omega arith), eq-eqb e entry_of_all (omega arith))
