-- No file is longer: document 01, "The order file".
-- Assumes nothing.
use Rattle.std.specs.Prelude.{ℕ, ◌≤◌, List, length}
use Rattle.std.proofs.Common.{arith}
use Rattle.cell.specs.Limits.{Limits}
use Rattle.xdr.specs.Field.{Passed}
use Rattle.xdr.proofs.OpaqueLaws.{padded_grows}
use Rattle.format.specs.Layout.{plan_of}
use Rattle.format.specs.Format.{verdict_of}
use Rattle.format.proofs.AcceptedLaws.{verdict_bounds}
use Rattle.longest.specs.Longest.{longest_of}

-- "The longest file has 20,648 bytes": no file that is taken has more, by any limits.
pub no_longer : (L : Limits) (s : List ℕ) → Passed (verdict_of L s) → length s ≤ longest_of L
unfolding plan_of
no_longer L s h =
    let B = verdict_bounds L s h in
    let first = padded_grows _ _ B.first in
    let second = padded_grows _ _ B.second in
    omega (arith, B.size, B.looms, B.count, B.end)
