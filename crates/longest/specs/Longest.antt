-- The longest file: document 01, "The order file".
-- Assumes nothing.
use Rattle.std.specs.Prelude.{ℕ, ◌+◌, ◌*◌, ◌≡◌, refl}
use Rattle.cell.specs.Limits.{Limits, edition}
use Rattle.xdr.specs.Opaque.{pad_of, padded}

-- The most bytes that the parts of a file can have.
abbrev pub longest_of : Limits → ℕ
longest_of L = 12 + 4 * (L.states * L.operations) + 8 + 8 * L.looms + 8 + 4 + padded L.label + 4 + padded L.label + 4 + 4 * L.entries

-- And by today's limits it is that number.
pub longest_is : longest_of edition ≡ 20648
unfolding pad_of
longest_is = refl
