-- `sets::size` meets its contract: the ones of a word are the members of the set.
use mathlib.Core.Path.{sym}
use Rattle.sets.specs.Sets.{word_bits}
use Rattle.sets.specs.MembersLaws.{size_is_ones}
use Rattle.sets.proofs.size.Goals as goal

pub returns : goal.returns
returns c = sym (size_is_ones word_bits c.args.set c.ranges.set.fits)
