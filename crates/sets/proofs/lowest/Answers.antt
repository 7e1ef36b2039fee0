-- `sets::lowest` meets its contract: the zeros below the lowest one are as many as the lowest state says.
use mathlib.Core.Path.{sym}
use Rattle.sets.specs.Sets.{word_bits}
use Rattle.sets.specs.MembersLaws.{lowest_is_trailing}
use Rattle.sets.proofs.lowest.Goals as goal

pub returns : goal.returns
returns c = sym (lowest_is_trailing word_bits c.args.set)
