use Rattle.std.proofs.Common.{rules}
use Rattle.format.specs.Format.{item_at}
use Rattle.format.proofs.item_at.Goals as goal

pub returns-in-Entries : goal.returns-in-Entries
unfolding item_at
returns-in-Entries c = search rules

pub returns-in-Acts : goal.returns-in-Acts
unfolding item_at
returns-in-Acts c = search rules
