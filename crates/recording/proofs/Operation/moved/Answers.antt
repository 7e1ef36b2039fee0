-- `recording::Operation::moved` meets its contract: the lookup is not refused, and answers the entry.
use Rattle.recording.specs.FittingLaws.{put_next}
use Rattle.recording.proofs.Operation.moved.Goals as goal

pub returns-in-Some : goal.returns-in-Some
returns-in-Some c = put_next _ _ _ _ c.args.self.leads c.requires c.in-Some.to _ _ c.in-Some.ensures (rw (← c.from.ensures) c.insert.ensures)
