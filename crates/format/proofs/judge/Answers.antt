-- What is parsed of a file that is taken is its plan, which says where it ends.
use Rattle.format.proofs.AcceptedLaws.{judgement_taken}
use Rattle.format.proofs.judge.Goals as goal

pub returns-in-Ok : goal.returns-in-Ok
returns-in-Ok c = (judgement_taken _ _ _ c.in-Ok.ensures.judged, c.in-Ok.ensures.small)
