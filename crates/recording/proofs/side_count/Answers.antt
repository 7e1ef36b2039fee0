-- `recording::side_count` meets its contract: the library's count is the looms of the side.
use Rattle.std.specs.Prelude.{◌≡◌, eqb}
use Rattle.std.proofs.Common.{sym, ◌∙◌}
use Rattle.std.specs.List as list
use borrow.Author.Rules.{rules}
use Rattle.sides.specs.Sides.{side_number}
use Rattle.recording.specs.CheckLaws.{side_count_is}
use Rattle.recording.proofs.side_count.Goals as goal

pub returns : goal.returns
returns c =
    let counted : c.count.result ≡ list.count_by (λ l. eqb l.side (side_number c.args.side)) c.args.looms.now = search rules in
    counted ∙ sym (side_count_is (side_number c.args.side) c.args.looms.now)
