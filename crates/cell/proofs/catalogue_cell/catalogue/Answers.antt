-- `cell::catalogue_cell::catalogue` meets its contract: each way out is one of the code's laws.
use Rattle.std.specs.Prelude.{ℕ, Ok, List}
use Rattle.std.proofs.Common.{sym, subst}
use Rattle.cell.specs.Catalogue.{Catalogued}
use Rattle.cell.specs.CatalogueLaws.{no_cell_below, no_cell_above, room_too_short, room_enough, written_catalogued, refused_catalogued}
use Rattle.cell.proofs.catalogue_cell.catalogue.Goals.{then-n-lt2-via-then-n-lt2, then-n-lt2-via-else-n-lt2+then-n-gt-LOOMS}
use Rattle.cell.proofs.catalogue_cell.catalogue.Goals as goal

pub returns-then-n-lt2 : goal.returns-then-n-lt2
returns-then-n-lt2 c =
    elim c.then-n-lt2.branch [
      | then-n-lt2-via-then-n-lt2 w ↦ refused_catalogued _ _ _ (no_cell_below _ _ w.if-n-lt2.true)
      | then-n-lt2-via-else-n-lt2+then-n-gt-LOOMS w ↦ refused_catalogued _ _ _ (no_cell_above _ _ w.if-n-lt2.false w.if-n-gt-LOOMS.true)
    ]

pub returns-then-room-n : goal.returns-then-room-n
returns-then-room-n c = refused_catalogued _ _ _ (room_too_short _ _ c.if-n-lt2.false c.if-n-gt-LOOMS.false c.if-room-n.true)

pub returns : goal.returns
returns c =
    let args = c.args in
    subst (λ (after : List ℕ). Catalogued args.n args.room.now (Ok tt) after) (sym c.fill.ensures)
    (written_catalogued args.n args.room.now (room_enough _ _ c.if-n-lt2.false c.if-n-gt-LOOMS.false c.if-room-n.false))
