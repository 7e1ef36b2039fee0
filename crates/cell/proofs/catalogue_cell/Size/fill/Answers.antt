-- `cell::catalogue_cell::Size::fill` meets its contract. The invariant: the first i entries are written, and the rest of the room is as it was.
use Rattle.std.specs.Prelude.{ℕ, ◌*◌, ◌<◌, ◌≡◌, List, ◌++◌, get_or, set, take, drop}
use Rattle.std.proofs.Common.{sym, ap, ◌∙◌, add-one, arith}
use Rattle.cell.specs.ListLaws.{written_more, written_all}
use Rattle.cell.specs.Catalogue.{table_of}
use Rattle.cell.specs.CatalogueLaws.{table_length, table_entry}
use Rattle.cell.proofs.catalogue_cell.Size.fill.Goals as goal

pub loop-i-preserved : goal.loop-i-preserved
loop-i-preserved c =
    let loop = c.loop-i in
    let n = c.args.self.n in
    let within : loop.i < 4 * n = omega arith in
    ap (set loop.room loop.i) (c.entry.ensures ∙ sym (table_entry n loop.i within))
    ∙ ap (λ (room : List ℕ). set room loop.i (get_or (table_of n) loop.i 0)) loop.invariant
    ∙ rw add-one (written_more (table_of n) c.args.room.now loop.i (omega (arith, table_length n)) (omega arith))

pub returns : goal.returns
returns c =
    let loop = c.loop-i in
    let done : loop.i ≡ 4 * c.args.self.n = omega arith in
    loop.invariant
    ∙ ap (λ (k : ℕ). take k (table_of c.args.self.n) ++ drop k c.args.room.now) done
    ∙ written_all (table_of c.args.self.n) c.args.room.now (4 * c.args.self.n) (table_length c.args.self.n)
