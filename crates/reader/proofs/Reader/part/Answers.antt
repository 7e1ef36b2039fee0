-- `Reader::part` meets its contract: a part that is there lies within the file.
use Rattle.std.proofs.Common.{sym, arith}
use Rattle.reader.proofs.ReaderLaws.{part_inside}
use Rattle.reader.proofs.Reader.part.Goals as goal

pub overflow_add-result : goal.overflow_add-result
overflow_add-result c = omega (arith, part_inside _ _ _ _ (sym c.in-Ok.ensures))

pub slice_bounds-result-end : goal.slice_bounds-result-end
slice_bounds-result-end c = part_inside _ _ _ _ (sym c.in-Ok.ensures)
