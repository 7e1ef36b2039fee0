-- The rooms first, then the file; what is copied is what was judged.
use Rattle.std.specs.Prelude.{ℕ, ◌+◌, ◌*◌, ◌≤◌, ◌≡◌, List, ◌++◌, length, take, drop, Err}
use Rattle.std.proofs.Common.{sym, ap, ◌∙◌, arith, rules}
use Rattle.std.proofs.Math.Seq.{length-take-le}
use Rattle.cell.specs.Limits.{edition}
use Rattle.codes.specs.declared.Code.TheVariants.{NoRoom}
use Rattle.codes.specs.Codes.{refused_at}
use Rattle.format.specs.declared.Judgement.{Judgement}
use Rattle.order.specs.Order.{reading_of, accepted_of}
use Rattle.order.specs.OrderLaws.{lows_at, rooms_suffice, refused_reads}
use Rattle.order.proofs.ReadLaws.{file_bounds, reads}
use Rattle.order.proofs.read.Goals as goal

-- The entries of a table that is taken are no more than fit, and so are the schedule's: their part of the room is as long as they are many.
abbrev table_size : ℕ
table_size = edition.states * edition.operations

taken_whole : (n : ℕ) (room : List ℕ) (most : ℕ) → n ≤ most → most ≤ length room → length (take n room) ≡ n
taken_whole n room most few enough = length-take-le n room (omega arith)

pub returns-then-table-lt-TABLE : goal.returns-then-table-lt-TABLE
unfolding reading_of
returns-then-table-lt-TABLE c =
    let a = c.args in
    let short : reading_of edition a.file.now (length a.table.now) (length a.schedule.now) ≡ Err (refused_at NoRoom 0) = search rules in
    rw c.at.ensures (refused_reads edition a.file.now a.table.now a.schedule.now _ short)

pub returns-in_err-judgement : goal.returns-in_err-judgement
returns-in_err-judgement c =
    let a = c.args in
    let e : c.from_residual.result ≡ Err c.in_err-judgement.field-0.0 = search rules in
    let verdict = sym (ap (λ (J : Judgement). J.verdict) c.judge-judgement.ensures.0) ∙ c.in_err-judgement.was in
    rw e
    (refused_reads edition a.file.now a.table.now a.schedule.now _
    (rooms_suffice _ _ _ _ c.if-table-lt-TABLE.false c.if-schedule-lt-ENTRIES.false ∙ verdict))

pub slice_bounds-fill-end : goal.slice_bounds-fill-end
slice_bounds-fill-end c = omega (arith, (file_bounds _ _ c.judge-judgement.ensures.0 _ c.in_ok-judgement.was).size)

pub slice_bounds-fill-end-2 : goal.slice_bounds-fill-end-2
slice_bounds-fill-end-2 c = sym (taken_whole _ _ table_size (file_bounds _ _ c.judge-judgement.ensures.0 _ c.in_ok-judgement.was).size c.if-table-lt-TABLE.false)

pub fill-requires : goal.fill-requires
fill-requires c =
    let B = file_bounds _ _ c.judge-judgement.ensures.0 _ c.in_ok-judgement.was in
    rw (taken_whole _ _ table_size B.size c.if-table-lt-TABLE.false) (omega (arith, B.size))

pub slice_bounds-fill-end-3 : goal.slice_bounds-fill-end-3
slice_bounds-fill-end-3 c = omega (arith, (file_bounds _ _ c.judge-judgement.ensures.0 _ c.in_ok-judgement.was).count)

pub slice_bounds-fill-end-4 : goal.slice_bounds-fill-end-4
slice_bounds-fill-end-4 c = sym (taken_whole _ _ edition.entries (file_bounds _ _ c.judge-judgement.ensures.0 _ c.in_ok-judgement.was).count c.if-schedule-lt-ENTRIES.false)

pub seats-requires : goal.seats-requires
seats-requires c =
    let B = file_bounds _ _ c.judge-judgement.ensures.0 _ c.in_ok-judgement.was in
    (B.looms, omega (arith, B.looms, c.judge-judgement.ensures.1.start))

pub returns : goal.returns
unfolding accepted_of
returns c =
    let a = c.args in
    let J = c.judge-judgement.result in
    let B = file_bounds _ _ c.judge-judgement.ensures.0 _ c.in_ok-judgement.was in
    let enough = c.if-table-lt-TABLE.false in
    let enough' = c.if-schedule-lt-ENTRIES.false in
    let table : c.fill.new.room ≡ lows_at a.file.now J.plan.entries 12 =
    rw (taken_whole _ _ table_size B.size enough) at c.fill.ensures in
    let schedule : c.fill-2.new.room ≡ lows_at a.file.now J.plan.acts (J.plan.schedule + 4) =
    rw (taken_whole _ _ edition.entries B.count enough') at c.fill-2.ensures in
    reads a.file.now J c.judge-judgement.ensures.0 _ c.in_ok-judgement.was _ _ _ _ _ enough enough'
    (rw (c.word_at.ensures.0, c.seats.ensures, c.word_at-2.ensures.0, c.word_at-3.ensures.0))
    (ap (λ (xs : List ℕ). xs ++ drop J.plan.entries a.table.now) table)
    (ap (λ (xs : List ℕ). xs ++ drop J.plan.acts a.schedule.now) schedule)
