-- The fields are read one after the other as `ParsedLaws` says; a field that was taken lies in the file.
use Rattle.std.specs.Prelude.{ℕ, ◌≡◌, ◌*◌, ◌≤◌, List, Ok}
use Rattle.std.proofs.Common.{mul-le-mul, sym, arith, rules}
use Rattle.cell.specs.Limits.{edition}
use Rattle.codes.specs.declared.Code.{Code}
use Rattle.xdr.specs.Field.{within, field_at}
use Rattle.xdr.specs.FieldLaws.{field_inside, field_taken, within_taken, run_taken}
use Rattle.format.proofs.AcceptedLaws.{judged_small}
use Rattle.format.proofs.ParsedLaws.{parsed_is}
use Rattle.format.proofs.parsed.Goals as goal

-- A table within limits has few entries.
few_entries : (s : List ℕ) (p q : ℕ) (code code' : Code) (states operations : ℕ) → field_at (within 1 65) code s p ≡ Ok states
    → field_at (within 1 17) code' s q ≡ Ok operations → states * operations ≤ 64 * 16
few_entries s p q code code' states operations h k =
    let t = field_taken _ _ _ s p states h in
    let u = field_taken _ _ _ s q operations k in
    let below = (within_taken _ _ _ t.good).1 in
    let below' = (within_taken _ _ _ u.good).1 in
    let l : states ≤ 64 = omega (arith, t.value) in
    let l' : operations ≤ 16 = omega (arith, u.value) in
    mul-le-mul l l'

pub overflow_mul-size : goal.overflow_mul-size
overflow_mul-size c = omega (arith, few_entries _ _ _ _ _ _ _ (sym c.in_ok-states.ensures) (sym c.in_ok-operations.ensures))

pub overflow_add-size : goal.overflow_add-size
overflow_add-size c = omega (arith, few_entries _ _ _ _ _ _ _ (sym c.in_ok-states.ensures) (sym c.in_ok-operations.ensures))

pub overflow_add-count : goal.overflow_add-count
overflow_add-count c = omega (arith, field_inside _ _ _ _ _ _ (sym c.in_ok-field_at.ensures))

pub overflow_add-seats : goal.overflow_add-seats
overflow_add-seats c = omega (arith, field_inside _ _ _ _ _ _ (sym c.in_ok-looms.ensures))

pub sides_at-requires : goal.sides_at-requires
sides_at-requires c = omega (arith, (run_taken _ _ _ _ _ (sym c.in_ok-numbers.ensures)).1)

pub overflow_add-numbers : goal.overflow_add-numbers
overflow_add-numbers c = omega (arith, field_inside _ _ _ _ _ _ (sym c.in_ok-number_at.ensures))

pub overflow_add-label : goal.overflow_add-label
overflow_add-label c = omega (arith, field_inside _ _ _ _ _ _ (sym c.in_ok-number_at-2.ensures))

pub overflow_add-schedule : goal.overflow_add-schedule
overflow_add-schedule c = omega (arith, field_inside _ _ _ _ _ _ (sym c.in_ok-acts.ensures))

pub returns-in_err-states-clause-judged : goal.returns-in_err-states-clause-judged
returns-in_err-states-clause-judged c = rw (← parsed_is edition c.args.file.now) (search rules)

pub returns-in_err-operations-clause-judged : goal.returns-in_err-operations-clause-judged
returns-in_err-operations-clause-judged c = rw (← parsed_is edition c.args.file.now) (search rules)

pub returns-in_err-entries-clause-judged : goal.returns-in_err-entries-clause-judged
returns-in_err-entries-clause-judged c = rw (← parsed_is edition c.args.file.now) (search rules)

pub returns-in_err-start-clause-judged : goal.returns-in_err-start-clause-judged
returns-in_err-start-clause-judged c = rw (← parsed_is edition c.args.file.now) (search rules)

pub returns-in_err-field_at-clause-judged : goal.returns-in_err-field_at-clause-judged
returns-in_err-field_at-clause-judged c = rw (← parsed_is edition c.args.file.now) (search rules)

pub returns-in_err-looms-clause-judged : goal.returns-in_err-looms-clause-judged
returns-in_err-looms-clause-judged c = rw (← parsed_is edition c.args.file.now) (search rules)

pub returns-in_err-numbers-clause-judged : goal.returns-in_err-numbers-clause-judged
returns-in_err-numbers-clause-judged c = rw (← parsed_is edition c.args.file.now) (search rules)

pub returns-in_err-sides_at-clause-judged : goal.returns-in_err-sides_at-clause-judged
returns-in_err-sides_at-clause-judged c = rw (← parsed_is edition c.args.file.now) (search rules)

pub returns-in_err-number_at-clause-judged : goal.returns-in_err-number_at-clause-judged
returns-in_err-number_at-clause-judged c = rw (← parsed_is edition c.args.file.now) (search rules)

pub returns-in_err-number_at-2-clause-judged : goal.returns-in_err-number_at-2-clause-judged
returns-in_err-number_at-2-clause-judged c = rw (← parsed_is edition c.args.file.now) (search rules)

pub returns-in_err-rest-clause-judged : goal.returns-in_err-rest-clause-judged
returns-in_err-rest-clause-judged c = rw (← parsed_is edition c.args.file.now) (search rules)

pub returns-in_err-schedule-clause-judged : goal.returns-in_err-schedule-clause-judged
returns-in_err-schedule-clause-judged c = rw (← parsed_is edition c.args.file.now) (search rules)

pub returns-in_err-acts-clause-judged : goal.returns-in_err-acts-clause-judged
returns-in_err-acts-clause-judged c = rw (← parsed_is edition c.args.file.now) (search rules)

pub returns-in_err-end-clause-judged : goal.returns-in_err-end-clause-judged
returns-in_err-end-clause-judged c = rw (← parsed_is edition c.args.file.now) (search rules)

pub returns-in_err-end_at-clause-judged : goal.returns-in_err-end_at-clause-judged
returns-in_err-end_at-clause-judged c = rw (← parsed_is edition c.args.file.now) (search rules)

pub returns-clause-judged : goal.returns-clause-judged
returns-clause-judged c = rw (← parsed_is edition c.args.file.now) (search rules)

pub returns-clause-small : goal.returns-clause-small
returns-clause-small c = judged_small _ _ (returns-clause-judged c)
