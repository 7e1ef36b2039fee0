-- Nothing else meets the contract of `schedule::run`: what it says of the result, of the buffer and of the area determines all three.
-- Assumes nothing.
use Rattle.std.specs.Prelude.{ℕ, ◌≡◌, List, Result}
use Rattle.std.proofs.Common.{sym, ◌∙◌}
use Rattle.codes.specs.declared.Code.{Code}
use Rattle.recording.specs.declared.Certificate.{Certificate}
use Rattle.sides.specs.declared.Pair.{Pair}
use Rattle.schedule.specs.declared.Ran.{Ran}
use Rattle.schedule.specs.Run.{RunsTo}

pub only-run : (table : List ℕ) (states operations : ℕ) (certificate : Certificate) (numbers : Pair ℕ) (schedule marks area : List ℕ)
    (r s : Result Ran Code) (buffer other words later : List ℕ)
    → RunsTo table states operations certificate numbers schedule marks area r buffer words
    → RunsTo table states operations certificate numbers schedule marks area s other later
    → (r ≡ s) × (buffer ≡ other) × (words ≡ later)
only-run table states operations certificate numbers schedule marks area r s buffer other words later p q =
    (p.result_is ∙ sym q.result_is, p.buffer_is ∙ sym q.buffer_is, p.area_is ∙ sym q.area_is)
