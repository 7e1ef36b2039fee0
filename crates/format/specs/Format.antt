-- The fields of an order file and their refusals: document 01, "The order file" and "Codes and their order".
-- Limits are a parameter, so that one edition's files can be compared with another's.
-- Assumes nothing.
use Rattle.std.specs.Prelude.{ℕ, zero, suc, ◌+◌, ◌*◌, ◌^◌, Bool, true, ◌&&◌, ◌||◌, List, [], ◌∷◌, ltb, eqb, Result, Ok, Err}
use Rattle.cell.specs.Limits.{Limits, first_restart, entry_of_all}
use Rattle.recording.specs.Recording.{side_count}
use Rattle.recording.specs.declared.Seat.{Seat}
use Rattle.codes.specs.declared.Code.TheVariants as Code
use Rattle.codes.specs.Codes.{Refusal}
use Rattle.xdr.specs.Field.{Field, judged, word_at, within, field_at, and_then, run, end_at}
use Rattle.xdr.specs.Opaque.{opaque_at}
use Rattle.format.specs.declared.Plan.{Plan}
use Rattle.format.specs.declared.Judgement.{Judgement}
use Rattle.format.specs.Layout.{plan_of}
use Rattle.format.specs.declared.Items.{Items}
use Rattle.format.specs.declared.Items.TheVariants.{Entries, Looms, Acts}

-- The value n and no other.
abbrev pub exactly : ℕ → ℕ → Bool
exactly n = within n (n + 1)

-- "Entry k is a step of loom k, 16 + k a restart of loom k, 32 a restart of all": an entry that names an act of a group of so many looms.
unfoldable pub names_act : ℕ → ℕ → Bool
names_act looms v = ltb v looms || (within first_restart (first_restart + looms) v || eqb v entry_of_all)

-- One item of a counted array.
--   5, an entry not below states
--   8, a side above 1, or an operation not fitted: "a loom's side and operation are two fields"
--   13, an entry naming no act or no loom of this group
unfoldable pub item_at : Items → List ℕ → ℕ → Field
item_at (Entries states) s p = field_at (within 0 states) Code.Entry s p
item_at (Looms operations) s p = and_then (field_at (within 0 2) Code.Seat s p) (field_at (within 0 operations) Code.Seat s (p + 4))
item_at (Acts looms) s p = field_at (names_act looms) Code.Act s p

-- The bytes of an item.
abbrev pub width_of : Items → ℕ
width_of (Entries states) = 4
width_of (Looms operations) = 8
width_of (Acts looms) = 4

-- A counted array of n items at p.
abbrev pub run_of : Items → List ℕ → ℕ → ℕ → Field
run_of k s n p = run (item_at k s) (width_of k) n p

-- The seat of the loom at p, and n of them.
abbrev pub seat_at : List ℕ → ℕ → Seat
seat_at s p = record { side = word_at s p; operation = word_at s (p + 4) }

unfoldable pub seats_at : List ℕ → ℕ → ℕ → List Seat
seats_at s zero p = []
seats_at s (suc n) p = seat_at s p ∷ seats_at s n (p + 8)

-- "9, a side without a loom", "after the last loom", placed at the loom count p.
unfoldable pub sides_at : List Seat → ℕ → Field
sides_at seats p = judged true (ltb 0 (side_count 0 seats) && ltb 0 (side_count 1 seats)) p Code.LacksSide p

-- 2 and 3, states and operations not within limits; 4, the table's length isn't states × operations; then its entries.
unfoldable pub head_of : Limits → List ℕ → Field
head_of L s =
    and_then (field_at (within 1 (L.states + 1)) Code.States s 0)
    (and_then (field_at (within 1 (L.operations + 1)) Code.Operations s 4)
    (and_then (field_at (exactly (word_at s 0 * word_at s 4)) Code.TableLength s 8)
    (run_of (Entries (word_at s 0)) s (word_at s 8) 12)))

-- 6, the start not below states; 7, looms not 2 to the limit; then the looms, and 9.
unfoldable pub certificate_of : Limits → List ℕ → Plan → Field
certificate_of L s P =
    and_then (field_at (within 0 P.states) Code.Start s P.start)
    (and_then (field_at (within 2 (L.looms + 1)) Code.Looms s (P.start + 4))
    (and_then (run_of (Looms P.operations) s P.looms (P.start + 8))
    (sides_at (seats_at s P.looms (P.start + 8)) (P.start + 4))))

-- 10, a piece number of 0.
abbrev pub number_at : List ℕ → ℕ → Field
number_at s p = field_at (within 1 (2 ^ 32)) Code.PieceNumber s p

-- "Bytes 32 to 126": those that a label is made of.
abbrev pub printing : ℕ → Bool
printing = within 32 127

-- 11, a label over the limit, or with a byte that is none of these: "an opaque's length is one field, its bytes with padding the next".
unfoldable pub label_at : Limits → List ℕ → ℕ → Field
label_at L s p = and_then (field_at (within 0 (L.label + 1)) Code.Label s p) (opaque_at printing Code.Label s (word_at s p) (p + 4))

-- The numbers and the labels of the two sides.
unfoldable pub pieces_of : Limits → List ℕ → Plan → Field
pieces_of L s P =
    and_then (number_at s P.numbers)
    (and_then (number_at s (P.numbers + 4))
    (and_then (label_at L s (P.numbers + 8))
    (label_at L s P.rest)))

-- 12, a schedule over the limit; then its entries; "14 last", at the first extra byte.
unfoldable pub schedule_of : Limits → List ℕ → Plan → Field
schedule_of L s P =
    and_then (field_at (within 0 (L.entries + 1)) Code.Schedule s P.schedule)
    (and_then (run_of (Acts P.looms) s P.acts (P.schedule + 4))
    (end_at Code.ExtraBytes s (P.schedule + 4 + 4 * P.acts)))

-- "The fields in file order."
unfoldable pub judged_by : Limits → List ℕ → Plan → Field
judged_by L s P = and_then (head_of L s) (and_then (certificate_of L s P) (and_then (pieces_of L s P) (schedule_of L s P)))

-- The verdict on a file: its first refusal.
unfoldable pub verdict_of : Limits → List ℕ → Field
verdict_of L s = judged_by L s (plan_of s)

-- What judging a file comes to: its verdict and its plan.
abbrev pub judgement_of : Limits → List ℕ → Judgement
judgement_of L s = record { verdict = verdict_of L s; plan = plan_of s }

-- The plan of a file that is taken, or the file's refusal.
abbrev pub with_plan : Plan → Field → Result Plan Refusal
with_plan P (Ok end) = Ok P
with_plan P (Err e) = Err e

abbrev pub parsed_of : Limits → List ℕ → Result Plan Refusal
parsed_of L s = with_plan (plan_of s) (verdict_of L s)
