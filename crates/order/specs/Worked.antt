-- Document 01's worked order, "size 2" with numbers 501 and 733: a file of 152 bytes, and what reading it gives.
-- Assumes nothing.
use Rattle.std.specs.Prelude.{ℕ, ◌≡◌, refl, List, [], ◌∷◌, ◌++◌, take, length, replicate, Ok, Err}
use Rattle.cell.specs.Limits.{edition}
use Rattle.recording.specs.Recording.{empty_seat}
use Rattle.codes.specs.declared.Code.TheVariants.{FileEnds, ExtraBytes, NoRoom}
use Rattle.codes.specs.Codes.{refused_at}
use Rattle.xdr.specs.Field as F
use Rattle.xdr.specs.Opaque as O
use Rattle.format.specs.Layout as Y
use Rattle.format.specs.Format as G
use Rattle.order.specs.Order.{reading_of, words_at, seats_of, accepted_of, order_of}

abbrev pub worked_file : List ℕ
worked_file =
    0 ∷ 0 ∷ 0 ∷ 4 ∷ 0 ∷ 0 ∷ 0 ∷ 2 ∷ 0 ∷ 0 ∷ 0 ∷ 8 ∷ 0 ∷ 0 ∷ 0 ∷ 2 ∷ 0 ∷ 0 ∷ 0 ∷ 2 ∷ 0 ∷ 0 ∷ 0 ∷ 0 ∷
    0 ∷ 0 ∷ 0 ∷ 3 ∷ 0 ∷ 0 ∷ 0 ∷ 1 ∷ 0 ∷ 0 ∷ 0 ∷ 2 ∷ 0 ∷ 0 ∷ 0 ∷ 3 ∷ 0 ∷ 0 ∷ 0 ∷ 2 ∷ 0 ∷ 0 ∷ 0 ∷ 2 ∷
    0 ∷ 0 ∷ 0 ∷ 2 ∷ 0 ∷ 0 ∷ 0 ∷ 0 ∷ 0 ∷ 0 ∷ 0 ∷ 0 ∷ 0 ∷ 0 ∷ 0 ∷ 1 ∷ 0 ∷ 0 ∷ 0 ∷ 1 ∷ 0 ∷ 0 ∷ 1 ∷ 245 ∷
    0 ∷ 0 ∷ 2 ∷ 221 ∷ 0 ∷ 0 ∷ 0 ∷ 4 ∷ 87 ∷ 53 ∷ 48 ∷ 49 ∷ 0 ∷ 0 ∷ 0 ∷ 5 ∷ 87 ∷ 55 ∷ 51 ∷ 51 ∷ 32 ∷ 0 ∷ 0 ∷ 0 ∷
    0 ∷ 0 ∷ 0 ∷ 13 ∷ 0 ∷ 0 ∷ 0 ∷ 1 ∷ 0 ∷ 0 ∷ 0 ∷ 1 ∷ 0 ∷ 0 ∷ 0 ∷ 1 ∷ 0 ∷ 0 ∷ 0 ∷ 0 ∷ 0 ∷ 0 ∷ 0 ∷ 0 ∷
    0 ∷ 0 ∷ 0 ∷ 1 ∷ 0 ∷ 0 ∷ 0 ∷ 17 ∷ 0 ∷ 0 ∷ 0 ∷ 0 ∷ 0 ∷ 0 ∷ 0 ∷ 0 ∷ 0 ∷ 0 ∷ 0 ∷ 0 ∷ 0 ∷ 0 ∷ 0 ∷ 1 ∷
    0 ∷ 0 ∷ 0 ∷ 1 ∷ 0 ∷ 0 ∷ 0 ∷ 1 ∷ []

pub worked_length : length worked_file ≡ 152
worked_length = refl

-- It is taken, and ends at its last byte; a byte less is refused with 1 at the last entry, a byte more with 14.
pub worked_taken : reading_of edition worked_file 1024 4096 ≡ Ok 152
unfolding reading_of G.verdict_of G.judged_by G.head_of G.certificate_of G.pieces_of G.schedule_of G.label_at G.item_at G.sides_at G.seats_at G.names_act Y.plan_of F.field_with F.within F.word_at F.run F.end_with O.opaque_with O.pad_of O.all
worked_taken = refl

pub worked_cut : reading_of edition (take 151 worked_file) 1024 4096 ≡ Err (refused_at FileEnds 148)
unfolding reading_of G.verdict_of G.judged_by G.head_of G.certificate_of G.pieces_of G.schedule_of G.label_at G.item_at G.sides_at G.seats_at G.names_act Y.plan_of F.field_with F.within F.word_at F.run F.end_with O.opaque_with O.pad_of O.all
worked_cut = refl

pub worked_extra : reading_of edition (worked_file ++ (0 ∷ [])) 1024 4096 ≡ Err (refused_at ExtraBytes 152)
unfolding reading_of G.verdict_of G.judged_by G.head_of G.certificate_of G.pieces_of G.schedule_of G.label_at G.item_at G.sides_at G.seats_at G.names_act Y.plan_of F.field_with F.within F.word_at F.run F.end_with O.opaque_with O.pad_of O.all
worked_extra = refl

-- The rooms come first.
pub worked_room : reading_of edition worked_file 1023 4096 ≡ Err (refused_at NoRoom 0)
unfolding reading_of
worked_room = refl

pub worked_order : order_of worked_file (Ok 152) ≡ Ok (record {
  states = 4;
  operations = 2;
  entries = 8;
  start = 2;
  count = 2;
  seats = record { side = 0; operation = 0 } ∷ record { side = 1; operation = 1 } ∷ replicate 6 empty_seat;
  pieces = record {
    a = record { number = 501; at = 80; length = 4 };
    b = record { number = 733; at = 88; length = 5 };
  };
  schedule = 13;
})
unfolding order_of accepted_of seats_of G.seats_at Y.plan_of F.word_at O.pad_of
worked_order = refl

pub worked_schedule : words_at worked_file 13 100 ≡ 1 ∷ 1 ∷ 1 ∷ 0 ∷ 0 ∷ 1 ∷ 17 ∷ 0 ∷ 0 ∷ 0 ∷ 1 ∷ 1 ∷ 1 ∷ []
unfolding words_at F.word_at
worked_schedule = refl
