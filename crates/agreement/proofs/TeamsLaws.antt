-- 003's sets by the looms' sides, and its Lemma 7.
-- Assumes nothing.
use Rattle.std.specs.Prelude.{ℕ, ◌<◌, ◌≡◌, refl, Bool, true, false, cond, ◌⊎◌, List, [], ◌∷◌, ◌++◌, length}
use Rattle.std.proofs.Common.{arith, ap, sym, ◌∙◌, inl, inr}
use Rattle.recording.specs.declared.Seat.{Seat}
use Rattle.recording.specs.Recording.{side_at, operation_at, side_count, times, Sequence, reached, InSet}
use Rattle.sides.specs.declared.Side.{Side}
use Rattle.sides.specs.declared.Side.TheVariants.{A, B}
use Rattle.sides.specs.Sides.{side_number, side_from, other}
use Rattle.sides.specs.SidesLaws.{side_of_number, same_or_other, number_of_side}
use Rattle.loom.specs.Turn.{Rules, decided}
use Rattle.agreement.specs.Machine.{side_of}
use Rattle.agreement.specs.Fitted.{Fitted}
use Rattle.agreement.specs.OrdersLaws.{order_of_one, order_of_one_more, reached_by_one_more, loom_of_order, lone}

module _ {next : ℕ → ℕ → ℕ} {looms : List Seat} {start : ℕ} {R : Rules} (given : Fitted next looms start R) where
  -- Loom k's number for its side.
  pub side_number_lem : (k : ℕ) (X : Side) → side_of looms k ≡ X → side_at looms k ≡ side_number X
  side_number_lem k X e = number_of_side (side_at looms k) (given.sides k) ∙ ap side_number e

  -- "No state is in both sets."
  pub sets_apart : (X : Side) (q : ℕ) → InSet next looms start (side_number X) q → InSet next looms start (side_number (other X)) q → ⊥
  sets_apart A q x y = given.recording.apart q x y
  sets_apart B q x y = given.recording.apart q y x

  -- "The start isn't in the set of [X], or [the other side] has one loom."
  pub start_or_alone : (X : Side) → (InSet next looms start (side_number X) start → ⊥) ⊎ (side_count (side_number (other X)) looms ≡ 1)
  start_or_alone A = given.recording.start_and_A
  start_or_alone B = given.recording.start_and_B

  -- Lemma 7. If the start isn't in the set of X, a sequence that comes back to the start has every loom of X in it: a loom j of X that is
  -- not in it could begin one from the start, and end this one, with the same state.
  pub every_loom_appears : (X : Side) → (InSet next looms start (side_number X) start → ⊥) → (Z : Side) (us : List ℕ) →
      Sequence looms (side_number Z) us → reached next looms start us ≡ start → (j : ℕ) → j < length looms → side_of looms j ≡ X → times j us ≡ 0 → ⊥
  every_loom_appears X not_in Z us order back j here side absent = by_first (same_or_other Z X)
    where
      by_first : (Z ≡ X) ⊎ (Z ≡ other X) → ⊥
      by_first (inl e) = not_in (us, (rw e at order), back)
      by_first (inr e) =
          sets_apart
          X
          (next (operation_at looms j) start)
          (j ∷ [], order_of_one looms (side_number X) j here (side_number_lem j X side), refl) (
            us ++ (j ∷ []),
            order_of_one_more looms (side_number (other X)) j us (rw e at order) here absent,
            reached_by_one_more next looms start j us ∙ ap (next (operation_at looms j)) back,
          )

  -- In the set of X the cell decides for X.
  pub decides : (X : Side) (q : ℕ) → InSet next looms start (side_number X) q → decided R q ≡ X
  decides X q member = by_side (same_or_other X R.leading) (R.in_leading q) refl
    where
      by_side : (X ≡ R.leading) ⊎ (X ≡ other R.leading) → (b : Bool) → R.in_leading q ≡ b → cond b R.leading (other R.leading) ≡ X
      by_side (inl e) true t = sym e
      by_side (inl e) false t =
          let yes' : R.in_leading q ≡ true = (given.renders.the_set q).1 (rw e at member) in
          cc
      by_side (inr e) false t = sym e
      by_side (inr e) true t =
          absurd (sets_apart R.leading q ((given.renders.the_set q).0 t) (rw e at member))

  -- Two looms of a yielding side that yields are the same loom.
  pub one_yields : (i j : ℕ) → R.yields_alone ≡ true → i < length looms → j < length looms → side_of looms i ≡ other R.leading →
      side_of looms j ≡ other R.leading → i ≡ j
  one_yields i j alone hi hj si sj =
      let count = given.renders.the_count.0 alone in
      lone (side_number (other R.leading)) looms (omega arith) i j hi hj (side_number_lem i _ si) (side_number_lem j _ sj)

  -- Where the lone yielding loom is not in an order, the order is not of its side.
  pub leads_without : (k : ℕ) (X : Side) (us : List ℕ) → R.yields_alone ≡ true → k < length looms → side_of looms k ≡ other R.leading →
      Sequence looms (side_number X) us → times k us ≡ 0 → X ≡ R.leading
  leads_without k X us alone here yields order absent = by_side (same_or_other X R.leading)
    where
      by_side : (X ≡ R.leading) ⊎ (X ≡ other R.leading) → X ≡ R.leading
      by_side (inl e) = e
      by_side (inr e) =
          let found = loom_of_order looms (side_number X) us order in
          let side : side_of looms found.0 ≡ other R.leading = ap side_from found.2 ∙ side_of_number X ∙ e in
          absurd (found.3 (rw (one_yields found.0 k alone found.1 here side yields) absent))
