-- A reading that isn't refused: what was judged is what is copied.
-- Assumes nothing.
use Rattle.std.specs.Prelude.{ℕ, ◌+◌, ◌≤◌, ◌≡◌, List, ◌++◌, length, drop, Result, Ok}
use Rattle.std.proofs.Common.{arith, sym, ap, ◌∙◌}
use Rattle.cell.specs.Limits.{edition}
use Rattle.codes.specs.Codes.{Refusal}
use Rattle.format.specs.declared.Judgement.{Judgement}
use Rattle.format.specs.Layout.{plan_of}
use Rattle.format.specs.Format.{verdict_of, judgement_of}
use Rattle.format.proofs.AcceptedLaws.{Bounds, verdict_bounds}
use Rattle.order.specs.declared.Order.{Order}
use Rattle.order.specs.Order.{table_room, accepted_of, ReadsTo}
use Rattle.order.specs.OrderLaws.{lows_at, words_low, rooms_suffice, accepted_reads}

module _ (s : List ℕ) (J : Judgement) (judged : J ≡ judgement_of edition s) (v : ℕ) (given : J.verdict ≡ Ok v) where
  plan_is : J.plan ≡ plan_of s
  plan_is = ap (λ (K : Judgement). K.plan) judged

  taken : verdict_of edition s ≡ Ok v
  taken = sym (ap (λ (K : Judgement). K.verdict) judged) ∙ given

  pub file_bounds : Bounds edition s J.plan
  file_bounds = rw plan_is (verdict_bounds edition s (v, taken))

  -- Entries and acts are below 256, so that their low bytes are they.
  pub reads : (table schedule table' schedule' : List ℕ) (order : Result Order Refusal)
      → table_room edition ≤ length table
      → edition.entries ≤ length schedule
      → order ≡ Ok (accepted_of s J.plan)
      → table' ≡ lows_at s J.plan.entries 12 ++ drop J.plan.entries table
      → schedule' ≡ lows_at s J.plan.acts (J.plan.schedule + 4) ++ drop J.plan.acts schedule
      → ReadsTo edition s table schedule table' schedule' order
  reads table schedule table' schedule' order lt ls o t c =
      let B = file_bounds in
      let entries = words_low s J.plan.entries 12 (λ j l. omega (arith, B.entries j l, B.states)) in
      let acts = words_low s J.plan.acts (J.plan.schedule + 4) (λ j l. omega (arith, B.acts j l, B.looms)) in
      rw (o, t, c, entries, acts, plan_is)
      (accepted_reads edition s table schedule v (rooms_suffice edition s (length table) (length schedule) lt ls ∙ taken))
