-- The invariant of three phases holds at the opening and through every act.
-- Assumes nothing.
use Prim.Native.Nat.{ℕ, zero, suc, ◌<◌}
use Rattle.std.proofs.Common.{arith, ◌∙◌, inl, inr, eqb-true, eq-eqb, ne_eqb, ltb-true}
use Rattle.std.specs.Prelude.{◌≡◌, Bool, cond, ◌⊎◌, eqb, length}
use Rattle.std.proofs.Math.Path.{refl, ap, sym}
use Rattle.std.proofs.Math.Bool.{true, false, and-eq-true_iff}
use mathlib.Core.List.{List, [], ◌∷◌, ◌++◌}
use Rattle.std.proofs.Math.Dec.{ltb}
use Rattle.std.proofs.lemmas.Bool.{eqb-false}
use Rattle.recording.specs.declared.Seat.{Seat}
use Rattle.recording.specs.Recording.{operation_at, side_count, times, Sequence, reached, InSet}
use Rattle.sides.specs.declared.Side.{Side}
use Rattle.sides.specs.declared.Side.TheVariants.{A, B}
use Rattle.loom.specs.declared.Place.{Place}
use Rattle.loom.specs.declared.Place.TheVariants.{Begin, Posted, Looking, Ready, Applied, Bound, Answered}
use Rattle.loom.specs.declared.Shared.{Shared}
use Rattle.sides.specs.Sides.{side_number, other, same_side}
use Rattle.loom.specs.Sides.{register, with_register, with_cell}
use Rattle.loom.specs.Turn.{Rules, turn_of, decided, looks, after_posted, after_looking}
use Rattle.sides.specs.SidesLaws.{same_or_other, other_other, same_side_lem, same_as_itself}
use Rattle.loom.specs.SidesLaws.{cell_kept, register_written, register_untouched}
use Rattle.agreement.specs.Machine.{NotZero, Event, posted, applied, answered, Act, step, restart, restart_all, EachStep, State, side_of, changed_at, with_post, with_said, turned, replaced, stepped_from, stepped, acted, after, opening}
use Rattle.agreement.specs.Agreed.{NoneApplied}
use Rattle.agreement.specs.Fitted.{Fitted}
use Rattle.agreement.specs.OrdersLaws.{order_of_one, order_of_one_more, reached_by_one_more, not_in_one_more}
use Rattle.agreement.proofs.TeamsLaws.{side_number_lem, start_or_alone, every_loom_appears, decides, one_yields, leads_without}
use Rattle.agreement.specs.Phases.{Phase, fresh, even, first, AllFit, Honest, Wins, MayApply, MayLook, MayRead, Stands, Begun, First, Phased, Holds}
use Rattle.agreement.proofs.LogLaws.{had_nothing, had_latest, had_still, none_applied_by_post, still_applied, not_zero_still, honest_post, honest_application, changed_all}

module _ {next : ℕ → ℕ → ℕ} {looms : List Seat} {start : ℕ} {R : Rules} (given : Fitted next looms start R) where
  -- The invariant with another place for loom k, and nothing else changed.
  pub holds_placed : (S : State) (k : ℕ) (p : Place) (known : Holds next looms start R S) → Stands next looms start R known.phase k p →
      Begun next looms start R S.shared k p → Holds next looms start R (replaced S (changed_at S.place k p))
  holds_placed S k p known stands begins =
      record {
        phase = known.phase;
        phased = known.phased;
        stands = changed_all (Stands next looms start R known.phase) S.place k p stands (λ j apart. known.stands j);
        begins = changed_all (Begun next looms start R S.shared) S.place k p begins (λ j apart. known.begins j);
        honest = known.honest;
      }

  -- A post changes no phase.
  pub phased_post : (phase : Phase) (m : Shared) (log : List Event) (k : ℕ) (s : Side) (v : ℕ) → NotZero v → Phased next looms start R phase m log →
      Phased next looms start R phase (with_register m s v) (posted k s v ∷ log)
  phased_post fresh m log k s v some known =
      record { at_start = cell_kept m s v ∙ known.at_start; unapplied = none_applied_by_post k s v log known.unapplied; fit = λ X. (tt, known.fit X) }
  phased_post even m log k s v some known =
      record {
        at_start = cell_kept m s v ∙ known.at_start;
        led = not_zero_still m s v some R.leading known.led;
        alone = known.alone;
        fit = (tt, known.fit);
      }
  phased_post (first X us) m log k s v some (known, away) = (
    record {
      reaches = cell_kept m s v ∙ known.reaches;
      order = known.order;
      led = not_zero_still m s v some X known.led;
      some_applied = still_applied (posted k s v) log known.some_applied;
      fit = (tt, known.fit);
    },
    λ back. away (sym (cell_kept m s v) ∙ back),
  )

  -- A post keeps the invariant.
  pub holds_posted : (S : State) (k v : ℕ) → k < length looms → NotZero v → Holds next looms start R S →
      Holds next looms start R (stepped_from next looms R k v Begin S)
  unfolding stepped_from turned turn_of with_post with_said
  holds_posted S k v here some known =
      record {
        phase = known.phase;
        phased = phased_post known.phase S.shared S.log k (side_of looms k) v some known.phased;
        stands = changed_all (Stands next looms start R known.phase) S.place k Posted tt (λ j apart. known.stands j);
        begins =
            changed_all
            (Begun next looms start R (with_register S.shared (side_of looms k) v))
            S.place
            k
            Posted
            (λ t. (here, λ none. some (sym (register_written S.shared (side_of looms k) v) ∙ none)))
            (λ j apart t. ((known.begins j t).0, not_zero_still S.shared (side_of looms k) v some (side_of looms j) (known.begins j t).1));
        honest = honest_post k S.shared (side_of looms k) v S.log known.honest;
      }

  -- A loom of the yielding side looks, where that side has one loom; and only such a loom.
  pub looks_yields : (s : Side) → looks R s ≡ true → (s ≡ other R.leading) × (R.yields_alone ≡ true)
  looks_yields s e =
      let parts = (and-eq-true_iff R.yields_alone (same_side s (other R.leading))).0 e in (same_side_lem s (other R.leading) parts.1, parts.0)

  pub not_looking_leads : (s : Side) → R.yields_alone ≡ true → looks R s ≡ false → s ≡ R.leading
  not_looking_leads s alone unlooking = by_side (same_or_other s R.leading)
    where
      by_side : (s ≡ R.leading) ⊎ (s ≡ other R.leading) → s ≡ R.leading
      by_side (inl e) = e
      by_side (inr e) =
          let seen : same_side s (other R.leading) ≡ true = rw e (same_as_itself (other R.leading)) in
          let looking : looks R s ≡ true = rw (alone, seen) refl in
          absurd (let z : ◌≡◌ {A = ℕ} 0 1 = cc in omega arith)

  -- From the start a posted loom goes on to look or to be ready.
  pub stands_at_start : (phase : Phase) (k q : ℕ) → q ≡ start → MayLook next looms start R phase k →
      (looks R (side_of looms k) ≡ false → MayApply next looms start R phase k) → Stands next looms start R phase k (after_posted R (side_of looms k) q)
  unfolding after_posted
  stands_at_start phase k q at_start look apply =
      rw (eq-eqb q R.start (at_start ∙ sym given.renders.the_start)) (by_test (looks R (side_of looms k)) refl)
    where
      by_test : (b : Bool) → looks R (side_of looms k) ≡ b → Stands next looms start R phase k (cond b Looking Ready)
      by_test true e = ((looks_yields (side_of looms k) e).0, (looks_yields (side_of looms k) e).1, look)
      by_test false e = apply e

  -- What a posted loom reads in the cell leaves it where the phase allows.
  pub stands_posted : (phase : Phase) (m : Shared) (log : List Event) (k : ℕ) → Phased next looms start R phase m log →
      Stands next looms start R phase k (after_posted R (side_of looms k) m.cell)
  unfolding after_posted
  stands_posted fresh m log k known = stands_at_start fresh k m.cell known.at_start tt (λ e. tt)
  stands_posted even m log k known =
      stands_at_start even k m.cell known.at_start tt (λ e. not_looking_leads (side_of looms k) known.alone e)
  stands_posted (first X us) m log k (known, away) =
      rw
      (ne_eqb m.cell R.start (λ e. away (e ∙ given.renders.the_start)))
      (decides given X m.cell (us, known.order, sym known.reaches))

  -- In a fresh machine the yielding loom yields: from now on the leading side wins. No other loom of its side is there to be ready.
  pub stands_yielding : (S : State) (k : ℕ) → k < length looms → side_of looms k ≡ other R.leading → R.yields_alone ≡ true →
      ((j : ℕ) → Stands next looms start R fresh j (S.place j)) → ((j : ℕ) → Begun next looms start R S.shared j (S.place j)) →
      (x : Side) → x ≡ R.leading → (j : ℕ) → Stands next looms start R even j (changed_at S.place k (Bound x) j)
  stands_yielding S k here yields alone stands begins x wins =
      changed_all (Stands next looms start R even) S.place k (Bound x) wins (λ j apart. others j apart (S.place j) (stands j) (begins j))
    where
      leads : (j : ℕ) → (j ≡ k → ⊥) → j < length looms → side_of looms j ≡ R.leading
      leads j apart there = by_side (same_or_other (side_of looms j) R.leading)
        where
          by_side : (side_of looms j ≡ R.leading) ⊎ (side_of looms j ≡ other R.leading) → side_of looms j ≡ R.leading
          by_side (inl e) = e
          by_side (inr e) = absurd (apart (one_yields given j k alone there here e yields))

      others : (j : ℕ) → (j ≡ k → ⊥) → (p : Place) → Stands next looms start R fresh j p → Begun next looms start R S.shared j p →
          Stands next looms start R even j p
      others j apart Begin old begin = tt
      others j apart Posted old begin = tt
      others j apart Looking old begin = (old.0, old.1, tt)
      others j apart Ready old begin = leads j apart (begin tt).0
      others j apart Applied old begin = absurd old
      others j apart (Bound y) old begin = absurd old
      others j apart (Answered y) old begin = absurd old

  -- The other side of a loom that looks is the leading side.
  pub looks_at_leading : (s : Side) → s ≡ other R.leading → other s ≡ R.leading
  looks_at_leading s yields = ap other yields ∙ other_other R.leading

  -- A loom that finds the leading register empty is ready; one that finds a number is bound to the leading side.
  pub stands_unposted : (phase : Phase) (m : Shared) (log : List Event) (k : ℕ) → Phased next looms start R phase m log →
      register m R.leading ≡ 0 → MayLook next looms start R phase k → MayApply next looms start R phase k
  stands_unposted fresh m log k known empty look = tt
  stands_unposted even m log k known empty look = absurd (known.led empty)
  stands_unposted (first X us) m log k known empty look = look

  -- A loom that yields keeps the invariant.
  pub holds_bound : (S : State) (k : ℕ) (x : Side) (known : Holds next looms start R S) → Stands next looms start R known.phase k Looking →
      Begun next looms start R S.shared k (Bound x) → NotZero (register S.shared R.leading) → x ≡ R.leading →
      Holds next looms start R (replaced S (changed_at S.place k (Bound x)))
  holds_bound S k x known stands begins led leads = by_phase known.phase known.phased known.stands stands
    where
      by_phase : (phase : Phase) → Phased next looms start R phase S.shared S.log → ((j : ℕ) → Stands next looms start R phase j (S.place j)) →
          Stands next looms start R phase k Looking → Holds next looms start R (replaced S (changed_at S.place k (Bound x)))
      by_phase fresh known' all here =
          record {
            phase = even;
            phased = record { at_start = known'.at_start; led = led; alone = here.1; fit = known'.fit R.leading };
            stands = stands_yielding S k (begins tt).0 here.0 here.1 all known.begins x leads;
            begins = changed_all (Begun next looms start R S.shared) S.place k (Bound x) begins (λ j apart. known.begins j);
            honest = known.honest;
          }
      by_phase even known' all here =
          holds_placed S k (Bound x) (record { phase = even; phased = known'; stands = all; begins = known.begins; honest = known.honest }) leads begins
      by_phase (first X us) known' all here =
          holds_placed
          S
          k
          (Bound x)
          (record { phase = first X us; phased = known'; stands = all; begins = known.begins; honest = known.honest })
          (leads ∙ sym (leads_without given k X us here.1 (begins tt).0 here.0 known'.0.order here.2))
          begins

  -- A look at the other register keeps the invariant.
  pub holds_looked : (S : State) (k v : ℕ) (known : Holds next looms start R S) → Stands next looms start R known.phase k Looking →
      Begun next looms start R S.shared k Looking → Holds next looms start R (stepped_from next looms R k v Looking S)
  unfolding stepped_from turned turn_of after_looking with_post with_said
  holds_looked S k v known stands begins = by_register (register S.shared (other (side_of looms k))) refl
    where
      leads : other (side_of looms k) ≡ R.leading
      leads = looks_at_leading (side_of looms k) stands.0

      by_register : (w : ℕ) → register S.shared (other (side_of looms k)) ≡ w →
          Holds next looms start R (replaced S (changed_at S.place k (after_looking (side_of looms k) w)))
      by_register zero e =
          holds_placed
          S
          k
          Ready
          known
          (stands_unposted known.phase S.shared S.log k known.phased (rw leads at e) stands.2)
          begins
      by_register (suc w) e =
          holds_bound S k (other (side_of looms k)) known stands begins (λ none. omega (arith, rw leads at e)) leads

  -- Where looms have taken the cell back to the start, a loom of the leading side was first among them.
  pub leading_first : (X : Side) (us : List ℕ) → Sequence looms (side_number X) us → reached next looms start us ≡ start → X ≡ R.leading
  leading_first X us order back = by_side (same_or_other X R.leading)
    where
      by_side : (X ≡ R.leading) ⊎ (X ≡ other R.leading) → X ≡ R.leading
      by_side (inl e) = e
      by_side (inr e) = absurd (given.renders.the_yielding (us, (rw e at order), back))

  -- Then the yielding side has one loom.
  pub alone_at_return : (us : List ℕ) → Sequence looms (side_number R.leading) us → reached next looms start us ≡ start → R.yields_alone ≡ true
  alone_at_return us order back = by_clause (start_or_alone given R.leading)
    where
      by_clause : (InSet next looms start (side_number R.leading) start → ⊥) ⊎ (side_count (side_number (other R.leading)) looms ≡ 1) →
          R.yields_alone ≡ true
      by_clause (inl outside) = absurd (outside (us, order, back))
      by_clause (inr count) = given.renders.the_count.1 count

  -- And no loom of the yielding side is ready: by Lemma 7 they are all among those that applied.
  pub stands_at_return : (m : Shared) (us : List ℕ) → Sequence looms (side_number R.leading) us → reached next looms start us ≡ start →
      (j : ℕ) (p : Place) → Stands next looms start R (first R.leading us) j p → Begun next looms start R m j p → Stands next looms start R even j p
  stands_at_return m us order back j Begin old begin = tt
  stands_at_return m us order back j Posted old begin = tt
  stands_at_return m us order back j Looking old begin = (old.0, old.1, tt)
  stands_at_return m us order back j Ready old begin = by_side (same_or_other (side_of looms j) R.leading)
    where
      by_side : (side_of looms j ≡ R.leading) ⊎ (side_of looms j ≡ other R.leading) → side_of looms j ≡ R.leading
      by_side (inl e) = e
      by_side (inr e) =
          absurd (every_loom_appears given (other R.leading) given.renders.the_yielding R.leading us order back j (begin tt).0 e old)
  stands_at_return m us order back j Applied old begin = (given.renders.the_set start).1 (us, order, back)
  stands_at_return m us order back j (Bound y) old begin = old
  stands_at_return m us order back j (Answered y) old begin = old

  -- After an application the machine is in its third phase, or even where the cell is at the start.
  pub holds_first : (S : State) (X : Side) (us : List ℕ) → First next looms start R X us S.shared S.log →
      ((j : ℕ) → Stands next looms start R (first X us) j (S.place j)) → ((j : ℕ) → Begun next looms start R S.shared j (S.place j)) →
      Honest S.shared S.log → Holds next looms start R S
  holds_first S X us known stands begins honest = by_test (eqb S.shared.cell start) refl
    where
      returned : S.shared.cell ≡ start → (Z : Side) → Z ≡ R.leading → First next looms start R Z us S.shared S.log →
          ((j : ℕ) → Stands next looms start R (first Z us) j (S.place j)) → Holds next looms start R S
      returned at_start Z leads known' stands' =
          let known'' : First next looms start R R.leading us S.shared S.log = rw leads at known' in
          let stands'' : (j : ℕ) → Stands next looms start R (first R.leading us) j (S.place j) = rw leads at stands' in
          let back : reached next looms start us ≡ start = sym known''.reaches ∙ at_start in
          record {
            phase = even;
            phased = record { at_start = at_start; led = known''.led; alone = alone_at_return us known''.order back; fit = known''.fit };
            stands = λ j. stands_at_return S.shared us known''.order back j (S.place j) (stands'' j) (begins j);
            begins = begins;
            honest = honest;
          }

      by_test : (b : Bool) → eqb S.shared.cell start ≡ b → Holds next looms start R S
      by_test true e =
          let at_start : S.shared.cell ≡ start = eqb-true S.shared.cell start e in
          returned at_start X (leading_first X us known.order (sym known.reaches ∙ at_start)) known stands
      by_test false e =
          record { phase = first X us; phased = (known, eqb-false S.shared.cell start e); stands = stands; begins = begins; honest = honest }

  -- Loom k's application makes it the last of the looms that have applied since the cell was at the start.
  pub stands_one_more : (phase : Phase) (k : ℕ) (X : Side) (us : List ℕ) → ((j : ℕ) → MayLook next looms start R phase j → times j us ≡ 0) →
      ((j : ℕ) → MayApply next looms start R phase j → times j us ≡ 0) → ((x : Side) → Wins next looms start R phase x → x ≡ X) →
      (j : ℕ) → (j ≡ k → ⊥) → (p : Place) → Stands next looms start R phase j p → Stands next looms start R (first X (us ++ (k ∷ []))) j p
  stands_one_more phase k X us looks' applies wins j apart Begin old = tt
  stands_one_more phase k X us looks' applies wins j apart Posted old = tt
  stands_one_more phase k X us looks' applies wins j apart Looking old = (old.0, old.1, not_in_one_more j k us apart (looks' j old.2))
  stands_one_more phase k X us looks' applies wins j apart Ready old = not_in_one_more j k us apart (applies j old)
  stands_one_more phase k X us looks' applies wins j apart Applied old = tt
  stands_one_more phase k X us looks' applies wins j apart (Bound y) old = wins y old
  stands_one_more phase k X us looks' applies wins j apart (Answered y) old = wins y old

  -- An application keeps the invariant, from whatever phase: the looms `us` and then k have taken the cell to where it is.
  pub holds_one_more : (S : State) (k v : ℕ) (known : Holds next looms start R S) → Begun next looms start R S.shared k Ready → (X : Side) (us : List ℕ) →
      S.shared.cell ≡ reached next looms start us → Sequence looms (side_number X) (us ++ (k ∷ [])) → NotZero (register S.shared X) →
      AllFit X S.log → (NoneApplied S.log → side_of looms k ≡ X) →
      ((j : ℕ) → MayLook next looms start R known.phase j → times j us ≡ 0) → ((j : ℕ) → MayApply next looms start R known.phase j → times j us ≡ 0) →
      ((x : Side) → Wins next looms start R known.phase x → x ≡ X) → Holds next looms start R (stepped_from next looms R k v Ready S)
  unfolding stepped_from turned turn_of with_post with_said
  holds_one_more S k v known begins X us reaches order led fit oldest looks' applies wins =
      holds_first
      (stepped_from next looms R k v Ready S)
      X
      (us ++ (k ∷ []))
      (record {
        reaches = ap (next (operation_at looms k)) reaches ∙ sym (reached_by_one_more next looms start k us);
        order = order;
        led = λ none. led (sym (register_untouched S.shared cell X) ∙ none);
        some_applied = λ none. none k (side_of looms k) (had_latest (applied k (side_of looms k)) S.log);
        fit = (oldest, fit);
      })
      (changed_all
      (Stands next looms start R (first X (us ++ (k ∷ []))))
      S.place
      k
      Applied
      tt
      (λ j apart. stands_one_more known.phase k X us looks' applies wins j apart (S.place j) (known.stands j)))
      (λ j t. untouched j (changed_all (Begun next looms start R S.shared) S.place k Applied begins (λ i apart. known.begins i) j t))
      (honest_application k (side_of looms k) S.shared cell S.log known.honest)
    where
      cell : ℕ
      cell = next (operation_at looms k) S.shared.cell

      untouched : (j : ℕ) → (j < length looms) × NotZero (register S.shared (side_of looms j)) →
          (j < length looms) × NotZero (register (with_cell S.shared cell) (side_of looms j))
      untouched j (here, full) = (here, λ none. full (sym (register_untouched S.shared cell (side_of looms j)) ∙ none))

  pub holds_applied : (S : State) (k v : ℕ) (known : Holds next looms start R S) → Stands next looms start R known.phase k Ready →
      Begun next looms start R S.shared k Ready → Holds next looms start R (stepped_from next looms R k v Ready S)
  holds_applied S k v known stands begins = by_phase known.phase known.phased known.stands stands
    where
      by_phase : (phase : Phase) → Phased next looms start R phase S.shared S.log → ((j : ℕ) → Stands next looms start R phase j (S.place j)) →
          Stands next looms start R phase k Ready → Holds next looms start R (stepped_from next looms R k v Ready S)
      by_phase fresh known' all may =
          holds_one_more
          S
          k
          v
          (record { phase = fresh; phased = known'; stands = all; begins = known.begins; honest = known.honest })
          begins
          (side_of looms k)
          []
          known'.at_start
          (order_of_one looms (side_number (side_of looms k)) k (begins tt).0 (side_number_lem given k (side_of looms k) refl))
          (begins tt).1
          (known'.fit (side_of looms k))
          (λ none. refl)
          (λ j old. refl)
          (λ j old. refl)
          (λ x old. absurd old)
      by_phase even known' all may =
          holds_one_more
          S
          k
          v
          (record { phase = even; phased = known'; stands = all; begins = known.begins; honest = known.honest })
          begins
          R.leading
          []
          known'.at_start
          (order_of_one looms (side_number R.leading) k (begins tt).0 (side_number_lem given k R.leading may))
          known'.led
          known'.fit
          (λ none. may)
          (λ j old. refl)
          (λ j old. refl)
          (λ x old. old)
      by_phase (first X us) known' all may =
          holds_one_more
          S
          k
          v
          (record { phase = first X us; phased = known'; stands = all; begins = known.begins; honest = known.honest })
          begins
          X
          us
          known'.0.reaches
          (order_of_one_more looms (side_number X) k us known'.0.order (begins tt).0 may)
          known'.0.led
          known'.0.fit
          (λ none. absurd (known'.0.some_applied none))
          (λ j old. old)
          (λ j old. old)
          (λ x old. old)

  -- A loom that has applied its operation reads the cell, and decides for the side that is to win.
  pub stands_read : (phase : Phase) (m : Shared) (log : List Event) → Phased next looms start R phase m log → MayRead next looms start R phase →
      Wins next looms start R phase (decided R m.cell)
  stands_read fresh m log known read = absurd read
  stands_read even m log known read = rw (known.at_start, read) refl
  stands_read (first X us) m log known read = decides given X m.cell (us, known.0.order, sym known.0.reaches)

  -- An answer with the side that is to win changes no phase.
  pub phased_answer : (phase : Phase) (m : Shared) (log : List Event) (k : ℕ) (x : Side) → Phased next looms start R phase m log →
      Wins next looms start R phase x → Honest m log → Phased next looms start R phase m (answered k x (register m x) ∷ log)
  phased_answer fresh m log k x known wins honest = absurd wins
  phased_answer even m log k x known wins honest =
      record {
        at_start = known.at_start;
        led = known.led;
        alone = known.alone;
        fit = ((wins, honest x (λ none. known.led (rw wins at none))), known.fit);
      }
  phased_answer (first X us) m log k x (known, away) wins honest = (
    record {
      reaches = known.reaches;
      order = known.order;
      led = known.led;
      some_applied = still_applied (answered k x (register m x)) log known.some_applied;
      fit = ((wins, honest x (λ none. known.led (rw wins at none))), known.fit);
    },
    away,
  )

  -- An answer keeps the invariant.
  pub holds_answered : (S : State) (k v : ℕ) (x : Side) (known : Holds next looms start R S) → Wins next looms start R known.phase x →
      Begun next looms start R S.shared k (Bound x) → Holds next looms start R (stepped_from next looms R k v (Bound x) S)
  unfolding stepped_from turned turn_of with_post with_said
  holds_answered S k v x known wins begins =
      record {
        phase = known.phase;
        phased = phased_answer known.phase S.shared S.log k x known.phased wins known.honest;
        stands = changed_all (Stands next looms start R known.phase) S.place k (Answered x) wins (λ j apart. known.stands j);
        begins = changed_all (Begun next looms start R S.shared) S.place k (Answered x) begins (λ j apart. known.begins j);
        honest =
            λ y full. (
              (known.honest y full).0,
              had_still
                  (posted (known.honest y full).0 y (register S.shared y))
                  (answered k x (register S.shared x))
                  S.log
                  (known.honest y full).1,
            );
      }

  -- Every step keeps the invariant, from whatever place.
  pub holds_stepped : (S : State) (k v : ℕ) → k < length looms → NotZero v → Holds next looms start R S → Holds next looms start R (stepped next looms R k v S)
  unfolding stepped stepped_from turned turn_of with_post with_said
  holds_stepped S k v here some known = by_place (S.place k) (known.stands k) (known.begins k)
    where
      by_place : (p : Place) → Stands next looms start R known.phase k p → Begun next looms start R S.shared k p →
          Holds next looms start R (stepped_from next looms R k v p S)
      by_place Begin stands begins = holds_posted S k v here some known
      by_place Posted stands begins =
          holds_placed
          S
          k
          (after_posted R (side_of looms k) S.shared.cell)
          known
          (stands_posted known.phase S.shared S.log k known.phased)
          (λ t. begins tt)
      by_place Looking stands begins = holds_looked S k v known stands begins
      by_place Ready stands begins = holds_applied S k v known stands begins
      by_place Applied stands begins =
          holds_placed
          S
          k
          (Bound (decided R S.shared.cell))
          known
          (stands_read known.phase S.shared S.log known.phased stands)
          begins
      by_place (Bound x) stands begins = holds_answered S k v x known stands begins
      by_place (Answered x) stands begins = holds_placed S k (Answered x) known stands begins

  -- Every act keeps it, and so does every list of acts. A restarted loom is a loom at the beginning: nothing is asked of it.
  pub holds_acted : (a : Act) (acts : List Act) (S : State) → EachStep (λ k v. NotZero v) (a ∷ acts) → Holds next looms start R S →
      Holds next looms start R (acted next looms R a S)
  unfolding acted
  holds_acted (step k v) acts S not_zero known = by_test (ltb k (length looms)) refl
    where
      by_test : (b : Bool) → ltb k (length looms) ≡ b → Holds next looms start R (cond b (stepped next looms R k v S) S)
      by_test true e = holds_stepped S k v (ltb-true k (length looms) e) not_zero.0 known
      by_test false e = known
  holds_acted (restart k) acts S not_zero known = holds_placed S k Begin known tt (λ t. absurd t)
  holds_acted restart_all acts S not_zero known =
      record { phase = known.phase; phased = known.phased; stands = λ j. tt; begins = λ j t. absurd t; honest = known.honest }

  pub holds_after : (acts : List Act) (S : State) → EachStep (λ k v. NotZero v) acts → Holds next looms start R S →
      Holds next looms start R (after next looms R acts S)
  unfolding after
  holds_after [] S not_zero known = known
  holds_after (step k v ∷ acts) S not_zero known = holds_after acts _ not_zero.1 (holds_acted (step k v) acts S not_zero known)
  holds_after (restart k ∷ acts) S not_zero known = holds_after acts _ not_zero (holds_acted (restart k) acts S not_zero known)
  holds_after (restart_all ∷ acts) S not_zero known = holds_after acts _ not_zero (holds_acted restart_all acts S not_zero known)

  -- The invariant holds at the opening.
  pub holds_opening : Holds next looms start R (opening start)
  holds_opening =
      record {
        phase = fresh;
        phased = record { at_start = refl; unapplied = λ k s had. had_nothing (applied k s) had; fit = λ X. tt };
        stands = λ j. tt;
        begins = λ j t. absurd t;
        honest = nothing;
      }
    where
      nothing : Honest (opening start).shared []
      nothing A full = absurd (full refl)
      nothing B full = absurd (full refl)
