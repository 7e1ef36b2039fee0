-- `recording::outcome` meets its contract: each way out is one of the verdict's laws.
use Rattle.std.specs.Prelude.{ℕ, ◌≡◌, Bool, Err, bit_and}
use Rattle.std.proofs.Common.{sym, ap, ◌∙◌}
use Rattle.codes.specs.declared.Code.TheVariants.{SharedState}
use Rattle.codes.specs.Codes.{refused_at}
use Rattle.sets.specs.Sets.{Common, lowest_of, word_bits}
use Rattle.sets.specs.SetsLaws.{common_is}
use Rattle.recording.specs.Check.{comes_back, verdict_of}
use Rattle.recording.specs.CheckLaws.{verdict_shared, verdict_returns_A, verdict_returns_B, verdict_accepted}
use Rattle.recording.proofs.VerdictLaws.{outcome_in}
use Rattle.recording.proofs.outcome.Goals as goal

-- What the code finds of a set, by the looms that it counted, is what is there.
found : (start set : ℕ) {counted others : ℕ} {t b : Bool} → counted ≡ others → t ≡ comes_back start set counted → t ≡ b
    → comes_back start set others ≡ b
found start set counted is test = ap (comes_back start set) (sym counted) ∙ sym is ∙ test

-- No state in common.
apart : (a b : ℕ) {shared : ℕ} → Common a b shared → shared ≡ 0 → bit_and a b ≡ 0
apart a b is none = sym (common_is _ _ _ is) ∙ none

pub returns-then-shared-ne0 : goal.returns-then-shared-ne0
unfolding verdict_of
returns-then-shared-ne0 c =
    let meet : c.common-shared.result ≡ bit_and c.args.sets.a c.args.sets.b = common_is _ _ _ c.common-shared.ensures in
    ap Err (c.at.ensures ∙ ap (refused_at SharedState) (c.lowest.ensures ∙ ap (lowest_of word_bits) meet))
    ∙ sym (ap outcome_in (verdict_shared _ _ _ _ _ (λ none. c.if-shared-ne0.true (meet ∙ none))))

pub returns-then-comes_back : goal.returns-then-comes_back
unfolding verdict_of
returns-then-comes_back c =
    ap Err c.at-then-comes_back.ensures
    ∙ sym (ap outcome_in (verdict_returns_A _ _ _ _ _ (apart _ _ c.common-shared.ensures c.if-shared-ne0.false)
    (found _ _ c.side_count.ensures c.comes_back.ensures c.if-comes_back.true)))

pub returns-then-comes_back-2 : goal.returns-then-comes_back-2
unfolding verdict_of
returns-then-comes_back-2 c =
    ap Err c.at-then-comes_back-2.ensures
    ∙ sym (ap outcome_in (verdict_returns_B _ _ _ _ _ (apart _ _ c.common-shared.ensures c.if-shared-ne0.false)
    (found _ _ c.side_count.ensures c.comes_back.ensures c.if-comes_back.false)
    (found _ _ c.side_count-else-comes_back.ensures c.comes_back-else-comes_back.ensures c.if-comes_back-2.true)))

pub returns-else-comes_back-2 : goal.returns-else-comes_back-2
unfolding verdict_of
returns-else-comes_back-2 c =
    sym (ap outcome_in (verdict_accepted _ _ _ _ _ (apart _ _ c.common-shared.ensures c.if-shared-ne0.false)
    (found _ _ c.side_count.ensures c.comes_back.ensures c.if-comes_back.false)
    (found _ _ c.side_count-else-comes_back.ensures c.comes_back-else-comes_back.ensures c.if-comes_back-2.false)))
