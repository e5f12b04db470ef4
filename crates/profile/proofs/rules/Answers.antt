-- `profile::rules` meets its contract: each test is the definition's.
-- rules that are met are passed by
use mathlib.Core.Path.{◌≡◌, sym, ap, ◌∙◌}
use mathlib.Core.Bool.{Bool, false, not}
use Rattle.space_packet.specs.Answer.{Numbers, Passed, refuse_if}
use Rattle.space_packet.proofs.Answers.{refuse-yes, refuse-no}
use Rattle.profile.specs.Rules.{rules}
use Rattle.profile.proofs.rules.Goals as goal

past_two : {a b : Bool} (d e : Numbers) {rest : Passed} → a ≡ false → b ≡ false → refuse_if a d (refuse_if b e rest) ≡ rest
past_two d e p q = refuse-no _ _ _ p ∙ refuse-no _ _ _ q

past_three : {a b c : Bool} (d e f : Numbers) {rest : Passed} → a ≡ false → b ≡ false → c ≡ false → refuse_if a d (refuse_if b e (refuse_if c f rest)) ≡ rest
past_three d e f p q r = refuse-no _ _ _ p ∙ past_two e f q r

-- what is told of the service, in the definition's word
untaken : {taken is v : Bool} → taken ≡ is → not taken ≡ v → not is ≡ v
untaken e p = ap not (sym e) ∙ p

pub returns-then-long : goal.returns-then-long
unfolding rules
returns-then-long c =
    sym (refuse-yes _ _ _ c.if-long.true-raw)

pub returns-then-segment : goal.returns-then-segment
unfolding rules
returns-then-segment c =
    sym (refuse-no _ _ _ c.if-long.false-raw ∙ refuse-yes _ _ _ c.if-segment.true-raw)

pub returns-then-high : goal.returns-then-high
unfolding rules
returns-then-high c =
    sym (past_two _ _ c.if-long.false-raw c.if-segment.false-raw ∙ refuse-yes _ _ _ c.if-high.true-raw)

pub returns-then-not-taken : goal.returns-then-not-taken
unfolding rules
returns-then-not-taken c =
    sym (past_three _ _ _ c.if-long.false-raw c.if-segment.false-raw c.if-high.false-raw ∙ refuse-yes _ _ _ (untaken c.is_service-taken.ensures c.if-not-taken.true-raw))

pub returns-then-not-asks_acceptance : goal.returns-then-not-asks_acceptance
unfolding rules
returns-then-not-asks_acceptance c =
    sym (past_three _ _ _ c.if-long.false-raw c.if-segment.false-raw c.if-high.false-raw ∙ refuse-no _ _ _ (untaken c.is_service-taken.ensures c.if-not-taken.false-raw)
    ∙ refuse-yes _ _ _ c.if-not-asks_acceptance.true-raw)

pub returns-then-test_with_data : goal.returns-then-test_with_data
unfolding rules
returns-then-test_with_data c =
    sym (past_three _ _ _ c.if-long.false-raw c.if-segment.false-raw c.if-high.false-raw
    ∙ past_two _ _ (untaken c.is_service-taken.ensures c.if-not-taken.false-raw) c.if-not-asks_acceptance.false-raw ∙ refuse-yes _ _ _ c.if-test_with_data.true)

pub returns : goal.returns
unfolding rules
returns c =
    sym (past_three _ _ _ c.if-long.false-raw c.if-segment.false-raw c.if-high.false-raw
    ∙ past_three _ _ _ (untaken c.is_service-taken.ensures c.if-not-taken.false-raw) c.if-not-asks_acceptance.false-raw c.if-test_with_data.false)
