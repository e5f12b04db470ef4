-- `space_packet::in_range` meets its contract: its one test is the definition's.
use borrow.Author.Tests.{lt-ltb, le-ltb}
use Rattle.space_packet.proofs.Answers.{refuse-yes, refuse-no}
use mathlib.Core.Path.{sym}
use Rattle.space_packet.proofs.in_range.Goals as goal

pub returns-then-largest-value : goal.returns-then-largest-value
returns-then-largest-value c =
    sym (refuse-yes _ _ _ (lt-ltb _ _ c.if-largest-value.true))

pub returns : goal.returns
returns c =
    sym (refuse-no _ _ _ (le-ltb _ _ c.if-largest-value.false))
