-- `ecss_write::in_buffer` meets its contract: its test is the refusal's own, and either way the answer is what it says.
use mathlib.Core.Path.{sym}
use borrow.Author.Tests.{lt-ltb, le-ltb}
use Rattle.space_packet.proofs.Answers.{refuse-yes, refuse-no}
use Rattle.ecss_write.proofs.in_buffer.Goals as goal

pub returns-then-found-expected : goal.returns-then-found-expected
returns-then-found-expected c =
    sym (refuse-yes _ _ _ (lt-ltb _ _ c.if-found-expected.true))

pub returns : goal.returns
returns c =
    sym (refuse-no _ _ _ (le-ltb _ _ c.if-found-expected.false))
