-- `frame::frame_of` meets its contract: each test is the definition's, in its order, on the total that the length field states.
use mathlib.Core.Path.{sym, ap, ◌∙◌}
use Rattle.std.specs.Prelude.{Err}
use borrow.Author.Tests.{lt-ltb, le-ltb}
use Rattle.space_packet.specs.Answer.{answer_of, refuse_if}
use Rattle.space_packet.proofs.Answers.{refuse-yes}
use Rattle.ecss.specs.Frame.{frame_of}
use Rattle.ecss.proofs.frame.frame_of.Goals as goal

pub returns-then-n-start : goal.returns-then-n-start
unfolding frame_of
returns-then-n-start c =
    ap (λ e. answer_of (Err e)) c.too_small.ensures ∙ sym (refuse-yes _ _ _ (lt-ltb _ _ c.if-n-start.true))

pub returns-then-n-total : goal.returns-then-n-total
unfolding frame_of refuse_if
returns-then-n-total c =
    let w = c.word_at.ensures in rw (c.too_small-then-n-total.ensures, w) (simp (le-ltb _ _ c.if-n-start.false, lt-ltb _ _ (rw w at c.if-n-total.true)))

pub returns-then-total-start : goal.returns-then-total-start
unfolding frame_of refuse_if
returns-then-total-start c =
    let w = c.word_at.ensures in rw (c.too_small-then-total-start.ensures, w) (simp (le-ltb _ _ c.if-n-start.false, le-ltb _ _ (rw w at c.if-n-total.false), lt-ltb _ _ (rw w at c.if-total-start.true)))

pub returns-then-total-start-2 : goal.returns-then-total-start-2
unfolding frame_of refuse_if
returns-then-total-start-2 c =
    let w = c.word_at.ensures in rw (c.too_small-then-total-start-2.ensures, w) (simp (le-ltb _ _ c.if-n-start.false, le-ltb _ _ (rw w at c.if-n-total.false), le-ltb _ _ (rw w at c.if-total-start.false), c.if-has_checksum.true, lt-ltb _ _ (rw w at c.if-total-start-2.true)))

pub returns-else-total-start-2 : goal.returns-else-total-start-2
unfolding frame_of refuse_if
returns-else-total-start-2 c =
    let w = c.word_at.ensures in rw w (simp (le-ltb _ _ c.if-n-start.false, le-ltb _ _ (rw w at c.if-n-total.false), le-ltb _ _ (rw w at c.if-total-start.false), c.if-has_checksum.true, le-ltb _ _ (rw w at c.if-total-start-2.false)))

pub returns-else-has_checksum : goal.returns-else-has_checksum
unfolding frame_of refuse_if
returns-else-has_checksum c =
    let w = c.word_at.ensures in rw w (simp (le-ltb _ _ c.if-n-start.false, le-ltb _ _ (rw w at c.if-n-total.false), le-ltb _ _ (rw w at c.if-total-start.false), c.if-has_checksum.false))
