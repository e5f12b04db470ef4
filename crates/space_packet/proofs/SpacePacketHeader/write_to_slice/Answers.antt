-- `SpacePacketHeader::write_to_slice` meets its contract: the check, then the room, and six octets where both pass.
use native.Mathlib.Omega.{arith}
use borrow.Author.Tests.{lt-ltb, le-ltb}
use mathlib.Core.Path.{sym, ◌∙◌}
use Rattle.std.proofs.Common.{rules}
use Rattle.space_packet.specs.Answer.{and_then}
use Rattle.space_packet.specs.Header.{header_write}
use Rattle.space_packet.proofs.Answers.{gives_then, refuse-yes, refuse-no, left-refused, left-written}
use Rattle.space_packet.proofs.RoundTrip.{check-in-range}
use Rattle.space_packet.proofs.SpacePacketHeader.write_to_slice.Goals as goal

pub returns-in_err-check : goal.returns-in_err-check
unfolding header_write and_then
returns-in_err-check c =
    record { answered = search rules; left = search rules }

pub returns-then-buf-lt-LENGTH : goal.returns-then-buf-lt-LENGTH
unfolding header_write
returns-then-buf-lt-LENGTH c =
    let w = gives_then _ _ _ (sym c.in_ok-check.ensures) ∙ refuse-yes _ _ _ (lt-ltb _ _ c.if-buf-lt-LENGTH.true) in record { answered = sym w; left = sym (left-refused _ _ _ _ w) }

pub put-requires : goal.put-requires
put-requires c =
    (check-in-range _ (sym c.in_ok-check.ensures), omega arith)

pub returns : goal.returns
unfolding header_write
returns c =
    let w = gives_then _ _ _ (sym c.in_ok-check.ensures) ∙ refuse-no _ _ _ (le-ltb _ _ c.if-buf-lt-LENGTH.false) in record { answered = sym w; left = c.put.ensures ∙ sym (left-written _ _ _ _ w) }
