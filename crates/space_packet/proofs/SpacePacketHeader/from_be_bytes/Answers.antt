-- `SpacePacketHeader::from_be_bytes` meets its contract: fewer than six octets are refused, else each field is of its word.
use borrow.Author.Tests.{lt-ltb, le-ltb}
use Rattle.space_packet.proofs.Answers.{refuse-yes, refuse-no}
use Prim.Native.Nat.{◌/◌}
use mathlib.Core.Path.{sym, ap, ◌∙◌}
use Rattle.space_packet.specs.Fields.{id_of, psc_of}
use Rattle.space_packet.specs.Answer.{gives}
use Rattle.space_packet.specs.Header.{header_read, read_header}
use Rattle.space_packet.proofs.SpacePacketHeader.from_be_bytes.Goals as goal

pub returns-then-buf-lt-LENGTH : goal.returns-then-buf-lt-LENGTH
unfolding header_read
returns-then-buf-lt-LENGTH c =
    sym (refuse-yes _ _ _ (lt-ltb _ _ c.if-buf-lt-LENGTH.true))

pub returns : goal.returns
unfolding header_read read_header
returns c =
    let w = c.word_at-w.ensures in let p = c.from.ensures ∙ ap id_of w in let q = c.from-2.ensures ∙ ap psc_of c.word_at.ensures in (λ i. gives (record { version = w i / 8192; packet_id = p i; psc = q i; data_len = c.word_at-2.ensures i })) ∙ sym (refuse-no _ _ _ (le-ltb _ _ c.if-buf-lt-LENGTH.false))
