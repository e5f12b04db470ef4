-- `packet::own_checksum` meets its contract: a digest that takes in the three parts in turn is that of all of them.
use lib.ListN.{replicate}
use mathlib.Core.Path.{ap, sym, refl}
use Rattle.space_packet.specs.Answer.{answer_of}
use Rattle.space_packet.specs.Header.{header_octets}
use Rattle.ecss_write.proofs.Written.{head-asked, own-head, own-given}
use Rattle.ecss_write.proofs.packet.own_checksum.Goals as goal

pub returns : goal.returns
returns c =
    let a = c.args in
    let p = sym c.in_ok-before.ensures in
    let head = own-head a.h (replicate 6 0) _ (head-asked _ _ _ p) refl c.write_to_slice.ensures.left in
    own-given _ _ (header_octets a.h) _ a.sec.now a.«data».now _ _ _ _ _ p (ap answer_of c.in_ok-asks.was) head c.new.ensures c.update_no_table.ensures c.update_no_table-2.ensures c.update_no_table-digest.ensures c.finalize.ensures
