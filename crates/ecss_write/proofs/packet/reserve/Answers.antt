-- `packet::reserve` meets its contract: a total that passes the checks fits the buffer and the length field of the header.
use mathlib.Core.Path.{◌∙◌, ap, sym}
use native.Mathlib.Omega.{arith}
use Rattle.ecss_write.specs.Write.{with_length}
use Rattle.ecss_write.proofs.Written.{reserves, head-asked, length-asked, headed-wrote}
use Rattle.ecss_write.proofs.packet.reserve.Goals as goal

pub field_of-requires : goal.field_of-requires
field_of-requires c =
    let w = reserves _ _ _ _ _ _ _ (sym c.in_ok-total.ensures) in w.1

pub put_head-requires : goal.put_head-requires
put_head-requires c =
    let w = reserves _ _ _ _ _ _ _ (sym c.in_ok-total.ensures) in (length-asked _ _ _ (head-asked _ _ _ w.0.before-passed) c.with_length.ensures, omega (arith, w.0.is, w.0.fits))

pub returns : goal.returns
returns c =
    let a = c.args in let p = sym c.in_ok-total.ensures in (sym p, headed-wrote _ _ a.h _ a.sec.now a.buf.now _ a.has_checksum a.data_len _ p (c.with_length.ensures ∙ ap (with_length a.h) c.field_of.ensures) c.put_head.ensures)
