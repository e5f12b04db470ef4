-- `packet::length_afresh` meets its contract: the field that is given is set.
use mathlib.Core.Path.{sym, refl}
use Rattle.ecss_write.specs.Write.{asked_by}
use Rattle.ecss_write.proofs.Written.{afresh-set}
use Rattle.ecss_write.proofs.packet.length_afresh.Goals as goal

pub returns : goal.returns
returns c =
    let a = c.args in afresh-set (asked_by a.asks a.h.now) a.start a.has_checksum a.data_len a.h.now.data_len a.h.now _ _ (sym c.in_ok-h.ensures) refl
