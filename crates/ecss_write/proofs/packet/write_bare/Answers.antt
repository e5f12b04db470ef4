-- `packet::write_bare` meets its contract: a total that passes the checks has room for the headers and the data behind them.
use mathlib.Core.Path.{sym, refl}
use native.Mathlib.Omega.{arith}
use Rattle.ecss_write.proofs.Written.{writes, head-asked, bare-wrote}
use Rattle.ecss_write.proofs.packet.write_bare.Goals as goal

pub put_head-requires : goal.put_head-requires
put_head-requires c =
    let p = sym c.in_ok-check_write.ensures in let w = writes _ _ _ _ _ _ _ p in (head-asked _ _ _ w.before-passed, omega (arith, w.is, w.fits))

pub put_data-requires : goal.put_data-requires
put_data-requires c =
    let p = sym c.in_ok-check_write.ensures in let w = writes _ _ _ _ _ _ _ p in (omega (arith, w.is, w.fits), omega (arith, w.is, w.fits))

pub returns : goal.returns
returns c =
    let a = c.args in let p = sym c.in_ok-check_write.ensures in bare-wrote _ _ a.h a.sec.now a.«data».now a.buf.now _ _ a.has_checksum _ _ p c.put_head.ensures c.put_data.ensures refl
