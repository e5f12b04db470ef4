-- `PusTcCreator::calc_own_crc16` meets its contract: the shared checksum of its checks and its encoded header.
use mathlib.Core.Path.{refl, ◌∙◌}
use native.Mathlib.Omega.{arith}
use lib.ListN.{replicate}
use Rattle.ecss_write.proofs.Calls.{own}
use Rattle.tc_write.specs.Command.{command_in}
use Rattle.tc_write.proofs.Command.{hands}
use Rattle.tc_write.proofs.PusTcCreator.calc_own_crc16.Goals as goal

pub returns : goal.returns
returns c =
    let a = c.args in
    let t = a.self in
    c.own_checksum.ensures ∙ own (command_in t.form) t.sp_header t.sec_header c.asks.result _
    (hands t.form t.sec_header (replicate 9 0) _ _ _ refl (omega arith) c.write_to_slice_in.ensures.left
    c.sec_header_len.ensures c.front.ensures.result_value c.asks.result c.asks.ensures)
    a.app_data.now
