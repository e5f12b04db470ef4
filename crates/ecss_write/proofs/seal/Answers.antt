-- `ecss_write::seal` meets its contract: a total that has room is 2 more than the headers and the data, for the checksum.
use mathlib.Core.Path.{sym, ◌∙◌}
use native.Mathlib.Omega.{arith}
use Rattle.space_packet.proofs.Answers.{left-written}
use Rattle.ecss_write.proofs.Totals.{write-total}
use Rattle.ecss_write.proofs.Parts.{seal-left}
use Rattle.ecss_write.proofs.seal.Goals as goal

pub overflow_sub-total : goal.overflow_sub-total
overflow_sub-total c =
    let e = sym c.in_ok-total.ensures in let q = write-total _ _ _ _ _ e in omega arith

pub put_checksum-requires : goal.put_checksum-requires
put_checksum-requires c =
    let e = sym c.in_ok-total.ensures in let q = write-total _ _ _ _ _ e in omega arith

pub returns : goal.returns
returns c =
    let e = sym c.in_ok-total.ensures in let q = write-total _ _ _ _ _ e in record { answered = sym e; left = c.put_checksum.ensures ∙ seal-left _ _ _ _ _ q ∙ sym (left-written _ _ _ _ e) }
