-- `ecss::verify_crc16_ccitt_false_from_raw` meets its contract: the checksum with no table, compared with 0.
use mathlib.Core.Path.{ap}
use lib.Dec.{eqb}
use Prim.Native.Nat.{ℕ}
use Rattle.ecss.proofs.verify_crc16_ccitt_false_from_raw.Goals as goal

pub returns : goal.returns
returns c =
    ap (λ (x : ℕ). eqb x 0) c.crc_ccitt_false_no_table.ensures
