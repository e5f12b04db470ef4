-- `ecss::octet_back` meets its contract: it is the octet step undone.
use mathlib.Core.Path.{refl}
use native.Mathlib.Omega.{arith}
use Rattle.crc_register.specs.Crc.{◌⊕◌}
use Rattle.crc_register.proofs.Octet.{index_of, step-undone}
use Rattle.ecss.proofs.octet_back.Goals as goal

pub returns : goal.returns
unfolding ◌⊕◌ index_of
returns c =
    let a = c.args in λ p h e. step-undone p a.b a.r _ _ h (omega arith) e refl c.no_table_octet-entry.ensures
