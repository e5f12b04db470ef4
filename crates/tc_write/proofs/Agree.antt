-- With the checksum off all writes agree: they answer the same and write the same octets.
use Prim.Native.Nat.{ℕ}
use mathlib.Core.Path.{◌≡◌, sym, ap}
use mathlib.Core.Bool.{Bool, false}
use mathlib.Core.List.{List}
use lib.ListN.{length}
use Rattle.ecss.specs.Frame.{closed}
use Rattle.ecss_write.proofs.Written.{bare-is-write}
use Rattle.tc_write.specs.Creator.{content_for, octets_for, write_of, bare_of}
use Rattle.tc_write.specs.declared.PusTcCreator.{PusTcCreator}

pub off-agrees : (t : PusTcCreator) (d : List ℕ) (m : ℕ) → t.has_checksum ≡ false
    → (bare_of t (length d) m ≡ write_of t (length d) m) × (content_for t d ≡ octets_for t d)
off-agrees t d m h = (bare-is-write _ _ _ _ (length d) m h, ap (λ (b : Bool). closed b (content_for t d)) (sym h))
