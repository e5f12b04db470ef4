-- With the checksum off all writes agree: they answer the same and write the same octets.
use Prim.Native.Nat.{ℕ}
use mathlib.Core.Path.{◌≡◌, sym, ap}
use mathlib.Core.Bool.{Bool, false}
use mathlib.Core.List.{List}
use lib.ListN.{length}
use Rattle.ecss.specs.Frame.{closed}
use Rattle.ecss_write.proofs.Written.{bare-is-write}
use Rattle.tm_write.specs.Creator.{content_for, octets_for, write_of, bare_of}
use Rattle.tm_write.specs.declared.PusTmCreator.{PusTmCreator}

pub off-agrees : (c : PusTmCreator) (l d : List ℕ) (m : ℕ) → c.has_checksum ≡ false
    → (bare_of c l (length d) m ≡ write_of c l (length d) m) × (content_for c l d ≡ octets_for c l d)
off-agrees c l d m h = (bare-is-write _ _ _ _ (length d) m h, ap (λ (b : Bool). closed b (content_for c l d)) (sym h))
