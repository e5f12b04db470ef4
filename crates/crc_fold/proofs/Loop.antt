-- A loop over the octets by their index.
use mathlib.Core.Path.{◌≡◌, sym, ap, ap₂, ◌∙◌}
use mathlib.Core.List.{List}
use Prim.Native.Nat.{ℕ, suc, ◌+◌, ◌≤◌, ◌<◌}
use lib.ListN.{length, drop, get_or, drop_of_length-le}
use lib.Seq.{drop-cons}
use native.Mathlib.Numerals.{add-one}
use Rattle.crc_register.specs.Crc.{run, octet_bits, crc_from}
use Rattle.crc_register.proofs.Linear.{crc_from-cons, crc_from-nil}

-- the octets from i on still make t of the register r: what a loop keeps
pub record StillMakes (s : List ℕ) (t i r : ℕ) : Type 0 where
  pub kept : crc_from r (drop i s) ≡ t

-- one turn: the register takes in the octet at i
pub turn : {s : List ℕ} {t i r q : ℕ} → StillMakes s t i r → i < length s → q ≡ run r (octet_bits (get_or s i 0)) → StillMakes s t (i + 1) q
turn {s} {t} {i} {r} k h e =
    record {
      kept =
          ap₂ (λ (x n : ℕ). crc_from x (drop n s)) e (add-one i)
          ∙ sym (crc_from-cons r (get_or s i 0) (drop (suc i) s))
          ∙ ap (crc_from r) (sym (drop-cons s i 0 h))
          ∙ k.kept;
    }

-- the end: no octet is left
pub end : {s : List ℕ} {t i r : ℕ} → StillMakes s t i r → length s ≤ i → r ≡ t
end {s} {r = r} k h = sym (crc_from-nil r) ∙ ap (crc_from r) (sym (drop_of_length-le s h)) ∙ k.kept
