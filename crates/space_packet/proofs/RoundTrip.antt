-- A header written reads back as itself, and octets read write back as themselves.
use Prim.Native.Nat.{ℕ, ◌+◌, ◌*◌, ◌/◌, ◌%◌, ◌≤◌, ◌<◌}
use mathlib.Core.Path.{◌≡◌, refl, ap, ◌∙◌}
use mathlib.Core.List.{List, [], ◌∷◌, ◌++◌}
use native.Mathlib.Omega.{arith}
use lib.ListN.{length, get_or, take}
use lib.Seq.{take-suc}
use borrow.Author.Tests.{ltb-false, le-ltb}
use Rattle.space_packet.specs.Answer.{gives}
use Rattle.space_packet.specs.Bits.{word}
use Rattle.space_packet.specs.Fields.{id_raw, id_of, psc_raw, psc_of}
use Rattle.space_packet.specs.Header.{InRange, header_check, header_octets, read_header, packet_len}
use Rattle.space_packet.specs.declared.SpacePacketHeader.{SpacePacketHeader}
use Rattle.space_packet.proofs.Answers.{refuse-no, refuse-gives, then-gives, gives_then}
use Rattle.space_packet.proofs.Numbers.{id-raw-lt, id-back, id-forth, psc-back, psc-forth}

-- the check passes where every field is in range, and only there
pub check-in-range : (h : SpacePacketHeader) → header_check h ≡ gives tt → InRange h
unfolding header_check
check-in-range h p =
    let v = then-gives _ _ _ p in
    let a = then-gives _ _ _ v.2 in
    record { version-fits = ltb-false _ _ (refuse-gives _ _ _ _ v.1).0; apid-fits = ltb-false _ _ (refuse-gives _ _ _ _ a.1).0; count_fits = ltb-false _ _ (refuse-gives _ _ _ _ a.2).0 }

pub in-range-check : (h : SpacePacketHeader) → InRange h → header_check h ≡ gives tt
unfolding header_check
in-range-check h r =
    gives_then _ _ _ (refuse-no _ _ _ (le-ltb _ _ r.version-fits))
    ∙ gives_then _ _ _ (refuse-no _ _ _ (le-ltb _ _ r.apid-fits))
    ∙ refuse-no _ _ _ (le-ltb _ _ r.count_fits)

pub length-header_octets : (h : SpacePacketHeader) → length (header_octets h) ≡ 6
unfolding header_octets
length-header_octets h = refl

-- the total that octets state
pub stated-total : (s : List ℕ) → packet_len (read_header s) ≡ word s 4 + 7
unfolding read_header
stated-total s = refl

-- written, then read
pub read-written : (h : SpacePacketHeader) (rest : List ℕ) → InRange h → read_header (header_octets h ++ rest) ≡ h
unfolding header_octets read_header
read-written h rest r =
    let l = header_octets h ++ rest in
    let e0 : word l 0 ≡ h.version * 8192 + id_raw h.packet_id = omega arith in
    let e2 : word l 2 ≡ psc_raw h.psc = omega arith in
    let e4 : word l 4 ≡ h.data_len = omega arith in
    let ev : word l 0 / 8192 ≡ h.version = omega (arith, id-raw-lt h.packet_id) in
    λ i. record { version = ev i; packet_id = (ap id_of e0 ∙ id-back h.version h.packet_id r.apid-fits) i; psc = (ap psc_of e2 ∙ psc-back h.psc r.count_fits) i; data_len = e4 i }

-- what is read is in range
pub read-in-range : (s : List ℕ) → ((i : ℕ) → get_or s i 0 < 256) → InRange (read_header s)
unfolding read_header id_of psc_of
read-in-range s o =
    record { version-fits = omega (arith, o 0, o 1); apid-fits = omega arith; count_fits = omega arith }

take-six : (s : List ℕ) → 6 ≤ length s → take 6 s ≡ get_or s 0 0 ∷ get_or s 1 0 ∷ get_or s 2 0 ∷ get_or s 3 0 ∷ get_or s 4 0 ∷ get_or s 5 0 ∷ []
take-six s h =
    rw (take-suc s 5 0 (omega arith), take-suc s 4 0 (omega arith), take-suc s 3 0 (omega arith), take-suc s 2 0 (omega arith), take-suc s 1 0 (omega arith), take-suc s 0 0 (omega arith))

-- read, then written
pub written_read : (s : List ℕ) → 6 ≤ length s → ((i : ℕ) → get_or s i 0 < 256) → header_octets (read_header s) ≡ take 6 s
unfolding header_octets read_header
written_read s n o =
    let b0 = o 0 in
    let b1 = o 1 in
    let b2 = o 2 in
    let b3 = o 3 in
    let b5 = o 5 in
    let w0 = id-forth (word s 0) in
    let w2 = psc-forth (word s 2) in
    let p0 : (word s 0 / 8192 * 8192 + id_raw (id_of (word s 0))) / 256 ≡ get_or s 0 0 = omega arith in
    let p1 : (word s 0 / 8192 * 8192 + id_raw (id_of (word s 0))) % 256 ≡ get_or s 1 0 = omega arith in
    let p2 : psc_raw (psc_of (word s 2)) / 256 ≡ get_or s 2 0 = omega arith in
    let p3 : psc_raw (psc_of (word s 2)) % 256 ≡ get_or s 3 0 = omega arith in
    let p4 : word s 4 / 256 ≡ get_or s 4 0 = omega arith in
    let p5 : word s 4 % 256 ≡ get_or s 5 0 = omega arith in
    rw take-six (λ i. p0 i ∷ p1 i ∷ p2 i ∷ p3 i ∷ p4 i ∷ p5 i ∷ [])
