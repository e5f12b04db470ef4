-- The octets of a header are the row of its fields, written and read.
use Prim.Native.Nat.{ℕ, zero, suc, ◌+◌, ◌*◌, ◌/◌, ◌%◌, ◌^◌, ◌≤◌, ◌<◌}
use mathlib.Core.Path.{◌≡◌, refl, sym, ap, ◌∙◌}
use mathlib.Core.Bool.{Bool}
use mathlib.Core.List.{List, [], ◌∷◌, ◌++◌, append_assoc, append-nil}
use native.Mathlib.Omega.{arith}
use native.Mathlib.Nat.{zero-add, suc-add, mul_assoc, mul_left_comm, pow-succ', one-le-pow, mul-add-div_right, div-div-eq-div-mul, div-eq_of_lt, div-add-mod'}
use lib.Dec.{eqb}
use lib.ListN.{length, get_or, take}
use Rattle.space_packet.specs.Bits.{bits, row, be16, lowest, flag_number}
use Rattle.space_packet.specs.Fields.{type_number, flags_number, id_raw, psc_raw}
use Rattle.space_packet.specs.Header.{header_row, header_octets, read_header}
use Rattle.space_packet.specs.declared.PacketId.{PacketId}
use Rattle.space_packet.specs.declared.PacketSequenceControl.{PacketSequenceControl}
use Rattle.space_packet.specs.declared.SpacePacketHeader.{SpacePacketHeader}
use Rattle.space_packet.proofs.Numbers.{id-raw-lt, flag-le}
use Rattle.space_packet.proofs.RoundTrip.{written_read}

-- what stands above the w lowest bits does not change them
pub bits-low : (w x y : ℕ) → bits w (x * 2 ^ w + y) ≡ bits w y
unfolding bits
bits-low zero x y = refl
bits-low (suc w) x y =
    let e : x * 2 ^ suc w ≡ x * 2 * 2 ^ w = ap (λ (n : ℕ). x * n) (pow-succ' 2 w) ∙ sym (mul_assoc x 2 (2 ^ w)) in
    let q : (x * 2 ^ suc w + y) / 2 ^ w ≡ x * 2 + y / 2 ^ w = ap (λ (n : ℕ). (n + y) / 2 ^ w) e ∙ mul-add-div_right (one-le-pow w 2 (omega arith)) (x * 2) y in
    let l : (x * 2 ^ suc w + y) / 2 ^ w % 2 ≡ y / 2 ^ w % 2 = ap (λ (n : ℕ). n % 2) q ∙ omega arith in
    λ i. eqb (l i) 1 ∷ (ap (λ (n : ℕ). bits w (n + y)) e ∙ bits-low w (x * 2) y) i

pow-add : (a b : ℕ) → 2 ^ (a + b) ≡ 2 ^ b * 2 ^ a
pow-add zero b = ap (λ (n : ℕ). 2 ^ n) (zero-add b) ∙ omega arith
pow-add (suc a) b =
    ap (λ (n : ℕ). 2 ^ n) (suc-add a b) ∙ pow-succ' 2 (a + b) ∙ ap (λ (n : ℕ). 2 * n) (pow-add a b)
    ∙ mul_left_comm 2 (2 ^ b) (2 ^ a) ∙ ap (λ (n : ℕ). 2 ^ b * n) (sym (pow-succ' 2 a))

-- a field of a bits above a field of b bits
pub bits-split : (a b x y : ℕ) → y < 2 ^ b → bits (a + b) (x * 2 ^ b + y) ≡ bits a x ++ bits b y
unfolding bits
bits-split zero b x y h = ap (λ (n : ℕ). bits n (x * 2 ^ b + y)) (zero-add b) ∙ bits-low b x y
bits-split (suc a) b x y h =
    let v = x * 2 ^ b + y in
    let u : v / 2 ^ b ≡ x = mul-add-div_right (one-le-pow b 2 (omega arith)) x y ∙ (omega (arith, div-eq_of_lt h)) in
    let q : v / 2 ^ (a + b) ≡ x / 2 ^ a = ap (λ (n : ℕ). v / n) (pow-add a b) ∙ sym (div-div-eq-div-mul v (2 ^ b) (2 ^ a)) ∙ ap (λ (n : ℕ). n / 2 ^ a) u in
    ap (λ (n : ℕ). bits n v) (suc-add a b) ∙ (λ i. lowest (q i) ∷ bits-split a b x y h i)

-- sixteen bits and their two octets
pub word_row : (w : ℕ) (s : List ℕ) → row (be16 w ++ s) ≡ bits 16 w ++ row s
unfolding row
word_row w s =
    let e : bits 16 w ≡ bits 8 (w / 256) ++ bits 8 (w % 256) = ap (bits 16) (sym (div-add-mod' w 256)) ∙ bits-split 8 8 (w / 256) (w % 256) (omega arith) in
    rw (e, append_assoc)

pub last_row : (w : ℕ) → row (be16 w) ≡ bits 16 w
unfolding row
last_row w = word_row w [] ∙ append-nil (bits 16 w)

-- a number over its width shows its lowest bits
pub bits-mask : (w v : ℕ) → bits w (v % 2 ^ w) ≡ bits w v
bits-mask w v = sym (bits-low w (v / 2 ^ w) (v % 2 ^ w)) ∙ ap (bits w) (div-add-mod' v (2 ^ w))

id-row : (i : PacketId) → bits 13 (id_raw i) ≡ bits 1 (type_number i.packet_type) ++ (bits 1 (flag_number i.sec_header_flag) ++ bits 11 i.apid.0)
unfolding id_raw
id-row i =
    let t = type_number i.packet_type in
    let f = flag_number i.sec_header_flag in
    let m = i.apid.0 % 2048 in
    let e : id_raw i ≡ t * 4096 + (f * 2048 + m) = omega arith in
    ap (bits 13) e ∙ bits-split 1 12 t (f * 2048 + m) (omega (arith, flag-le i.sec_header_flag))
    ∙ ap (λ (l : List Bool). bits 1 t ++ l) (bits-split 1 11 f m (omega arith) ∙ ap (λ (l : List Bool). bits 1 f ++ l) (bits-mask 11 i.apid.0))

psc-row : (p : PacketSequenceControl) → bits 16 (psc_raw p) ≡ bits 2 (flags_number p.seq_flags) ++ bits 14 p.seq_count.0
unfolding psc_raw
psc-row p =
    bits-split 2 14 (flags_number p.seq_flags) (p.seq_count.0 % 16384) (omega arith)
    ∙ ap (λ (l : List Bool). bits 2 (flags_number p.seq_flags) ++ l) (bits-mask 14 p.seq_count.0)

-- the octets that are written for a header
pub layout : (h : SpacePacketHeader) → row (header_octets h) ≡ header_row h
unfolding header_octets header_row
layout h =
    let w = h.version * 8192 + id_raw h.packet_id in
    let v : bits 16 w ≡ bits 3 h.version ++ bits 13 (id_raw h.packet_id) = bits-split 3 13 h.version (id_raw h.packet_id) (id-raw-lt h.packet_id) in
    rw (word_row w (be16 (psc_raw h.psc) ++ be16 h.data_len), word_row (psc_raw h.psc) (be16 h.data_len), last_row h.data_len, v, id-row, psc-row) (simp append_assoc)

-- the header that is read from octets
pub layout-read : (s : List ℕ) → 6 ≤ length s → ((i : ℕ) → get_or s i 0 < 256) → header_row (read_header s) ≡ row (take 6 s)
layout-read s n o = sym (layout (read_header s)) ∙ ap row (written_read s n o)
