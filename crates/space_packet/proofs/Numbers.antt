-- The fields' numbers: their bounds, and that a field and its number tell each other.
use Prim.Native.Nat.{ℕ, zero, suc, ◌+◌, ◌*◌, ◌/◌, ◌%◌, ◌≤◌, ◌<◌}
use mathlib.Core.Path.{◌≡◌, refl, ap, ◌∙◌}
use mathlib.Core.Bool.{Bool, true, false, beq}
use native.Mathlib.Omega.{arith}
use lib.Dec.{eqb, lit≤}
use mir.Val.{bool_byte}
use Rattle.space_packet.specs.Bits.{pick, lowest, flag_number}
use Rattle.space_packet.specs.Fields.{type_number, type_of, flags_number, flags_of, id_raw, id_of, psc_raw, psc_of}
use Rattle.space_packet.specs.declared.PacketType.{PacketType}
use Rattle.space_packet.specs.declared.PacketType.TheVariants.{Tm, Tc}
use Rattle.space_packet.specs.declared.SequenceFlags.{SequenceFlags}
use Rattle.space_packet.specs.declared.SequenceFlags.TheVariants.{ContinuationSegment, FirstSegment, LastSegment, Unsegmented}
use Rattle.space_packet.specs.declared.PacketId.{PacketId}
use Rattle.space_packet.specs.declared.PacketSequenceControl.{PacketSequenceControl}

pub type-le : (t : PacketType) → type_number t ≤ 1
type-le Tm = lit≤ tt
type-le Tc = lit≤ tt

pub flag-le : (b : Bool) → flag_number b ≤ 1
flag-le true = lit≤ tt
flag-le false = lit≤ tt

pub flags-le : (f : SequenceFlags) → flags_number f ≤ 3
flags-le ContinuationSegment = lit≤ tt
flags-le FirstSegment = lit≤ tt
flags-le LastSegment = lit≤ tt
flags-le Unsegmented = lit≤ tt

-- a bool that is cast is its flag's number
pub bool-flag : (b : Bool) → bool_byte b ≡ flag_number b
bool-flag true = refl
bool-flag false = refl

pub bool_le : (b : Bool) → bool_byte b ≤ 1
bool_le b = rw bool-flag (flag-le b)

-- bools compared are their flags' numbers compared
pub beq-flag : (a b : Bool) → beq a b ≡ eqb (flag_number a) (flag_number b)
beq-flag true true = refl
beq-flag true false = refl
beq-flag false true = refl
beq-flag false false = refl

-- ---- a field from its number, and the number from its field

pub type-back : (t : PacketType) → type_of (type_number t) ≡ t
type-back Tm = refl
type-back Tc = refl

pub flag-back : (b : Bool) → lowest (flag_number b) ≡ b
flag-back true = refl
flag-back false = refl

pub flags-back : (f : SequenceFlags) → flags_of (flags_number f) ≡ f
flags-back ContinuationSegment = refl
flags-back FirstSegment = refl
flags-back LastSegment = refl
flags-back Unsegmented = refl

bit-forth : (n : ℕ) → n < 2 → flag_number (eqb n 1) ≡ n
bit-forth zero h = refl
bit-forth (suc zero) h = refl
bit-forth (suc (suc n)) h = absurd (omega arith)

pub flag-forth : (n : ℕ) → flag_number (lowest n) ≡ n % 2
flag-forth n = bit-forth (n % 2) (omega arith)

type-flag : (b : Bool) → type_number (pick b Tc Tm) ≡ flag_number b
type-flag true = refl
type-flag false = refl

pub type-forth : (n : ℕ) → type_number (type_of n) ≡ n % 2
type-forth n = type-flag (lowest n) ∙ flag-forth n

flags-flag : (a b : Bool) → flags_number (pick a (pick b Unsegmented LastSegment) (pick b FirstSegment ContinuationSegment)) ≡ flag_number a * 2 + flag_number b
flags-flag true true = refl
flags-flag true false = refl
flags-flag false true = refl
flags-flag false false = refl

pub flags-forth : (n : ℕ) → flags_number (flags_of n) ≡ n % 4
flags-forth n = omega (arith, flags-flag (lowest (n / 2)) (lowest n), flag-forth (n / 2), flag-forth n)

-- ---- the packet ID and its thirteen bits, under a version number

pub id-raw-lt : (i : PacketId) → id_raw i < 8192
unfolding id_raw
id-raw-lt i = omega (arith, type-le i.packet_type, flag-le i.sec_header_flag)

pub id-back : (v : ℕ) (i : PacketId) → i.apid.0 ≤ 2047 → id_of (v * 8192 + id_raw i) ≡ i
unfolding id_raw id_of
id-back v i a =
    let t = type-le i.packet_type in
    let f = flag-le i.sec_header_flag in
    let w = v * 8192 + id_raw i in
    let et : w / 4096 % 2 ≡ type_number i.packet_type % 2 = omega arith in
    let ef : w / 2048 % 2 ≡ flag_number i.sec_header_flag % 2 = omega arith in
    let ea : w % 2048 ≡ i.apid.0 = omega arith in
    λ k. record { packet_type = (ap (λ (n : ℕ). pick (eqb n 1) Tc Tm) et ∙ type-back i.packet_type) k; sec_header_flag = (ap (λ (n : ℕ). eqb n 1) ef ∙ flag-back i.sec_header_flag) k; apid = record { 0 = ea k } }

-- `omega` takes the two cuts of the word one at a time
joined : (t f a k n : ℕ) → n ≡ t * 4096 + k → k ≡ f * 2048 + a → t * 4096 + f * 2048 + a ≡ n
joined t f a k n p q = omega arith

pub id-forth : (w : ℕ) → id_raw (id_of w) ≡ w % 8192
unfolding id_raw id_of
id-forth w =
    rw (type-forth (w / 4096), flag-forth (w / 2048))
    (joined (w / 4096 % 2) (w / 2048 % 2) (w % 2048 % 2048) (w % 4096) (w % 8192) (omega arith) (omega arith))

-- ---- the sequence control and its sixteen bits

pub psc-back : (p : PacketSequenceControl) → p.seq_count.0 ≤ 16383 → psc_of (psc_raw p) ≡ p
unfolding psc_raw psc_of
psc-back p n =
    let ef : psc_raw p / 16384 ≡ flags_number p.seq_flags = omega arith in
    let en : psc_raw p % 16384 ≡ p.seq_count.0 = omega arith in
    λ k. record { seq_flags = (ap flags_of ef ∙ flags-back p.seq_flags) k; seq_count = record { 0 = en k } }

pub psc-forth : (w : ℕ) → psc_raw (psc_of w) ≡ w % 65536
unfolding psc_raw psc_of
psc-forth w = omega (arith, flags-forth (w / 16384))
