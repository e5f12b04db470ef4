-- A bound is needed: what verifies and passes the strict checks is accepted, and the farthest pair leaves it verifying.
use Prim.Native.Nat.{ℕ}
use mathlib.Core.Path.{◌≡◌, refl, sym, ap, ap₂, ◌∙◌, subst}
use mathlib.Core.Bool.{false}
use mathlib.Core.List.{List, ◌++◌}
use native.Mathlib.Omega.{arith}
use lib.Dec.{lit≤}
use lib.ListN.{length, take, replicate}
use lib.Seq.{take_all}
use Rattle.crc_register.specs.Crc.{◌⊕◌, bit, octet_bits, bits_of, crc_of}
use Rattle.crc_register.specs.Added.{add_octets}
use Rattle.crc_register.proofs.Linear.{bits_of-⊕}
use Rattle.detect.specs.Errors.{ones, reach, UpToThree}
use Rattle.detect.specs.Order.{power_and_one}
use Rattle.detect.proofs.Most.{most}
use Rattle.space_packet.specs.Answer.{gives, refuse_if, and_then}
use Rattle.space_packet.specs.Fields.{id_of, psc_of}
use Rattle.space_packet.specs.Header.{read_header}
use Rattle.space_packet.proofs.Answers.{gives_then}
use Rattle.ecss.specs.Frame.{sealed, stated_of}
use Rattle.ecss.specs.Kind.{pus_rule, strict_rule, secondary_of, ruled, judge}
use Rattle.ecss.proofs.Frames.{total-checked}
use Rattle.ecss.proofs.Sealed.{sealed-verifies}
use Rattle.exactness.specs.Changed.{differences}
use Rattle.exactness.proofs.Changed.{add_back}
use Rattle.tc_header.specs.Form.{all_zero}
use Rattle.tc_header.specs.Header.{tc_of, pus_c}
use Rattle.tc_header.proofs.Forms.{taken-c}
use Rattle.tc_read.specs.declared.PusTcRecord.{PusTcRecord}
use Rattle.tc_strict.specs.Verdict.{strict_in, strict_of}
use Rattle.tc_demand3.specs.Beyond.{content, sent, error, received, Beyond}

-- ---- what verifies, and passes the strict checks, is accepted

accepts : (s : List ℕ) → stated_of s ≡ 4097 → length s ≡ 4097 → crc_of s ≡ 0 → strict_rule pus_c (read_header s) (secondary_of 5 s) ≡ gives tt
    → (r : PusTcRecord) × (strict_of s ≡ gives r)
unfolding strict_in judge
accepts s t l z p =
    let v = ap crc_of (take_all (stated_of s) s (omega arith)) ∙ z in
    let c = total-checked 11 s (stated_of s) (record { is = refl; room = omega arith; fits = omega arith }) v in
    (_, gives_then _ _ tt taken-c ∙ gives_then _ _ _ (gives_then _ (ruled pus_c s) (stated_of s) c ∙ gives_then _ _ tt p))

error-bits : bits_of error ≡ replicate 5 false ++ (power_and_one reach ++ replicate 3 false)
unfolding bits_of octet_bits bit
error-bits = refl

two-bits : UpToThree (bits_of error)
unfolding ones bits_of octet_bits bit
two-bits = record { one = lit≤ tt; three = lit≤ tt }

differ : differences (take 4097 sent) (take 4097 received) ≡ bits_of error
unfolding sealed add_octets
differ =
    ap₂ differences (take_all 4097 sent (lit≤ tt)) (take_all 4097 received (lit≤ tt))
    ∙ sym (bits_of-⊕ sent received refl)
    ∙ ap bits_of (add_back sent error refl)

pub beyond : Beyond
unfolding sealed add_octets ◌⊕◌ refuse_if and_then id_of psc_of read_header pus_rule strict_rule all_zero tc_of
beyond =
    record {
      total = refl;
      changed =
          record {
            four = refl;
            five = refl;
            bits = subst UpToThree (sym differ) two-bits;
          };
      sent-accepted = accepts sent refl refl (sealed-verifies content) refl;
      received-accepted = accepts received refl refl (most.far sent error 5 3 refl error-bits (sealed-verifies content)) refl;
    }
