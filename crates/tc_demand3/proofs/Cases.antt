-- The cases at the edges hold: each is computed from the definitions.
use mathlib.Core.Path.{refl}
use Rattle.crc_register.specs.Crc.{◌⊕◌, bit, shift_in, run, octet_bits, bits_of, crc_from}
use Rattle.space_packet.specs.Answer.{refuse_if, and_then}
use Rattle.space_packet.specs.Fields.{id_of, psc_of}
use Rattle.space_packet.specs.Header.{read_header}
use Rattle.ecss.specs.Frame.{frame_of, checked_of, frame_after, checked_after}
use Rattle.ecss.specs.Kind.{pus_rule, strict_rule, read_as, judge}
use Rattle.ecss_write.specs.Write.{machine_total, length_field}
use Rattle.tc_header.specs.Form.{form_check, all_zero}
use Rattle.tc_header.specs.Header.{tc_of}
use Rattle.tc_read.specs.Read.{record_in, read_in, checked_in}
use Rattle.tc_strict.specs.Verdict.{strict_in}
use Rattle.tc_demand3.specs.Cases.{Cases}

pub cases-hold : Cases
unfolding ◌⊕◌ bit shift_in run octet_bits bits_of crc_from refuse_if and_then id_of psc_of read_header frame_of checked_of frame_after checked_after machine_total length_field pus_rule strict_rule read_as judge form_check all_zero tc_of record_in read_in checked_in strict_in
cases-hold =
    record {
      p1 = refl;
      p2 = refl;
      p3 = refl;
      p4 = refl;
      p5 = refl;
      p6 = refl;
      p7 = refl;
      p8 = refl;
      p9 = refl;
      p9-checked = refl;
      p10 = refl;
      p11 = refl;
      p12 = refl;
      a-ping = refl;
      a-nine = refl;
      a-from-c = refl;
      a-width = refl;
      before-idle = refl;
      idle = refl;
      idle-a = refl;
      idle-version = refl;
      idle-read = refl;
      spare-three = refl;
      spare-not-zero = refl;
      spare-skipped = refl;
      spare-idle = refl;
      spare-five = refl;
      spare-few = refl;
      spare-most = refl;
      spare-above = refl;
      two-forms = (refl, refl);
    }
