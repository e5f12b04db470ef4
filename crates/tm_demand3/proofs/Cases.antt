-- The cases at the edges hold: each is computed from the definitions.
use mathlib.Core.Path.{refl}
use Rattle.crc_register.specs.Crc.{◌⊕◌, bit, shift_in, run, octet_bits, bits_of, crc_from}
use Rattle.space_packet.specs.Answer.{refuse_if, and_then}
use Rattle.space_packet.specs.Fields.{id_of, psc_of}
use Rattle.space_packet.specs.Header.{read_header, header_check}
use Rattle.ecss.specs.Frame.{frame_of, checked_of, frame_after, checked_after}
use Rattle.ecss.specs.Kind.{pus_rule, strict_rule, read_as, judge}
use Rattle.ecss_write.specs.Write.{machine_total, length_field, field_with}
use Rattle.tm_header.specs.Header.{time_limit, time_check, fields_of, tm_of}
use Rattle.tm_read.specs.Read.{record_in, read_in, checked_in}
use Rattle.tm_strict.specs.Verdict.{strict_in}
use Rattle.tc_header.specs.Form.{form_check}
use Rattle.tc_header.specs.Header.{tc_of}
use Rattle.tc_strict.specs.Verdict as Tc
use Rattle.tm_demand3.specs.Cases.{Cases}

pub cases-hold : Cases
unfolding ◌⊕◌ bit shift_in run octet_bits bits_of crc_from refuse_if and_then id_of psc_of read_header header_check frame_of checked_of frame_after checked_after machine_total length_field field_with pus_rule strict_rule read_as judge time_limit time_check fields_of tm_of record_in read_in checked_in strict_in form_check tc_of Tc.strict_in
cases-hold =
    record {
      taken = refl;
      taken-time = refl;
      taken-data = refl;
      altered = refl;
      no-headers = refl;
      no-total = refl;
      no-checksum = refl;
      as-six = refl;
      as-six-data = refl;
      as-eight = refl;
      no-time = refl;
      longest = refl;
      too_long = refl;
      too-long-alone = refl;
      version-one = refl;
      type-bit = refl;
      no-secondary = refl;
      nibble-one = refl;
      before-idle = refl;
      idle = refl;
      idle-version = refl;
      idle-read = refl;
      as-command = refl;
      as-command-a = refl;
      from-command = refl;
      most-without = refl;
      more-without = refl;
      most = refl;
      more = refl;
      most-with = refl;
      more-with = refl;
      sixteen-for-fifteen = refl;
      fifteen-for-sixteen = refl;
      seventeen = refl;
      order-time = refl;
      order-apid = refl;
      order-status = refl;
      order-length = refl;
      made = refl;
    }
