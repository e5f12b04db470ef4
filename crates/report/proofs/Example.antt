-- The report of P5, P6 and three octets, whole, computed from the definitions.
use mathlib.Core.Path.{◌≡◌, refl}
use mathlib.Core.List.{List, [], ◌∷◌, ◌++◌}
use Prim.Native.Nat.{ℕ}
use Rattle.text.specs.Ascii.{ascii}
use Rattle.text.specs.Digits.{decimal_in, decimal}
use Rattle.crc_register.specs.Crc.{◌⊕◌, bit, shift_in, run, octet_bits, bits_of, crc_from}
use Rattle.space_packet.specs.Answer.{refuse_if, and_then}
use Rattle.space_packet.specs.Fields.{id_of, psc_of}
use Rattle.space_packet.specs.Header.{read_header}
use Rattle.ecss.specs.Frame.{frame_of, checked_of}
use Rattle.ecss.specs.Kind.{pus_rule, strict_rule, read_as, judge}
use Rattle.tc_header.specs.Form.{form_check, all_zero}
use Rattle.tc_header.specs.Header.{tc_of}
use Rattle.tc_read.specs.Read.{record_in}
use Rattle.tc_strict.specs.Verdict.{strict_in}
use Rattle.tc_strict.specs.Split.{piece_by, step_by, walk_by}
use Rattle.report.specs.Report.{two_text, verdict_text, line_of, lines_of, body_text, report_text}

abbrev ping : List ℕ
ping = 0x19 ∷ 0x23 ∷ 0xC0 ∷ 0x05 ∷ 0x00 ∷ 0x06 ∷ 0x2F ∷ 0x11 ∷ 0x01 ∷ 0x00 ∷ 0x00 ∷ []

abbrev pub capture : List ℕ
capture = ping ++ (0x61 ∷ 0x6D ∷ []) ++ ping ++ (0x61 ∷ 0x6C ∷ []) ++ (0x19 ∷ 0x23 ∷ 0xC0 ∷ [])

pub reported : report_text capture ≡ ascii "tcverdict 1\n0 13 accept 17 1\n13 13 refuse 4\n26 3 tail\nend 29\n"
unfolding ◌⊕◌ bit shift_in run octet_bits bits_of crc_from refuse_if and_then id_of psc_of read_header frame_of checked_of pus_rule strict_rule read_as judge form_check all_zero tc_of record_in strict_in piece_by step_by walk_by two_text verdict_text line_of lines_of body_text report_text decimal_in decimal
reported = refl
