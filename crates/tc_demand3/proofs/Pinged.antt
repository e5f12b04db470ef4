-- A ping command by the builder, with all four acknowledgements named: what is built, and its octets.
use Prim.Native.Nat.{ℕ}
use mathlib.Core.Path.{◌≡◌, refl, ap, ap₂, ◌∙◌}
use mathlib.Core.Bool.{true}
use mathlib.Core.List.{List, [], ◌∷◌, ◌++◌}
use lib.ListN.{length}
use Rattle.std.specs.Prelude.{Result}
use Rattle.space_packet.specs.declared.PusError.{PusError}
use Rattle.crc_register.specs.Crc.{◌⊕◌, bit, shift_in, run, octet_bits, bits_of, crc_from}
use Rattle.space_packet.specs.Answer.{Answer, gives, refuses, refuse_if, ◌then◌, in_buffer, and_then}
use Rattle.space_packet.specs.Fields.{id_raw, psc_raw}
use Rattle.space_packet.specs.Header.{header_octets, header_check, left_by}
use Rattle.space_packet.specs.Wrote.{Wrote}
use Rattle.ecss.specs.Frame.{sealed}
use Rattle.ecss.specs.Kind.{content_of}
use Rattle.ecss_write.specs.Write.{machine_total, length_field, write_in, write_with, field_with}
use Rattle.tc_header.specs.Form.{form_check}
use Rattle.tc_header.specs.Header.{tc_octets}
use Rattle.tc_write.specs.Creator.{new_in, octets_for, write_of, PacketWrote}
use Rattle.tc_write.specs.declared.PusTcBuilder.{PusTcBuilder}
use Rattle.tc_write.specs.declared.PusTcCreator.{PusTcCreator}
use Rattle.tc_demand3.specs.Cases.{ping, ping_by, ping_builder}

-- with no data, it is built
pub ping-made : (b : PusTcBuilder) → b ≡ ping_builder
    → new_in b.0.form b.0.sp_header b.0.sec_header 0 (record { set_ccsds_len = true; has_checksum = b.0.has_checksum }) ≡ gives (ping_by 6)
unfolding refuse_if and_then form_check header_check field_with machine_total length_field
ping-made b e =
    ap (λ (x : PusTcBuilder). new_in x.0.form x.0.sp_header x.0.sec_header 0 (record { set_ccsds_len = true; has_checksum = x.0.has_checksum })) e

same_after : (a : Answer ℕ) → (a then λ n. gives n) ≡ a
unfolding and_then
same_after (gives n) = refl
same_after (refuses e) = refl

ping-room : (m : ℕ) → write_of (ping_by 6) 0 m ≡ in_buffer m 13
unfolding refuse_if and_then form_check header_check machine_total write_in write_with
ping-room m = same_after (in_buffer m 13)

ping-octets : octets_for (ping_by 6) [] ≡ ping 6 ++ (0x61 ∷ 0x6D ∷ [])
unfolding ◌⊕◌ bit shift_in run octet_bits bits_of crc_from id_raw psc_raw header_octets sealed content_of tc_octets
ping-octets = refl

pub ping-wrote : (t : PusTcCreator) (before after : List ℕ) (r : Result ℕ PusError) → t ≡ ping_by 6 → PacketWrote t [] before r after
    → Wrote (in_buffer (length before) 13) (ping 6 ++ (0x61 ∷ 0x6D ∷ [])) before r after
ping-wrote t before after r e w =
    let a = ap (λ (x : PusTcCreator). write_of x 0 (length before)) e ∙ ping-room (length before) in
    let o = ap (λ (x : PusTcCreator). octets_for x []) e ∙ ping-octets in
    record { answered = w.answered ∙ a; left = w.left ∙ ap₂ (λ (n : Answer ℕ) (l : List ℕ). left_by n l before) a o }
