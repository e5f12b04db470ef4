-- What it says that a command is built with its data, and what its creator then writes.
use Prim.Native.Nat.{ℕ, ◌+◌, ◌≤◌}
use mathlib.Core.Path.{◌≡◌, refl, sym, ap, ap₂, ◌∙◌}
use mathlib.Core.Bool.{true}
use mathlib.Core.List.{List}
use native.Mathlib.Omega.{arith}
use lib.ListN.{length}
use Rattle.std.specs.Prelude.{Result}
use Rattle.space_packet.specs.Answer.{Answer, Passed, gives, refuses, ◌then◌, in_buffer, and_then}
use Rattle.space_packet.specs.declared.PusError.{PusError}
use Rattle.space_packet.specs.Header.{packet_len, left_by}
use Rattle.space_packet.specs.declared.SpacePacketHeader.{SpacePacketHeader}
use Rattle.space_packet.proofs.Answers.{gives-inj, then-gives, gives_then}
use Rattle.ecss.specs.Version.{default_config}
use Rattle.ecss.specs.declared.PusVersion.TheVariants.{PusC}
use Rattle.ecss.proofs.Versions.{version-passes}
use Rattle.ecss_write.specs.Write.{write_in}
use Rattle.ecss_write.specs.Writer.{start_by, made_by, check_by, new_by}
use Rattle.ecss_write.proofs.Totals.{total-length}
use Rattle.ecss_write.proofs.Written.{write-by-room}
use Rattle.exactness.proofs.Given.{check-made, new-handed}
use Rattle.tc_write.specs.Command.{command_c}
use Rattle.tc_write.specs.Creator.{creator_of, new_of, octets_for, write_of, PacketWrote}
use Rattle.tc_write.specs.declared.PusTcCreator.{PusTcCreator}
use Rattle.tc_write.proofs.Command.{writer-laws-c}
use Rattle.profile.specs.Rules.{profile_rule}
use Rattle.profile.specs.Builder.{header_for, sec_for, creator_for, length_with, write_for, octets_of, CommandWrote}
use Rattle.profile.specs.declared.ProfileTc.{ProfileTc}

-- the creator c is made of the command and its data: every field is within its width, and the packet within the limit and the rules
pub record Made (t : ProfileTc) (d : List ℕ) (c : PusTcCreator) : Type 0 where
  pub checked : check_by command_c (header_for t) (sec_for t) ≡ gives tt
  pub at_most : start_by command_c + length d + 2 ≤ 65542
  pub ruled : profile_rule (made_by command_c (header_for t) d) (sec_for t) ≡ gives tt
  pub is : c ≡ creator_of (made_by command_c (header_for t) d) (sec_for t) true

-- what is asked after a size that is not refused
then-passed : (a : Answer ℕ) (v : Passed) → v ≡ gives tt → (a then λ n. v then λ _. gives n) ≡ a
unfolding and_then
then-passed (refuses e) v p = refl
then-passed (gives n) v p = gives_then _ _ tt p

module _ (t : ProfileTc) (d : List ℕ) where
  -- so far it is construction's
  pub constructed : (c : PusTcCreator) → new_of (header_for t) (sec_for t) (length d) default_config ≡ gives c
      → (check_by command_c (header_for t) (sec_for t) ≡ gives tt) × (start_by command_c + length d + 2 ≤ 65542) × (c ≡ creator_of (made_by command_c (header_for t) d) (sec_for t) true)
  constructed c p =
      let n = then-gives (new_by command_c (header_for t) (sec_for t) true true (length d)) _ c p in
      let k = new-handed command_c writer-laws-c (header_for t) (sec_for t) d n.0 n.1 in
      (k.0, k.1, sym (gives-inj _ c n.2) ∙ ap (λ (h : SpacePacketHeader). creator_of h (sec_for t) true) k.2)

  pub made : (c : PusTcCreator) → creator_for t (length d) ≡ gives c → Made t d c
  unfolding creator_for
  made c p =
      let a = then-gives (new_of (header_for t) (sec_for t) (length d) default_config) _ c p in
      let r = then-gives (profile_rule a.0.sp_header a.0.sec_header) _ c a.2 in
      let k = constructed a.0 a.1 in
      record {
        checked = k.0;
        at_most = k.1;
        ruled = ap (λ (u : PusTcCreator). profile_rule u.sp_header u.sec_header) (sym k.2) ∙ r.1;
        is = sym (gives-inj a.0 c r.2) ∙ k.2;
      }

  -- it states its total, and writing asks no more than the room for it
  module _ (c : PusTcCreator) (p : creator_for t (length d) ≡ gives c) where
    total-is : packet_len c.sp_header ≡ start_by command_c + length d + 2
    total-is = ap (λ (u : PusTcCreator). packet_len u.sp_header) (made c p).is ∙ omega arith

    pub length-is : length_with t (length d) ≡ gives (start_by command_c + length d + 2)
    length-is = gives_then _ _ _ (gives_then _ _ c p) ∙ ap gives total-is

    write-is : (m : ℕ) → write_of c (length d) m ≡ write_for t (length d) m
    unfolding write_in
    write-is m =
        let k = made c p in
        let h = made_by command_c (header_for t) d in
        let room = gives_then _ _ tt (check-made command_c writer-laws-c (header_for t) (sec_for t) _ ∙ k.checked)
        ∙ gives_then _ (in_buffer m) _ (total-length (start_by command_c) true (length d) _ refl (omega (arith, k.at_most))) in
        ap (λ (u : PusTcCreator). write_of u (length d) m) k.is
        ∙ write-by-room (check_by command_c h (sec_for t)) _ (start_by command_c) true (length d) m
        ∙ ap (λ (z : Answer ℕ). z then λ n. command_c.version (sec_for t) then λ _. gives n) room
        ∙ then-passed _ _ ((version-passes PusC PusC).1 refl)
        ∙ sym (gives_then _ _ _ length-is)

    pub command-written : (before after : List ℕ) (r : Result ℕ PusError) → PacketWrote c d before r after → CommandWrote t d before r after
    command-written before after r w =
        let e = write-is (length before) in
        let o : octets_for c d ≡ octets_of t d = ap (λ (u : PusTcCreator). octets_for u d) (made c p).is in
        record { answered = w.answered ∙ e; left = w.left ∙ ap₂ (λ (a : Answer ℕ) (l : List ℕ). left_by a l before) e o }
