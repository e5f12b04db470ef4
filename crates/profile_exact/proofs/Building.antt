-- What the profile's builder makes is accepted, whatever its command holds; and every accepted packet can be built.
use Prim.Native.Nat.{ℕ, ◌-◌, ◌≤◌}
use mathlib.Core.Path.{◌≡◌, refl, sym, ap, ◌∙◌, subst}
use mathlib.Core.Bool.{true}
use mathlib.Core.List.{List, ◌++◌}
use native.Mathlib.Omega.{arith}
use lib.ListN.{length, take, drop}
use borrow.Author.Tests.{ne_eqb, le-ltb}
use Rattle.std.specs.Prelude.{Result}
use Rattle.space_packet.specs.Answer.{answer_of, outcome, Passed, Kept, gives, set_if}
use Rattle.space_packet.specs.declared.PusError.{PusError}
use Rattle.space_packet.specs.Fields.{apid_check, count_check}
use Rattle.space_packet.specs.declared.Apid.{Apid}
use Rattle.space_packet.specs.declared.PacketSequenceControl.{PacketSequenceControl}
use Rattle.space_packet.proofs.Answers.{gives-inj, then-gives, gives_then, refuse-no, range-passes, left-written}
use Rattle.ecss.specs.Frame.{Octets}
use Rattle.ecss.specs.declared.MessageTypeId.{MessageTypeId}
use Rattle.ecss.specs.Kind.{Rules, BeginsWith, packet_of}
use Rattle.ecss_write.specs.Writer.{packet_by, made_by, Handed}
use Rattle.ecss_write.proofs.Totals.{in-buffer-is}
use Rattle.exactness.specs.Demand3.{total_for}
use Rattle.exactness.proofs.Given.{checked, handed-rules, handed-new}
use Rattle.tc_header.specs.Form.{form_c}
use Rattle.tc_header.specs.Header.{ack_check, pus_c}
use Rattle.tc_header.specs.declared.AckFlags.{AckFlags}
use Rattle.tc_header.proofs.Checks.{fields-pass}
use Rattle.tc_header.proofs.Forms.{taken-c}
use Rattle.tc_write.specs.Command.{command_c}
use Rattle.tc_write.specs.declared.PusTcCreator.{PusTcCreator}
use Rattle.tc_write.proofs.Command.{writer-laws-c}
use Rattle.tc_read.specs.Read.{app_data_of}
use Rattle.tc_read.specs.declared.PusTcRecord.{PusTcRecord}
use Rattle.tc_demand3.specs.Rules.{Telecommand, report_for}
use Rattle.tc_demand3.proofs.Demand3.{reports, reader-reports, exactly-c, written-again}
use Rattle.profile.specs.Rules.{profile_rule, profile_of}
use Rattle.profile.specs.Builder.{command_from, header_for, sec_for, command_of, octets_of, creator_for, built_for, header_with, length_with, write_for, CommandWrote, builder_of, with_apid, with_psc, with_type, with_source, with_ack}
use Rattle.profile.specs.declared.ProfileTc.{ProfileTc}
use Rattle.profile.specs.declared.ProfileBuilder.{ProfileBuilder}
use Rattle.profile.proofs.Commands.{made, length-is}
use Rattle.profile_exact.specs.Within.{Fitting, fields_of, Again}
use Rattle.profile_exact.proofs.Exactly.{rule-within, profile-gives, gives-profile}

-- ---- what is made is accepted

module _ (t : ProfileTc) (d : List ℕ) (c : PusTcCreator) (p : creator_for t (length d) ≡ gives c) where
  -- it is under the written rules: an APID below 64 is no idle packet's
  under-rules : Rules pus_c (command_of t d)
  under-rules =
      let m = made t d c p in
      let k = checked command_c writer-laws-c (header_for t) (sec_for t) m.checked in
      let w = (rule-within (made_by command_c (header_for t) d) (sec_for t) (length d) (omega arith)).0 m.ruled in
      handed-rules command_c writer-laws-c (header_for t) (sec_for t) d
      (record {
        in-range = k.1;
        version-zero = refl;
        not-idle = ne_eqb t.apid.0 2047 (λ (e : t.apid.0 ≡ 2047). let b = w.apid-below in omega (arith, e, b));
        fits = record { version-is = refl; ack-fits = ((fields-pass form_c (sec_for t)).0 k.2).0; source_fits = tt };
        at_most = m.at_most;
      })

  -- and so is accepted, with anything after it
  made-accepted : (rest : List ℕ) → profile_of (octets_of t d ++ rest) ≡ gives (report_for form_c (command_of t d))
  made-accepted rest =
      gives-profile _ _
      (reports form_c taken-c _ (command_of t d) (record { rules = under-rules; rest = rest; octets = refl }))
      (made t d c p).ruled

module _ (t : ProfileTc) (d before after : List ℕ) (r : Result ℕ PusError) where
  -- Whatever octets the write leaves as written are accepted: for every command, all data and every buffer.
  pub written-accepted : (n : ℕ) → CommandWrote t d before r after → answer_of r ≡ gives n
      → (n ≡ total_for pus_c d) × (profile_of after ≡ gives (report_for form_c (command_of t d)))
  written-accepted n w e =
      let a = sym w.answered ∙ e in
      let l = then-gives (length_with t (length d)) _ n a in
      let h = then-gives (header_with t (length d)) _ l.0 l.1 in
      let k = then-gives (creator_for t (length d)) _ h.0 h.1 in
      let i = gives-inj _ _ (sym l.1 ∙ length-is t d k.0 k.1) in
      ((in-buffer-is (length before) l.0 n l.2).0 ∙ i, ap profile_of (w.left ∙ left-written _ _ _ _ a) ∙ made-accepted t d k.0 k.1 _)

  -- In a buffer with room it leaves them.
  pub built-written : (u : ProfileTc) → built_for t (length d) ≡ gives u → total_for pus_c d ≤ length before → CommandWrote u d before r after → answer_of r ≡ gives (total_for pus_c d)
  built-written u p f w =
      let k = then-gives (creator_for t (length d)) _ u p in
      let e = gives-inj t u k.2 in
      w.answered
      ∙ ap (λ (z : ProfileTc). write_for z (length d) (length before)) (sym e)
      ∙ gives_then _ _ _ (length-is t d k.0 k.1)
      ∙ refuse-no _ _ _ (le-ltb (length before) (total_for pus_c d) f)

-- ---- what is accepted can be made

-- of a packet under the written rules, the fields that the setters are given
module _ (p : Telecommand) (u : Rules pus_c p) where
  abbrev fields : ProfileTc
  fields = fields_of (report_for form_c p)

  -- a command with these fields and its data is that packet: all else is as the rules have it
  pub command-back : command_of fields p.user ≡ p
  command-back =
      let v = u.stated in
      let s = v.states-length in
      let n : total_for pus_c p.user - 7 ≡ p.primary.data_len = omega (arith, s) in
      let q = u.primary in
      λ i. packet_by
      (record {
        version = sym q.version-zero i;
        packet_id = record { packet_type = sym q.type-is i; sec_header_flag = sym q.has-secondary i; apid = p.primary.packet_id.apid };
        psc = p.primary.psc;
        data_len = n i;
      })
      (record {
        message_type_id = p.secondary.message_type_id;
        source_id = p.secondary.source_id;
        ack_flags = p.secondary.ack_flags;
        version = sym v.fits.version-is i;
      })
      p.user

  -- it is built, where it passes the profile's rules
  pub packet-built : profile_rule p.primary p.secondary ≡ gives tt → built_for fields (length p.user) ≡ gives fields
  unfolding creator_for
  packet-built k =
      let v = u.stated in
      let c = command-back in
      let h : Handed pus_c (packet_by (header_for fields) (sec_for fields) p.user) = record {
        in-range = record { version-fits = omega arith; apid-fits = v.in-range.apid-fits; count_fits = v.in-range.count_fits };
        version-zero = refl;
        not-idle = u.primary.not-idle;
        fits = record { version-is = refl; ack-fits = v.fits.ack-fits; source_fits = tt };
        at_most = u.at_most;
      } in
      let n = handed-new command_c writer-laws-c (header_for fields) (sec_for fields) p.user h in
      gives_then _ _ _
      (gives_then _ _ _ (gives_then _ _ _ n)
      ∙ gives_then _ _ tt (ap (λ (z : Telecommand). profile_rule z.primary z.secondary) c ∙ k))

-- the packet that accepted octets begin with
packet-in : (s : List ℕ) (r : PusTcRecord) → Octets s → profile_of s ≡ gives r → (p : Telecommand) × (BeginsWith pus_c s p × (report_for form_c p ≡ r))
packet-in s r o a =
    let q = (profile-gives s r a).0 in
    let b = (exactly-c s o).0 (r, q) in
    (b.0, (b.1, gives-inj _ r (sym (reports form_c taken-c s b.0 b.1) ∙ q)))

-- Every packet that the verdict accepts can be built: of the fields that it reports and the data, and its octets are the packet's.
pub accepted-built : (s : List ℕ) (r : PusTcRecord) → Octets s → profile_of s ≡ gives r
    → (built_for (fields_of r) (length (app_data_of s true)) ≡ gives (fields_of r)) × (octets_of (fields_of r) (app_data_of s true) ≡ take r.total s)
accepted-built s r o a =
    let q = profile-gives s r a in
    let b = packet-in s r o a in
    let p = b.0 in
    let e = b.1.1 in
    let d : app_data_of s true ≡ p.user = (reader-reports form_c taken-c s p b.1.0).2 in
    let u = b.1.0.rules in
    let k = ap (λ (z : PusTcRecord). profile_rule z.sp_header z.sec_header) e ∙ q.1 in
    let f = ap fields_of e in (
      (λ i. built_for (sym f i) (length (d i))) ∙ packet-built p u k ∙ ap gives f,
      (λ i. octets_of (sym f i) (d i)) ∙ ap (packet_of pus_c) (command-back p u)
          ∙ (λ i. packet_of pus_c (packet_by (e i).sp_header (e i).sec_header (sym d i)))
          ∙ sym (written-again form_c taken-c s r o q.0),
    )

-- Written, it is those octets again.
pub written_back : (s : List ℕ) (r : PusTcRecord) (before after : List ℕ) (z : Result ℕ PusError) → Octets s → profile_of s ≡ gives r → r.total ≤ length before
    → CommandWrote (fields_of r) (app_data_of s true) before z after → Again s r.total before z after
written_back s r before after z o a f w =
    let k = accepted-built s r o a in
    let b = packet-in s r o a in
    let n : r.total ≡ total_for pus_c (app_data_of s true) =
    ap (λ (y : PusTcRecord). y.total) (sym b.1.1)
    ∙ ap (total_for pus_c) (sym (reader-reports form_c taken-c s b.0 b.1.0).2) in
    let g = built-written (fields_of r) (app_data_of s true) before after z (fields_of r) k.0 (omega (arith, f, n)) w ∙ ap gives (sym n) in
    record { answers = g; leaves = w.left ∙ left-written _ _ _ _ (sym w.answered ∙ g) ∙ ap (λ (l : List ℕ). l ++ drop r.total before) k.1 }

-- ---- by the setters

-- a setter that is not refused
set-passed : (x : Result (Unit {0}) PusError) (b : ProfileBuilder) (p : Passed) (old new : ProfileBuilder) → outcome x b ≡ set_if p old new → p ≡ gives tt → b ≡ new
unfolding set_if
set-passed x b p old new e q = ap (λ (k : Kept ProfileBuilder). k.kept) e ∙ ap (λ (z : Passed). (set_if z old new).kept) q

fitting : (s : List ℕ) (r : PusTcRecord) → Octets s → profile_of s ≡ gives r → Fitting r
fitting s r o a =
    let b = packet-in s r o a in
    let v = b.1.0.rules.stated in
    subst Fitting b.1.1
    (record {
      apid = (range-passes 2 2047 _).1 v.in-range.apid-fits;
      count = (range-passes 3 16383 _).1 v.in-range.count_fits;
      ack = (range-passes 4 15 _).1 v.fits.ack-fits;
    })

pub by-setters : (first typed sourced named counted asking : ProfileBuilder) (x y z : Result (Unit {0}) PusError) (r : PusTcRecord) {m : MessageTypeId} {n : ℕ} {a : Apid} {p : PacketSequenceControl} {k : AckFlags}
    → m ≡ r.sec_header.message_type_id → n ≡ r.sec_header.source_id → a ≡ r.sp_header.packet_id.apid → p ≡ r.sp_header.psc → k ≡ r.sec_header.ack_flags
    → typed ≡ with_type first m → sourced ≡ with_source typed n → outcome x named ≡ set_if (apid_check a) sourced (with_apid sourced a)
    → outcome y counted ≡ set_if (count_check p.seq_count) named (with_psc named p)
    → outcome z asking ≡ set_if (ack_check k) counted (with_ack counted k) → Fitting r → asking ≡ builder_of (fields_of r)
by-setters first typed sourced named counted asking x y z r {m = m} {n = n} {a = a} {p = p} {k = k} em en ea ep ek et es ei ec eq f =
    let i = set-passed x named _ _ _ ei (ap apid_check ea ∙ f.apid) in
    let c = set-passed y counted _ _ _ ec (ap (λ (z : PacketSequenceControl). count_check z.seq_count) ep ∙ f.count) in
    set-passed z asking _ _ _ eq (ap ack_check ek ∙ f.ack)
    ∙ ap (λ (b : ProfileBuilder). with_ack b k)
    (c ∙ ap (λ (b : ProfileBuilder). with_psc b p)
    (i ∙ ap (λ (b : ProfileBuilder). with_apid b a) (es ∙ ap (λ (b : ProfileBuilder). with_source b n) et)))
    ∙ (λ j. builder_of (command_from (ea j) (ep j) (em j) (en j) (ek j)))

-- so what is made of an accepted packet, by setters that are given what is reported of it, is the packet
pub copied-written : (s : List ℕ) (p r : PusTcRecord) (b : ProfileBuilder) (d before after : List ℕ) (z : Result ℕ PusError) → Octets s → profile_of s ≡ gives p → p.total ≤ length before
    → r ≡ p → (Fitting r → b ≡ builder_of (fields_of r)) → d ≡ app_data_of s true
    → ((t : ProfileTc) → built_for b.0 (length d) ≡ gives t → CommandWrote t d before z after) → Again s p.total before z after
copied-written s p r b d before after z o a f e k ed w =
    let i : b ≡ builder_of (fields_of p) = k (subst Fitting (sym e) (fitting s p o a)) ∙ ap (λ (x : PusTcRecord). builder_of (fields_of x)) e in
    let n = (λ j. built_for (i j).0 (length (ed j))) ∙ (accepted-built s p o a).0 in
    written_back s p before after z o a f (subst (λ (l : List ℕ). CommandWrote (fields_of p) l before z after) ed (w (fields_of p) n))
