-- A command as a whole: what the verdict accepts and is read as pairs is the command of just these pairs, and the other way round.
use Prim.Native.Nat.{ℕ, ◌-◌}
use mathlib.Core.Path.{◌≡◌, refl, sym, ap, ◌∙◌, subst}
use mathlib.Core.Logic.{◌↔◌}
use mathlib.Core.Bool.{Bool, true, false}
use mathlib.Core.List.{List}
use lib.ListN.{length, drop}
use lib.Seq.{take-append_seam}
use Rattle.std.specs.Prelude.{Result}
use Rattle.space_packet.specs.Answer.{answer_of, outcome, Answer, Kept, gives, refuses}
use Rattle.space_packet.specs.declared.PusError.{PusError}
use Rattle.space_packet.specs.Fields.{is_idle}
use Rattle.space_packet.specs.declared.SpacePacketHeader.{SpacePacketHeader}
use Rattle.space_packet.proofs.Answers.{gives-inj, never, then-gives, gives_then}
use Rattle.ecss.specs.Frame.{Octets}
use Rattle.ecss.specs.Kind.{Rules}
use Rattle.ecss.proofs.Pieces.{octets-drop, octets-take}
use Rattle.exactness.specs.Demand3.{Fits, Room, Accepted}
use Rattle.ecss.specs.Version.{default_config}
use Rattle.ecss_write.specs.Writer.{packet_by, new_by}
use Rattle.tc_write.specs.Command.{command_in}
use Rattle.tc_write.specs.Creator.{creator_in, new_in, PacketWrote}
use Rattle.tc_write.specs.declared.PusTcCreator.{PusTcCreator}
use Rattle.tc_header.specs.Form.{form_check}
use Rattle.tc_header.specs.Header.{tc}
use Rattle.tc_header.specs.declared.TcForm.{TcForm}
use Rattle.tc_header.specs.declared.PusTcSecondaryHeader.{PusTcSecondaryHeader}
use Rattle.tc_read.specs.Read.{start_in, app_data_in}
use Rattle.tc_read.specs.declared.PusTcRecord.{PusTcRecord}
use Rattle.tc_strict.specs.Verdict.{strict_in}
use Rattle.tc_demand3.specs.Rules.{Telecommand, report_for}
use Rattle.tc_demand3.proofs.Demand3.{exactly, reports, reader-reports, reported-data, made-under-rules, written-accepted}
use Rattle.params.specs.Parameters.{Row}
use Rattle.params.specs.Request.{holding, pairs_of, read_request, kept_of}
use Rattle.params.specs.declared.Pair.{Pair}
use Rattle.params.specs.declared.Params.{Params}
use Rattle.params_exact.specs.Requests.{request_for, HeldAll}
use Rattle.params_exact.specs.Command.{Commands, Reads, Sendable}
use Rattle.params_exact.proofs.Inverse.{read-written, written_read}

module _ (f : TcForm) (l : List Row) (s : List ℕ) (ps : List Pair) where
  -- from a strictly accepted packet of that type to its pairs; nothing is accepted in a form that is refused
  pub read-commands : Octets s → Reads f l s ps → Commands f l s ps
  unfolding strict_in
  read-commands o r =
      let good = (then-gives (form_check f) _ r.record_of r.accepted).1 in
      let x = (exactly f good s o).0 (r.record_of, r.accepted) in
      let p = x.0 in
      let b = x.1 in
      let e : report_for f p ≡ r.record_of = gives-inj _ _ (sym (reports f good s p b) ∙ r.accepted) in
      let d = (reader-reports f good s p b).2 in
      let u : Octets p.user = subst Octets (reported-data f good s p b) (octets-take ((report_for f p).end - (report_for f p).start) (drop (start_in f) s) (octets-drop (start_in f) s o)) in
      record {
        packet = p;
        begins = b;
        type-is = ap (λ (z : PusTcRecord). z.sec_header.message_type_id) e ∙ r.type-is;
        octets = written_read l ps p.user u (sym (ap (read_request l) d) ∙ r.read);
      }

  -- and from pairs to a packet that the verdict accepts and that is read as those pairs
  pub commands-read : form_check f ≡ gives tt → HeldAll ps → Commands f l s ps → Reads f l s ps
  commands-read good w c =
      let p = c.packet in
      let b = c.begins in
      record {
        record_of = report_for f p;
        accepted = reports f good s p b;
        type-is = c.type-is;
        read = ap (read_request l) (reader-reports f good s p b).2 ∙ read-written l ps p.user w c.octets;
      }

  pub command-exact : form_check f ≡ gives tt → Octets s → HeldAll ps → Reads f l s ps ↔ Commands f l s ps
  command-exact good o w = (read-commands o, commands-read good w)

-- the pairs that a record holds
pub pairs-held : (ps : List Pair) → pairs_of (holding ps) ≡ ps
unfolding holding
pairs-held ps = take-append_seam ps _

pub kept-pairs : (a : Answer (List Pair)) → (kept_of a).passed ≡ gives tt → a ≡ gives (pairs_of (kept_of a).kept)
unfolding kept_of
kept-pairs (gives ps) e = ap gives (sym (pairs-held ps))
kept-pairs (refuses n) e = absurd (never tt n e)

pub kept_gives : (a : Answer (List Pair)) (ps : List Pair) → kept_of a ≡ kept_of (gives ps) → a ≡ gives ps
unfolding kept_of
kept_gives (gives qs) ps e = ap gives (sym (pairs-held qs) ∙ ap (λ (z : Kept Params). pairs_of z.kept) e ∙ pairs-held ps)
kept_gives (refuses n) ps e = absurd (never tt n (ap (λ (z : Kept Params). z.passed) e))

-- what reading answers of a record
pub read_told : (l : List Row) (d : List ℕ) (p : Params) (r : Result (Unit {0}) PusError) → outcome r p ≡ kept_of (read_request l d) → answer_of r ≡ gives tt → read_request l d ≡ gives (pairs_of p)
read_told l d p r e h =
    kept-pairs (read_request l d) (sym (ap (λ (z : Kept Params). z.passed) e) ∙ h) ∙ ap (λ (z : Kept Params). gives (pairs_of z.kept)) (sym e)

-- what a write of the command leaves is read as its pairs
pub sent-read : (f : TcForm) → form_check f ≡ gives tt → (l : List Row) (ps : List Pair) (p : Telecommand) (before after : List ℕ) (r : Result ℕ PusError) → HeldAll ps → request_for l ps ≡ gives p.user
    → Rules (tc f) p → Accepted (tc f) (report_for f) (strict_in f) p before r after → read_request l (app_data_in f after true) ≡ gives ps
sent-read f good l ps p before after r w q u a =
    ap (read_request l) (reader-reports f good after p (record { rules = u; rest = _; octets = a.leaves })).2 ∙ read-written l ps p.user w q

-- the creator has a checksum
pub sent-accepted : (t : PusTcCreator) → form_check t.form ≡ gives tt → (d before after : List ℕ) (r : Result ℕ PusError) → t.has_checksum ≡ true
    → Rules (tc t.form) (packet_by t.sp_header t.sec_header d) → Room (tc t.form) d before → PacketWrote t d before r after
    → Accepted (tc t.form) (report_for t.form) (strict_in t.form) (packet_by t.sp_header t.sec_header d) before r after
sent-accepted t good d before after r h u m w =
    written-accepted t.form good t.sp_header t.sec_header d before after r u m
    (subst (λ (b : Bool). PacketWrote (creator_in t.form t.sp_header t.sec_header b) d before r after) h w)

-- the form by which is judged and read is the creator's
pub judged-by : (f g : TcForm) (s : List ℕ) → f ≡ g → strict_in f s ≡ strict_in g s
judged-by f g s e = ap (λ (z : TcForm). strict_in z s) e

pub data-by : (f g : TcForm) (s : List ℕ) → f ≡ g → app_data_in f s true ≡ app_data_in g s true
data-by f g s e = ap (λ (z : TcForm). app_data_in z s true) e

-- What construction makes with such data, of packet version number 0, the form's version and no idle packet's APID, can be sent.
pub made-sendable : (f : TcForm) → form_check f ≡ gives tt → (h : SpacePacketHeader) (x : PusTcSecondaryHeader) (d before : List ℕ) (t : PusTcCreator) → h.version ≡ 0 → is_idle h.packet_id.apid ≡ false → x.version ≡ f.version
    → new_in f h x (length d) default_config ≡ gives t → Fits (tc f) d before → Sendable t d before
made-sendable f good h x d before t v i c p m =
    let a = then-gives (new_by (command_in f) h x true true (length d)) _ t p in
    subst (λ (u : PusTcCreator). Sendable u d before) (gives-inj _ t a.2)
    (record { form-good = good; checksummed = refl; rules = made-under-rules f good h x d _ v i c (gives_then _ _ _ a.1); fits = m })
