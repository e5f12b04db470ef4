-- The third demand, for every length t of the time that is taken, 0 to 16 octets: the strict verdict accepts bytes exactly when they
-- begin with a checksummed telemetry packet that the written rules produce from some headers, a time of t octets and source data of
-- at most 65,527 octets less t, with an APID of 0 to 2,046. `tm_strict::judge` answers `strict_in` of its time length and octets.
use Prim.Native.Nat.{ℕ, ◌+◌, ◌-◌, ◌≤◌}
use mathlib.Core.Path.{◌≡◌, refl, sym, ap, ap₂, ◌∙◌, subst}
use mathlib.Core.Logic.{◌↔◌}
use mathlib.Core.Bool.{true, false}
use mathlib.Core.List.{List, [], ◌++◌}
use native.Mathlib.Omega.{arith}
use lib.ListN.{length, take, drop}
use Rattle.std.specs.Prelude.{Result}
use Rattle.space_packet.specs.declared.PusError.{PusError}
use Rattle.space_packet.specs.Answer.{Numbers, gives, refuses, refusal}
use Rattle.space_packet.specs.Fields.{type_number, is_idle}
use Rattle.space_packet.specs.declared.SpacePacketHeader.{SpacePacketHeader}
use Rattle.space_packet.proofs.Answers.{gives-inj, gives_then, then-gives, refuses-then}
use Rattle.ecss.specs.Frame.{Octets, stated_of, Told}
use Rattle.ecss.specs.Kind.{Rules, BeginsWith, as_idle, start_of, packet_of, judge}
use Rattle.ecss.specs.Version.{default_config}
use Rattle.ecss.specs.declared.PusVersion.TheVariants.{PusC}
use Rattle.ecss.proofs.Versions.{version-passes}
use Rattle.ecss_write.specs.Writer.{WriterLaws, packet_by, made_by, new_by, Handed}
use Rattle.exactness.specs.Demand3.{RefusesChanged, RefusesUpToThree, Exact, total_for, Room, Accepted, made_of, FinishedBy}
use Rattle.exactness.proofs.Exact.{unique, accepted}
use Rattle.exactness.proofs.Given.{handed-rules, handed-new, handed-reserve}
use Rattle.exactness.proofs.Demand3 as Any
use Rattle.tm_header.specs.Header.{timed, time_limit, tm}
use Rattle.tm_header.specs.declared.PusTmSecondaryHeader.{PusTmSecondaryHeader}
use Rattle.tm_header.proofs.Checks.{limit-passes}
use Rattle.tm_header.proofs.Laws.{tm-laws}
use Rattle.tm_write.specs.Report.{report_by}
use Rattle.tm_write.specs.Creator.{creator_of, header_with, new_of, PacketWrote}
use Rattle.tm_write.specs.declared.PusTmCreator.{PusTmCreator}
use Rattle.tm_write.proofs.Report.{writer-laws}
use Rattle.tm_reserved.specs.Reserved.{reservation_of, reserve_of}
use Rattle.tm_reserved.specs.declared.PusTmCreatorWithReservedSourceData.{PusTmCreatorWithReservedSourceData}
use Rattle.tm_read.specs.Read.{start_in, record_in, read_in, checked_in, timestamp_in, source_data_in}
use Rattle.tm_read.specs.declared.PusTmRecord.{PusTmRecord}
use Rattle.tm_read.proofs.Records.{checked-is, time-part}
use Rattle.tm_read.proofs.RoundTrip.{read-written, checked-written, time-written, data-written}
use Rattle.tm_strict.specs.Verdict.{strict_in}
use Rattle.tm_strict.proofs.Verdicts.{verdict-refused}
use Rattle.tc_header.specs.Form.{form_check}
use Rattle.tc_header.specs.Header.{tc}
use Rattle.tc_header.specs.declared.TcForm.{TcForm}
use Rattle.tc_header.proofs.Forms.{taken}
use Rattle.tc_read.specs.declared.PusTcRecord.{PusTcRecord}
use Rattle.tc_strict.specs.Verdict as Tc
use Rattle.tm_demand3.specs.Rules.{Telemetry, time_start, NotBoth, AtMost, report_for}

module _ (t : ℕ) (good : time_limit t ≡ gives tt) where
  -- what it owes as a writer
  pub laws : WriterLaws (report_by t)
  laws = writer-laws t ((limit-passes t).0 good)

  -- The written rules have at most so many octets of data, and so many are within them.
  pub at_most : (p : Telemetry) → (total_for (tm t) p.user ≤ 65542) ↔ AtMost t p
  at_most p = let w = (limit-passes t).0 good in (λ h. omega (arith, h), λ h. omega (arith, h))

  -- 3. The reader, with the checksum taken and with it taken and compared, reports the same.
  pub reader-reports : (s : List ℕ) (p : Telemetry) → BeginsWith (tm t) s p
      → (read_in t s true ≡ gives (report_for t p)) × (checked_in t s ≡ gives (report_for t p))
      × (timestamp_in t s true ≡ p.secondary.time) × (source_data_in t s true ≡ p.user)
  reader-reports s p b =
      let r = b.rules.stated in
      let e = b.octets in (
        ap (λ (z : List ℕ). read_in t z true) e ∙ read-written t good true p b.rest r,
        ap (checked_in t) e ∙ checked-written t good p b.rest r,
        ap (λ (z : List ℕ). timestamp_in t z true) e ∙ time-written t good true p b.rest r,
        ap (λ (z : List ℕ). source_data_in t z true) e ∙ data-written t good true p b.rest r,
      )

  -- 2. Those headers and data are what the verdict reports,
  pub reports : (s : List ℕ) (p : Telemetry) → BeginsWith (tm t) s p → strict_in t s ≡ gives (report_for t p)
  unfolding strict_in
  reports s p b =
      Any.accepts (time_limit t) good (tm t) (tm-laws t) (λ z. record_in t z true) s p b
      ∙ ap gives (sym (checked-is t s (report_for t p) (reader-reports s p b).1).1)

  -- the octets from its start up to its end are the data,
  pub reported-data : (s : List ℕ) (p : Telemetry) → BeginsWith (tm t) s p
      → take ((report_for t p).end - (report_for t p).start) (drop (report_for t p).start s) ≡ p.user
  reported-data = Any.reported-data (tm t) (tm-laws t)

  -- those from octet 13 up to its start are the time,
  pub reported-time : (s : List ℕ) (p : Telemetry) → BeginsWith (tm t) s p → take ((report_for t p).start - time_start) (drop time_start s) ≡ p.secondary.time
  reported-time s p b =
      let n : start_in t - time_start ≡ t = omega arith in
      let r = reader-reports s p b in
      ap (λ (m : ℕ). take m (drop time_start s)) n ∙ sym (time-part t s true (report_for t p) r.0) ∙ r.2

  -- and they are the only ones.
  pub only : (s : List ℕ) (p q : Telemetry) → BeginsWith (tm t) s p → BeginsWith (tm t) s q → p ≡ q
  only s p q a b = (unique (tm t) (tm-laws t) s p q a b).0

  -- 1. The verdict on s is accepted if and only if s begins with the packet of some headers, time and data under the written rules.
  pub exactly : (s : List ℕ) → Octets s → ((r : PusTmRecord) × (strict_in t s ≡ gives r)) ↔ ((p : Telemetry) × BeginsWith (tm t) s p)
  unfolding strict_in
  exactly = Any.exactly (time_limit t) good (tm t) (tm-laws t) (λ z. record_in t z true) (report_for t) reports

  -- 7. A packet that only its APID, that of idle packets, sets apart from one under the rules is refused with 12 and nothing else.
  pub idle-refused : (s : List ℕ) (p : Telemetry) → Rules (tm t) p → (rest : List ℕ) → s ≡ packet_of (tm t) (as_idle p) ++ rest → strict_in t s ≡ refuses (refusal 12 [])
  unfolding strict_in
  idle-refused = Any.idle-refused (time_limit t) good (tm t) (tm-laws t) (λ z. record_in t z true)

  -- 8. Where the verdict refuses with 4, its two numbers are the checksum that the packet stores and the one of all its octets before,
  -- and these differ;
  pub tells : (s : List ℕ) (e : Numbers) → Octets s → strict_in t s ≡ refuses e → Told s e
  unfolding strict_in
  tells = Any.tells (time_limit t) good (tm t) (tm-laws t) (λ z. record_in t z true)

  -- and so where the reader does.
  pub reader-tells : (s : List ℕ) (e : Numbers) → Octets s → checked_in t s ≡ refuses e → Told s e
  reader-tells s e o p = tells s e o (verdict-refused t s e p)

  -- So much is asked of the verdict on s.
  pub exact : (s : List ℕ) → Octets s → Exact (tm t) (report_for t) (strict_in t s) s
  exact s o = record { exactly = exactly s o; reports = reports s; idle = idle-refused s; tells = λ e. tells s e o }

  -- 4. Written packets are accepted: whatever write_to_slice in both checksum forms, construction with a write, and the reserved
  -- writer with its finish leave in a buffer, for headers, time and data under those rules, is accepted, in a buffer of any length
  -- that has room and with anything after it. First write_to_slice, whose two forms have one contract:
  pub written-accepted : (h : SpacePacketHeader) (x : PusTmSecondaryHeader) (l d before after : List ℕ) (r : Result ℕ PusError)
      → Rules (tm t) (packet_by h (timed x l) d) → Room (tm t) d before → PacketWrote (creator_of t h x true) l d before r after
      → Accepted (tm t) (report_for t) (strict_in t) (packet_by h (timed x l) d) before r after
  written-accepted h x l = Any.written-accepted (report_by t) laws (report_for t) (strict_in t) reports h (timed x l)

  -- Then construction. What it makes, of packet version number 0, PUS C and no idle packet's APID, with the length set and a checksum,
  -- is under those rules,
  pub made-under-rules : (h : SpacePacketHeader) (x : PusTmSecondaryHeader) (l d : List ℕ) (c : PusTmCreator) → h.version ≡ 0 → is_idle h.packet_id.apid ≡ false → x.pus_version ≡ PusC
      → new_of t h x l (length d) default_config ≡ gives c → Rules (tm t) (packet_by c.sp_header (header_with c l) d)
  made-under-rules h x l d c v i e p =
      let a = then-gives (new_by (report_by t) h (timed x l) true true (length d)) _ c p in
      subst (λ (u : PusTmCreator). Rules (tm t) (packet_by u.sp_header (header_with u l) d)) (gives-inj _ c a.2)
      (Any.made-under-rules (report_by t) laws h (timed x l) d a.0 v i ((version-passes PusC x.pus_version).1 e) a.1)

  -- and where the fields are in range it makes a creator c, and what c writes is accepted.
  pub built-accepted : (p : Telemetry) (before : List ℕ) → Handed (tm t) p → Room (tm t) p.user before
      → (c : PusTmCreator) × (new_of t p.primary p.secondary.fields p.secondary.time (length p.user) default_config ≡ gives c)
      × ((r : Result ℕ PusError) (after : List ℕ) → PacketWrote c p.secondary.time p.user before r after → Accepted (tm t) (report_for t) (strict_in t) (made_of (report_by t) p) before r after)
  built-accepted p before g k = (
    creator_of t (made_by (report_by t) p.primary p.user) p.secondary.fields true,
    gives_then _ _ _ (handed-new (report_by t) laws p.primary p.secondary p.user g),
    λ r after. written-accepted _ _ _ p.user before after r (handed-rules (report_by t) laws p.primary p.secondary p.user g) k,
  )

  -- Then the reserved writer: it gives a reservation q, and what is filled in there and finished is accepted.
  pub reserved-accepted : (p : Telemetry) (before : List ℕ) → Handed (tm t) p → Room (tm t) p.user before
      → (q : PusTmCreatorWithReservedSourceData) × (reserve_of t p.primary p.secondary (length p.user) true (length before) ≡ gives q)
      × ((r : Result ℕ PusError) (after : List ℕ) → FinishedBy (report_by t) (start_in q.time_len) q.held p before r after → Accepted (tm t) (report_for t) (strict_in t) (made_of (report_by t) p) before r after)
  reserved-accepted p before g k = (
    reservation_of t (total_for (tm t) p.user) true,
    gives_then _ _ _ (handed-reserve (report_by t) laws p.primary p.secondary p.user (length before) g k.fits k.is_slice),
    Any.reserved-accepted (report_by t) laws (report_for t) (strict_in t) reports p before g k,
  )

  -- 5. An accepted s, changed to s' in an odd number of bits, in some bits within a run of 16, or in two within a run of 32,767, none of
  -- them in octets 4 and 5 and all inside the stated total, is refused, whatever follows the total.
  pub changed-refused : (s s' : List ℕ) → RefusesChanged (strict_in t s) s (strict_in t s') s'
  unfolding strict_in
  changed-refused = Any.changed-refused (time_limit t) good (tm t) (tm-laws t) (λ z. record_in t z true)

  -- 9. An accepted s of at most 4,095 octets in total, changed to s' in one, two or three bits, none of them in octets 4 and 5 and all
  -- inside the stated total, is refused, whatever follows the total.
  pub up-to-three-refused : (s s' : List ℕ) → RefusesUpToThree (strict_in t s) s (strict_in t s') s'
  unfolding strict_in
  up-to-three-refused = Any.up-to-three-refused (time_limit t) good (tm t) (tm-laws t) (λ z. record_in t z true)

  -- 6. What the verdict accepts, read and written again, is the same octets.
  pub written-again : (s : List ℕ) (r : PusTmRecord) → Octets s → strict_in t s ≡ gives r
      → take r.total s ≡ packet_of (tm t) (packet_by r.sp_header (timed r.sec_header (timestamp_in t s true)) (source_data_in t s true))
  unfolding strict_in
  written-again =
      Any.written-again (time_limit t) good (tm t) (tm-laws t) (λ z. record_in t z true) (report_for t) reports
      (λ (r : PusTmRecord). r.total) (λ p. refl)
      (λ s r. packet_by r.sp_header (timed r.sec_header (timestamp_in t s true)) (source_data_in t s true))
      (λ s p b. let w = reader-reports s p b in ap₂ (λ (l d : List ℕ). packet_by p.primary (timed p.secondary.fields l) d) w.2 w.3)

-- ---- telemetry and telecommands

-- No octets are accepted both as telemetry, of any time length, and as a telecommand, of any form.
pub never_both : (t : ℕ) (f : TcForm) (s : List ℕ) → NotBoth (strict_in t s) (Tc.strict_in f s)
unfolding strict_in Tc.strict_in
never_both t f s r q a b =
    let m = then-gives (judge (tm t) s) _ r (then-gives (time_limit t) _ r a).2 in
    let c = then-gives (judge (tc f) s) _ q (then-gives (form_check f) _ q b).2 in
    let e = ap type_number (Any.one_type (tm t) (tc f) s m.0 c.0 m.1 c.1) in
    omega (arith, e)

-- Telemetry that is accepted is refused with 10 as a telecommand of each form that is taken, where its total has room for that form's
-- headers and checksum,
pub as-command : (t : ℕ) (f : TcForm) (s : List ℕ) (r : PusTmRecord) → form_check f ≡ gives tt → strict_in t s ≡ gives r → start_of (tc f) + 2 ≤ stated_of s
    → Tc.strict_in f s ≡ refuses (refusal 10 [])
unfolding strict_in Tc.strict_in
as-command t f s r taken-f a room =
    let m = then-gives (judge (tm t) s) _ r (then-gives (time_limit t) _ r a).2 in
    gives_then _ _ tt taken-f ∙ refuses-then _ _ _ (Any.other-refused (tm t) (tc f) s m.0 m.1 room (λ e. omega (arith, e)))

-- as it has for each that has at most two spare octets more than the time has.
pub command-room : (t : ℕ) (f : TcForm) (s : List ℕ) (r : PusTmRecord) → form_check f ≡ gives tt → f.spare_len ≤ 2 + t → strict_in t s ≡ gives r → start_of (tc f) + 2 ≤ stated_of s
unfolding strict_in
command-room t f s r taken-f few a =
    let m = then-gives (judge (tm t) s) _ r (then-gives (time_limit t) _ r a).2 in
    let w = (taken f taken-f).at_most_two in
    let n = (accepted (tm t) s m.0 m.1).frame.room in omega (arith, n)

-- A telecommand that is accepted is refused with 13 as telemetry, where its total has room for telemetry's headers and checksum.
pub as-telemetry : (t : ℕ) (f : TcForm) (s : List ℕ) (r : PusTcRecord) → time_limit t ≡ gives tt → Tc.strict_in f s ≡ gives r → start_in t + 2 ≤ stated_of s
    → strict_in t s ≡ refuses (refusal 13 [])
unfolding strict_in Tc.strict_in
as-telemetry t f s r limit a room =
    let c = then-gives (judge (tc f) s) _ r (then-gives (form_check f) _ r a).2 in
    gives_then _ _ tt limit ∙ refuses-then _ _ _ (Any.other-refused (tc f) (tm t) s c.0 c.1 room (λ e. omega (arith, e)))
