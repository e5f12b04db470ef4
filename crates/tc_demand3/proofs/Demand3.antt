-- The third demand, for every form that is taken: the strict verdict accepts bytes exactly when they begin with a checksummed
-- telecommand that the written rules produce from some headers and data of at most 65,542 octets less the start and the checksum,
-- of PUS C 65,529 less the spare octets, with an APID of 0 to 2,046. `tc_strict::judge_in` answers `strict_in` of its form and octets.
use Prim.Native.Nat.{ℕ, ◌-◌, ◌/◌, ◌≤◌}
use mathlib.Core.Path.{◌≡◌, refl, sym, ap, ◌∙◌, subst}
use mathlib.Core.Logic.{◌↔◌}
use mathlib.Core.Bool.{true, false}
use mathlib.Core.List.{List, [], ◌++◌}
use native.Mathlib.Omega.{arith}
use lib.ListN.{length, take, drop}
use Rattle.std.specs.Prelude.{Result}
use Rattle.space_packet.specs.declared.PusError.{PusError}
use Rattle.space_packet.specs.Answer.{Numbers, gives, refuses, refusal}
use Rattle.space_packet.specs.Fields.{is_idle}
use Rattle.space_packet.specs.declared.SpacePacketHeader.{SpacePacketHeader}
use Rattle.space_packet.proofs.Answers.{gives-inj, gives_then, then-gives}
use Rattle.ecss.specs.Frame.{Octets, Told}
use Rattle.ecss.specs.Kind.{Rules, BeginsWith, as_idle, packet_of}
use Rattle.ecss.specs.Version.{default_config}
use Rattle.ecss.proofs.Versions.{version-passes}
use Rattle.ecss_write.specs.Writer.{packet_by, made_by, new_by, Handed}
use Rattle.exactness.specs.Demand3.{RefusesChanged, RefusesUpToThree, Exact, total_for, Room, Accepted, made_of, FinishedBy}
use Rattle.exactness.proofs.Exact.{unique}
use Rattle.exactness.proofs.Given.{handed-rules, handed-new, handed-reserve}
use Rattle.exactness.proofs.Demand3 as Any
use Rattle.tc_header.specs.Form.{form_spare, form_c, form_a, is_width, form_check}
use Rattle.tc_header.specs.Header.{tc, pus_c}
use Rattle.tc_header.specs.declared.TcForm.{TcForm}
use Rattle.tc_write.specs.Command.{command_in}
use Rattle.tc_header.specs.declared.PusTcSecondaryHeader.{PusTcSecondaryHeader}
use Rattle.tc_header.proofs.Forms.{taken, taken-spare, taken-c, form-passes}
use Rattle.tc_header.proofs.Laws.{laws}
use Rattle.tc_write.proofs.Command.{writer-laws}
use Rattle.tc_write.specs.Creator.{creator_in, new_in, PacketWrote}
use Rattle.tc_write.specs.declared.PusTcCreator.{PusTcCreator}
use Rattle.tc_reserved.specs.Reserved.{reservation_in, reserve_in}
use Rattle.tc_reserved.specs.declared.PusTcCreatorWithReservedAppData.{PusTcCreatorWithReservedAppData}
use Rattle.tc_read.specs.Read.{start_in, record_in, read_in, checked_in, app_data_in}
use Rattle.tc_read.specs.declared.PusTcRecord.{PusTcRecord}
use Rattle.tc_read.proofs.Records.{checked-is}
use Rattle.tc_read.proofs.RoundTrip.{read-written, checked-written, data-written}
use Rattle.tc_strict.specs.Verdict.{strict_in, strict_of}
use Rattle.tc_strict.proofs.Verdicts.{verdict-refused}
use Rattle.tc_demand3.specs.Rules.{Telecommand, AtMost, report_for}

module _ (f : TcForm) (good : form_check f ≡ gives tt) where
  -- The written rules have at most so many octets of data, and so many are within them.
  pub at_most : (p : Telecommand) → (total_for (tc f) p.user ≤ 65542) ↔ AtMost f p
  at_most p =
      let w = taken f good in
      let n : start_in f ≤ 15 = omega (arith, w.at_most_two, w.at-most-four) in (λ h. omega (arith, h), λ h. omega (arith, h))

  -- 3. The ported reader, with the checksum taken and with it taken and compared, reports the same.
  pub reader-reports : (s : List ℕ) (p : Telecommand) → BeginsWith (tc f) s p
      → (read_in f s true ≡ gives (report_for f p)) × (checked_in f s ≡ gives (report_for f p)) × (app_data_in f s true ≡ p.user)
  reader-reports s p b =
      let r = b.rules.stated in
      let e = b.octets in (
        ap (λ (z : List ℕ). read_in f z true) e ∙ read-written f good true p b.rest r,
        ap (checked_in f) e ∙ checked-written f good p b.rest r,
        ap (λ (z : List ℕ). app_data_in f z true) e ∙ data-written f good true p b.rest r,
      )

  -- 2. Those headers and data are what the verdict reports,
  pub reports : (s : List ℕ) (p : Telecommand) → BeginsWith (tc f) s p → strict_in f s ≡ gives (report_for f p)
  unfolding strict_in
  reports s p b =
      Any.accepts (form_check f) good (tc f) (laws f good) (λ z. record_in f z true) s p b
      ∙ ap gives (sym (checked-is f s (report_for f p) (reader-reports s p b).1).1)

  -- the octets from its start up to its end are the data,
  pub reported-data : (s : List ℕ) (p : Telecommand) → BeginsWith (tc f) s p
      → take ((report_for f p).end - (report_for f p).start) (drop (report_for f p).start s) ≡ p.user
  reported-data = Any.reported-data (tc f) (laws f good)

  -- and they are the only ones: one packet for one form (proofs/Spares.antt has what octets are in two).
  pub only : (s : List ℕ) (p q : Telecommand) → BeginsWith (tc f) s p → BeginsWith (tc f) s q → p ≡ q
  only s p q a b = (unique (tc f) (laws f good) s p q a b).0

  -- 1. The verdict on s is accepted if and only if s begins with the packet of some headers and data under the written rules.
  pub exactly : (s : List ℕ) → Octets s → ((r : PusTcRecord) × (strict_in f s ≡ gives r)) ↔ ((p : Telecommand) × BeginsWith (tc f) s p)
  unfolding strict_in
  exactly = Any.exactly (form_check f) good (tc f) (laws f good) (λ z. record_in f z true) (report_for f) reports

  -- 7. A packet that only its APID, that of idle packets, sets apart from one under the rules is refused with 12 and nothing else.
  pub idle-refused : (s : List ℕ) (p : Telecommand) → Rules (tc f) p → (rest : List ℕ) → s ≡ packet_of (tc f) (as_idle p) ++ rest → strict_in f s ≡ refuses (refusal 12 [])
  unfolding strict_in
  idle-refused = Any.idle-refused (form_check f) good (tc f) (laws f good) (λ z. record_in f z true)

  -- 8. Where the verdict refuses with 4, its two numbers are the checksum that the packet stores and the one of all its octets before,
  -- and these differ;
  pub tells : (s : List ℕ) (e : Numbers) → Octets s → strict_in f s ≡ refuses e → Told s e
  unfolding strict_in
  tells = Any.tells (form_check f) good (tc f) (laws f good) (λ z. record_in f z true)

  -- and so where the ported reader does.
  pub reader-tells : (s : List ℕ) (e : Numbers) → Octets s → checked_in f s ≡ refuses e → Told s e
  reader-tells s e o p = tells s e o (verdict-refused f s e p)

  -- So much is asked of the verdict on s.
  pub exact : (s : List ℕ) → Octets s → Exact (tc f) (report_for f) (strict_in f s) s
  exact s o = record { exactly = exactly s o; reports = reports s; idle = idle-refused s; tells = λ e. tells s e o }

  -- 4. Written packets are accepted: whatever write_to_slice in both checksum forms, the builder's path, and the reserved writer
  -- with its finish leave in a buffer, for headers and data under those rules, is accepted, in a buffer of any length that has
  -- room and with anything after it. First write_to_slice, whose two forms have one contract:
  pub written-accepted : (h : SpacePacketHeader) (x : PusTcSecondaryHeader) (d before after : List ℕ) (r : Result ℕ PusError)
      → Rules (tc f) (packet_by h x d) → Room (tc f) d before → PacketWrote (creator_in f h x true) d before r after
      → Accepted (tc f) (report_for f) (strict_in f) (packet_by h x d) before r after
  written-accepted = Any.written-accepted (command_in f) (writer-laws f good) (report_for f) (strict_in f) reports

  -- Then the builder's path. What construction or the builder makes, of packet version number 0, the form's version and no idle
  -- packet's APID, with the length set and a checksum, is under those rules,
  pub made-under-rules : (h : SpacePacketHeader) (x : PusTcSecondaryHeader) (d : List ℕ) (t : PusTcCreator) → h.version ≡ 0 → is_idle h.packet_id.apid ≡ false → x.version ≡ f.version
      → new_in f h x (length d) default_config ≡ gives t → Rules (tc f) (packet_by t.sp_header t.sec_header d)
  made-under-rules h x d t v i c p =
      let a = then-gives (new_by (command_in f) h x true true (length d)) _ t p in
      subst (λ (u : PusTcCreator). Rules (tc f) (packet_by u.sp_header u.sec_header d)) (gives-inj _ t a.2)
      (Any.made-under-rules (command_in f) (writer-laws f good) h x d a.0 v i ((version-passes f.version x.version).1 c) a.1)

  -- and where the fields are in range too they make a creator t, and what t writes is accepted.
  pub built-accepted : (p : Telecommand) (before : List ℕ) → Handed (tc f) p → Room (tc f) p.user before
      → (t : PusTcCreator) × (new_in f p.primary p.secondary (length p.user) default_config ≡ gives t)
      × ((r : Result ℕ PusError) (after : List ℕ) → PacketWrote t p.user before r after → Accepted (tc f) (report_for f) (strict_in f) (made_of (command_in f) p) before r after)
  built-accepted p before g k = (
    creator_in f (made_by (command_in f) p.primary p.user) p.secondary true,
    gives_then _ _ _ (handed-new (command_in f) (writer-laws f good) p.primary p.secondary p.user g),
    λ r after. written-accepted _ _ p.user before after r (handed-rules (command_in f) (writer-laws f good) p.primary p.secondary p.user g) k,
  )

  -- Then the reserved writer: it gives a reservation q, and what is filled in there and finished is accepted.
  pub reserved-accepted : (p : Telecommand) (before : List ℕ) → Handed (tc f) p → Room (tc f) p.user before
      → (q : PusTcCreatorWithReservedAppData) × (reserve_in f p.primary p.secondary (length p.user) true (length before) ≡ gives q)
      × ((r : Result ℕ PusError) (after : List ℕ) → FinishedBy (command_in f) (start_in q.form) q.held p before r after → Accepted (tc f) (report_for f) (strict_in f) (made_of (command_in f) p) before r after)
  reserved-accepted p before g k = (
    reservation_in f (total_for (tc f) p.user) true,
    gives_then _ _ _ (handed-reserve (command_in f) (writer-laws f good) p.primary p.secondary p.user (length before) g k.fits k.is_slice),
    Any.reserved-accepted (command_in f) (writer-laws f good) (report_for f) (strict_in f) reports p before g k,
  )

  -- 5. An accepted s, changed to s' in an odd number of bits, in some bits within a run of 16, or in two within a run of 32,767, none of
  -- them in octets 4 and 5 and all inside the stated total, is refused, whatever follows the total.
  pub changed-refused : (s s' : List ℕ) → RefusesChanged (strict_in f s) s (strict_in f s') s'
  unfolding strict_in
  changed-refused = Any.changed-refused (form_check f) good (tc f) (laws f good) (λ z. record_in f z true)

  -- 9. An accepted s of at most 4,095 octets in total, changed to s' in one, two or three bits, none of them in octets 4 and 5 and all
  -- inside the stated total, is refused, whatever follows the total.
  pub up-to-three-refused : (s s' : List ℕ) → RefusesUpToThree (strict_in f s) s (strict_in f s') s'
  unfolding strict_in
  up-to-three-refused = Any.up-to-three-refused (form_check f) good (tc f) (laws f good) (λ z. record_in f z true)

  -- 6. What the verdict accepts, read and written again, is the same octets.
  pub written-again : (s : List ℕ) (r : PusTcRecord) → Octets s → strict_in f s ≡ gives r
      → take r.total s ≡ packet_of (tc f) (packet_by r.sp_header r.sec_header (app_data_in f s true))
  unfolding strict_in
  written-again =
      Any.written-again (form_check f) good (tc f) (laws f good) (λ z. record_in f z true) (report_for f) reports
      (λ (r : PusTcRecord). r.total) (λ p. refl)
      (λ s r. packet_by r.sp_header r.sec_header (app_data_in f s true)) (λ s p b. ap (packet_by p.primary p.secondary) (reader-reports s p b).2)

-- ---- the editions: each theorem at PUS C with each spare length, and at PUS A with each width, that is taken; theorems 1 and 9 of both

pub exactly-spare : (n : ℕ) → n ≤ 4 → (s : List ℕ) → Octets s
    → ((r : PusTcRecord) × (strict_in (form_spare n) s ≡ gives r)) ↔ ((p : Telecommand) × BeginsWith (tc (form_spare n)) s p)
exactly-spare n h = exactly (form_spare n) (taken-spare n h)

pub exactly-c : (s : List ℕ) → Octets s → ((r : PusTcRecord) × (strict_of s ≡ gives r)) ↔ ((p : Telecommand) × BeginsWith pus_c s p)
exactly-c = exactly form_c taken-c

pub exactly-a : (w : ℕ) → is_width w ≡ true → (s : List ℕ) → Octets s
    → ((r : PusTcRecord) × (strict_in (form_a w) s ≡ gives r)) ↔ ((p : Telecommand) × BeginsWith (tc (form_a w)) s p)
exactly-a w h = exactly (form_a w) (form-passes (form_a w) h (omega arith))

pub up-to-three-refused-spare : (n : ℕ) → n ≤ 4 → (s s' : List ℕ) → RefusesUpToThree (strict_in (form_spare n) s) s (strict_in (form_spare n) s') s'
up-to-three-refused-spare n h = up-to-three-refused (form_spare n) (taken-spare n h)

pub up-to-three-refused-c : (s s' : List ℕ) → RefusesUpToThree (strict_of s) s (strict_of s') s'
up-to-three-refused-c = up-to-three-refused form_c taken-c

pub up-to-three-refused-a : (w : ℕ) → is_width w ≡ true → (s s' : List ℕ) → RefusesUpToThree (strict_in (form_a w) s) s (strict_in (form_a w) s') s'
up-to-three-refused-a w h = up-to-three-refused (form_a w) (form-passes (form_a w) h (omega arith))

-- PUS C has at most 65,529 octets of data less the spare ones, and PUS A 65,531 less those of the source ID
pub at-most-spare : (n : ℕ) (p : Telecommand) → AtMost (form_spare n) p ↔ (length p.user ≤ 65529 - n)
at-most-spare n p = (λ h. omega (arith, h), λ h. omega (arith, h))

pub at-most-c : (p : Telecommand) → AtMost form_c p ↔ (length p.user ≤ 65529)
at-most-c p = (λ h. h, λ h. h)

pub at-most-a : (w : ℕ) (p : Telecommand) → AtMost (form_a w) p ↔ (length p.user ≤ 65531 - w / 8)
at-most-a w p = (λ h. omega (arith, h), λ h. omega (arith, h))
