-- The profile's verdict accepts exactly the strictly accepted packets that meet its rules, and refuses an accepted one with changed bits.
use Prim.Native.Nat.{ℕ, ◌+◌, ◌-◌, ◌≤◌, ◌<◌}
use mathlib.Core.Path.{◌≡◌, refl, sym, ap, ◌∙◌, subst}
use mathlib.Core.Logic.{◌↔◌}
use mathlib.Core.Bool.{Bool, true, false, not, ◌&&◌}
use mathlib.Core.List.{List}
use native.Mathlib.Omega.{arith}
use lib.Dec.{eqb, ltb, leb}
use borrow.Author.Tests.{eqb-true, eq-eqb, ltb-false, le-ltb, leb-false, lt-leb, not-false}
use Rattle.space_packet.specs.Answer.{Numbers, gives, refuses}
use Rattle.space_packet.specs.Fields.{flags_number, flags_of}
use Rattle.space_packet.specs.Header.{packet_len, read_header}
use Rattle.space_packet.specs.declared.SequenceFlags.{SequenceFlags}
use Rattle.space_packet.specs.declared.SequenceFlags.TheVariants.{Unsegmented}
use Rattle.space_packet.specs.declared.SpacePacketHeader.{SpacePacketHeader}
use Rattle.space_packet.proofs.Answers.{gives-inj, then-gives, gives_then, refuses-then, refuse-gives, refuse-no}
use Rattle.space_packet.proofs.Numbers.{flags-back}
use Rattle.detect.specs.Errors.{near_octets}
use Rattle.ecss.specs.Frame.{Octets, stated_of}
use Rattle.ecss.specs.Kind.{BeginsWith, judge}
use Rattle.exactness.specs.Demand3.{RefusesChanged}
use Rattle.exactness.proofs.Exact.{accepted}
use Rattle.tc_header.specs.Form.{form_c, form_check}
use Rattle.tc_header.specs.Header.{pus_c}
use Rattle.tc_header.specs.declared.PusTcSecondaryHeader.{PusTcSecondaryHeader}
use Rattle.tc_header.proofs.Forms.{taken-c}
use Rattle.tc_read.specs.Read.{start_c, record_in}
use Rattle.tc_read.specs.declared.PusTcRecord.{PusTcRecord}
use Rattle.tc_strict.specs.Verdict.{strict_in, strict_of}
use Rattle.tc_demand3.specs.Rules.{Telecommand, report_for}
use Rattle.tc_demand3.proofs.Demand3.{reports, exactly-c, changed-refused, up-to-three-refused-c}
use Rattle.profile.specs.Rules.{most_octets, fewest_octets, unsegmented, apid_limit, service_of, test_service, rules, profile_rule, profile_of}
use Rattle.profile_exact.specs.Within.{Within, Meets, MeetsRecord, Exactly, RefusesAnyThree}

-- ---- the rules

-- one rule for one service
with-service : (b c : Bool) → (b && c) ≡ false → b ≡ true → c ≡ false
with-service b c e p = ap (λ (z : Bool). z && c) (sym p) ∙ e

of-service : (b c : Bool) → (b ≡ true → c ≡ false) → (b && c) ≡ false
of-service true c f = f refl
of-service false c f = refl

-- a test finds no fault exactly where its sentence holds
pub not_found : (b : Bool) → (not b ≡ false) ↔ (b ≡ true)
not_found b = (not-false b, ap not)

pub unsegmented-found : (f : SequenceFlags) → (not (eqb (flags_number f) unsegmented) ≡ false) ↔ (f ≡ Unsegmented)
unsegmented-found f = (
  λ p. sym (flags-back f) ∙ ap flags_of (eqb-true (flags_number f) unsegmented (not-false _ p)),
  ap (λ (g : SequenceFlags). not (eqb (flags_number g) unsegmented)),
)

pub apid-found : (a : ℕ) → (leb apid_limit a ≡ false) ↔ (a < 64)
apid-found a = (leb-false apid_limit a, lt-leb apid_limit a)

module _ (h : SpacePacketHeader) (x : PusTcSecondaryHeader) (n : ℕ) (e : packet_len h ≡ start_c + n + 2) where
  pub length_found : (ltb most_octets (packet_len h) ≡ false) ↔ (6 + 5 + n + 2 ≤ 1024)
  length_found = (
    λ p. let z = ltb-false most_octets (packet_len h) p in omega (arith, e, z),
    λ z. le-ltb most_octets (packet_len h) (omega (arith, e, z)),
  )

  pub data-found : (eqb (service_of x) test_service && ltb fewest_octets (packet_len h) ≡ false) ↔ (service_of x ≡ 17 → n ≡ 0)
  data-found = (
    λ p k. let z = ltb-false fewest_octets (packet_len h) (with-service _ _ p (eq-eqb (service_of x) test_service k)) in omega (arith, e, z),
    λ w. of-service _ _ (λ b. let z = w (eqb-true (service_of x) test_service b) in le-ltb fewest_octets (packet_len h) (omega (arith, e, z))),
  )

  within : profile_rule h x ≡ gives tt → Within h x n
  unfolding rules
  within p =
      let a = refuse-gives _ _ _ _ p in
      let b = refuse-gives _ _ _ _ a.1 in
      let c = refuse-gives _ _ _ _ b.1 in
      let d = refuse-gives _ _ _ _ c.1 in
      let f = refuse-gives _ _ _ _ d.1 in
      let g = refuse-gives _ _ _ _ f.1 in
      record {
        at_most = length_found.0 a.0;
        unsegmented = (unsegmented-found _).0 b.0;
        apid-below = (apid-found _).0 c.0;
        service = (not_found _).0 d.0;
        acceptance = (not_found _).0 f.0;
        empty = data-found.0 g.0;
      }

  ruled : Within h x n → profile_rule h x ≡ gives tt
  unfolding rules
  ruled w =
      refuse-no _ _ _ (length_found.1 w.at_most)
      ∙ refuse-no _ _ _ ((unsegmented-found _).1 w.unsegmented)
      ∙ refuse-no _ _ _ ((apid-found _).1 w.apid-below)
      ∙ refuse-no _ _ _ ((not_found _).1 w.service)
      ∙ refuse-no _ _ _ ((not_found _).1 w.acceptance)
      ∙ refuse-no _ _ _ (data-found.1 w.empty)

  -- the definition's rules are the sentences
  pub rule-within : (profile_rule h x ≡ gives tt) ↔ Within h x n
  rule-within = (within, ruled)

-- ---- the verdict

-- what is accepted was accepted strictly, and passed the rules
pub profile-gives : (s : List ℕ) (r : PusTcRecord) → profile_of s ≡ gives r → (strict_of s ≡ gives r) × (profile_rule r.sp_header r.sec_header ≡ gives tt)
unfolding profile_of
profile-gives s r p =
    let a = then-gives (strict_of s) _ r p in
    let b = then-gives (profile_rule a.0.sp_header a.0.sec_header) _ r a.2 in
    let e = gives-inj a.0 r b.2 in
    (a.1 ∙ ap gives e, ap (λ (q : PusTcRecord). profile_rule q.sp_header q.sec_header) (sym e) ∙ b.1)

pub gives-profile : (s : List ℕ) (r : PusTcRecord) → strict_of s ≡ gives r → profile_rule r.sp_header r.sec_header ≡ gives tt → profile_of s ≡ gives r
unfolding profile_of
gives-profile s r p q = gives_then _ _ r p ∙ gives_then _ _ tt q

-- where the strict verdict refuses, its refusal is the profile's
pub strict-first : (s : List ℕ) (e : Numbers) → strict_of s ≡ refuses e → profile_of s ≡ refuses e
unfolding profile_of
strict-first s e p = refuses-then _ _ e p

-- a strictly accepted packet states its total
pub states-total : (s : List ℕ) (r : PusTcRecord) → strict_of s ≡ gives r → packet_len r.sp_header ≡ start_c + (r.end - r.start) + 2
unfolding strict_in record_in read_header
states-total s r p =
    let j = then-gives (judge pus_c s) _ r (then-gives (form_check form_c) _ r p).2 in
    let f = (accepted pus_c s j.0 j.1).frame in
    let g = f.room in
    subst (λ (q : PusTcRecord). packet_len q.sp_header ≡ start_c + (q.end - q.start) + 2) (gives-inj _ r j.2) (omega (arith, g))

-- by which its bits are counted
stated-is : (s : List ℕ) (r : PusTcRecord) → strict_of s ≡ gives r → stated_of s ≡ packet_len r.sp_header
unfolding strict_in record_in read_header
stated-is s r p =
    let j = then-gives (judge pus_c s) _ r (then-gives (form_check form_c) _ r p).2 in
    ap (λ (q : PusTcRecord). packet_len q.sp_header) (gives-inj _ r j.2)

-- It accepts exactly the strictly accepted packets that meet the rules, and reports what the strict verdict reports.
pub accepts-exactly : (s : List ℕ) (r : PusTcRecord) → (profile_of s ≡ gives r) ↔ ((strict_of s ≡ gives r) × MeetsRecord r)
accepts-exactly s r = (
  λ p. let a = profile-gives s r p in (a.0, (rule-within _ _ _ (states-total s r a.0)).0 a.1),
  λ a. gives-profile s r a.0 ((rule-within _ _ _ (states-total s r a.0)).1 a.1),
)

-- A packet under the written rules that meets the profile's is reported,
pub reports-within : (s : List ℕ) (p : Telecommand) → BeginsWith pus_c s p → Meets p → profile_of s ≡ gives (report_for form_c p)
reports-within s p b m =
    gives-profile s _ (reports form_c taken-c s p b) ((rule-within _ _ _ b.rules.stated.states-length).1 m)

-- and what is accepted begins with one.
pub begins-within : (s : List ℕ) → Octets s → ((r : PusTcRecord) × (profile_of s ≡ gives r)) ↔ ((p : Telecommand) × (BeginsWith pus_c s p × Meets p))
begins-within s o = (
  λ a.
      let q = profile-gives s a.0 a.1 in
      let p = (exactly-c s o).0 (a.0, q.0) in
      let e = gives-inj _ _ (sym q.0 ∙ reports form_c taken-c s p.0 p.1) in
      let k = ap (λ (z : PusTcRecord). profile_rule z.sp_header z.sec_header) (sym e) ∙ q.1 in
      (p.0, (p.1, (rule-within _ _ _ p.1.rules.stated.states-length).0 k)),
  λ p. (report_for form_c p.0, reports-within s p.0 p.1.0 p.1.1),
)

-- So much is asked of the verdict on s.
pub exact : (s : List ℕ) → Octets s → Exactly (profile_of s) s
exact s o = record { accepts = accepts-exactly s; begins = begins-within s o; reports = reports-within s; strict-first = strict-first s }

-- what the strict verdict refuses is refused
outside : (s' : List ℕ) → ((n : Numbers) × (strict_of s' ≡ refuses n)) → (n : Numbers) × (profile_of s' ≡ refuses n)
outside s' n = (n.0, strict-first s' n.0 n.1)

-- An accepted s, changed to s' in an odd number of bits, in some bits within a run of 16, or in two within a run of 32,767, none of them in
-- octets 4 and 5 and all inside the stated total, is refused.
pub changed-outside : (s s' : List ℕ) → RefusesChanged (profile_of s) s (profile_of s') s'
changed-outside s s' r p c = outside s' (changed-refused form_c taken-c s s' r (profile-gives s r p).0 c)

-- what is accepted is far shorter than theorem 9 asks
short-enough : (s : List ℕ) (r : PusTcRecord) → profile_of s ≡ gives r → stated_of s ≤ near_octets
short-enough s r p =
    let a = (accepts-exactly s r).0 p in
    let m = a.1.at_most in
    let t = states-total s r a.0 in
    let e = stated-is s r a.0 in
    omega (arith, m, t, e)

-- So is one changed in one, two or three bits, wherever in its other octets they stand.
pub up-to-three-outside : (s s' : List ℕ) → RefusesAnyThree (profile_of s) s (profile_of s') s'
up-to-three-outside s s' r p c =
    outside s' (up-to-three-refused-c s s' r (profile-gives s r p).0 (record { at_most = short-enough s r p; changed = c }))
