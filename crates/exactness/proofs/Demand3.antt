-- The third demand, for every kind: of a verdict behind a check that passes, which reports g of the octets and their total, and of
-- what is written.
use Prim.Native.Nat.{ℕ, ◌+◌, ◌-◌, ◌≤◌}
use mathlib.Core.Path.{◌≡◌, refl, sym, ap, ap₂, ◌∙◌, subst}
use mathlib.Core.Logic.{◌↔◌}
use mathlib.Core.Bool.{true, false, not}
use mathlib.Core.List.{List, [], ◌++◌}
use native.Mathlib.Omega.{arith}
use lib.ListN.{length, take, drop}
use borrow.Author.Tests.{eq-eqb, ne_eqb, eqb-false}
use Rattle.std.specs.Prelude.{Result, Ok}
use Rattle.space_packet.specs.declared.PusError.{PusError}
use Rattle.space_packet.specs.Answer.{Numbers, Answer, Passed, gives, refuses, refusal}
use Rattle.space_packet.specs.Fields.{type_number, is_idle}
use Rattle.space_packet.specs.Header.{read_header}
use Rattle.space_packet.specs.Wrote.{Wrote}
use Rattle.space_packet.specs.declared.Apid.{Apid}
use Rattle.space_packet.specs.declared.SpacePacketHeader.{SpacePacketHeader}
use Rattle.space_packet.proofs.Answers.{gives-inj, refuse-no, refuse-yes, then-gives, gives_then, refuses-then, then-refused, left-written}
use Rattle.space_packet.proofs.Determined.{writes}
use Rattle.ecss.specs.Frame.{Octets, stated_of, Told}
use Rattle.ecss.specs.Kind.{Kind, KindLaws, Packet, Primary, Rules, BeginsWith, as_idle, start_of, packet_of, secondary_of, pus_rule, strict_rule, ruled, judge}
use Rattle.ecss.proofs.After.{verdict_after}
use Rattle.ecss.proofs.Frames.{FrameIs, total-checked}
use Rattle.ecss.proofs.Pieces.{data_is}
use Rattle.ecss.proofs.Rules.{strict-says}
use Rattle.ecss_write.specs.Writer.{Writer, WriterLaws, packet_by, start_by, made_by, octets_by, new_by, write_by, Handed}
use Rattle.reserve.specs.Reserve.{fill_in, filled_by, finish_in, finished}
use Rattle.exactness.specs.Changed.{Changed, UpToThreeChanged}
use Rattle.exactness.specs.Demand3.{RefusesIf, RefusesChanged, RefusesUpToThree, total_for, Room, Accepted, made_of, held_by, FinishedBy}
use Rattle.exactness.proofs.Exact.{accepted, total-is, complete, idle-judged, rewritten, sound}
use Rattle.exactness.proofs.Changed.{up-to-three-changed, refused, refused-three}
use Rattle.exactness.proofs.Given.{checked, handed-rules, handed-new, new-handed, handed-reserve, rules-write}
use Rattle.exactness.proofs.Agree.{reserved-agrees}
use Rattle.exactness.proofs.Told.{told}

-- ---- what is judged

-- the APIDs within the written rules, those of 11 bits that are no idle packet's, are 0 to 2,046
pub apids : (a : Apid) → ((a.0 ≤ 2047) × (is_idle a ≡ false)) ↔ (a.0 ≤ 2046)
apids a = (
  λ h. let n : a.0 ≡ 2047 → ⊥ = eqb-false _ _ h.1 in omega (arith, n, h.0),
  λ h. (omega (arith, h), ne_eqb a.0 2047 (λ (e : a.0 ≡ 2047). omega (arith, e, h))),
)

module _ {H : Type 0} (k : Kind H) where
  -- the octets from the start up to the end are the data
  pub reported-data : KindLaws k → (s : List ℕ) (p : Packet H) → BeginsWith k s p → take (start_of k + length p.user - start_of k) (drop (start_of k) s) ≡ p.user
  reported-data l s p b =
      let n : start_of k + length p.user - start_of k ≡ length p.user = omega arith in
      ap₂ (λ (m : ℕ) (z : List ℕ). take m (drop (start_of k) z)) n b.octets ∙ data_is k l true p b.rest b.rules.stated

-- what refuses changes that the checksum detects refuses one, two or three bits of a packet that is short enough
so-up-to-three : {R : Type 0} {a b : Answer R} (s s' : List ℕ) → RefusesChanged a s b s' → RefusesUpToThree a s b s'
so-up-to-three s s' f r p c = f r p (up-to-three-changed s s' (stated_of s) c)

-- calls that answer what a and b do refuse what these refuse
pub answered : {R : Type 0} {a b x y : Answer R} (C : List ℕ → List ℕ → ℕ → Type 0) (s s' : List ℕ) → x ≡ a → y ≡ b → RefusesIf C a s b s' → RefusesIf C x s y s'
answered C s s' e g f r p c = let n = f r (sym e ∙ p) c in (n.0, g ∙ n.1)

pub both-answered-each : {R : Type 0} {a b x y : Answer R} (s s' : List ℕ) → x ≡ a → y ≡ b → RefusesChanged a s b s' → RefusesUpToThree a s b s'
    → RefusesChanged x s y s' × RefusesUpToThree x s y s'
both-answered-each s s' e g f h = (answered Changed s s' e g f, answered UpToThreeChanged s s' e g h)

pub both-answered : {R : Type 0} {a b x y : Answer R} (s s' : List ℕ) → x ≡ a → y ≡ b → RefusesChanged a s b s' → RefusesChanged x s y s' × RefusesUpToThree x s y s'
both-answered s s' e g f = let h = answered Changed s s' e g f in (h, so-up-to-three s s' h)

module _ {H R : Type 0} (first : Passed) (good : first ≡ gives tt) (k : Kind H) (l : KindLaws k) (g : List ℕ → ℕ → R) where
  -- the verdict on s
  abbrev pub verdict : List ℕ → Answer R
  verdict s = verdict_after first k s (g s)

  -- octets that begin with a packet under the rules are accepted
  pub accepts : (s : List ℕ) (p : Packet H) → BeginsWith k s p → verdict s ≡ gives (g s (total_for k p.user))
  accepts s p b =
      gives_then _ _ tt good ∙ gives_then _ _ _ (complete k l s p b) ∙ ap (λ (n : ℕ). gives (g s n)) (total-is k l s p b)

  judged : (s : List ℕ) (r : R) → verdict s ≡ gives r → (p : Packet H) × (judge k s ≡ gives p)
  judged s r a = let p = then-gives (judge k s) _ r (then-gives first _ r a).2 in (p.0, p.1)

  pub idle-refused : (s : List ℕ) (p : Packet H) → Rules k p → (rest : List ℕ) → s ≡ packet_of k (as_idle p) ++ rest → verdict s ≡ refuses (refusal 12 [])
  idle-refused s p u rest e = gives_then _ _ tt good ∙ refuses-then _ _ _ (idle-judged k l s p u rest e)

  -- where it refuses with 4, it tells both checksums of the packet, and they differ
  pub tells : (s : List ℕ) (e : Numbers) → Octets s → verdict s ≡ refuses e → Told s e
  tells s e o p = told k l s o e (then-refused (judge k s) (λ _. g s (stated_of s)) e (sym (gives_then _ _ tt good) ∙ p))

  -- what the kind's verdict refuses is refused
  refuses-if : (C : List ℕ → List ℕ → ℕ → Type 0) (s s' : List ℕ) → ((p : Packet H) → judge k s ≡ gives p → C s s' (stated_of s) → (n : Numbers) × (judge k s' ≡ refuses n))
      → RefusesIf C (verdict s) s (verdict s') s'
  refuses-if C s s' f r a c =
      let p = judged s r a in
      let n = f p.0 p.1 c in
      (n.0, gives_then _ _ tt good ∙ refuses-then _ _ _ n.1)

  pub changed-refused : (s s' : List ℕ) → RefusesChanged (verdict s) s (verdict s') s'
  changed-refused s s' = refuses-if Changed s s' (refused k s s')

  pub up-to-three-refused : (s s' : List ℕ) → RefusesUpToThree (verdict s) s (verdict s') s'
  up-to-three-refused s s' = refuses-if UpToThreeChanged s s' (refused-three k s s')

  -- what is reported of a packet
  module _ (report_for : Packet H → R) (reports : (s : List ℕ) (p : Packet H) → BeginsWith k s p → verdict s ≡ gives (report_for p)) where
    pub exactly : (s : List ℕ) → Octets s → ((r : R) × (verdict s ≡ gives r)) ↔ ((p : Packet H) × BeginsWith k s p)
    exactly s o = (
      λ a. let p = judged s a.0 a.1 in (p.0, sound k l s p.0 o p.1),
      λ b. (report_for b.0, reports s b.0 b.1),
    )

    -- a packet that is found again in what is reported of it, of which the total is, is the same octets written again
    module _ (total : R → ℕ) (total_of : (p : Packet H) → total (report_for p) ≡ total_for k p.user)
        (back : List ℕ → R → Packet H) (back-of : (s : List ℕ) (p : Packet H) → BeginsWith k s p → back s (report_for p) ≡ p) where
      pub written-again : (s : List ℕ) (r : R) → Octets s → verdict s ≡ gives r → take (total r) s ≡ packet_of k (back s r)
      written-again s r o a =
          let b = (exactly s o).0 (r, a) in
          let p = b.0 in
          let e : report_for p ≡ r = gives-inj _ r (sym (reports s p b.1) ∙ a) in
          ap (λ (n : ℕ). take n s) (ap total (sym e) ∙ total_of p ∙ sym (total-is k l s p b.1))
          ∙ rewritten k l s p o (complete k l s p b.1)
          ∙ ap (packet_of k) (sym (back-of s p b.1) ∙ ap (back s) e)

-- ---- two kinds

-- the type that the octets have is the kind's
accepted-type : {H : Type 0} (k : Kind H) (s : List ℕ) (p : Packet H) → judge k s ≡ gives p → Primary k.type (read_header s)
accepted-type k s p a = (strict-says k (read_header s) (secondary_of k.size s) (accepted k s p a).passes).0

-- so octets that are accepted as one kind, and have room for the headers and the checksum of one of another type, are refused for it
module _ {H G : Type 0} (k : Kind H) (j : Kind G) (s : List ℕ) where
  other-type : (h : SpacePacketHeader) (l : List ℕ) → Primary k.type h → (type_number k.type ≡ type_number j.type → ⊥) → strict_rule j h l ≡ refuses j.other
  unfolding strict_rule pus_rule
  other-type h l p d =
      let n : type_number h.packet_id.packet_type ≡ type_number j.type → ⊥ = λ e. d (sym (ap type_number p.type-is) ∙ e) in
      refuses-then _ _ _ (refuse-no _ _ _ (ap not (eq-eqb h.version 0 p.version-zero)) ∙ refuse-yes _ _ _ (ap not (ne_eqb _ _ n)))

  pub other-refused : (p : Packet H) → judge k s ≡ gives p → start_of j + 2 ≤ stated_of s → (type_number k.type ≡ type_number j.type → ⊥) → judge j s ≡ refuses j.other
  unfolding judge
  other-refused p h m d =
      let a = accepted k s p h in
      let f : FrameIs (start_of j) s true (stated_of s) = record { is = refl; room = m; fits = a.frame.fits } in
      gives_then _ (ruled j s) (stated_of s) (total-checked (start_of j) s (stated_of s) f a.verifies)
      ∙ refuses-then _ _ _ (other-type (read_header s) (secondary_of j.size s) (accepted-type k s p h) d)

  -- and are never accepted as both
  pub one_type : (p : Packet H) (q : Packet G) → judge k s ≡ gives p → judge j s ≡ gives q → k.type ≡ j.type
  one_type p q a b = sym (accepted-type k s p a).type-is ∙ (accepted-type j s q b).type-is

-- ---- what is written

module _ {H : Type 0} (w : Writer H) (l : WriterLaws w) where
  -- what construction makes, with the length set and a checksum, is under the rules
  pub made-under-rules : (h : SpacePacketHeader) (x : H) (d : List ℕ) (g : SpacePacketHeader) → h.version ≡ 0 → is_idle h.packet_id.apid ≡ false
      → w.version x ≡ gives tt → new_by w h x true true (length d) ≡ gives g → Rules w.kind (packet_by g x d)
  made-under-rules h x d g v i c p =
      let m = new-handed w l h x d g p in
      let k = checked w l h x m.0 in
      let e : Handed w.kind (packet_by h x d) = record { in-range = k.1; version-zero = v; not-idle = i; fits = l.passed-fits x k.0 k.2 c; at_most = m.1 } in
      subst (λ (z : SpacePacketHeader). Rules w.kind (packet_by z x d)) (sym m.2) (handed-rules w l h x d e)

  -- a verdict that reports what begins with a packet under the rules
  module _ {R : Type 0} (report_for : Packet H → R) (verdict : List ℕ → Answer R)
      (reports : (s : List ℕ) (p : Packet H) → BeginsWith w.kind s p → verdict s ≡ gives (report_for p)) where
    -- in a buffer that has room, with anything after it
    pub written-accepted : (h : SpacePacketHeader) (x : H) (d before after : List ℕ) (r : Result ℕ PusError)
        → Rules w.kind (packet_by h x d) → Room w.kind d before
        → Wrote (write_by w h x true (length d) (length before)) (octets_by w h x true d) before r after
        → Accepted w.kind report_for verdict (packet_by h x d) before r after
    written-accepted h x d before after r u m v =
        let n = total_for w.kind d in
        let g = rules-write w l h x d (length before) u m.fits m.is_slice in
        let e = v.left ∙ left-written _ _ _ _ g in
        record {
          answers = (writes _ _ _ r (Ok n) after _ v (record { answered = sym g; left = refl })).0;
          leaves = e;
          accepted = reports after (packet_by h x d) (record { rules = u; rest = drop n before; octets = e });
        }

    module _ (p : Packet H) (before : List ℕ) (g : Handed w.kind p) (k : Room w.kind p.user before) where
      -- what a buffer m holds once the data was filled in where it is reserved
      abbrev filled_from : List ℕ → List ℕ
      filled_from m = filled_by (fill_in (start_by w) (held_by w true (total_for w.kind p.user)) (length m) (length p.user)) (start_by w) p.user m

      -- what was reserved, filled in and finished is accepted
      pub reserved-accepted : (r : Result ℕ PusError) (after : List ℕ) → FinishedBy w (start_by w) (held_by w true (total_for w.kind p.user)) p before r after
          → Accepted w.kind report_for verdict (made_of w p) before r after
      reserved-accepted r after v =
          let h = p.primary in
          let x = p.secondary in
          let d = p.user in
          let q = held_by w true (total_for w.kind d) in
          let e = handed-reserve w l h x d (length before) g k.fits k.is_slice in
          let a = reserved-agrees w l h x true d before (total_for w.kind d) k.is_slice e in
          let i : a.header ≡ made_by w h d = gives-inj _ _ (sym a.made ∙ handed-new w l h x d g) in
          let m = v.fills ∙ ap filled_from v.reserves in
          let y = subst (λ (s : List ℕ). Wrote (finish_in (start_by w) q (length s)) (finished q s) s r after) m v.finishes in
          let z : Wrote (write_by w a.header x true (length d) (length before)) (octets_by w a.header x true d) before r after = record { answered = y.answered ∙ a.answers ∙ sym a.writes; left = y.left ∙ a.leaves } in
          written-accepted (made_by w h d) x d before after r (handed-rules w l h x d g) k
          (subst (λ (c : SpacePacketHeader). Wrote (write_by w c x true (length d) (length before)) (octets_by w c x true d) before r after) i z)
