-- The verdict accepts exactly the octets that begin with a packet under the written rules, and that packet is one: for every kind.
use Prim.Native.Nat.{ℕ, ◌+◌, ◌-◌}
use mathlib.Core.Path.{◌≡◌, refl, sym, ap, ap₂, ◌∙◌, subst}
use mathlib.Core.Logic.{◌↔◌}
use mathlib.Core.Bool.{true}
use mathlib.Core.List.{List, [], ◌++◌}
use native.Mathlib.Omega.{arith}
use lib.ListN.{length, take, drop, length-append, length-drop, take-append-drop}
use lib.Seq.{take_at, drop_at, length-take-le}
use Rattle.space_packet.specs.Header.{read_header, InRange}
use Rattle.space_packet.specs.Answer.{gives, refuses, refusal, ◌then◌}
use Rattle.space_packet.proofs.Answers.{gives-inj, then-gives, gives_then, refuses-then}
use Rattle.space_packet.proofs.RoundTrip.{read-in-range, stated-total}
use Rattle.crc_register.specs.Crc.{crc_of}
use Rattle.ecss.specs.Frame.{Octets, stated_of, frame_of, checked_of}
use Rattle.ecss.specs.Kind.{Kind, KindLaws, Taken, Packet, Stated, Rules, BeginsWith, idle_header, as_idle, start_of, content_of, packet_of, secondary_of, strict_rule, read_as, ruled, judge}
use Rattle.ecss.proofs.Frames.{FrameIs, total-frame, checked-total, total-checked}
use Rattle.ecss.proofs.Sealed.{sealed-verifies}
use Rattle.ecss.proofs.Rules.{strict-passes, strict-idle, strict-says}
use Rattle.ecss.proofs.Pieces.{primary-is, states, secondary-octets, secondary-is, data_is, closed-length, octets-drop, octets-take, packet-back}

-- ---- what an accepting verdict says

pub record AcceptedAs {H : Type 0} (k : Kind H) (s : List ℕ) (p : Packet H) : Type 0 where
  pub frame : FrameIs (start_of k) s true (stated_of s)
  pub verifies : crc_of (take (stated_of s) s) ≡ 0
  pub passes : strict_rule k (read_header s) (secondary_of k.size s) ≡ gives tt
  pub read : p ≡ read_as k s (stated_of s)

pub accepted : {H : Type 0} (k : Kind H) (s : List ℕ) (p : Packet H) → judge k s ≡ gives p → AcceptedAs k s p
unfolding judge
accepted k s p h =
    let a = then-gives (checked_of (start_of k) s) (ruled k s) p h in
    let b = then-gives (strict_rule k (read_header s) (secondary_of k.size s)) _ p a.2 in
    let f = checked-total (start_of k) s a.0 a.1 in
    let e : a.0 ≡ stated_of s = f.0.is in
    record {
      frame = subst (FrameIs (start_of k) s true) e f.0;
      verifies = ap (λ (n : ℕ). crc_of (take n s)) (sym e) ∙ f.1;
      passes = b.1;
      read = sym (gives-inj _ p b.2) ∙ ap (read_as k s) e;
    }

-- the reader's checks, with the checksum compared and with it only taken, give the stated total, and what is reported is
-- what a packet of that total is read as
pub agrees : {H : Type 0} (k : Kind H) (s : List ℕ) (p : Packet H) → judge k s ≡ gives p
    → (checked_of (start_of k) s ≡ gives (stated_of s)) × (frame_of (start_of k) s true ≡ gives (stated_of s)) × (p ≡ read_as k s (stated_of s))
agrees k s p h =
    let a = accepted k s p h in
    (total-checked (start_of k) s (stated_of s) a.frame a.verifies, total-frame (start_of k) s true (stated_of s) a.frame, a.read)

-- ---- a packet that states its length is judged by the strict checks alone

module _ {H : Type 0} (k : Kind H) (l : KindLaws k) (s : List ℕ) (p : Packet H) (v : Stated k true p) (rest : List ℕ) (e : s ≡ packet_of k p ++ rest) where
  header_is : read_header s ≡ p.primary
  header_is = ap read_header e ∙ primary-is k true p rest v

  stated-is : stated_of s ≡ start_of k + length p.user + 2
  stated-is = ap stated_of e ∙ states k true p rest v

  packet-length : length (packet_of k p) ≡ stated_of s
  packet-length = closed-length k l true p rest v ∙ sym stated-is

  secondary-of : secondary_of k.size s ≡ k.enc p.secondary
  secondary-of = ap (secondary_of k.size) e ∙ secondary-octets k l true p rest v

  read_is : read_as k s (stated_of s) ≡ p
  unfolding read_as
  read_is =
      let n : stated_of s - 2 - start_of k ≡ length p.user = omega (arith, stated-is) in
      let x = ap (λ (z : List ℕ). k.dec (secondary_of k.size z)) e ∙ secondary-is k l true p rest v in
      let u = ap₂ (λ (m : ℕ) (z : List ℕ). take m (drop (start_of k) z)) n e ∙ data_is k l true p rest v in
      λ i. record { primary = header_is i; secondary = x i; user = u i }

  verifies-is : crc_of (take (stated_of s) s) ≡ 0
  verifies-is =
      ap (λ (x : List ℕ). crc_of (take (stated_of s) x)) e
      ∙ ap crc_of (take_at (packet_of k p) rest (stated_of s) packet-length)
      ∙ sealed-verifies (content_of k p)

  frame-stated : FrameIs (start_of k) s true (stated_of s)
  frame-stated =
      let n : length s ≡ length (packet_of k p) + length rest = ap length e ∙ length-append (packet_of k p) rest in
      record { is = refl; room = omega (arith, stated-is); fits = omega (arith, packet-length) }

  judged-by : judge k s ≡ (strict_rule k p.primary (k.enc p.secondary) then λ _. gives p)
  unfolding judge
  judged-by =
      gives_then _ (ruled k s) (stated_of s) (total-checked (start_of k) s (stated_of s) frame-stated verifies-is)
      ∙ (λ i. strict_rule k (header_is i) (secondary-of i) then λ _. gives (read_is i))

  rest-is : drop (stated_of s) s ≡ rest
  rest-is = ap (drop (stated_of s)) e ∙ drop_at (packet_of k p) rest (stated_of s) packet-length

module _ {H : Type 0} (k : Kind H) (l : KindLaws k) (s : List ℕ) (p : Packet H) where
  pub total-is : BeginsWith k s p → stated_of s ≡ start_of k + length p.user + 2
  total-is b = stated-is k l s p b.rules.stated b.rest b.octets

  -- under the rules it is accepted and reported as it was written, with anything after it
  pub complete : BeginsWith k s p → judge k s ≡ gives p
  complete b =
      let f = b.rules.stated.fits in
      judged-by k l s p b.rules.stated b.rest b.octets
      ∙ gives_then _ _ tt (strict-passes k p.primary (k.enc p.secondary) b.rules.primary (l.enc-version p.secondary f) (l.rule-enc p.secondary f))

  -- with the APID of idle packets, and else under the rules, it is refused with 12
  pub idle-judged : Rules k p → (rest : List ℕ) → s ≡ packet_of k (as_idle p) ++ rest → judge k s ≡ refuses (refusal 12 [])
  idle-judged u rest e =
      let v = u.stated in
      let i : InRange (idle_header p.primary) = record { version-fits = v.in-range.version-fits; apid-fits = omega arith; count_fits = v.in-range.count_fits } in
      judged-by k l s (as_idle p) (record { in-range = i; fits = v.fits; states-length = v.states-length }) rest e
      ∙ refuses-then _ _ _ (strict-idle k p.primary (k.enc p.secondary) u.primary (l.enc-version p.secondary v.fits))

-- one packet at most, and one rest
pub unique : {H : Type 0} (k : Kind H) → KindLaws k → (s : List ℕ) (p q : Packet H) (b : BeginsWith k s p) (c : BeginsWith k s q) → (p ≡ q) × (b.rest ≡ c.rest)
unique k l s p q b c =
    (gives-inj p q (sym (complete k l s p b) ∙ complete k l s q c), sym (rest-is k l s p b.rules.stated b.rest b.octets) ∙ rest-is k l s q c.rules.stated c.rest c.octets)

-- ---- what is accepted is a packet under the rules

module _ {H : Type 0} (k : Kind H) (l : KindLaws k) (s : List ℕ) (p : Packet H) (o : Octets s) (a : AcceptedAs k s p) where
  taken : Taken k (secondary_of k.size s)
  taken =
      let r = strict-says k (read_header s) (secondary_of k.size s) a.passes in
      record {
        octets = octets-take k.size (drop 6 s) (octets-drop 6 s o);
        sized = length-take-le k.size (drop 6 s) (rw length-drop (omega arith));
        versioned = r.1;
        ruled = r.2;
      }

  user-size : length (take (stated_of s - 2 - start_of k) (drop (start_of k) s)) ≡ stated_of s - 2 - start_of k
  user-size = length-take-le (stated_of s - 2 - start_of k) (drop (start_of k) s) (rw length-drop (omega arith))

  whole-packet : packet_of k (read_as k s (stated_of s)) ≡ take (stated_of s) s
  whole-packet = packet-back k l s (stated_of s) o a.frame taken a.verifies

  -- the length field is two octets, and so no packet is longer than 65,542 octets
  begins-back : BeginsWith k s (read_as k s (stated_of s))
  unfolding read_as
  begins-back =
      record {
        rules =
            record {
              stated = record { in-range = read-in-range s o; fits = l.dec-fits (secondary_of k.size s) taken; states-length = stated-total s ∙ omega (arith, user-size) };
              at_most = omega (arith, o 4, o 5, user-size);
              primary = (strict-says k (read_header s) (secondary_of k.size s) a.passes).0;
            };
        rest = drop (stated_of s) s;
        octets = sym (take-append-drop (stated_of s) s) ∙ ap (λ (x : List ℕ). x ++ drop (stated_of s) s) (sym whole-packet);
      }

module _ {H : Type 0} (k : Kind H) (l : KindLaws k) (s : List ℕ) (p : Packet H) (o : Octets s) (h : judge k s ≡ gives p) where
  -- read and written again, it is the same octets
  pub rewritten : take (stated_of s) s ≡ packet_of k p
  rewritten = let a = accepted k s p h in sym (ap (packet_of k) a.read ∙ whole-packet k l s p o a)

  -- what is accepted begins with the packet that is reported, as the written rules make it
  pub sound : BeginsWith k s p
  sound = let a = accepted k s p h in subst (BeginsWith k s) (sym a.read) (begins-back k l s p o a)

-- ---- exactly

-- the verdict accepts octets, and reports p, if and only if they begin with the packet p under the written rules
pub exact : {H : Type 0} (k : Kind H) → KindLaws k → (s : List ℕ) (p : Packet H) → Octets s → (judge k s ≡ gives p) ↔ BeginsWith k s p
exact k l s p o = (sound k l s p o, complete k l s p)
