-- A packet's octets taken apart and put together again, for every kind.
use Prim.Native.Nat.{ℕ, zero, suc, ◌+◌, ◌-◌, ◌≤◌, ◌<◌}
use mathlib.Core.Path.{◌≡◌, refl, sym, ap, ap₂, ◌∙◌, subst}
use mathlib.Core.Bool.{Bool, true, false}
use mathlib.Core.List.{List, [], ◌∷◌, ◌++◌, append_assoc, append-nil}
use native.Mathlib.Omega.{arith}
use lib.Dec.{lit<}
use lib.ListN.{length, get_or, take, drop, length-append}
use lib.Seq.{take_at, drop_at, take-add, drop-drop, get_or-drop, get_or-append-add}
use Rattle.space_packet.specs.Bits.{be16}
use Rattle.space_packet.specs.Header.{header_octets, read_header, packet_len}
use Rattle.space_packet.proofs.RoundTrip.{read-written, written_read, stated-total, length-header_octets}
use Rattle.crc_register.specs.Crc.{crc_of}
use Rattle.ecss.specs.Frame.{Octets, trailer, sealed, closed, stated_of, stored_of}
use Rattle.ecss.specs.Kind.{Kind, KindLaws, Taken, Packet, Stated, start_of, content_of, packet_of, secondary_of, read_as}
use Rattle.ecss.proofs.Frames.{FrameIs}
use Rattle.ecss.proofs.Sealed.{verifies-sealed, take-two}

-- ---- written, then read

-- what a packet ends with
trailer_of : Bool → List ℕ → List ℕ
trailer_of true l = be16 (crc_of l)
trailer_of false l = []

closed_is : (b : Bool) (l : List ℕ) → closed b l ≡ l ++ trailer_of b l
unfolding trailer_of sealed
closed_is true l = refl
closed_is false l = sym (append-nil l)

trailer-length : (b : Bool) (l : List ℕ) → length (trailer_of b l) ≡ trailer b
unfolding trailer_of
trailer-length true l = refl
trailer-length false l = refl

regroup : (a x u z rest : List ℕ) → (a ++ (x ++ u)) ++ z ++ rest ≡ a ++ (x ++ (u ++ (z ++ rest)))
regroup a x u z rest = simp append_assoc

module _ {H : Type 0} (c : Kind H) (b : Bool) (p : Packet H) (rest : List ℕ) (w : Stated c b p) where
  -- the octets, and what follows the data in them
  abbrev pub octets_of : List ℕ
  octets_of = closed b (content_of c p) ++ rest

  after : List ℕ
  after = trailer_of b (content_of c p) ++ rest

  pieces : octets_of ≡ header_octets p.primary ++ (c.enc p.secondary ++ (p.user ++ after))
  unfolding after content_of
  pieces =
      ap (λ (l : List ℕ). l ++ rest) (closed_is b (content_of c p))
      ∙ regroup (header_octets p.primary) (c.enc p.secondary) p.user (trailer_of b (content_of c p)) rest

  pub primary-is : read_header octets_of ≡ p.primary
  primary-is = ap read_header pieces ∙ read-written p.primary (c.enc p.secondary ++ (p.user ++ after)) w.in-range

  pub states : stated_of octets_of ≡ start_of c + length p.user + trailer b
  states = sym (stated-total octets_of) ∙ ap packet_len primary-is ∙ w.states-length

  behind-primary : drop 6 octets_of ≡ c.enc p.secondary ++ (p.user ++ after)
  behind-primary =
      ap (drop 6) pieces ∙ drop_at (header_octets p.primary) (c.enc p.secondary ++ (p.user ++ after)) 6 (length-header_octets p.primary)

module _ {H : Type 0} (c : Kind H) (k : KindLaws c) (b : Bool) (p : Packet H) (rest : List ℕ) (w : Stated c b p) where
  secondary-length : length (c.enc p.secondary) ≡ c.size
  secondary-length = k.enc-size p.secondary w.fits

  pub secondary-octets : secondary_of c.size (octets_of c b p rest w) ≡ c.enc p.secondary
  secondary-octets =
      ap (take c.size) (behind-primary c b p rest w)
      ∙ take_at (c.enc p.secondary) (p.user ++ after c b p rest w) c.size secondary-length

  pub secondary-is : c.dec (secondary_of c.size (octets_of c b p rest w)) ≡ p.secondary
  secondary-is = ap c.dec secondary-octets ∙ k.dec-enc p.secondary w.fits

  behind-secondary : drop (start_of c) (octets_of c b p rest w) ≡ p.user ++ after c b p rest w
  behind-secondary =
      sym (drop-drop c.size 6 (octets_of c b p rest w)) ∙ ap (drop c.size) (behind-primary c b p rest w)
      ∙ drop_at (c.enc p.secondary) (p.user ++ after c b p rest w) c.size secondary-length

  pub content-length : length (content_of c p) ≡ start_of c + length p.user
  unfolding content_of
  content-length = simp length-append (omega (arith, secondary-length, length-header_octets p.primary))

  pub closed-length : length (closed b (content_of c p)) ≡ start_of c + length p.user + trailer b
  closed-length = ap length (closed_is b (content_of c p)) ∙ simp length-append (omega (arith, content-length, trailer-length b (content_of c p)))

  pub frame_is : FrameIs (start_of c) (octets_of c b p rest w) b (start_of c + length p.user + trailer b)
  frame_is =
      let l = length-append (closed b (content_of c p)) rest in
      record { is = sym (states c b p rest w); room = omega arith; fits = omega (arith, closed-length) }

  pub data_is : take (length p.user) (drop (start_of c) (octets_of c b p rest w)) ≡ p.user
  data_is = ap (take (length p.user)) behind-secondary ∙ take_at p.user (after c b p rest w) (length p.user) refl

-- the checksum that sealed octets store
pub stored_is : (l rest : List ℕ) (n : ℕ) → n ≡ length l + 2 → stored_of (sealed l ++ rest) n ≡ crc_of l
unfolding sealed
stored_is l rest n e =
    let m : n - 2 ≡ length l + 0 = omega arith in
    let m' : n - 2 + 1 ≡ length l + 1 = omega arith in
    let a = append_assoc l (be16 (crc_of l)) rest in
    let p = ap₂ (λ (s : List ℕ) (i : ℕ). get_or s i 0) a m ∙ get_or-append-add l (be16 (crc_of l) ++ rest) 0 0 in
    let q = ap₂ (λ (s : List ℕ) (i : ℕ). get_or s i 0) a m' ∙ get_or-append-add l (be16 (crc_of l) ++ rest) 1 0 in omega (arith, p, q)

-- ---- read, then written

pub octets-drop : (k : ℕ) (s : List ℕ) → Octets s → Octets (drop k s)
octets-drop k s o i = subst (λ (x : ℕ). x < 256) (sym (get_or-drop k s i 0)) (o (k + i))

pub octets-take : (k : ℕ) (s : List ℕ) → Octets s → Octets (take k s)
octets-take zero s o i = lit< tt
octets-take (suc k) [] o i = lit< tt
octets-take (suc k) (x ∷ s) o zero = o 0
octets-take (suc k) (x ∷ s) o (suc i) = octets-take k s (λ j. o (suc j)) i

module _ {H : Type 0} (c : Kind H) (k : KindLaws c) (s : List ℕ) (n : ℕ) (o : Octets s) (f : FrameIs (start_of c) s true n) (r : Taken c (secondary_of c.size s)) where
  content-back : content_of c (read_as c s n) ≡ take (n - 2) s
  unfolding read_as content_of
  content-back =
      let h : start_of c + 2 ≤ n = f.room in
      let l : n ≤ length s = f.fits in
      let u = take (n - 2 - start_of c) (drop (start_of c) s) in
      let m : start_of c + (n - 2 - start_of c) ≡ n - 2 = omega arith in
      sym (append_assoc (header_octets (read_header s)) (c.enc (c.dec (secondary_of c.size s))) u)
      ∙ ap (λ (x : List ℕ). x ++ c.enc (c.dec (secondary_of c.size s)) ++ u) (written_read s (omega arith) o)
      ∙ ap (λ (x : List ℕ). take 6 s ++ x ++ u) (k.enc-dec (secondary_of c.size s) r)
      ∙ ap (λ (x : List ℕ). x ++ u) (sym (take-add 6 c.size s))
      ∙ sym (take-add (start_of c) (n - 2 - start_of c) s)
      ∙ ap (λ (x : ℕ). take x s) m

  pub packet-back : crc_of (take n s) ≡ 0 → packet_of c (read_as c s n) ≡ take n s
  packet-back v =
      let h : start_of c + 2 ≤ n = f.room in
      let l : n ≤ length s = f.fits in
      let m : n ≡ n - 2 + 2 = omega arith in
      let e : take n s ≡ take (n - 2) s ++ _ = ap (λ (x : ℕ). take x s) m ∙ take-two s (n - 2) (omega arith) in
      ap sealed content-back ∙ sym (e ∙ verifies-sealed (take (n - 2) s) _ _ (o (n - 2)) (o (n - 2 + 1)) (sym (ap crc_of e) ∙ v))
