-- The answers of the write path, and how a packet is put together in a buffer: the headers, the data, the checksum.
use Prim.Native.Nat.{ℕ, ◌+◌, ◌-◌, ◌≤◌}
use mathlib.Core.Path.{◌≡◌, refl, sym, ap, ap₂, ◌∙◌}
use mathlib.Core.Bool.{Bool, true, false}
use mathlib.Core.List.{List, [], ◌++◌, append-nil}
use native.Mathlib.Omega.{arith}
use lib.ListN.{length, take, drop, length-append, length-take, length-drop, drop_of_length-le}
use borrow.Author.Tests.{ltb-false, le-ltb}
use borrow.Rule.Slice.PartMut.{put_mid}
use Rattle.std.specs.Prelude.{Result}
use Rattle.space_packet.specs.Answer.{answer_of, Numbers, Answer, Passed, gives, refuses, ◌then◌, in_buffer, and_then}
use Rattle.space_packet.specs.declared.PusError.{PusError}
use Rattle.crc.specs.Digest.{digest_of, taken, checksum_held}
use Rattle.crc.specs.declared.Digest.{Digest}
use Rattle.crc.proofs.Parts.{digest-parts}
use Rattle.space_packet.specs.Header.{left_by, header_check, header_octets, header_write}
use Rattle.space_packet.specs.Wrote.{Wrote}
use Rattle.space_packet.specs.declared.SpacePacketHeader.{SpacePacketHeader}
use Rattle.space_packet.proofs.Answers.{gives-inj, refuse-no, refuse-gives, then-gives, gives_then, then-refused, left-refused, left-written, kept_new}
use Rattle.space_packet.proofs.RoundTrip.{length-header_octets}
use Rattle.ecss.specs.Frame.{trailer, sealed, closed}
use Rattle.ecss_write.specs.Write.{total_for, machine_total, limited, length_field, write_in, asked, headed_at, write_with, bare_with, reserve_with, own_with, with_length, field_with, afresh_with}
use Rattle.ecss_write.proofs.Parts.{mid-filled}
use Rattle.ecss_write.proofs.Totals.{length-total, total-length, field_is, write-total, total-write}
use Rattle.ecss_write.proofs.Over.{over-take, over-drop, over-more}

-- ---- the length field

pub field-total : (start : ℕ) (b : Bool) (n f : ℕ) → length_field start b n ≡ gives f → (f ≡ total_for start b n - 7) × (total_for start b n ≤ 65542)
unfolding length_field
field-total start b n f p =
    let t = then-gives (machine_total start b n) _ f p in
    let u = then-gives (limited n t.0) _ f t.2 in
    let e : t.0 ≡ total_for start b n = length-total start b n t.0 t.1 in
    let g : t.0 ≤ 65542 = ltb-false 65542 t.0 (refuse-gives _ _ _ _ u.1).0 in
    (sym (gives-inj _ f u.2) ∙ ap (λ (x : ℕ). x - 7) e, omega arith)

pub field-stated : (start : ℕ) (b : Bool) (n : ℕ) → total_for start b n ≤ 65542 → length_field start b n ≡ gives (total_for start b n - 7)
field-stated start b n h = field_is start b n (total_for start b n) _ (total-length start b n _ refl (omega arith)) h refl

passed-by : (c : Passed) (a : Answer ℕ) → ◌≡◌ {A = Passed} (c then λ _. a then λ _. gives tt) ((c then λ _. a) then λ _. gives tt)
unfolding and_then
passed-by (refuses e) a = refl
passed-by (gives u) a = refl

module _ (before : Passed) (start : ℕ) (b : Bool) (n old : ℕ) (h : SpacePacketHeader) where
  pub afresh-set : (f : ℕ) (k : SpacePacketHeader) → field_with before start b n true old ≡ gives f → k ≡ with_length h f → record { passed = gives tt; kept = k } ≡ afresh_with before start b n h
  unfolding field_with afresh_with
  afresh-set f k p q =
      let w = passed-by before (length_field start b n) ∙ gives_then _ _ f p in
      let l = then-gives before _ f p in
      ap (λ (z : SpacePacketHeader). record { passed = gives tt; kept = z }) (q ∙ ap (with_length h) (field-total start b n f l.2).0)
      ∙ kept_new _ _ _ _ (sym w) w

-- ---- the checks, by what is asked up to the room: by cases on what is asked, not by how the definition groups it

pub write-by-room : (before after : Passed) (start : ℕ) (b : Bool) (n m : ℕ)
    → write_with before after start b n m ≡ ((before then λ _. write_in start b n m) then λ total. after then λ _. gives total)
unfolding write_with and_then
write-by-room (refuses e) after start b n m = refl
write-by-room (gives u) (refuses e) start b n m = refl
write-by-room (gives u) (gives t) start b n m = refl

pub reserve-by-room : (before after : Passed) (start : ℕ) (b : Bool) (n m : ℕ)
    → reserve_with before after start b n m ≡ ((before then λ _. write_in start b n m) then λ total. limited n total then λ _. after then λ _. gives total)
unfolding reserve_with and_then
reserve-by-room (refuses e) after start b n m = refl
reserve-by-room (gives u) (refuses e) start b n m = refl
reserve-by-room (gives u) (gives t) start b n m = refl

-- ---- what a write and a reservation passed

pub record Writes (before after : Passed) (start : ℕ) (b : Bool) (n m total : ℕ) : Type 0 where
  pub before-passed : before ≡ gives tt
  pub after-passed : after ≡ gives tt
  pub is : total ≡ total_for start b n
  pub fits : total ≤ m

module _ (before after : Passed) (start : ℕ) (b : Bool) (n m total : ℕ) where
  -- what is asked up to the room, and last
  passed : (t : ℕ) → (before then λ _. write_in start b n m) ≡ gives t → (after then λ _. gives t) ≡ gives total → Writes before after start b n m total
  passed t p q =
      let w = then-gives before _ t p in
      let v = then-gives after _ total q in
      let e = gives-inj t total v.2 in
      let i = write-total start b n m t w.2 in
      record { before-passed = w.1; after-passed = v.1; is = sym e ∙ i.is; fits = omega (arith, e, i.fits) }

  room-given : Writes before after start b n m total → m ≤ 18446744073709551615 → (before then λ _. write_in start b n m) ≡ gives total
  room-given w k = gives_then _ _ tt w.before-passed ∙ total-write start b n m total (record { is = w.is; fits = w.fits }) k

  pub writes : write_with before after start b n m ≡ gives total → Writes before after start b n m total
  writes p =
      let w = then-gives (before then λ _. write_in start b n m) _ total (sym (write-by-room before after start b n m) ∙ p) in
      passed w.0 w.1 w.2

  pub write-given : Writes before after start b n m total → m ≤ 18446744073709551615 → write_with before after start b n m ≡ gives total
  write-given w k = write-by-room before after start b n m ∙ gives_then _ _ total (room-given w k) ∙ gives_then _ _ tt w.after-passed

  pub reserves : reserve_with before after start b n m ≡ gives total → Writes before after start b n m total × (total ≤ 65542)
  reserves p =
      let w = then-gives (before then λ _. write_in start b n m) _ total (sym (reserve-by-room before after start b n m) ∙ p) in
      let s = then-gives (limited n w.0) _ total w.2 in
      let g : w.0 ≤ 65542 = ltb-false 65542 w.0 (refuse-gives _ _ _ _ s.1).0 in
      let e : w.0 ≡ total = gives-inj w.0 total (then-gives after _ total s.2).2 in
      (passed w.0 w.1 s.2, omega arith)

  pub reserve-given : Writes before after start b n m total → m ≤ 18446744073709551615 → total ≤ 65542 → reserve_with before after start b n m ≡ gives total
  reserve-given w k s =
      reserve-by-room before after start b n m
      ∙ gives_then _ _ total (room-given w k)
      ∙ gives_then _ _ total (refuse-no _ _ _ (le-ltb 65542 total s))
      ∙ gives_then _ _ tt w.after-passed

  -- without the checksum it answers where the data ends
  pub bare-gives : write_with before after start b n m ≡ gives total → bare_with before after start b n m ≡ gives (start + n)
  bare-gives p =
      let w = writes p in
      let e : total ≡ start + n + trailer b = w.is in
      gives_then _ _ total p ∙ ap gives (omega arith)

-- with the checksum off the two answers agree
turned_same : (a : Answer ℕ) (b : Bool) → b ≡ false → (a then λ x. gives (x - trailer b)) ≡ a
unfolding and_then
turned_same (refuses e) b p = refl
turned_same (gives x) b p = ap gives (omega (arith, ap trailer p))

pub bare-is-write : (before after : Passed) (start : ℕ) (b : Bool) (n m : ℕ) → b ≡ false → bare_with before after start b n m ≡ write_with before after start b n m
bare-is-write before after start b n m p = turned_same (write_with before after start b n m) b p

-- ---- the checksum behind the headers and the data, which are the octets o

module _ (before after : Passed) (start : ℕ) (b : Bool) (n : ℕ) (o l : List ℕ) (z : length o ≡ start + n) where
  -- none
  pub open-wrote : (y : List ℕ) (r : Result ℕ PusError) → b ≡ false
      → Wrote (bare_with before after start b n (length l)) o l r y → Wrote (write_with before after start b n (length l)) (closed b o) l r y
  open-wrote y r h w =
      let e = bare-is-write before after start b n (length l) h in
      record { answered = w.answered ∙ e; left = w.left ∙ ap₂ (λ (a : Answer ℕ) (c : Bool). left_by a (closed c o) l) e (sym h) }

  pub refused-wrote : (y : List ℕ) (r : Result ℕ PusError) (e : Numbers) → answer_of r ≡ refuses e
      → Wrote (bare_with before after start b n (length l)) o l r y → Wrote (write_with before after start b n (length l)) (closed b o) l r y
  refused-wrote y r e p w =
      let a = sym w.answered ∙ p in
      let c = then-refused (write_with before after start b n (length l)) _ e a in
      record { answered = p ∙ sym c; left = w.left ∙ left-refused _ _ _ _ a ∙ sym (left-refused _ _ _ _ c) }

  -- one
  pub sealed-wrote : (m y : List ℕ) (r : Result ℕ PusError) (q : ℕ) → b ≡ true → bare_with before after start b n (length l) ≡ gives q
      → length m ≡ length l → length l ≤ 18446744073709551615 → m ≡ left_by (bare_with before after start b n (length l)) o l
      → Wrote (write_in start true n (length m)) (sealed (take (start + n) m)) m r y
      → Wrote (write_with before after start b n (length l)) (closed b o) l r y
  sealed-wrote m y r q h p lm big i w =
      let v = then-gives (write_with before after start b n (length l)) _ q p in
      let total = v.0 in
      let g = v.1 in
      let u = writes before after start b n (length l) total g in
      let e : total ≡ start + n + 2 = u.is ∙ ap (λ (x : Bool). start + n + trailer x) h in
      let a = total-write start true n (length m) total (record { is = e; fits = omega (arith, u.fits) }) (omega arith) in
      let j = i ∙ left-written _ _ _ _ (bare-gives before after start b n (length l) total g) in
      record {
        answered = w.answered ∙ a ∙ sym g;
        left =
            w.left ∙ left-written _ _ _ _ a
            ∙ ap₂ (λ (x y : List ℕ). sealed x ++ y) (over-take o l m _ z j)
            (ap (λ (x : ℕ). drop x m) e ∙ over-drop o l m _ 2 z j ∙ ap (λ (x : ℕ). drop x l) (sym e))
            ∙ ap (λ (x : Bool). closed x o ++ drop total l) (sym h)
            ∙ sym (left-written _ _ _ _ g);
      }

-- ---- the checksum over the headers and the data, with no buffer: over three parts one after the other

pub own-given : (before after : Passed) (x m y d : List ℕ) (n : ℕ) (a b c e : Digest) → before ≡ gives tt → after ≡ gives tt
    → m ≡ x → a ≡ digest_of [] → b ≡ taken a m → c ≡ taken b y → e ≡ taken c d → n ≡ checksum_held e
    → gives n ≡ own_with before after (x ++ y ++ d)
unfolding own_with
own-given before after x m y d n a b c e p v em ea eb ec ee en =
    let f : b ≡ digest_of x = eb ∙ ap₂ taken ea em ∙ digest-parts [] x in
    let g : c ≡ digest_of (x ++ y) = ec ∙ ap (λ (z : Digest). taken z y) f ∙ digest-parts x y in
    let i : e ≡ digest_of (x ++ y ++ d) = ee ∙ ap (λ (z : Digest). taken z d) g ∙ digest-parts (x ++ y) d in
    ap gives (en ∙ ap checksum_held i) ∙ sym (gives_then _ _ tt p ∙ gives_then _ _ tt v)

-- ---- the parts of a buffer

header-gives : (h : SpacePacketHeader) (n : ℕ) → header_check h ≡ gives tt → 6 ≤ n → header_write h n ≡ gives 6
unfolding header_write
header-gives h n p k = gives_then _ _ tt p ∙ refuse-no _ _ _ (le-ltb n 6 k)

-- the part of a buffer from a on
abbrev pub behind : ℕ → List ℕ → List ℕ
behind a m = take (length m - a) (drop a m)

-- octets d filled in there from its start
pub fill-left : (a : ℕ) (m d y : List ℕ) → a + length d ≤ length m → y ≡ left_by (in_buffer (length (behind a m)) (length d)) d (behind a m)
    → put_mid a (length m - a) m y ≡ take a m ++ d ++ drop (a + length d) m
fill-left a m d y k q =
    let j : length d ≤ length (behind a m) = simp (length-take, length-drop) (omega arith) in
    mid-filled a (length m - a) m d y (omega arith) (q ∙ left-written _ _ _ _ (refuse-no _ _ _ (le-ltb (length (behind a m)) (length d) j)))

-- both headers
pub head-left : (h : SpacePacketHeader) (s l m y : List ℕ) → header_check h ≡ gives tt → 6 + length s ≤ length l → length m ≡ length l
    → m ≡ left_by (header_write h (length l)) (header_octets h) l → y ≡ left_by (in_buffer (length (behind 6 m)) (length s)) s (behind 6 m)
    → put_mid 6 (length m - 6) m y ≡ header_octets h ++ s ++ drop (6 + length s) l
head-left h s l m y c k e q r =
    let i = q ∙ left-written _ _ _ _ (header-gives h (length l) c (omega arith)) in
    fill-left 6 m s y (omega arith) r ∙ over-more (header_octets h) s l m 6 (length-header_octets h) i

pub head-length : (h : SpacePacketHeader) (s : List ℕ) → length (header_octets h ++ s) ≡ 6 + length s
head-length h s = omega (arith, length-append (header_octets h) s, length-header_octets h)

pub content-length : (h : SpacePacketHeader) (s d : List ℕ) → length (header_octets h ++ s ++ d) ≡ 6 + length s + length d
content-length h s d = omega (arith, length-append (header_octets h ++ s) d, head-length h s)

-- the data behind them
pub bare-wrote : (before after : Passed) (h : SpacePacketHeader) (s d l m y : List ℕ) (b : Bool) (r : Result ℕ PusError) (total : ℕ) → write_with before after (6 + length s) b (length d) (length l) ≡ gives total
    → m ≡ header_octets h ++ s ++ drop (6 + length s) l → y ≡ take (6 + length s) m ++ d ++ drop (6 + length s + length d) m → answer_of r ≡ gives (6 + length s + length d)
    → Wrote (bare_with before after (6 + length s) b (length d) (length l)) (header_octets h ++ s ++ d) l r y
bare-wrote before after h s d l m y b r total p em ey er =
    let g = bare-gives before after (6 + length s) b (length d) (length l) total p in
    record { answered = er ∙ sym g; left = ey ∙ over-more (header_octets h ++ s) d l m (6 + length s) (head-length h s) em ∙ sym (left-written _ _ _ _ g) }

-- what is asked before the room has the primary header in range, whatever its length field
pub head-asked : (first fields : Passed) (h : SpacePacketHeader) → asked first h fields ≡ gives tt → header_check h ≡ gives tt
head-asked first fields h p = (then-gives (header_check h) _ tt (then-gives first _ tt p).2).1

pub length-asked : (h g : SpacePacketHeader) (n : ℕ) → header_check h ≡ gives tt → g ≡ with_length h n → header_check g ≡ gives tt
unfolding header_check
length-asked h g n p e = ap header_check e ∙ p

-- the primary header alone, in six octets
pub own-head : (h : SpacePacketHeader) (z m : List ℕ) → header_check h ≡ gives tt → length z ≡ 6 → m ≡ left_by (header_write h (length z)) (header_octets h) z → m ≡ header_octets h
own-head h z m p e q =
    let f : length z ≤ 6 = omega arith in
    let d : drop 6 z ≡ [] = drop_of_length-le z f in
    q ∙ left-written _ _ _ _ (header-gives h (length z) p (omega arith))
    ∙ ap (λ (y : List ℕ). header_octets h ++ y) d ∙ append-nil (header_octets h)

-- what a reservation leaves
pub headed-by : (start : ℕ) (a a' : Answer ℕ) (head l : List ℕ) → a ≡ a' → headed_at start a head l ≡ headed_at start a' head l
headed-by start a a' head l e = ap (λ (z : Answer ℕ). headed_at start z head l) e

pub headed-wrote : (before after : Passed) (h g : SpacePacketHeader) (s l y : List ℕ) (b : Bool) (n total : ℕ) → reserve_with before after (6 + length s) b n (length l) ≡ gives total
    → g ≡ with_length h (total - 7) → y ≡ header_octets g ++ s ++ drop (6 + length s) l
    → y ≡ headed_at (6 + length s) (reserve_with before after (6 + length s) b n (length l)) (header_octets (with_length h (total_for (6 + length s) b n - 7)) ++ s) l
headed-wrote before after h g s l y b n total p eg ey =
    let e = (reserves before after (6 + length s) b n (length l) total p).0.is in
    ey ∙ ap (λ (z : SpacePacketHeader). header_octets z ++ s ++ drop (6 + length s) l) (eg ∙ ap (λ (k : ℕ). with_length h (k - 7)) e)
    ∙ sym (headed-by (6 + length s) _ _ _ l p)
