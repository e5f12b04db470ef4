-- From the calls over encoded octets to a kind of packet: what an edition's functions cite.
use Prim.Native.Nat.{ℕ, ◌+◌, ◌-◌, ◌≤◌}
use mathlib.Core.Path.{◌≡◌, refl, sym, ap, ap₂, ◌∙◌}
use mathlib.Core.Bool.{Bool, true, false}
use mathlib.Core.List.{List, [], ◌++◌, append_assoc, append-nil}
use native.Mathlib.Omega.{arith}
use lib.ListN.{length, take}
use lib.Seq.{length-take-le, take_at}
use Rattle.std.specs.Prelude.{Some, None, Result}
use Rattle.space_packet.specs.Answer.{answer_of, Answer, Passed, Kept, gives, refuses, ◌then◌, set_if, and_then}
use Rattle.space_packet.specs.declared.PusError.{PusError}
use Rattle.space_packet.specs.Header.{header_octets, header_check, left_by}
use Rattle.space_packet.specs.Wrote.{Wrote}
use Rattle.space_packet.specs.declared.SpacePacketHeader.{SpacePacketHeader}
use Rattle.space_packet.proofs.Answers.{then-gives, then-of, set-in, left-written}
use Rattle.ecss.specs.Frame.{trailer, closed}
use Rattle.ecss.specs.Kind.{content_of}
use Rattle.ecss_write.specs.Write.{total_for, Asked, asks_answer, asked, asked_by, write_with, bare_with, put_with, put_octets, reserve_with, own_with, checksum_with, field_with, made_with, afresh_with, with_length, kept_with, headed_at}
use Rattle.ecss_write.specs.declared.packet.Asks.{Asks}
use Rattle.ecss_write.proofs.Written.{write-by-room, reserve-by-room, writes, reserves}
use Rattle.ecss_write.specs.Writer.{Writer, start_by, asked_of, content_by, octets_by, as_kind, check_by, new_by, afresh_by, write_by, bare_by, PutWrote, own_by, reserve_by, head_by, headed_by}

-- what an edition hands over: the three checks, and the octets s of its secondary header, which are such where it is not refused
pub record Hands {H : Type 0} (w : Writer H) (x : H) (a : Asks) (s : List ℕ) : Type 0 where
  pub asks-is : asks_answer a ≡ asked_of w x
  pub sized : w.first x ≡ gives tt → length s ≡ w.kind.size
  pub coded : w.first x ≡ gives tt → w.fields x ≡ gives tt → w.version x ≡ gives tt → s ≡ w.kind.enc x

-- so it hands over the octets l, as many of s as its secondary header has, where writing the header left s in the room z with the
-- answer o
module _ {H : Type 0} (w : Writer H) (x : H) (z s l : List ℕ) (n : ℕ) (o : Answer ℕ)
    (room : w.first x ≡ gives tt → w.kind.size ≤ length s) (sizes : w.first x ≡ gives tt → length (w.kind.enc x) ≡ w.kind.size)
    (passes : w.first x ≡ gives tt → w.fields x ≡ gives tt → w.version x ≡ gives tt → o ≡ gives w.kind.size)
    (left : s ≡ left_by o (w.kind.enc x) z) (en : n ≡ w.kind.size) (el : l ≡ take n s) where
  sized-by : w.first x ≡ gives tt → length l ≡ w.kind.size
  sized-by p = ap length el ∙ length-take-le n s (omega (arith, room p, en)) ∙ en

  coded-as : w.first x ≡ gives tt → w.fields x ≡ gives tt → w.version x ≡ gives tt → l ≡ w.kind.enc x
  coded-as p q v =
      el ∙ ap₂ take en (left ∙ left-written _ _ _ _ (passes p q v)) ∙ take_at (w.kind.enc x) _ _ (sizes p)

  pub hands-by : (a : Asks) → asks_answer a ≡ asked_of w x → Hands w x a l
  hands-by a p = record { asks-is = p; sized = sized-by; coded = coded-as }

-- ---- where the first check refuses, the start of the data counts for nothing

write-start : (first : Passed) (rest : Unit {0} → Passed) (v : Passed) (i j : ℕ) (b : Bool) (n m : ℕ) → (first ≡ gives tt → i ≡ j)
    → write_with (first then rest) v i b n m ≡ write_with (first then rest) v j b n m
unfolding and_then
write-start (refuses e) rest v i j b n m p = write-by-room (refuses e) v i b n m ∙ sym (write-by-room (refuses e) v j b n m)
write-start (gives u) rest v i j b n m p = ap (λ (k : ℕ). write_with (rest u) v k b n m) (p refl)

reserve-start : (first : Passed) (rest : Unit {0} → Passed) (v : Passed) (i j : ℕ) (b : Bool) (n m : ℕ) → (first ≡ gives tt → i ≡ j)
    → reserve_with (first then rest) v i b n m ≡ reserve_with (first then rest) v j b n m
unfolding and_then
reserve-start (refuses e) rest v i j b n m p = reserve-by-room (refuses e) v i b n m ∙ sym (reserve-by-room (refuses e) v j b n m)
reserve-start (gives u) rest v i j b n m p = ap (λ (k : ℕ). reserve_with (rest u) v k b n m) (p refl)

pub field-start : (first : Passed) (rest : Unit {0} → Passed) (i j : ℕ) (b : Bool) (n : ℕ) (set : Bool) (old : ℕ) → (first ≡ gives tt → i ≡ j)
    → field_with (first then rest) i b n set old ≡ field_with (first then rest) j b n set old
unfolding field_with and_then
field-start (refuses e) rest i j b n set old p = refl
field-start (gives u) rest i j b n set old p = ap (λ (k : ℕ). field_with (rest u) k b n set old) (p refl)

-- and where a write is refused, so do its octets
pub left-same : (a : Answer ℕ) (p q l : List ℕ) → ((n : ℕ) → a ≡ gives n → p ≡ q) → left_by a p l ≡ left_by a q l
left-same (refuses e) p q l f = refl
left-same (gives n) p q l f = ap (λ (z : List ℕ). left_by (gives n) z l) (f n refl)

pub headed-same : (i j : ℕ) (a : Answer ℕ) (p q l : List ℕ) → ((n : ℕ) → a ≡ gives n → (i ≡ j) × (p ≡ q)) → headed_at i a p l ≡ headed_at j a q l
headed-same i j (refuses e) p q l f = refl
headed-same i j (gives n) p q l f = ap₂ (λ (k : ℕ) (z : List ℕ). headed_at k (gives n) z l) (f n refl).0 (f n refl).1

module _ {H : Type 0} (w : Writer H) (h : SpacePacketHeader) (x : H) (a : Asks) (s : List ℕ) (k : Hands w x a s) where
  asked_is : asked_by a h ≡ check_by w h x
  asked_is = ap (λ (z : Asked). asked z.first h z.fields) k.asks-is

  content-is : (d : List ℕ) → s ≡ w.kind.enc x → header_octets h ++ s ++ d ≡ content_by w h x d
  unfolding content_of
  content-is d e = append_assoc (header_octets h) s d ∙ ap (λ (z : List ℕ). header_octets h ++ (z ++ d)) e

  coded_by : check_by w h x ≡ gives tt → w.version x ≡ gives tt → s ≡ w.kind.enc x
  coded_by p v =
      let c = then-gives (w.first x) _ tt p in
      k.coded c.1 (then-gives (header_check h) _ tt c.2).2 v

  write-is : (b : Bool) (n m : ℕ) → write_with (asked_by a h) (answer_of a.version) (6 + length s) b n m ≡ write_by w h x b n m
  write-is b n m =
      ap₂ (λ (p v : Passed). write_with p v (6 + length s) b n m) asked_is (ap (λ (z : Asked). z.version) k.asks-is)
      ∙ write-start (w.first x) _ (w.version x) (6 + length s) (start_by w) b n m (λ p. ap (λ (z : ℕ). 6 + z) (k.sized p))

  reserve-is : (b : Bool) (n m : ℕ) → reserve_with (asked_by a h) (answer_of a.version) (6 + length s) b n m ≡ reserve_by w h x b n m
  reserve-is b n m =
      ap₂ (λ (p v : Passed). reserve_with p v (6 + length s) b n m) asked_is (ap (λ (z : Asked). z.version) k.asks-is)
      ∙ reserve-start (w.first x) _ (w.version x) (6 + length s) (start_by w) b n m (λ p. ap (λ (z : ℕ). 6 + z) (k.sized p))

  write-coded : (b : Bool) (n m total : ℕ) → write_by w h x b n m ≡ gives total → s ≡ w.kind.enc x
  write-coded b n m total p = let u = writes _ _ (start_by w) b n m total p in coded_by u.before-passed u.after-passed

  -- ---- the calls

  module _ (b : Bool) (d l m : List ℕ) (r : Result ℕ PusError) where
    wrote : Wrote (write_with (asked_by a h) (answer_of a.version) (6 + length s) b (length d) (length l)) (closed b (header_octets h ++ s ++ d)) l r m
        → Wrote (write_by w h x b (length d) (length l)) (octets_by w h x b d) l r m
    wrote u =
        let e = write-is b (length d) (length l) in
        record {
          answered = u.answered ∙ e;
          left =
              u.left ∙ ap (λ (z : Answer ℕ). left_by z (closed b (header_octets h ++ s ++ d)) l) e
              ∙ left-same _ _ _ l (λ n p. ap (closed b) (content-is d (write-coded b (length d) (length l) n p)));
        }

    wrote-bare : Wrote (bare_with (asked_by a h) (answer_of a.version) (6 + length s) b (length d) (length l)) (header_octets h ++ s ++ d) l r m
        → Wrote (bare_by w h x b (length d) (length l)) (content_by w h x d) l r m
    wrote-bare u =
        let e = ap (λ (z : Answer ℕ). z then λ total. gives (total - trailer b)) (write-is b (length d) (length l)) in
        record {
          answered = u.answered ∙ e;
          left =
              u.left ∙ ap (λ (z : Answer ℕ). left_by z (header_octets h ++ s ++ d) l) e
              ∙ left-same (bare_by w h x b (length d) (length l)) _ _ l (λ n p. let q = then-gives (write_by w h x b (length d) (length l)) (λ total. gives (total - trailer b)) n p in content-is d (write-coded b (length d) (length l) q.0 q.1));
        }

    pub put-wrote : (bare : Bool)
        → Wrote (put_with bare (asked_by a h) (answer_of a.version) (6 + length s) b (length d) (length l)) (put_octets bare b (header_octets h ++ s ++ d)) l r m
        → PutWrote w bare h x b d l r m
    put-wrote true = wrote-bare
    put-wrote false = wrote

  own_same : (p v : Passed) (o q : List ℕ) → (p ≡ gives tt → v ≡ gives tt → o ≡ q) → own_with p v o ≡ own_with p v q
  unfolding own_with and_then
  own_same (refuses e) v o q f = refl
  own_same (gives u) (refuses e) o q f = refl
  own_same (gives u) (gives t) o q f = ap (own_with (gives u) (gives t)) (f refl refl)

  pub own : (d : List ℕ) → own_with (asked_by a h) (answer_of a.version) (header_octets h ++ s ++ d) ≡ own_by w h x d
  own d =
      ap₂ (λ (p v : Passed). own_with p v (header_octets h ++ s ++ d)) asked_is (ap (λ (z : Asked). z.version) k.asks-is)
      ∙ own_same (check_by w h x) (w.version x) _ _ (λ p v. content-is d (coded_by p v))

  pub headed : (b : Bool) (n : ℕ) (l m : List ℕ) → m ≡ headed_at (6 + length s) (reserve_with (asked_by a h) (answer_of a.version) (6 + length s) b n (length l)) (header_octets (with_length h (total_for (6 + length s) b n - 7)) ++ s) l
      → m ≡ headed_at (start_by w) (reserve_by w h x b n (length l)) (content_by w (with_length h (total_for (start_by w) b n - 7)) x []) l
  unfolding content_of
  headed b n l m u =
      let o : ℕ → List ℕ = λ z. header_octets (with_length h (total_for z b n - 7)) in
      u ∙ ap (λ (z : Answer ℕ). headed_at (6 + length s) z (o (6 + length s) ++ s) l) (reserve-is b n (length l))
      ∙ headed-same _ _ _ _ _ l (λ t p.
      let q = (reserves _ _ (start_by w) b n (length l) t p).0 in
      let c = then-gives (w.first x) _ tt q.before-passed in
      let i = ap (λ (z : ℕ). 6 + z) (k.sized c.1) in
      (i, ap₂ (λ (z : ℕ) (y : List ℕ). o z ++ y) i (coded_by q.before-passed q.after-passed ∙ sym (append-nil (w.kind.enc x)))))

-- ---- construction, the length set afresh, and reserving: on the header g, which has the kind's type and flag

afresh-start : (first : Passed) (rest : Unit {0} → Passed) (i j : ℕ) (b : Bool) (n : ℕ) (h : SpacePacketHeader) → (first ≡ gives tt → i ≡ j)
    → afresh_with (first then rest) i b n h ≡ afresh_with (first then rest) j b n h
unfolding afresh_with and_then set_if
afresh-start (refuses e) rest i j b n h p = refl
afresh-start (gives u) rest i j b n h p = ap (λ (k : ℕ). afresh_with (rest u) k b n h) (p refl)

module _ {H : Type 0} (w : Writer H) (h g : SpacePacketHeader) (x : H) (a : Asks) (s : List ℕ) (k : Hands w x a s) (b : Bool) (n : ℕ) where
  kind-same : (m : ℕ) → g ≡ as_kind w h → reserve_by w g x b n m ≡ reserve_by w h x b n m
  unfolding header_check
  kind-same m eg = ap (λ (z : SpacePacketHeader). reserve_by w z x b n m) eg

  pub reserve-answer : (m : ℕ) → g ≡ as_kind w h → reserve_with (asked_by a g) (answer_of a.version) (6 + length s) b n m ≡ reserve_by w h x b n m
  reserve-answer m eg = reserve-is w g x a s k b n m ∙ kind-same m eg

  pub reserve-left : (l m : List ℕ) → g ≡ as_kind w h
      → m ≡ headed_at (6 + length s) (reserve_with (asked_by a g) (answer_of a.version) (6 + length s) b n (length l)) (header_octets (with_length g (total_for (6 + length s) b n - 7)) ++ s) l
      → m ≡ headed_by w (reserve_by w h x b n (length l)) (head_by w h x b n) l
  reserve-left l m eg u =
      headed w g x a s k b n l m u
      ∙ ap₂ (λ (z : Answer ℕ) (q : SpacePacketHeader). headed_at (start_by w) z (content_by w (with_length q (total_for (start_by w) b n - 7)) x []) l) (kind-same (length l) eg) eg

-- the octets are not wanted for the length, only where the data starts
module _ {H : Type 0} (w : Writer H) (h : SpacePacketHeader) (x : H) (a : Asks) (start : ℕ) (b : Bool) (n : ℕ)
    (p : asks_answer a ≡ asked_of w x) (z : w.first x ≡ gives tt → start ≡ start_by w) where
  pub new_is : (set : Bool) → made_with (asked_by a (as_kind w h)) start b n set (as_kind w h) ≡ new_by w h x b set n
  new_is set =
      then-of _ _ _
      ((λ i. field_with (asked (p i).first (as_kind w h) (p i).fields) start b n set h.data_len)
      ∙ field-start (w.first x) _ start (start_by w) b n set h.data_len z)

  pub afresh : afresh_with (asked_by a h) start b n h ≡ afresh_by w h x b n
  afresh =
      (λ i. afresh_with (asked (p i).first h (p i).fields) start b n h)
      ∙ afresh-start (w.first x) _ start (start_by w) b n h z

-- ---- edits, and the checksum by the choice of one

-- an edit, in the record that holds what it edits
pub edit-in : {A B : Type 0} (f : A → B) (k : Kept A) (p : Passed) (old new : A) → k ≡ set_if p old new → kept_with f k ≡ set_if p (f old) (f new)
edit-in f k p old new e = ap (kept_with f) e ∙ set-in f p old new

-- what is kept, by what the check answers and what was set
pub kept_by : {A : Type 0} (k : Kept A) (p q : Passed) (old new set : A) → k ≡ set_if p old new → p ≡ q → new ≡ set → k ≡ set_if q old set
kept_by k p q old new set e f g = e ∙ ap₂ (λ z y. set_if z old y) f g

pub checksum-none : (b : Bool) (own : Answer ℕ) → b ≡ false → checksum_with b own ≡ gives None
unfolding checksum_with
checksum-none b own e = ap (λ (z : Bool). checksum_with z own) e

pub checksum-own : (b : Bool) (own : Answer ℕ) → b ≡ true → checksum_with b own ≡ (own then λ n. gives (Some n))
unfolding checksum_with
checksum-own b own e = ap (λ (z : Bool). checksum_with z own) e
