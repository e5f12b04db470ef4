-- What filling in the data of a reservation, and finishing it, leave of the buffer.
use Prim.Native.Nat.{ℕ, ◌+◌, ◌-◌, ◌≤◌}
use mathlib.Core.Path.{◌≡◌, sym, ap, ap₂, ◌∙◌}
use mathlib.Core.Bool.{Bool, true}
use mathlib.Core.List.{List, ◌++◌}
use native.Mathlib.Omega.{arith}
use lib.ListN.{length, take, drop, take-append-drop, length-drop}
use lib.Seq.{length-take-le}
use borrow.Rule.Slice.PartMut.{put_mid}
use Rattle.std.specs.Prelude.{Result}
use Rattle.space_packet.specs.Answer.{answer_of, Answer, gives, refuses, in_buffer}
use Rattle.space_packet.specs.declared.PusError.{PusError}
use Rattle.space_packet.specs.Header.{left_by}
use Rattle.space_packet.specs.Wrote.{Wrote}
use Rattle.space_packet.proofs.Answers.{gives_then, left-written}
use Rattle.ecss.specs.Frame.{trailer, sealed, closed}
use Rattle.ecss_write.specs.Write.{write_in}
use Rattle.ecss_write.proofs.Totals.{in-buffer-is, total-write}
use Rattle.ecss_write.proofs.Parts.{mid-filled}
use Rattle.reserve.specs.Reserve.{fill_in, filled_by, holds_in, finish_in, finished}
use Rattle.reserve.specs.declared.Reservation.{Reservation}
use Rattle.reserve.specs.declared.Bounds.{Bounds}
use Rattle.reserve.proofs.Reserved.{BoundsAre, holds-in}

-- what filling in answers, by the room between the bounds
pub fill-answer : (start : ℕ) (r : Reservation) (m n : ℕ) (b : Bounds) (a : Answer ℕ) → BoundsAre start r m b
    → in_buffer (b.end - b.start) n ≡ a → fill_in start r m n ≡ a
unfolding fill_in
fill-answer start r m n b a q v =
    gives_then _ _ tt q.held ∙ ap₂ (λ (x y : ℕ). in_buffer (x - y) n) (sym q.ends) (sym q.starts) ∙ v

pub fill-by : (a : Answer ℕ) (start : ℕ) (d m : List ℕ) (a' : Answer ℕ) → a ≡ a' → filled_by a start d m ≡ filled_by a' start d m
fill-by a start d m a' e = ap (λ (z : Answer ℕ). filled_by z start d m) e

-- a part given back as it was lent
put_back : (a k : ℕ) (m y : List ℕ) → y ≡ take k (drop a m) → put_mid a k m y ≡ m
put_back a k m y p =
    ap (λ (z : List ℕ). take a m ++ (z ++ drop k (drop a m))) p
    ∙ ap (λ (z : List ℕ). take a m ++ z) (take-append-drop k (drop a m)) ∙ take-append-drop a m

fill-left : (start : ℕ) (r : Reservation) (m d y : List ℕ) (b : Bounds) (a : Answer ℕ) → BoundsAre start r (length m) b
    → in_buffer (b.end - b.start) (length d) ≡ a → y ≡ left_by a d (take (b.end - b.start) (drop b.start m))
    → put_mid b.start (b.end - b.start) m y ≡ filled_by a start d m
fill-left start r m d y b (refuses e) q v p = put_back b.start (b.end - b.start) m y p
fill-left start r m d y b (gives n) q v p =
    let i = in-buffer-is (b.end - b.start) (length d) n v in
    mid-filled b.start (b.end - b.start) m d y i.1 (p ∙ ap (λ (k : ℕ). d ++ drop k (take (b.end - b.start) (drop b.start m))) i.0)
    ∙ ap₂ (λ (x z : ℕ). take x m ++ d ++ drop (x + z) m) q.starts (sym i.0)

-- the middle of the buffer, filled in
pub fill-wrote : (start : ℕ) (r : Reservation) (m d y : List ℕ) (b : Bounds) (o : Result ℕ PusError) → BoundsAre start r (length m) b
    → Wrote (in_buffer (length (take (b.end - b.start) (drop b.start m))) (length d)) d (take (b.end - b.start) (drop b.start m)) o y
    → (answer_of o ≡ fill_in start r (length m) (length d))
    × (put_mid b.start (b.end - b.start) m y ≡ filled_by (fill_in start r (length m) (length d)) start d m)
fill-wrote start r m d y b o q w =
    let h : b.end - b.start ≤ length (drop b.start m) = omega (arith, q.starts, q.ends, q.room, q.fits, length-drop b.start m) in
    let v = ap (λ (k : ℕ). in_buffer k (length d)) (sym (length-take-le (b.end - b.start) (drop b.start m) h)) in
    let f = fill-answer start r (length m) (length d) b _ q v in
    (w.answered ∙ sym f, fill-left start r m d y b _ q v w.left ∙ sym (fill-by _ start d m _ f))

finished-by : (r : Reservation) (m : List ℕ) (b : Bool) → r.has_checksum ≡ b → finished r m ++ drop r.total m ≡ closed b (take (r.total - trailer b) m) ++ drop r.total m
finished-by r m b h = ap (λ (x : Bool). closed x (take (r.total - trailer x) m) ++ drop r.total m) h

-- finishing, with a checksum and without
pub finish-sealed : (start : ℕ) (r : Reservation) (m y : List ℕ) (o : Result ℕ PusError) → holds_in start r (length m) ≡ gives tt
    → r.has_checksum ≡ true → length m ≤ 18446744073709551615
    → Wrote (write_in start true (r.total - 2 - r.start) (length m)) (sealed (take (start + (r.total - 2 - r.start)) m)) m o y
    → Wrote (finish_in start r (length m)) (finished r m) m o y
unfolding finish_in
finish-sealed start r m y o p t l w =
    let h = holds-in start r (length m) p in
    let n = r.total - 2 - r.start in
    let e : start + n ≡ r.total - 2 = omega (arith, h.0.starts, h.0.room, ap trailer t) in
    let k : r.total ≡ start + n + 2 = omega (arith, h.0.starts, h.0.room, ap trailer t) in
    let a = total-write start true n (length m) r.total (record { is = k; fits = h.1 }) l in
    let b = gives_then _ _ tt p in
    record {
      answered = w.answered ∙ a ∙ sym b;
      left =
          w.left ∙ left-written _ _ _ _ a ∙ ap (λ (x : ℕ). sealed (take x m) ++ drop r.total m) e
          ∙ sym (finished-by r m true t) ∙ sym (left-written _ _ _ _ b);
    }
