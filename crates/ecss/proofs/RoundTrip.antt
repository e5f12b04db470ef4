-- A packet written reads back as itself, and octets that verify write back as themselves: for every kind, behind a check that comes
-- before all others and passes.
use Prim.Native.Nat.{ℕ, ◌+◌, ◌-◌, ◌/◌, ◌≤◌, ◌<◌}
use mathlib.Core.Path.{◌≡◌, refl, ap, ◌∙◌}
use mathlib.Core.Bool.{Bool, true, false}
use mathlib.Core.List.{List, ◌++◌}
use native.Mathlib.Omega.{arith}
use lib.ListN.{length, get_or, take, drop}
use lib.Seq.{take_at}
use Rattle.std.specs.Prelude.{Option, Some, None}
use Rattle.space_packet.specs.Answer.{Answer, Passed, gives}
use Rattle.space_packet.proofs.Answers.{gives_then, then-gives}
use Rattle.crc_register.specs.Crc.{crc_of}
use Rattle.ecss.specs.Frame.{Octets, trailer, closed, frame_after, checked_after, crc_taken, raw_part, data_part}
use Rattle.ecss.specs.Kind.{Kind, KindLaws, Packet, Stated, start_of, content_of, packet_of, secondary_of, read_as}
use Rattle.ecss.proofs.After.{secondary-length, octet-six}
use Rattle.ecss.proofs.Frames.{total-frame, checked-total, total-checked}
use Rattle.ecss.proofs.Pieces.{frame_is, data_is, stored_is, content-length, closed-length, octets-drop, octets-take, packet-back}
use Rattle.ecss.proofs.Sealed.{sealed-verifies}

-- ---- written, then read

-- the checksum of a packet, where it has one
abbrev pub checksum_of : Bool → List ℕ → Option ℕ
checksum_of true l = Some (crc_of l)
checksum_of false l = None

module _ {H : Type 0} (k : Kind H) (laws : KindLaws k) where
  -- the checksum is the one over the content
  pub crc-written : (b : Bool) (p : Packet H) (rest : List ℕ) → Stated k b p
      → crc_taken b (closed b (content_of k p) ++ rest) (start_of k + length p.user + trailer b) ≡ checksum_of b (content_of k p)
  crc-written true p rest r = ap Some (stored_is (content_of k p) rest _ (omega (arith, content-length k laws true p rest r)))
  crc-written false p rest r = refl

  module _ (first : Passed) (good : first ≡ gives tt) where
    -- with the choice of checksum that it was written with, and anything after it
    pub frame-written : (b : Bool) (p : Packet H) (rest : List ℕ) → Stated k b p
        → frame_after first (start_of k) (closed b (content_of k p) ++ rest) b ≡ gives (start_of k + length p.user + trailer b)
    unfolding frame_after
    frame-written b p rest r = gives_then _ _ tt good ∙ total-frame (start_of k) _ b _ (frame_is k laws b p rest r)

    -- and with a checksum, also where it is compared
    pub checked-written : (p : Packet H) (rest : List ℕ) → Stated k true p
        → checked_after first (start_of k) (packet_of k p ++ rest) ≡ gives (start_of k + length p.user + 2)
    unfolding checked_after
    checked-written p rest r =
        let v = ap crc_of (take_at (packet_of k p) rest _ (closed-length k laws true p rest r)) ∙ sealed-verifies (content_of k p) in
        gives_then _ _ tt good ∙ total-checked (start_of k) _ _ (frame_is k laws true p rest r) v

    pub data-written : (b : Bool) (p : Packet H) (rest : List ℕ) → Stated k b p
        → data_part (start_of k) b (frame_after first (start_of k) (closed b (content_of k p) ++ rest) b) (closed b (content_of k p) ++ rest) ≡ p.user
    data-written b p rest r =
        let s = closed b (content_of k p) ++ rest in
        let e : start_of k + length p.user + trailer b - trailer b - start_of k ≡ length p.user = omega arith in
        ap (λ (a : Answer ℕ). data_part (start_of k) b a s) (frame-written b p rest r)
        ∙ ap (λ (n : ℕ). take n (drop (start_of k) s)) e ∙ data_is k laws b p rest r

    pub raw-written : (b : Bool) (p : Packet H) (rest : List ℕ) → Stated k b p
        → raw_part (frame_after first (start_of k) (closed b (content_of k p) ++ rest) b) (closed b (content_of k p) ++ rest) ≡ closed b (content_of k p)
    raw-written b p rest r =
        ap (λ (a : Answer ℕ). raw_part a (closed b (content_of k p) ++ rest)) (frame-written b p rest r)
        ∙ take_at (closed b (content_of k p)) rest _ (closed-length k laws b p rest r)

  -- ---- read, then written

  -- octets that verify, whose version nibble is the kind's, and that pass its rule
  pub verified-written : (first : Passed) (s : List ℕ) (n : ℕ) → 0 < k.size → Octets s → checked_after first (start_of k) s ≡ gives n
      → get_or s 6 0 / 16 ≡ k.version → k.rule (secondary_of k.size s) ≡ gives tt → packet_of k (read_as k s n) ≡ take n s
  unfolding checked_after
  verified-written first s n z o p v u =
      let q = checked-total (start_of k) s n (then-gives first _ n p).2 in
      let l : start_of k ≤ length s = omega (arith, q.0.room, q.0.fits) in
      packet-back k laws s n o q.0
      (record {
        octets = octets-take k.size (drop 6 s) (octets-drop 6 s o);
        sized = secondary-length k.size s l;
        versioned = ap (λ (m : ℕ). m / 16) (octet-six k.size s z) ∙ v;
        ruled = u;
      })
      q.1
