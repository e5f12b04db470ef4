-- What the customer asks of a strict verdict, and of what is written, for every kind k of packet. The written rules are `Rules k p`, and
-- that octets s begin with the packet of p under them is `BeginsWith k s p` (`ecss`, specs/Kind.antt); p is two headers and data.
use Rattle.std.specs.Prelude.{ℕ, ◌+◌, ◌≤◌, ◌≡◌, ◌↔◌, Bool, true, List, [], ◌++◌, length, drop, Result, Ok}
use Rattle.space_packet.specs.declared.PusError.{PusError}
use Rattle.space_packet.specs.Answer.{Answer, Numbers, gives, refuses, refusal}
use Rattle.space_packet.specs.Wrote.{Wrote}
use Rattle.ecss.specs.Frame.{stated_of, Told}
use Rattle.ecss.specs.Kind.{Kind, Packet, Rules, BeginsWith, as_idle, start_of, packet_of}
use Rattle.ecss_write.specs.Writer.{Writer, packet_by, start_by, made_by, reserve_by, head_by, headed_by}
use Rattle.reserve.specs.Reserve.{fill_in, filled_by, finish_in, finished}
use Rattle.reserve.specs.declared.Reservation.{Reservation}
use Rattle.exactness.specs.Changed.{Changed, UpToThreeChanged}

-- ---- what is judged: a verdict is the answer a on s, which reports an R

-- where a accepts s, the answer b refuses s', to which s is changed inside its stated total as C says
module _ {R : Type 0} where
  abbrev pub RefusesIf : (List ℕ → List ℕ → ℕ → Type 0) → Answer R → List ℕ → Answer R → List ℕ → Type 0
  RefusesIf C a s b s' = (r : R) → a ≡ gives r → C s s' (stated_of s) → (n : Numbers) × (b ≡ refuses n)

  -- in bits that the checksum detects
  abbrev pub RefusesChanged : Answer R → List ℕ → Answer R → List ℕ → Type 0
  RefusesChanged = RefusesIf Changed

  -- in one, two or three bits, where that total is at most 4,095
  abbrev pub RefusesUpToThree : Answer R → List ℕ → Answer R → List ℕ → Type 0
  RefusesUpToThree = RefusesIf UpToThreeChanged

-- a accepts if and only if s begins with such a packet, and reports that packet; where only its APID, that of idle packets, sets it
-- apart from one, a refuses it with 12; and where a refuses with 4, it tells both checksums of the packet, and they differ
pub record Exact {H R : Type 0} (k : Kind H) (report_for : Packet H → R) (a : Answer R) (s : List ℕ) : Type 0 where
  pub exactly : ((r : R) × (a ≡ gives r)) ↔ ((p : Packet H) × BeginsWith k s p)
  pub reports : (p : Packet H) → BeginsWith k s p → a ≡ gives (report_for p)
  pub idle : (p : Packet H) → Rules k p → (rest : List ℕ) → s ≡ packet_of k (as_idle p) ++ rest → a ≡ refuses (refusal 12 [])
  pub tells : (e : Numbers) → a ≡ refuses e → Told s e

-- ---- what is written

module _ {H : Type 0} (k : Kind H) where
  -- the octets of a packet with the data d
  abbrev pub total_for : List ℕ → ℕ
  total_for d = start_of k + length d + 2

  -- a buffer with room for it, of any length that a slice has
  abbrev pub Fits : List ℕ → List ℕ → Type 0
  Fits d before = total_for d ≤ length before

  pub record Room (d before : List ℕ) : Type 0 where
    pub fits : Fits d before
    pub is_slice : length before ≤ 18446744073709551615

-- the answer r is the total; `after` is the packet, and behind it what was there before; and the verdict accepts it
pub record Accepted {H R : Type 0} (k : Kind H) (report_for : Packet H → R) (verdict : List ℕ → Answer R)
    (p : Packet H) (before : List ℕ) (r : Result ℕ PusError) (after : List ℕ) : Type 0 where
  pub answers : r ≡ Ok (total_for k p.user)
  pub leaves : after ≡ packet_of k p ++ drop (total_for k p.user) before
  pub accepted : verdict after ≡ gives (report_for p)

module _ {H : Type 0} (w : Writer H) where
  -- the packet that construction and the reserved writer make of what they are handed
  abbrev pub made_of : Packet H → Packet H
  made_of p = packet_by (made_by w p.primary p.user) p.secondary p.user

  -- the reservation that is held
  abbrev pub held_by : Bool → ℕ → Reservation
  held_by b total = record { start = start_by w; total = total; has_checksum = b }

  -- the reserved writer: the contracts by which the headers are left, the data is filled in where the reservation q has it from
  -- `start`, and the finish, in both checksum forms, answers r and leaves `after`
  pub record FinishedBy (start : ℕ) (q : Reservation) (p : Packet H) (before : List ℕ) (r : Result ℕ PusError) (after : List ℕ) : Type 0 where
    pub headed : List ℕ
    pub filled : List ℕ
    pub reserves :
        headed ≡ headed_by w (reserve_by w p.primary p.secondary true (length p.user) (length before))
        (head_by w p.primary p.secondary true (length p.user)) before
    pub fills : filled ≡ filled_by (fill_in start q (length headed) (length p.user)) start p.user headed
    pub finishes : Wrote (finish_in start q (length filled)) (finished q filled) filled r after
