-- What it says that a reservation holds together.
use Prim.Native.Nat.{ℕ, ◌+◌, ◌-◌, ◌≤◌}
use mathlib.Core.Path.{◌≡◌, sym, ap, ap₂, ◌∙◌}
use mathlib.Core.Bool.{not}
use borrow.Author.Tests.{ltb-false, le-ltb, eq-eqb, eqb-true, not-false}
use Rattle.space_packet.specs.Answer.{gives}
use Rattle.space_packet.proofs.Answers.{gives-inj, refuse-no, refuse-gives, then-gives, gives_then}
use Rattle.ecss.specs.Frame.{trailer}
use Rattle.reserve.specs.Reserve.{end_of, holds, holds_in, data_len_of, bounds_of}
use Rattle.reserve.specs.declared.Reservation.{Reservation}
use Rattle.reserve.specs.declared.Bounds.{Bounds}

pub record Holds (start : ℕ) (r : Reservation) : Type 0 where
  pub starts : r.start ≡ start
  pub room : start + trailer r.has_checksum ≤ r.total
  pub states : r.total ≤ 65542

pub holds-is : (start : ℕ) (r : Reservation) → holds start r ≡ gives tt → Holds start r
unfolding holds
holds-is start r p =
    let a = refuse-gives _ _ _ tt p in
    let b = refuse-gives _ _ _ tt a.1 in
    let c = refuse-gives _ _ _ tt b.1 in
    record { starts = eqb-true _ start (not-false _ a.0); room = ltb-false _ _ b.0; states = ltb-false 65542 _ c.0 }

pub is-holds : (start : ℕ) (r : Reservation) → Holds start r → holds start r ≡ gives tt
unfolding holds
is-holds start r h =
    refuse-no _ _ _ (ap not (eq-eqb r.start start h.starts))
    ∙ refuse-no _ _ _ (le-ltb r.total _ h.room)
    ∙ refuse-no _ _ _ (le-ltb 65542 r.total h.states)

-- it holds together, and a buffer of m octets has room for it
pub holds-in : (start : ℕ) (r : Reservation) (m : ℕ) → holds_in start r m ≡ gives tt → Holds start r × (r.total ≤ m)
unfolding holds_in
holds-in start r m p =
    let a = then-gives _ _ tt p in
    let b = then-gives _ _ tt a.2 in
    (holds-is start r a.1, ltb-false m r.total (refuse-gives _ _ _ _ b.1).0)

pub in-holds : (start : ℕ) (r : Reservation) (m : ℕ) → Holds start r → r.total ≤ m → holds_in start r m ≡ gives tt
unfolding holds_in
in-holds start r m h f = gives_then _ _ tt (is-holds start r h) ∙ gives_then _ _ r.total (refuse-no _ _ _ (le-ltb m r.total f))

-- the bounds of the data in a buffer of m octets
pub record BoundsAre (start : ℕ) (r : Reservation) (m : ℕ) (b : Bounds) : Type 0 where
  pub starts : b.start ≡ start
  pub ends : b.end ≡ end_of r
  pub room : start + trailer r.has_checksum ≤ r.total
  pub fits : r.total ≤ m
  pub held : holds_in start r m ≡ gives tt

pub bounds-are : (start : ℕ) (r : Reservation) (m : ℕ) (b : Bounds) → bounds_of start r m ≡ gives b → BoundsAre start r m b
bounds-are start r m b p =
    let a = then-gives (holds_in start r m) _ b p in
    let h = holds-in start r m a.1 in
    let e : record { start = start; end = end_of r } ≡ b = gives-inj _ b a.2 in
    record { starts = sym (ap (λ (x : Bounds). x.start) e); ends = sym (ap (λ (x : Bounds). x.end) e); room = h.0.room; fits = h.1; held = a.1 }

-- the same from the reservation's own start, and a trailer of t octets
pub data-len-gives : (start : ℕ) (r : Reservation) (t : ℕ) → holds start r ≡ gives tt → t ≡ trailer r.has_checksum → gives (r.total - t - r.start) ≡ data_len_of start r
data-len-gives start r t e p = ap₂ (λ (x y : ℕ). gives (r.total - x - y)) p (holds-is start r e).starts ∙ sym (gives_then _ _ tt e)

pub bounds-give : (start : ℕ) (r : Reservation) (m t : ℕ) → holds_in start r m ≡ gives tt → t ≡ trailer r.has_checksum
    → gives (record { start = r.start; end = r.total - t }) ≡ bounds_of start r m
bounds-give start r m t e p = ap₂ (λ (x y : ℕ). gives (record { start = x; end = r.total - y })) (holds-in start r m e).0.starts p ∙ sym (gives_then _ _ tt e)
