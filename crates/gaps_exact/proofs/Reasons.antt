-- A walk is refused at the first command of a 65th APID, or at a gap that the list has no place for, and nowhere else.
use Prim.Native.Nat.{ℕ, ◌+◌, ◌≤◌, ◌<◌}
use mathlib.Core.Path.{◌≡◌, refl, sym, ap, ◌∙◌}
use mathlib.Core.Logic.{◌⊎◌, inl, inr}
use mathlib.Core.Bool.{Bool, true, false}
use mathlib.Core.List.{List, [], ◌∷◌}
use native.Mathlib.Omega.{arith}
use borrow.Author.Tests.{leb-true, leb-false}
use lib.Dec.{eqb, leb}
use lib.ListN.{length, length-append}
use Rattle.space_packet.specs.Answer.{Numbers, refusal, gives, refuses}
use Rattle.space_packet.specs.Bits.{pick}
use Rattle.space_packet.proofs.Answers.{refuses-inj, never}
use Rattle.tc_strict.specs.Split.{Piece, packet, tail, walk}
use Rattle.gaps.specs.Gaps.{place_of, expected_at, State, Move, on, lists, stop, with_refused, with_tail, command_of, noting, command_move, Outcome, followed, scan, begin, gaps_of}
use Rattle.gaps.specs.declared.Command.{Command}
use Rattle.gaps.specs.declared.Totals.{Totals}
use Rattle.gaps.proofs.Moves.{either}
use Rattle.gaps.proofs.Places.{place-le}
use Rattle.gaps_exact.specs.History.{Seen, last, commands_of, totals_of, seen_in, gap_after, gaps_behind, is_new, new_behind, gaps_in, apids_in, Reason, RefusedAt}
use Rattle.gaps_exact.proofs.History.{Fits, Reached, reached-first, as-history}
use Rattle.gaps_exact.proofs.Refusals.{new-with, gaps-with}
use Rattle.gaps_exact.proofs.Tables.{seen_at, unseen, seen-noted, noted-length}

-- ---- one command of n octets

module _ (places : ℕ) (s : State) (c : Command) (n : ℕ) where
  abbrev place : ℕ
  place = place_of s.lasts c.apid.0

  abbrev new : ℕ
  new = is_new (seen_in s.lasts c.apid.0)

  abbrev rows : ℕ
  rows = length (gap_after (seen_in s.lasts c.apid.0) c)

  first-is : length s.lasts ≤ place → (new ≡ 1) × (rows ≡ 0)
  unfolding is_new gap_after
  first-is h = let q = unseen s.lasts c.apid.0 h in (ap is_new q, ap (λ (x : Seen). length (gap_after x c)) q)

  row_by : (b : Bool) → length (pick b [] ((c.apid.0 ∷ expected_at s.lasts place ∷ c.count.0 ∷ []) ∷ [])) ≡ pick b 0 1
  row_by true = refl
  row_by false = refl

  later-is : place < length s.lasts → (b : Bool) → eqb c.count.0 (expected_at s.lasts place) ≡ b → (new ≡ 0) × (rows ≡ pick b 0 1)
  unfolding is_new gap_after
  later-is h b e =
      let q = seen_at s.lasts c.apid.0 h in
      (ap is_new q, ap (λ (x : Seen). length (gap_after x c)) q ∙ row_by (eqb c.count.0 (expected_at s.lasts place)) ∙ ap (λ (x : Bool). pick x 0 1) e)

  -- what it does: it is noted with nothing to list or with a row, or it is the first of a 65th APID, or has a gap and no place
  abbrev Does : Move → Type 0
  Does (on t) = (t ≡ noting s place c s.listed n) × (length s.lasts + new ≤ 64) × (rows ≡ 0)
  Does (lists row t) = (t ≡ noting s place c (s.listed + 1) n) × (length s.lasts + new ≤ 64) × (rows ≡ 1) × (s.listed < places)
  Does (stop e) =
      ((e ≡ refusal 31 []) × (64 ≤ length s.lasts) × (new ≡ 1)) ⊎ ((e ≡ refusal 1 (places ∷ (places + 1) ∷ [])) × (places ≤ s.listed) × (rows ≡ 1))

  does : length s.lasts ≤ 64 → Does (command_move places s n c)
  unfolding command_move
  does room =
      let L = length s.lasts in
      let x = expected_at s.lasts place in
      let le = place-le s.lasts c.apid.0 in
      either Does (leb L place) _ _
      (λ p.
      let first = first-is (leb-true L place p) in
      let behind = leb-true L place p in
      let one = first.0 in
      either Does (leb 64 place) (stop (refusal 31 [])) (on (noting s place c s.listed n))
      (λ q. inl (refl, (let h = leb-true 64 place q in omega (arith, h, le)), one))
      (λ q. (refl, (let h = leb-false 64 place q in omega (arith, h, behind, one)), first.1)))
      (λ p.
      let inside = leb-false L place p in
      either Does (eqb c.count.0 x) (on (noting s place c s.listed n)) _
      (λ q. let k = later-is inside true q in let none = k.0 in (refl, omega (arith, room, none), k.1))
      (λ q.
      let k = later-is inside false q in
      let none = k.0 in
      either Does (leb places s.listed) (stop (refusal 1 (places ∷ (places + 1) ∷ []))) (lists (c.apid.0 ∷ x ∷ c.count.0 ∷ []) (noting s place c (s.listed + 1) n))
      (λ z. inr (refl, leb-true places s.listed z, k.1))
      (λ z. (refl, omega (arith, room, none), k.1, leb-false places s.listed z))))

  module _ (before cs : List Command) (tells : (a : ℕ) → seen_in s.lasts a ≡ seen_in before a) where
    -- with it fits what fits once it is noted, with so many gaps listed
    fits-with : (k : ℕ) → k ≡ s.listed + rows → Fits places (noting s place c k n) (c ∷ before) cs → Fits places s before (c ∷ cs)
    unfolding new_behind gaps_behind
    fits-with k e h =
        let l = noted-length s.lasts c in
        let same_new = ap is_new (tells c.apid.0) in
        let same_rows = ap (λ (x : Seen). length (gap_after x c)) (tells c.apid.0) in
        let m = h.apids in
        let r = h.rows in
        let b = length-append (gap_after (seen_in before c.apid.0) c) (gaps_behind (c ∷ before) cs) in
        record { tells = tells; apids = omega (arith, l, same_new, m); rows = omega (arith, e, same_rows, r, b) }

    tells-on : (k a : ℕ) → seen_in (noting s place c k n).lasts a ≡ seen_in (c ∷ before) a
    unfolding seen_in
    tells-on k a = seen-noted s.lasts c a ∙ ap (pick (eqb c.apid.0 a) (last c.count.0)) (tells a)

    fits_by : (m : Move) (f : State → Outcome) (t : Totals) → Does m → s.listed ≤ places
        → ((u : State) → ((a : ℕ) → seen_in u.lasts a ≡ seen_in (c ∷ before) a) → length u.lasts ≤ 64 → u.listed ≤ places → (f u).answer ≡ gives t → Fits places u (c ∷ before) cs)
        → (followed m f).answer ≡ gives t → Fits places s before (c ∷ cs)
    fits_by (on u) f t d few rest h =
        let l = noted-length s.lasts c in
        let apids = d.1 in
        let none = d.2 in
        fits-with s.listed (omega (arith, none))
        (rest (noting s place c s.listed n) (tells-on s.listed) (omega (arith, l, apids)) few (ap (λ (x : State). (f x).answer) (sym d.0) ∙ h))
    fits_by (lists row u) f t d few rest h =
        let l = noted-length s.lasts c in
        let apids = d.1 in
        let one = d.2 in
        let room = d.3 in
        fits-with (s.listed + 1) (omega (arith, one))
        (rest (noting s place c (s.listed + 1) n) (tells-on (s.listed + 1)) (omega (arith, l, apids)) (omega (arith, room)) (ap (λ (x : State). (f x).answer) (sym d.0) ∙ h))
    fits_by (stop e) f t d few rest h = absurd (never t e h)

-- ---- the walk

-- the commands of a walk that ends unrefused have at most 64 APIDs, and no more gaps than there are places
unrefused : (places : ℕ) (ps : List Piece) (s : State) (before : List Command) (t : Totals) → ((a : ℕ) → seen_in s.lasts a ≡ seen_in before a)
    → length s.lasts ≤ 64 → s.listed ≤ places → (scan places s ps).answer ≡ gives t → Fits places s before (commands_of ps)
unfolding scan commands_of new_behind gaps_behind
unrefused places [] s before t tells room few h = record { tells = tells; apids = omega (arith, room); rows = omega (arith, few) }
unrefused places (tail at n ∷ ps) s before t tells room few h =
    let k = unrefused places ps (record { lasts = s.lasts; listed = s.listed; totals = with_tail s.totals n }) before t tells room few h in
    record { tells = k.tells; apids = k.apids; rows = k.rows }
unrefused places (packet at n (refuses e) ∷ ps) s before t tells room few h =
    let k = unrefused places ps (record { lasts = s.lasts; listed = s.listed; totals = with_refused s.totals n }) before t tells room few h in
    record { tells = k.tells; apids = k.apids; rows = k.rows }
unrefused places (packet at n (gives r) ∷ ps) s before t tells room few h =
    let c = command_of r in
    fits_by places s c n before (commands_of ps) tells (command_move places s n c) (λ (u : State). scan places u ps) t (does places s c n room) few
    (λ u. unrefused places ps u (c ∷ before) t) h

-- A walk that ends unrefused had at most 64 APIDs and places for all gaps, lists the gaps by the commands alone, and tells the totals of
-- the pieces.
pub unrefused-is : (places : ℕ) (s : List ℕ) (t : Totals) → (gaps_of places s).answer ≡ gives t
    → (apids_in s ≤ 64) × (length (gaps_in s) ≤ places) × (gaps_of places s ≡ record { rows = gaps_in s; answer = gives (totals_of (walk s)) })
unrefused-is places s t h =
    let fits = unrefused places (walk s) begin [] t (λ a. refl) (omega arith) (omega arith) h in
    let apids = fits.apids in
    let rows = fits.rows in
    let few : apids_in s ≤ 64 = omega (arith, apids) in
    let room : length (gaps_in s) ≤ places = omega (arith, rows) in
    (few, room, as-history places s few room)

module _ (places : ℕ) (ps : List Piece) (c : Command) (n : ℕ) (e : Numbers) (k : Reached places begin [] ps)
    (few : new_behind [] (commands_of ps) ≤ 64) (room : length (gaps_behind [] (commands_of ps)) ≤ places) where
  reason-by : (x : Numbers) → Does places k.stands c n (stop x) → x ≡ e → Reason places (commands_of ps) c e
  reason-by x (inl d) q =
      let apids = k.apids in
      let sum = new-with k c in
      let full = d.1 in
      let one = d.2 in
      inl (sym q ∙ d.0, (omega (arith, apids, full, few), omega (arith, apids, full, few, sum, one)))
  reason-by x (inr d) q =
      let listed = k.listed in
      let sum = gaps-with k c in
      let full = d.1 in
      let one = d.2 in
      inr (sym q ∙ d.0, (omega (arith, listed, full, room), omega (arith, listed, full, room, sum, one)))

  reason : (m : Move) → Does places k.stands c n m → (followed m (λ (t : State). scan places t [])).answer ≡ refuses e → Reason places (commands_of ps) c e
  unfolding scan
  reason (on t) d h = absurd (never t.totals e (sym h))
  reason (lists row t) d h = absurd (never t.totals e (sym h))
  reason (stop x) d h = reason-by x d (refuses-inj x e h)

-- Where a walk is refused, the commands before have at most 64 APIDs and no more gaps than places, and it is for one of the two reasons.
pub refused_why : (places : ℕ) (s : List ℕ) (e : Numbers) (k : RefusedAt places begin (walk s) e)
    → (new_behind [] (commands_of k.before) ≤ 64) × (length (gaps_behind [] (commands_of k.before)) ≤ places) × Reason places (commands_of k.before) (command_of k.command) e
unfolding scan
refused_why places s e k =
    let c = command_of k.command in
    let fits = unrefused places k.before begin [] k.totals (λ a. refl) (omega arith) (omega arith) k.taken in
    let apids = fits.apids in
    let gaps = fits.rows in
    let few : new_behind [] (commands_of k.before) ≤ 64 = omega (arith, apids) in
    let room : length (gaps_behind [] (commands_of k.before)) ≤ places = omega (arith, gaps) in
    let r = reached-first places k.before few room in
    let i = r.apids in (
      few,
      room,
      reason places k.before c k.n e r few room (command_move places r.stands k.n c) (does places r.stands c k.n (omega (arith, i, few)))
          (ap (λ (o : Outcome). o.answer) (sym (r.goes (packet k.at k.n (gives k.command) ∷ []))) ∙ k.refused),
    )
