-- What a walk lists and where it stands, by the commands alone, as long as there are at most 64 APIDs and places for all gaps.
use Prim.Native.Nat.{ℕ, ◌+◌, ◌≤◌, ◌<◌}
use mathlib.Core.Path.{◌≡◌, refl, sym, ap, ◌∙◌}
use mathlib.Core.Bool.{Bool, true, false}
use mathlib.Core.List.{List, [], ◌∷◌, ◌++◌, append_assoc, append-nil}
use native.Mathlib.Omega.{arith}
use borrow.Author.Tests.{eq-eqb, ne_eqb, eqb-true, eqb-false, leb-true, leb-false}
use lib.Dec.{eqb, leb}
use lib.ListN.{length, length-append}
use Rattle.space_packet.specs.Answer.{gives, refuses}
use Rattle.space_packet.specs.Bits.{pick}
use Rattle.tc_strict.specs.Split.{Piece, packet, tail, walk}
use Rattle.gaps.specs.Gaps.{Rows, place_of, expected_at, State, Move, with_accepted, with_refused, with_tail, command_of, noting, command_move, Outcome, followed, scan, begin, gaps_of}
use Rattle.gaps.specs.declared.Command.{Command}
use Rattle.gaps.specs.declared.Totals.{Totals}
use Rattle.gaps.proofs.Places.{place-le}
use Rattle.gaps.proofs.Scans.{fresh, follows, gap}
use Rattle.gaps_exact.specs.History.{Seen, never, last, commands_of, totals_of, seen_in, gap_after, gaps_behind, is_new, new_behind, gaps_in, apids_in}
use Rattle.gaps_exact.proofs.Follows.{back}
use Rattle.gaps_exact.proofs.Tables.{seen_at, unseen, seen-noted, noted-length}

-- ---- one command

-- a walk that stands in s, with these commands behind it and those before it, will not be refused
pub record Fits (places : ℕ) (s : State) (before cs : List Command) : Type 0 where
  pub tells : (a : ℕ) → seen_in s.lasts a ≡ seen_in before a
  pub apids : length s.lasts + new_behind before cs ≤ 64
  pub rows : s.listed + length (gaps_behind before cs) ≤ places

-- a command of n octets is taken, and its gap is listed
record Taken (places : ℕ) (s : State) (before : List Command) (c : Command) (n : ℕ) : Type 0 where
  pub next : State
  pub tells : (a : ℕ) → seen_in next.lasts a ≡ seen_in (c ∷ before) a
  pub apids : length next.lasts ≡ length s.lasts + is_new (seen_in before c.apid.0)
  pub listed : next.listed ≡ s.listed + length (gap_after (seen_in before c.apid.0) c)
  pub totals : next.totals ≡ with_accepted s.totals n
  pub goes : (f : State → Outcome) → followed (command_move places s n c) f ≡ record { rows = gap_after (seen_in before c.apid.0) c ++ (f next).rows; answer = (f next).answer }

module _ (places : ℕ) (s : State) (before : List Command) (c : Command) (cs : List Command) (n : ℕ) (h : Fits places s before (c ∷ cs)) where
  abbrev place : ℕ
  place = place_of s.lasts c.apid.0

  -- what is left fits
  fits_on : (k : Taken places s before c n) → Fits places k.next (c ∷ before) cs
  unfolding new_behind gaps_behind
  fits_on k =
      let l = k.apids in
      let i = k.listed in
      let m = h.apids in
      let r = h.rows in
      let b = length-append (gap_after (seen_in before c.apid.0) c) (gaps_behind (c ∷ before) cs) in
      record { tells = k.tells; apids = omega (arith, l, m); rows = omega (arith, r, b, i) }

  -- a command with these rows
  taken-with : (k : ℕ) (rows : Rows) → gap_after (seen_in before c.apid.0) c ≡ rows → k ≡ s.listed + length rows
      → ((f : State → Outcome) → followed (command_move places s n c) f ≡ record { rows = rows ++ (f (noting s place c k n)).rows; answer = (f (noting s place c k n)).answer })
      → Taken places s before c n
  unfolding seen_in
  taken-with k rows is e goes = record {
    next = noting s place c k n;
    tells = λ a. seen-noted s.lasts c a ∙ ap (pick (eqb c.apid.0 a) (last c.count.0)) (h.tells a);
    apids = noted-length s.lasts c ∙ ap (λ (x : Seen). length s.lasts + is_new x) (h.tells c.apid.0);
    listed = e ∙ ap (λ (x : Rows). s.listed + length x) (sym is);
    totals = refl;
    goes = λ f. goes f ∙ ap (λ (x : Rows). record { rows = x ++ (f (noting s place c k n)).rows; answer = (f (noting s place c k n)).answer }) (sym is);
  }

  -- the first of an APID starts it without a gap
  first_taken : length s.lasts ≤ place → Taken places s before c n
  unfolding new_behind gap_after is_new
  first_taken k =
      let q : seen_in before c.apid.0 ≡ never = sym (h.tells c.apid.0) ∙ unseen s.lasts c.apid.0 k in
      let m = h.apids in
      let one = ap is_new q in
      let l = place-le s.lasts c.apid.0 in
      taken-with s.listed [] (ap (λ (x : Seen). gap_after x c) q) (omega arith)
      (λ f. ap (λ (x : Move). followed x f) (sym (fresh places s n c place refl k (omega (arith, m, one, l, k)))))

  module _ (k : place < length s.lasts) where
    abbrev expected : ℕ
    expected = expected_at s.lasts place

    row_is : (b : Bool) → eqb c.count.0 expected ≡ b
        → gap_after (seen_in before c.apid.0) c ≡ pick b [] ((c.apid.0 ∷ expected ∷ c.count.0 ∷ []) ∷ [])
    unfolding gap_after
    row_is b e =
        ap (λ (x : Seen). gap_after x c) (sym (h.tells c.apid.0) ∙ seen_at s.lasts c.apid.0 k)
        ∙ ap (λ (x : Bool). pick x [] ((c.apid.0 ∷ expected ∷ c.count.0 ∷ []) ∷ [])) e

    -- a later one that follows has none
    next-taken : c.count.0 ≡ expected → Taken places s before c n
    next-taken e =
        taken-with s.listed [] (row_is true (eq-eqb c.count.0 expected e)) (omega arith)
        (λ f. ap (λ (x : Move). followed x f) (sym (follows places s n c place refl k e)))

    -- and one that does not is listed
    gap-taken : (c.count.0 ≡ expected → ⊥) → Taken places s before c n
    unfolding gaps_behind
    gap-taken e =
        let one = row_is false (ne_eqb c.count.0 expected e) in
        let z = ap length one in
        let r = h.rows in
        let b = length-append (gap_after (seen_in before c.apid.0) c) (gaps_behind (c ∷ before) cs) in
        taken-with (s.listed + 1) ((c.apid.0 ∷ expected ∷ c.count.0 ∷ []) ∷ []) one refl
        (λ f. ap (λ (x : Move). followed x f) (sym (gap places s n c place refl k e (omega (arith, r, b, z)))))

  by_place : (b d : Bool) → leb (length s.lasts) place ≡ b → eqb c.count.0 (expected_at s.lasts place) ≡ d → Taken places s before c n
  by_place true d p q = first_taken (leb-true (length s.lasts) place p)
  by_place false true p q = next-taken (leb-false (length s.lasts) place p) (eqb-true _ _ q)
  by_place false false p q = gap-taken (leb-false (length s.lasts) place p) (eqb-false _ _ q)

  taken : Taken places s before c n
  taken = by_place (leb (length s.lasts) place) (eqb c.count.0 (expected_at s.lasts place)) refl refl

-- ---- the walk

abbrev plus : Totals → Totals → Totals
plus t u = record { accepted = t.accepted + u.accepted; refused = t.refused + u.refused; tail = t.tail + u.tail }

same : (a b c x y z : ℕ) → a ≡ x → b ≡ y → c ≡ z
    → ◌≡◌ {A = Totals} (record { accepted = a; refused = b; tail = c }) (record { accepted = x; refused = y; tail = z })
same a b c x y z p q r = λ i. record { accepted = p i; refused = q i; tail = r i }

-- where a walk from s stands behind these pieces: it has listed their gaps, and goes on from there
pub record Reached (places : ℕ) (s : State) (before : List Command) (ps : List Piece) : Type 0 where
  pub stands : State
  pub tells : (a : ℕ) → seen_in stands.lasts a ≡ seen_in (back (commands_of ps) before) a
  pub apids : length stands.lasts ≡ length s.lasts + new_behind before (commands_of ps)
  pub listed : stands.listed ≡ s.listed + length (gaps_behind before (commands_of ps))
  pub totals : stands.totals ≡ plus s.totals (totals_of ps)
  pub goes : (qs : List Piece)
      → scan places s (ps ++ qs) ≡ record { rows = gaps_behind before (commands_of ps) ++ (scan places stands qs).rows; answer = (scan places stands qs).answer }

pub reached : (places : ℕ) (ps : List Piece) (s : State) (before : List Command) → Fits places s before (commands_of ps) → Reached places s before ps
unfolding scan commands_of totals_of gaps_behind new_behind back
reached places [] s before h = record {
  stands = s;
  tells = h.tells;
  apids = omega arith;
  listed = omega arith;
  totals = same _ _ _ _ _ _ (let z : s.totals.accepted ≡ s.totals.accepted + 0 = omega arith in z) (let z : s.totals.refused ≡ s.totals.refused + 0 = omega arith in z) (let z : s.totals.tail ≡ s.totals.tail + 0 = omega arith in z);
  goes = λ qs. refl;
}
reached places (tail at n ∷ ps) s before h =
    let t = s.totals in
    let u = totals_of ps in
    let k = reached places ps (record { lasts = s.lasts; listed = s.listed; totals = with_tail t n }) before (record { tells = h.tells; apids = h.apids; rows = h.rows }) in
    record {
      stands = k.stands;
      tells = k.tells;
      apids = k.apids;
      listed = k.listed;
      totals = k.totals ∙ same _ _ _ _ _ _ refl refl (let z : t.tail + n + u.tail ≡ t.tail + (u.tail + n) = omega arith in z);
      goes = k.goes;
    }
reached places (packet at n (refuses e) ∷ ps) s before h =
    let t = s.totals in
    let u = totals_of ps in
    let k = reached places ps (record { lasts = s.lasts; listed = s.listed; totals = with_refused t n }) before (record { tells = h.tells; apids = h.apids; rows = h.rows }) in
    record {
      stands = k.stands;
      tells = k.tells;
      apids = k.apids;
      listed = k.listed;
      totals = k.totals ∙ same _ _ _ _ _ _ refl (let z : t.refused + n + u.refused ≡ t.refused + (u.refused + n) = omega arith in z) refl;
      goes = k.goes;
    }
reached places (packet at n (gives r) ∷ ps) s before h =
    let t = s.totals in
    let u = totals_of ps in
    let c = command_of r in
    let row = gap_after (seen_in before c.apid.0) c in
    let d = taken places s before c (commands_of ps) n h in
    let k = reached places ps d.next (c ∷ before) (fits_on places s before c (commands_of ps) n h d) in
    let i = d.apids in
    let j = k.apids in
    let l = d.listed in
    let m = k.listed in
    let b = length-append row (gaps_behind (c ∷ before) (commands_of ps)) in
    record {
      stands = k.stands;
      tells = k.tells;
      apids = omega (arith, i, j);
      listed = omega (arith, l, m, b);
      totals = k.totals ∙ ap (λ (x : Totals). plus x u) d.totals
          ∙ same _ _ _ _ _ _ (let z : t.accepted + n + u.accepted ≡ t.accepted + (u.accepted + n) = omega arith in z) refl refl;
      goes = λ qs.
          d.goes (λ (x : State). scan places x (ps ++ qs))
          ∙ ap (λ (o : Outcome). record { rows = row ++ o.rows; answer = o.answer }) (k.goes qs)
          ∙ ap (λ (x : Rows). record { rows = x; answer = (scan places k.stands qs).answer }) (sym (append_assoc row (gaps_behind (c ∷ before) (commands_of ps)) (scan places k.stands qs).rows));
    }

-- from the beginning of a capture
pub reached-first : (places : ℕ) (ps : List Piece) → new_behind [] (commands_of ps) ≤ 64 → length (gaps_behind [] (commands_of ps)) ≤ places → Reached places begin [] ps
reached-first places ps h k = reached places ps begin [] (record { tells = λ a. refl; apids = omega (arith, h); rows = omega (arith, k) })

-- what is listed are the gaps by the commands alone, in order, and the totals are those of the pieces
pub as-history : (places : ℕ) (s : List ℕ) → apids_in s ≤ 64 → length (gaps_in s) ≤ places
    → gaps_of places s ≡ record { rows = gaps_in s; answer = gives (totals_of (walk s)) }
unfolding scan
as-history places s h k =
    let t = totals_of (walk s) in
    let r = reached-first places (walk s) h k in
    ap (scan places begin) (sym (append-nil (walk s))) ∙ r.goes []
    ∙ (λ i. record { rows = append-nil (gaps_in s) i; answer = gives (r.totals i) })
    ∙ ap (λ (x : Totals). record { rows = gaps_in s; answer = gives x })
    (same _ _ _ _ _ _ (let z : 0 + t.accepted ≡ t.accepted = omega arith in z) (let z : 0 + t.refused ≡ t.refused = omega arith in z) (let z : 0 + t.tail ≡ t.tail = omega arith in z))
