-- Where no refusal ends the walk, the totals add up to the capture's length.
use Prim.Native.Nat.{ℕ, ◌+◌}
use mathlib.Core.Path.{◌≡◌, sym, ap, ◌∙◌}
use mathlib.Core.List.{List, [], ◌∷◌}
use native.Mathlib.Omega.{arith}
use lib.ListN.{length}
use Rattle.space_packet.specs.Answer.{gives}
use Rattle.space_packet.proofs.Answers.{gives-inj, never}
use Rattle.tc_strict.specs.Split.{Piece, length_of, walk}
use Rattle.tc_strict.specs.Verdict.{strict_of}
use Rattle.tc_strict.proofs.Walks.{octets_in, walk-octets}
use Rattle.gaps.specs.Gaps.{State, Move, on, lists, stop, move_of, followed, scan, begin, gaps_of, sum_of}
use Rattle.gaps.specs.declared.Totals.{Totals}
use Rattle.gaps.proofs.Moves.{Counts, move-counts}

sums_on : (places : ℕ) (s : State) (p : Piece) (ps : List Piece) (t : Totals) (m : Move) → Counts places s (length_of p) m
    → ((u : State) → (scan places u ps).answer ≡ gives t → sum_of t ≡ sum_of u.totals + octets_in ps)
    → (followed m (λ (u : State). scan places u ps)).answer ≡ gives t → sum_of t ≡ sum_of s.totals + (length_of p + octets_in ps)
sums_on places s p ps t (on u) c f e = let h = f u e in let k = c.1 in omega arith
sums_on places s p ps t (lists row u) c f e = let h = f u e in let k = c.1 in omega arith
sums_on places s p ps t (stop n) c f e = absurd (never t n e)

sums-from : (places : ℕ) (s : State) (ps : List Piece) (t : Totals) → (scan places s ps).answer ≡ gives t → sum_of t ≡ sum_of s.totals + octets_in ps
unfolding scan octets_in
sums-from places s [] t e = ap sum_of (sym (gives-inj s.totals t e)) ∙ omega arith
sums-from places s (p ∷ ps) t e =
    sums_on places s p ps t (move_of places s p) (move-counts places s p) (λ u. sums-from places u ps t) e

-- accepted, refused and tail octets, of a walk that ends unrefused
pub sums : (places : ℕ) (s : List ℕ) (t : Totals) → (gaps_of places s).answer ≡ gives t → t.accepted + t.refused + t.tail ≡ length s
sums places s t e = sums-from places begin (walk s) t e ∙ omega (arith, walk-octets strict_of s)
