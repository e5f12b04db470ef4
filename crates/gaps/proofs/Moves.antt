-- What a move does to the number of listed gaps and to the totals.
use Prim.Native.Nat.{ℕ, ◌+◌, ◌<◌}
use mathlib.Core.Path.{◌≡◌, refl}
use mathlib.Core.Bool.{Bool, true, false}
use mathlib.Core.List.{[], ◌∷◌}
use native.Mathlib.Omega.{arith}
use lib.Dec.{eqb, leb}
use lib.ListN.{length}
use borrow.Author.Tests.{leb-false}
use Rattle.space_packet.specs.Bits.{pick}
use Rattle.space_packet.specs.Answer.{refusal, gives, refuses}
use Rattle.tc_strict.specs.Split.{Piece, packet, tail, length_of}
use Rattle.gaps.specs.declared.Command.{Command}
use Rattle.gaps.specs.Gaps.{State, Move, on, lists, stop, place_of, expected_at, noting, command_move, move_of, sum_of}

-- by a piece of n octets: a listed gap had a place; the octets are counted
abbrev pub Counts : ℕ → State → ℕ → Move → Type 0
Counts places s n (on t) = (t.listed ≡ s.listed) × (sum_of t.totals ≡ sum_of s.totals + n)
Counts places s n (lists row t) = (t.listed ≡ s.listed + 1) × (sum_of t.totals ≡ sum_of s.totals + n) × (s.listed < places)
Counts places s n (stop e) = Unit {0}

pub either : (P : Move → Type 0) (b : Bool) (x y : Move) → (b ≡ true → P x) → (b ≡ false → P y) → P (pick b x y)
either P true x y f g = f refl
either P false x y f g = g refl

command-counts : (places : ℕ) (s : State) (n : ℕ) (l : Command) → Counts places s n (command_move places s n l)
unfolding command_move
command-counts places s n l =
    let p = place_of s.lasts l.apid.0 in
    either (Counts places s n) (leb (length s.lasts) p) _ _
    (λ _. either (Counts places s n) (leb 64 p) (stop (refusal 31 [])) (on (noting s p l s.listed n)) (λ _. tt) (λ _. (refl, omega arith)))
    (λ _. either (Counts places s n) (eqb l.count.0 (expected_at s.lasts p)) (on (noting s p l s.listed n)) _ (λ _. (refl, omega arith))
    (λ _. either (Counts places s n) (leb places s.listed) (stop (refusal 1 (places ∷ (places + 1) ∷ [])))
    (lists (l.apid.0 ∷ expected_at s.lasts p ∷ l.count.0 ∷ []) (noting s p l (s.listed + 1) n)) (λ _. tt)
    (λ e. (refl, omega arith, leb-false places s.listed e))))

pub move-counts : (places : ℕ) (s : State) (p : Piece) → Counts places s (length_of p) (move_of places s p)
move-counts places s (tail at n) = (refl, omega arith)
move-counts places s (packet at n (refuses e)) = (refl, omega arith)
move-counts places s (packet at n (gives r)) = command-counts places s n _
