-- What an accepted command does, case by case.
use Prim.Native.Nat.{ℕ, ◌+◌, ◌≤◌, ◌<◌}
use mathlib.Core.Path.{◌≡◌, refl, sym, ap, ◌∙◌}
use mathlib.Core.Bool.{Bool, true, false}
use mathlib.Core.List.{List, [], ◌∷◌}
use native.Mathlib.Omega.{arith}
use lib.ListN.{length, get_or, take, set, length-take}
use lib.Dec.{leb}
use borrow.Author.Tests.{eq-eqb, ne_eqb, le-leb, lt-leb, leb-true, leb-false}
use Rattle.std.specs.Prelude.{Result, Ok, Err}
use Rattle.space_packet.specs.Answer.{Kept, Numbers, refusal, refuse_if, gives, set_if, outcome}
use Rattle.space_packet.specs.declared.PusError.{PusError}
use Rattle.gaps.specs.declared.Command.{Command}
use Rattle.gaps.specs.Gaps.{Rows, State, Move, on, lists, stop, place_of, after_count, nobody, expected_at, with_accepted, noting, command_at, command_move, Reached, made, by_move}
use Rattle.gaps.specs.declared.Totals.{Totals}
use Rattle.gaps.proofs.Places.{entry_at, noted-old}

at_place : (places : ℕ) (s : State) (n : ℕ) (l : Command) (p : ℕ) → p ≡ place_of s.lasts l.apid.0 → command_at places s n l p ≡ command_move places s n l
unfolding command_move
at_place places s n l p e = ap (command_at places s n l) e

module _ (places : ℕ) (s : State) (n : ℕ) (l : Command) (p : ℕ) (e : p ≡ place_of s.lasts l.apid.0) where
  pub full : length s.lasts ≤ p → 64 ≤ p → stop (refusal 31 []) ≡ command_move places s n l
  full h k = sym (simp (le-leb (length s.lasts) p h, le-leb 64 p k)) ∙ at_place places s n l p e

  pub fresh : length s.lasts ≤ p → p < 64 → on (noting s p l s.listed n) ≡ command_move places s n l
  fresh h k = sym (simp (le-leb (length s.lasts) p h, lt-leb 64 p k)) ∙ at_place places s n l p e

  pub follows : p < length s.lasts → l.count.0 ≡ expected_at s.lasts p → on (noting s p l s.listed n) ≡ command_move places s n l
  follows h k = sym (simp (lt-leb (length s.lasts) p h, eq-eqb l.count.0 (expected_at s.lasts p) k)) ∙ at_place places s n l p e

  pub no_place : p < length s.lasts → (l.count.0 ≡ expected_at s.lasts p → ⊥) → places ≤ s.listed → stop (refusal 1 (places ∷ (places + 1) ∷ [])) ≡ command_move places s n l
  no_place h k m = sym (simp (lt-leb (length s.lasts) p h, ne_eqb l.count.0 (expected_at s.lasts p) k, le-leb places s.listed m)) ∙ at_place places s n l p e

  pub gap : p < length s.lasts → (l.count.0 ≡ expected_at s.lasts p → ⊥) → s.listed < places
      → lists (l.apid.0 ∷ expected_at s.lasts p ∷ l.count.0 ∷ []) (noting s p l (s.listed + 1) n) ≡ command_move places s n l
  gap h k m = sym (simp (lt-leb (length s.lasts) p h, ne_eqb l.count.0 (expected_at s.lasts p) k, lt-leb places s.listed m)) ∙ at_place places s n l p e

-- ---- how a command is taken, in what the code holds: ls, of which the first n are the last commands

-- an APID that has not come yet
abbrev with_rows : Kept State → Rows → Kept Reached
with_rows k l = record { passed = k.passed; kept = record { state = k.kept; rows = l } }

made-with : (r : Result (Unit {0}) PusError) (t : State) (l : Rows) → made r t l ≡ with_rows (outcome r t) l
made-with (Ok tt) t l = refl
made-with (Err e) t l = refl

by_room : (places : ℕ) (s : State) (n : ℕ) (c : Command) (l : Rows) (b : Bool) → place_of s.lasts c.apid.0 ≡ length s.lasts → leb 64 (length s.lasts) ≡ b
    → with_rows (set_if (refuse_if b (refusal 31 []) (gives tt)) s (noting s (length s.lasts) c s.listed n)) l ≡ by_move (command_move places s n c) s l
unfolding set_if refuse_if
by_room places s n c l true e h = ap (λ (m : Move). by_move m s l) (full places s n c (length s.lasts) (sym e) (omega arith) (leb-true 64 (length s.lasts) h))
by_room places s n c l false e h = ap (λ (m : Move). by_move m s l) (fresh places s n c (length s.lasts) (sym e) (omega arith) (leb-false 64 (length s.lasts) h))

pub starts : (places : ℕ) (s : State) (n : ℕ) (c : Command) (l : Rows) (r : Result (Unit {0}) PusError) (t : State) → place_of s.lasts c.apid.0 ≡ length s.lasts
    → outcome r t ≡ set_if (refuse_if (leb 64 (length s.lasts)) (refusal 31 []) (gives tt)) s (noting s (length s.lasts) c s.listed n)
    → made r t l ≡ by_move (command_move places s n c) s l
starts places s n c l r t e h = made-with r t l ∙ ap (λ (k : Kept State). with_rows k l) h ∙ by_room places s n c l (leb 64 (length s.lasts)) e refl

module _ (places : ℕ) (ls : List Command) (n k : ℕ) (t : Totals) (total : ℕ) (c : Command) where
  abbrev now : State
  now = record { lasts = take n ls; listed = k; totals = t }

  abbrev noted_at : ℕ → ℕ → State
  noted_at p listed = record { lasts = take n (set ls p c); listed = listed; totals = with_accepted t total }

  pub moves : (s : State) (l : Rows) (m : Move) → now ≡ s → m ≡ command_move places now total c → by_move m now l ≡ by_move (command_move places s total c) s l
  moves s l m v e = ap (λ (x : Move). by_move x now l) e ∙ ap (λ (z : State). by_move (command_move places z total c) z l) v

  pub stops : (s : State) (l : Rows) (e : Numbers) → now ≡ s → stop e ≡ command_move places now total c → by_move (stop e) s l ≡ by_move (command_move places s total c) s l
  stops s l e v q = ap (λ (z : State). by_move (stop e) z l) (sym v) ∙ moves s l (stop e) v q

  module _ (p : ℕ) (place : p ≡ place_of (take n ls) c.apid.0) (h : p < length (take n ls)) (x y : ℕ) (expected : x ≡ after_count (get_or ls p nobody).count.0) (found : y ≡ c.count.0) where
    within : p < n
    within = let e = length-take n ls in omega arith

    expects : x ≡ expected_at (take n ls) p
    expects = expected ∙ ap (λ (z : Command). after_count z.count.0) (sym (entry_at ls n p within))

    other : (y ≡ x → ⊥) → c.count.0 ≡ expected_at (take n ls) p → ⊥
    other d e = d (found ∙ e ∙ sym expects)

    noted-at : (listed : ℕ) → noted_at p listed ≡ noting now p c listed total
    noted-at listed = ap (λ (z : List Command). record { lasts = z; listed = listed; totals = with_accepted t total }) (noted-old ls n p c h within)

    pub takes-next : y ≡ x → on (noted_at p k) ≡ command_move places now total c
    takes-next e = ap on (noted-at k) ∙ follows places now total c p place h (sym found ∙ e ∙ expects)

    pub takes-no-place : (y ≡ x → ⊥) → places ≤ k → stop (refusal 1 (places ∷ (places + 1) ∷ [])) ≡ command_move places now total c
    takes-no-place d e = no_place places now total c p place h (other d) e

    pub takes-gap : (y ≡ x → ⊥) → k < places → (a : ℕ) → a ≡ c.apid.0 → lists (a ∷ x ∷ y ∷ []) (noted_at p (k + 1)) ≡ command_move places now total c
    takes-gap d e a q =
        (λ i. lists (q i ∷ expects i ∷ found i ∷ []) (noted-at (k + 1) i)) ∙ gap places now total c p place h (other d) e
