-- Where an APID stands among the last counts.
use Prim.Native.Nat.{ℕ, suc, ◌+◌, ◌≤◌, ◌<◌}
use mathlib.Core.Path.{◌≡◌, refl, sym, ap, ◌∙◌, subst}
use mathlib.Core.Bool.{Bool, true, false, not, cond}
use mathlib.Core.List.{List, [], ◌∷◌, ◌++◌}
use native.Mathlib.Omega.{arith}
use lib.Dec.{eqb, ltb}
use lib.ListN.{length, get_or, set, take}
use lib.Seq.{get_or-take, take-set-lt}
use borrow.Author.Tests.{lt-leb, ltb-true, ltb-false}
use Rattle.std.specs.List.{position_or_len}
use Rattle.std.specs.Prelude.{Option, Some, None, MatchOption}
use Rattle.space_packet.specs.Bits.{pick}
use Rattle.gaps.specs.declared.Command.{Command}
use Rattle.gaps.specs.Gaps.{place_of, nobody, noted}

pub position-place : (ls : List Command) (a : ℕ) → position_or_len (λ (c : Command). eqb c.apid.0 a) ls ≡ place_of ls a
unfolding place_of
position-place [] a = refl
position-place (c ∷ ls) a = by-test (eqb c.apid.0 a) (position-place ls a)
  where
    by-test : (b : Bool) → position_or_len (λ (c : Command). eqb c.apid.0 a) ls ≡ place_of ls a
        → cond (not b) (1 + position_or_len (λ (c : Command). eqb c.apid.0 a) ls) 0 ≡ pick b 0 (suc (place_of ls a))
    by-test true e = refl
    by-test false e = omega (arith, e)

pub place-le : (ls : List Command) (a : ℕ) → place_of ls a ≤ length ls
unfolding place_of
place-le [] a = omega arith
place-le (l ∷ ls) a = by-test (eqb l.apid.0 a) (place-le ls a)
  where
    by-test : (b : Bool) → place_of ls a ≤ length ls → pick b 0 (suc (place_of ls a)) ≤ suc (length ls)
    by-test true h = omega arith
    by-test false h = omega arith

-- what a search answers, where it is found or not
pub found-at : (ls : List Command) (a : ℕ) (r : Option ℕ) → r ≡ cond (ltb (place_of ls a) (length ls)) (Some (place_of ls a)) None
    → MatchOption r (place_of ls a ≡ length ls) (λ p. (p ≡ place_of ls a) × (p < length ls))
found-at ls a r e = subst (λ (o : Option ℕ). MatchOption o (place_of ls a ≡ length ls) (λ p. (p ≡ place_of ls a) × (p < length ls))) (sym e) (by-test (ltb (place_of ls a) (length ls)) refl)
  where
    by-test : (b : Bool) → ltb (place_of ls a) (length ls) ≡ b → MatchOption (cond b (Some (place_of ls a)) None) (place_of ls a ≡ length ls) (λ p. (p ≡ place_of ls a) × (p < length ls))
    by-test true h = (refl, ltb-true _ _ h)
    by-test false h = let l = place-le ls a in let m = ltb-false (place_of ls a) (length ls) h in omega arith

-- the entries of a table of which the first n count
pub entry_at : (ls : List Command) (n p : ℕ) → p < n → get_or (take n ls) p nobody ≡ get_or ls p nobody
entry_at ls n p h = get_or-take n ls p nobody h

pub noted-old : (ls : List Command) (n p : ℕ) (l : Command) → p < length (take n ls) → p < n → take n (set ls p l) ≡ noted (take n ls) p l
noted-old ls n p l k h =
    take-set-lt n ls p l h
    ∙ ap (λ (b : Bool). pick b (take n ls ++ (l ∷ [])) (set (take n ls) p l)) (sym (lt-leb (length (take n ls)) p k))
