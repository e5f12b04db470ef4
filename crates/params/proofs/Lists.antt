-- Laws of the list of parameters: its check row by row, and its search.
use Prim.Native.Nat.{ℕ, zero, suc, ◌+◌, ◌-◌, ◌≤◌, ◌<◌}
use mathlib.Core.Path.{◌≡◌, refl, sym, ap, ap₂, ◌∙◌}
use mathlib.Core.Bool.{Bool, true, false, not, ◌&&◌, ◌||◌, and-eq-true_iff}
use mathlib.Core.List.{List, [], ◌∷◌}
use native.Mathlib.Omega.{arith}
use lib.ListN.{length, get_or}
use lib.Dec.{eqb, ltb}
use denote.Ref.{Bor}
use borrow.Author.Tests.{ne_eqb, not-false}
use Rattle.std.specs.Prelude.{Option, Some, None, is_some, cond}
use Rattle.std.specs.List.{find, IsAllAdjacentAnswer, slice_get}
use Rattle.std.specs.Option.{MatchOption, option_copied}
use Rattle.space_packet.specs.Bits.{pick}
use Rattle.space_packet.specs.Answer.{gives}
use Rattle.space_packet.proofs.Answers.{refuse-gives}
use Rattle.param_value.specs.Values.{octets_for}
use Rattle.params.specs.Parameters.{Row, id_of, octets_by, list_good, list_check, known, row_of, row_in}

-- ---- the check, as the code makes it: of each two neighbours, and of the last row

abbrev pub named : Row → Bool
named r = not (eqb (octets_by r) 0)

-- the type of the first is named, and its ID is below the second's
abbrev pub stands : Row → Row → Bool
stands r q = named r && ltb (id_of r) (id_of q)

-- the type of the row is named, where there is one
abbrev pub named_if_any : Option Row → Bool
named_if_any None = true
named_if_any (Some r) = named r

abbrev pub last_named : List Row → Bool
last_named l = named_if_any (slice_get l (length l - 1))

-- what is answered of the last row, where there is one, is whether its type is named
pub last-by : (l : List Row) (o : Option (Bor Row)) (b : Bool) (P : Bor Row → Type 0) → option_copied o ≡ slice_get l (length l - 1)
    → MatchOption o (b ≡ true) P → ((r : Bor Row) → P r → b ≡ named r.now) → b ≡ last_named l
last-by l None b P e m h = m ∙ ap named_if_any e
last-by l (Some r) b P e m h = h r m ∙ ap named_if_any e

next-stands : (b : Bool) (r : Row) (l : List Row) (k : ℕ) (d : Row) → b ≡ stands (get_or (r ∷ l) (suc k) d) (get_or (r ∷ l) (suc k + 1) d) → b ≡ stands (get_or l k d) (get_or l (k + 1) d)
next-stands b r l k d e = let n : suc k + 1 ≡ suc (k + 1) = omega arith in e ∙ ap (λ (i : ℕ). stands (get_or l k d) (get_or (r ∷ l) i d)) n

last-on : (r q : Row) (l : List Row) → last_named (q ∷ l) ≡ last_named (r ∷ q ∷ l)
last-on r q l =
    let n : suc (length (q ∷ l) - 1) ≡ length (r ∷ q ∷ l) - 1 = omega arith in ap (λ (i : ℕ). named_if_any (slice_get (r ∷ q ∷ l) i)) n

all-stand : (l : List Row) → ((k : ℕ) (d : Row) → k + 1 < length l → true ≡ stands (get_or l k d) (get_or l (k + 1) d)) → list_good l ≡ last_named l
unfolding list_good
all-stand [] h = refl
all-stand (r ∷ []) h = of-one (named r)
  where
    of-one : (b : Bool) → ((b && true) && true) ≡ b
    of-one true = refl
    of-one false = refl
all-stand (r ∷ q ∷ l) h =
    ap₂ (λ (a b : Bool). a && b) (sym (h 0 r (omega arith))) (all-stand (q ∷ l) (λ k d p. next-stands true r (q ∷ l) k d (h (suc k) d (omega (arith, p)))))
    ∙ last-on r q l

one-falls : (l : List Row) (k : ℕ) → k + 1 < length l → ((d : Row) → false ≡ stands (get_or l k d) (get_or l (k + 1) d)) → list_good l ≡ false
unfolding list_good
one-falls [] k p e = absurd (omega arith)
one-falls (r ∷ []) k p e = absurd (omega arith)
one-falls (r ∷ q ∷ l) zero p e = ap (λ (b : Bool). b && list_good (q ∷ l)) (sym (e r))
one-falls (r ∷ q ∷ l) (suc k) p e =
    ap (λ (b : Bool). stands r q && b) (one-falls (q ∷ l) k (omega (arith, p)) (λ d. next-stands false r (q ∷ l) k d (e d))) ∙ and-false (stands r q)
  where
    and-false : (b : Bool) → (b && false) ≡ false
    and-false true = refl
    and-false false = refl

pub good-is : (b : Bool) (l : List Row) → IsAllAdjacentAnswer (λ r q a. a ≡ stands r q) l b → list_good l ≡ (b && last_named l)
good-is true l h = all-stand l h
good-is false l h = one-falls l h.0 h.1 h.2

-- the check passes just a good list
pub good-by : (l : List Row) → list_check l ≡ gives tt → list_good l ≡ true
unfolding list_check
good-by l e = not-false _ (refuse-gives _ _ _ tt e).0

-- ---- the search

pub find-row : (l : List Row) (id : ℕ) → find (λ r. eqb (id_of r) id) l ≡ row_in l id
unfolding known row_of
find-row [] id = refl
find-row (r ∷ l) id = by-test (eqb (id_of r) id) (find-row l id)
  where
    by-test : (b : Bool) → find (λ q. eqb (id_of q) id) l ≡ row_in l id
        → cond b (Some r) (find (λ q. eqb (id_of q) id) l) ≡ pick (b || known l id) (Some (pick b r (row_of l id))) None
    by-test true e = refl
    by-test false e = e

pub is_some-row : (l : List Row) (id : ℕ) → is_some (row_in l id) ≡ known l id
is_some-row l id = by-test (known l id)
  where
    by-test : (b : Bool) → is_some (pick b (Some (row_of l id)) None) ≡ b
    by-test true = refl
    by-test false = refl

pub row-is : (l : List Row) (id : ℕ) → known l id ≡ true → row_in l id ≡ Some (row_of l id)
row-is l id e = ap (λ (b : Bool). pick b (Some (row_of l id)) None) e

pub found-row : (l : List Row) (id : ℕ) (o : Option Row) (r : Row) → o ≡ row_in l id → o ≡ Some r → r ≡ row_of l id
found-row l id o r e p = by-test (known l id) (sym e ∙ p)
  where
    by-test : (b : Bool) → pick b (Some (row_of l id)) None ≡ Some r → r ≡ row_of l id
    by-test true q = cc
    by-test false q = cc

-- an ID is known where its row has a type that is named
pub known-named : (l : List Row) (id : ℕ) → 1 ≤ octets_by (row_of l id) → known l id ≡ true
unfolding known row_of octets_for
known-named [] id h = absurd (omega arith)
known-named (r ∷ l) id h = by-test (eqb (id_of r) id) (known-named l id) h
  where
    by-test : (b : Bool) → (1 ≤ octets_by (row_of l id) → known l id ≡ true) → 1 ≤ octets_by (pick b r (row_of l id)) → (b || known l id) ≡ true
    by-test true k h = refl
    by-test false k h = k h

-- ---- of a good list, an ID is known exactly where its row has a type that is named

pub known_by : (l : List Row) (id : ℕ) → list_good l ≡ true → known l id ≡ not (eqb (octets_by (row_of l id)) 0)
unfolding known row_of list_good octets_for
known_by [] id g = refl
known_by (r ∷ l) id g = let p = (and-eq-true_iff _ _).0 g in by-test (eqb (id_of r) id) ((and-eq-true_iff _ _).0 p.0).0 (known_by l id p.1)
  where
    by-test : (b : Bool) → not (eqb (octets_by r) 0) ≡ true → known l id ≡ not (eqb (octets_by (row_of l id)) 0) → (b || known l id) ≡ not (eqb (octets_by (pick b r (row_of l id))) 0)
    by-test true h k = sym h
    by-test false h k = k

pub known_some : (l : List Row) (id : ℕ) → list_good l ≡ true → (octets_by (row_of l id) ≡ 0 → ⊥) → known l id ≡ true
known_some l id g e = known_by l id g ∙ ap not (ne_eqb (octets_by (row_of l id)) 0 e)
