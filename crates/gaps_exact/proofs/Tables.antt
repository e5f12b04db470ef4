-- The table of last counts: what it tells of each APID once a count is noted in it, and how long it is then.
use Prim.Native.Nat.{ℕ, suc, ◌+◌, ◌≤◌, ◌<◌}
use mathlib.Core.Path.{◌≡◌, refl, sym, ap, ◌∙◌}
use mathlib.Core.Bool.{Bool, true, false}
use mathlib.Core.List.{List, [], ◌∷◌, ◌++◌}
use native.Mathlib.Omega.{arith}
use borrow.Author.Tests.{eqb-true, eqb-false, leb-true, leb-false}
use lib.Dec.{eqb, leb, leb-suc-zero, leb-suc-suc}
use lib.ListN.{length, get_or, set, length-append, length-set}
use Rattle.space_packet.specs.Bits.{pick}
use Rattle.gaps.specs.Gaps.{place_of, nobody, noted}
use Rattle.gaps.specs.declared.Command.{Command}
use Rattle.gaps_exact.specs.History.{Seen, never, last, seen_in, is_new}

-- ---- an APID that stands in it, and one that has not come

at_head : (l : Command) (ls : List Command) (p : ℕ) (s : Seen) (b : Bool) → pick b 0 (suc p) < suc (length ls)
    → (p < length ls → s ≡ last (get_or ls p nobody).count.0)
    → pick b (last l.count.0) s ≡ last (get_or (l ∷ ls) (pick b 0 (suc p)) nobody).count.0
at_head l ls p s true h on = refl
at_head l ls p s false h on = on (omega arith)

pub seen_at : (ls : List Command) (a : ℕ) → place_of ls a < length ls → seen_in ls a ≡ last (get_or ls (place_of ls a) nobody).count.0
unfolding place_of seen_in
seen_at [] a h = absurd (omega arith)
seen_at (l ∷ ls) a h = at_head l ls (place_of ls a) (seen_in ls a) (eqb l.apid.0 a) h (seen_at ls a)

not-head : (l : Command) (n p : ℕ) (s : Seen) (b : Bool) → suc n ≤ pick b 0 (suc p) → (n ≤ p → s ≡ never) → pick b (last l.count.0) s ≡ never
not-head l n p s true h on = absurd (omega arith)
not-head l n p s false h on = on (omega arith)

pub unseen : (ls : List Command) (a : ℕ) → length ls ≤ place_of ls a → seen_in ls a ≡ never
unfolding place_of seen_in
unseen [] a h = refl
unseen (l ∷ ls) a h = not-head l (length ls) (place_of ls a) (seen_in ls a) (eqb l.apid.0 a) h (unseen ls a)

-- ---- a count that is noted

-- the earlier of two entries of an APID counts for nothing
hidden : (x l : Command) (a : ℕ) (s : Seen) (b d : Bool) → d ≡ b
    → pick b (last l.count.0) s ≡ pick b (last l.count.0) (pick d (last x.count.0) s)
hidden x l a s true d e = refl
hidden x l a s false true e = absurd (let z : ◌≡◌ {A = ℕ} 0 1 = cc in omega arith)
hidden x l a s false false e = refl

-- and entries of two APIDs stand in either order
swapped : (x l : Command) (s : Seen) (b d : Bool) → (b ≡ true → d ≡ true → ⊥)
    → pick b (last x.count.0) (pick d (last l.count.0) s) ≡ pick d (last l.count.0) (pick b (last x.count.0) s)
swapped x l s true true k = absurd (k refl refl)
swapped x l s true false k = refl
swapped x l s false d k = refl

-- noted in place of the table's head, or behind it
noted-head : (x : Command) (xs : List Command) (l : Command) → noted (x ∷ xs) 0 l ≡ l ∷ xs
noted-head x xs l = ap (λ (b : Bool). pick b (x ∷ (xs ++ (l ∷ []))) (l ∷ xs)) (leb-suc-zero (length xs))

behind-head : (x : Command) (xs : List Command) (q : ℕ) (l : Command) (b : Bool)
    → pick b (x ∷ (xs ++ (l ∷ []))) (x ∷ set xs q l) ≡ x ∷ pick b (xs ++ (l ∷ [])) (set xs q l)
behind-head x xs q l true = refl
behind-head x xs q l false = refl

noted-behind : (x : Command) (xs : List Command) (q : ℕ) (l : Command) → noted (x ∷ xs) (suc q) l ≡ x ∷ noted xs q l
noted-behind x xs q l =
    ap (λ (b : Bool). pick b (x ∷ (xs ++ (l ∷ []))) (x ∷ set xs q l)) (leb-suc-suc (length xs) q) ∙ behind-head x xs q l (leb (length xs) q)

noted-on : (x : Command) (xs : List Command) (l : Command) (a q : ℕ) (b : Bool) → eqb x.apid.0 l.apid.0 ≡ b → seen_in (noted xs q l) a ≡ seen_in (l ∷ xs) a
    → seen_in (noted (x ∷ xs) (pick b 0 (suc q)) l) a ≡ seen_in (l ∷ x ∷ xs) a
unfolding seen_in
noted-on x xs l a q true e on =
    ap (λ (t : List Command). seen_in t a) (noted-head x xs l)
    ∙ hidden x l a (seen_in xs a) (eqb l.apid.0 a) (eqb x.apid.0 a) (ap (λ (y : ℕ). eqb y a) (eqb-true x.apid.0 l.apid.0 e))
noted-on x xs l a q false e on =
    ap (λ (t : List Command). seen_in t a) (noted-behind x xs q l) ∙ ap (pick (eqb x.apid.0 a) (last x.count.0)) on
    ∙ swapped x l (seen_in xs a) (eqb x.apid.0 a) (eqb l.apid.0 a)
    (λ p r. eqb-false x.apid.0 l.apid.0 e (eqb-true x.apid.0 a p ∙ sym (eqb-true l.apid.0 a r)))

-- it is the last of its APID, and the other APIDs keep theirs
pub seen-noted : (ls : List Command) (l : Command) (a : ℕ) → seen_in (noted ls (place_of ls l.apid.0) l) a ≡ seen_in (l ∷ ls) a
unfolding place_of
seen-noted [] l a = refl
seen-noted (x ∷ xs) l a = noted-on x xs l a (place_of xs l.apid.0) (eqb x.apid.0 l.apid.0) refl (seen-noted xs l a)

length-noted : (ls : List Command) (p : ℕ) (l : Command) (b : Bool) (s : Seen) → (b ≡ true → s ≡ never) → (b ≡ false → (k : ℕ) × (s ≡ last k))
    → length (pick b (ls ++ (l ∷ [])) (set ls p l)) ≡ length ls + is_new s
unfolding is_new
length-noted ls p l true s h k = length-append ls (l ∷ []) ∙ ap (λ (x : Seen). length ls + is_new x) (sym (h refl))
length-noted ls p l false s h k =
    let e = k refl in length-set ls p l ∙ (let z : length ls ≡ length ls + 0 = omega arith in z) ∙ ap (λ (x : Seen). length ls + is_new x) (sym e.1)

-- it is longer by one where the APID is new
pub noted-length : (ls : List Command) (l : Command) → length (noted ls (place_of ls l.apid.0) l) ≡ length ls + is_new (seen_in ls l.apid.0)
noted-length ls l =
    let a = l.apid.0 in
    let p = place_of ls a in
    length-noted ls p l (leb (length ls) p) (seen_in ls a)
    (λ e. unseen ls a (leb-true (length ls) p e))
    (λ e. ((get_or ls p nobody).count.0, seen_at ls a (leb-false (length ls) p e)))
