-- What a text that is laid down leaves in a buffer.
use Prim.Native.Nat.{ℕ, suc, ◌+◌, ◌≤◌, ◌<◌}
use mathlib.Core.Path.{◌≡◌, refl, sym, ap, ◌∙◌}
use mathlib.Core.Bool.{Bool, true, false}
use mathlib.Core.List.{List, [], ◌∷◌, ◌++◌}
use native.Mathlib.Numerals.{add-one}
use native.Mathlib.Omega.{arith}
use borrow.Author.Tests.{lt-ltb, le-ltb, ltb-true, ltb-false}
use lib.Dec.{ltb}
use lib.ListN.{length, take, drop, set, length-set, length-append, length-take, length-drop, take-append-drop, drop_of_length-le}
use lib.Seq.{sets, sets-eq}
use Rattle.text.specs.Page.{Page, page, placed, laid, at_start}

-- one text after another is the two in one
pub laid-append : (p : Page) (a b : List ℕ) → laid (laid p a) b ≡ laid p (a ++ b)
unfolding laid
laid-append p [] b = refl
laid-append p (x ∷ a) b = laid-append (placed p x) a b

pub and_then : (p : Page) (a b : List ℕ) {q r : Page} → q ≡ laid p a → r ≡ laid q b → r ≡ laid p (a ++ b)
and_then p a b x y = y ∙ ap (λ (z : Page). laid z b) x ∙ laid-append p a b

-- where there is room, nothing is dropped
laid-sets : (t l : List ℕ) (n : ℕ) → n + length t ≤ length l → laid (page l n) t ≡ page (sets l n t) (n + length t)
unfolding laid placed
laid-sets [] l n h = let z : n + 0 ≡ n = omega arith in rw z refl
laid-sets (x ∷ t) l n h =
    let z : suc n + length t ≡ n + suc (length t) = omega arith in
    let r : n < length l = omega arith in
    rw (lt-ltb n (length l) r, add-one)
    (laid-sets t (set l n x) (suc n) (simp length-set (omega arith)) ∙ ap (page _) z)

-- from the start on: the text stands in front, and behind it what was there
pub laid-room : (t l : List ℕ) → length t ≤ length l → laid (page l 0) t ≡ at_start l t
laid-room t l h =
    let z : 0 + length t ≡ length t = omega arith in
    laid-sets t l 0 (omega arith)
    ∙ ap (λ (x : List ℕ). page x (0 + length t)) (sets-eq t l 0 (omega arith))
    ∙ ap (λ (n : ℕ). page (t ++ drop n l) n) z

-- past the end nothing is laid
laid-full : (t l : List ℕ) (n : ℕ) → length l ≤ n → laid (page l n) t ≡ page l n
unfolding laid placed
laid-full [] l n h = refl
laid-full (x ∷ t) l n h = rw (le-ltb n (length l) h) (laid-full t l n h)

laid-over : (t l : List ℕ) (b : Bool) → ltb (length l) (length t) ≡ b
    → laid (at_start l (take (length l) t)) (drop (length l) t) ≡ at_start l (take (length l) t)
unfolding laid
laid-over t l true e =
    let z : length l < length t = ltb-true _ _ e in
    laid-full (drop (length l) t) _ _ (simp (length-append, length-take, length-drop) (omega arith))
laid-over t l false e = ap (laid (at_start l (take (length l) t))) (drop_of_length-le t (ltb-false _ _ e))

-- any text: as much of it as there is room for
pub laid-start : (t l : List ℕ) → laid (page l 0) t ≡ at_start l (take (length l) t)
laid-start t l =
    ap (laid (page l 0)) (sym (take-append-drop (length l) t))
    ∙ sym (laid-append (page l 0) (take (length l) t) (drop (length l) t))
    ∙ ap (λ (p : Page). laid p (drop (length l) t)) (laid-room (take (length l) t) l (simp length-take (omega arith)))
    ∙ laid-over t l (ltb (length l) (length t)) refl
