-- Laws of the entries that a tracker holds.
use Prim.Native.Nat.{ℕ, zero, suc, ◌+◌, ◌≤◌, ◌<◌}
use mathlib.Core.Path.{◌≡◌, refl, sym, ap, ap₂, ◌∙◌}
use mathlib.Core.Bool.{Bool, true, false, ◌||◌}
use mathlib.Core.List.{List, [], ◌∷◌, ◌++◌, append_assoc, append-nil}
use native.Mathlib.Omega.{arith}
use native.Mathlib.Numerals.{add-one}
use lib.ListN.{length, take, drop, get_or, set, length-append, length-take, take-append-drop}
use lib.Seq.{take-suc, take_all, set_split, append_snoc, drop-append-add, take-append_seam, drop-drop}
use lib.Dec.{eqb}
use Rattle.std.specs.List.{list_any}
use Rattle.std.specs.Prelude.{Some, None}
use borrow.Author.Tests.{ne_eqb, lt-ltb, le-ltb}
use Rattle.space_packet.specs.Bits.{pick}
use Rattle.tracker.specs.declared.Entry.{Entry}
use Rattle.tracker.specs.declared.Tracker.{Tracker}
use Rattle.tracker.specs.Refusals.{among}
use Rattle.tracker.specs.Open.{entries_of, request_at, holding, ids_of, noted, closes, left_of, left}

pub ids-length : (l : List Entry) → length (ids_of l) ≡ length l
unfolding ids_of
ids-length [] = refl
ids-length (e ∷ l) = ap suc (ids-length l)

-- ---- the search

pub any-among : (id : ℕ) (l : List Entry) → list_any (λ (e : Entry). eqb e.id id) l ≡ among id (ids_of l)
unfolding among ids_of
any-among id [] = refl
any-among id (e ∷ l) = ap (λ (b : Bool). eqb e.id id || b) (any-among id l)

-- the request of the entry at i
id-at : (l : List Entry) (i : ℕ) (d : Entry) → i < length l → get_or (ids_of l) i 0 ≡ (get_or l i d).id
unfolding ids_of
id-at [] i d h = absurd (omega arith)
id-at (e ∷ l) zero d h = refl
id-at (e ∷ l) (suc i) d h = id-at l i d (omega arith)

pub request-here : (l : List Entry) (i : ℕ) (d : Entry) → i < length l → Some (get_or l i d).id ≡ request_at (ids_of l) i
request-here l i d h =
    let k = ids-length l in
    ap Some (sym (id-at l i d h)) ∙ ap (λ (b : Bool). pick b (Some (get_or (ids_of l) i 0)) None) (sym (lt-ltb i (length (ids_of l)) (omega arith)))

pub request-none : (l : List Entry) (i : ℕ) → length l ≤ i → None ≡ request_at (ids_of l) i
request-none l i h =
    let k = ids-length l in
    ap (λ (b : Bool). pick b (Some (get_or (ids_of l) i 0)) None) (sym (le-ltb i (length (ids_of l)) (omega arith)))

-- ---- one more entry

-- fewer than 32 are as many as the count says
count-is : (t : Tracker) → length t.entries ≡ 32 → length (entries_of t) < 32 → t.count ≡ length (entries_of t)
count-is t h k = let m = length-take t.count t.entries in omega arith

pub add_is : (t : Tracker) (e : Entry) → length t.entries ≡ 32 → length (entries_of t) < 32
    → record { entries = set t.entries t.count e; count = t.count + 1 } ≡ holding t (entries_of t ++ (e ∷ []))
unfolding holding
add_is t e h k =
    let l = entries_of t in
    let n = t.count in
    let c = count-is t h k in
    let m : length (l ++ (e ∷ [])) ≡ n + 1 = length-append l (e ∷ []) ∙ ap (λ (x : ℕ). x + 1) (sym c) in
    let s : set t.entries n e ≡ (l ++ (e ∷ [])) ++ drop (length (l ++ (e ∷ []))) t.entries =
    set_split t.entries n e (omega arith)
    ∙ sym (append_snoc l e (drop (suc n) t.entries))
    ∙ ap (λ (j : ℕ). (l ++ (e ∷ [])) ++ drop j t.entries) (sym (add-one n) ∙ sym m) in
    let m' = sym m in λ i. record { entries = s i; count = m' i }

-- ---- what a tracker holds

pub entries-held : (t : Tracker) (l : List Entry) → entries_of (holding t l) ≡ l
unfolding holding
entries-held t l = take-append_seam l (drop (length l) t.entries)

-- more entries behind those held
holding-on : (t : Tracker) (l x : List Entry) → holding (holding t l) (l ++ x) ≡ holding t (l ++ x)
unfolding holding
holding-on t l x =
    let n = length-append l x in
    let e : drop (length (l ++ x)) (l ++ drop (length l) t.entries) ≡ drop (length (l ++ x)) t.entries =
    ap (λ (k : ℕ). drop k (l ++ drop (length l) t.entries)) n
    ∙ drop-append-add l (drop (length l) t.entries) (length x)
    ∙ drop-drop (length x) (length l) t.entries
    ∙ ap (λ (k : ℕ). drop k t.entries) (sym n) in
    λ i. record { entries = (l ++ x) ++ e i; count = length (l ++ x) }

pub holding-same : (t : Tracker) → length t.entries ≡ 32 → length (entries_of t) < 32 → t ≡ holding t (entries_of t ++ [])
unfolding holding
holding-same t h k =
    let n = count-is t h k in
    let p : entries_of t ++ [] ≡ entries_of t = append-nil (entries_of t) in
    let e : t.entries ≡ (entries_of t ++ []) ++ drop (length (entries_of t ++ [])) t.entries =
    sym (take-append-drop t.count t.entries)
    ∙ ap₂ (λ (x : List Entry) (j : ℕ). x ++ drop j t.entries) (sym p) (n ∙ sym (ap length p)) in
    let q : t.count ≡ length (entries_of t ++ []) = n ∙ sym (ap length p) in
    λ i. record { entries = e i; count = q i }

-- ---- what a report leaves

pub left_other : (id sub : ℕ) (e : Entry) → (e.id ≡ id → ⊥) → left_of id sub e ≡ e ∷ []
left_other id sub e h =
    ap (λ (b : Bool). pick b (pick (closes sub (noted sub e)) [] (noted sub e ∷ [])) (e ∷ [])) (ne_eqb e.id id h)

pub left-append : (id sub : ℕ) (a b : List Entry) → left id sub (a ++ b) ≡ left id sub a ++ left id sub b
unfolding left
left-append id sub [] b = refl
left-append id sub (e ∷ a) b =
    ap (λ (x : List Entry). left_of id sub e ++ x) (left-append id sub a b) ∙ sym (append_assoc (left_of id sub e) (left id sub a) (left id sub b))

left_one : (id sub : ℕ) (e : Entry) → left id sub (e ∷ []) ≡ left_of id sub e
unfolding left
left_one id sub e = append-nil (left_of id sub e)

one-fits : (b c : Bool) (x y : Entry) → length (pick b (pick c [] (x ∷ [])) (y ∷ [])) ≤ 1
one-fits true true x y = omega arith
one-fits true false x y = omega arith
one-fits false c x y = omega arith

pub left-fits : (id sub : ℕ) (l : List Entry) → length (left id sub l) ≤ length l
unfolding left
left-fits id sub [] = omega arith
left-fits id sub (e ∷ l) =
    let h = left-fits id sub l in
    let k = one-fits (eqb e.id id) (closes sub (noted sub e)) (noted sub e) e in
    omega (arith, length-append (left_of id sub e) (left id sub l))

-- ---- one report, over the entries of which i are done

pub left-room : (t : Tracker) (l : List Entry) (i id sub : ℕ) (out : Tracker) → i < length l → length l ≤ 32
    → out ≡ holding t (left id sub (take i l)) → length (entries_of out) < 32
left-room t l i id sub out h k e =
    let q : entries_of out ≡ left id sub (take i l) = ap (λ (x : Tracker). entries_of x) e ∙ entries-held t (left id sub (take i l)) in
    omega (arith, ap length q, left-fits id sub (take i l), length-take i l)

pub left_step : (t : Tracker) (l : List Entry) (i id sub : ℕ) (d : Entry) (out next : Tracker) → i < length l
    → out ≡ holding t (left id sub (take i l)) → next ≡ holding out (entries_of out ++ left_of id sub (get_or l i d))
    → next ≡ holding t (left id sub (take (i + 1) l))
left_step t l i id sub d out next h e k =
    let m = left id sub (take i l) in
    let x = left_of id sub (get_or l i d) in
    k ∙ ap (λ (t : Tracker). holding t (entries_of t ++ x)) e
    ∙ ap (λ (y : List Entry). holding (holding t m) (y ++ x)) (entries-held t m)
    ∙ holding-on t m x
    ∙ ap (holding t)
    (ap (λ (y : List Entry). m ++ y) (sym (left_one id sub (get_or l i d)))
    ∙ sym (left-append id sub (take i l) (get_or l i d ∷ []))
    ∙ ap (left id sub) (sym (take-suc l i d h) ∙ ap (λ (j : ℕ). take j l) (sym (add-one i))))

abbrev pub places_of : List Entry → Tracker
places_of es = record { entries = es; count = 0 }

pub left_end : (t : Tracker) (l : List Entry) (i id sub : ℕ) (out : Tracker) → l ≡ entries_of t → length l ≤ i
    → out ≡ holding (places_of t.entries) (left id sub (take i l)) → out ≡ holding t (left id sub (entries_of t))
unfolding holding
left_end t l i id sub out u h e = e ∙ ap (λ (x : List Entry). holding t (left id sub x)) (take_all i l h ∙ u)

-- what the check uses for the tracker's own calls
pub ruleset held = (ids-length, add_is, holding-same)
