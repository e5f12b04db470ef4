-- A text cut into its pieces and into pairs of digits: what std's words for it give are the definitions.
use Rattle.std.proofs.Common.{◌≡◌, ℕ, zero, suc, ◌+◌, ◌/◌, ◌%◌, Bool, true, false, cond, not, ◌&&◌, eqb, ltb, List, [], ◌∷◌, map, length, get_or, drop, refl, sym, ap, arith, unwrap_or, slice_get, Option, Some, None, IfSome, is_some, ◌<◌, ◌≤◌, IsSome, rules, add-one, drop-cons}
use Rattle.std.proofs.lemmas.Grind.{common_steps}
use Rattle.std.proofs.lemmas.List.Folds.{list_all_at}
use Rattle.std.proofs.lemmas.List.Sums.{prefix_len-le-length}
use Rattle.std.specs.List.{position, position_or_len, slice_split, onto_first, count_by, list_all}
use Rattle.std.specs.Simd.{first_chunks}
use Rattle.std.proofs.lemmas.List.Recursion.{is_position_or_len, is_count_by}
use Rattle.text.specs.Pieces.{pick, gap, count_of, piece_of}
use Rattle.text.specs.Page.{Page, placed, laid}
use Rattle.text.specs.Digits.{pair_value, are_pairs, pair_octets}

-- ---- pieces

module _ (b : ℕ) where
  gap_or_len : (l : List ℕ) → gap b l ≡ position_or_len (λ x. eqb x b) l
  unfolding gap
  gap_or_len l = is_position_or_len (gap b) (λ x. eqb x b) refl (λ x xs. step (eqb x b) (gap b xs)) l
    where
      step : (t : Bool) (n : ℕ) → pick t 0 (suc n) ≡ cond t 0 (1 + n)
      step true n = refl
      step false n = omega arith

  pub gap-position : (l : List ℕ) → unwrap_or (position (λ x. eqb x b) l) (length l) ≡ gap b l
  gap-position l = rw gap_or_len (grind (arith, common_steps, prefix_len-le-length))

  pub count-split : (l : List ℕ) → count_of b l ≡ count_by (λ x. eqb x b) l
  unfolding count_of
  count-split l = is_count_by (count_of b) (λ x. eqb x b) refl (λ x xs. step (eqb x b) (count_of b xs)) l
    where
      step : (t : Bool) (n : ℕ) → pick t 1 0 + n ≡ cond t (1 + n) n
      step true n = refl
      step false n = omega arith

onto-first : (x : ℕ) (ps : List (List ℕ)) → unwrap_or (slice_get (onto_first x ps) 0) [] ≡ x ∷ unwrap_or (slice_get ps 0) []
onto-first x [] = refl
onto-first x (p ∷ ps) = refl

onto-others : (x k : ℕ) (ps : List (List ℕ)) → slice_get (onto_first x ps) (suc k) ≡ slice_get ps (suc k)
onto-others x k [] = refl
onto-others x k (p ∷ ps) = refl

piece-nil : (b k : ℕ) → piece_of b k [] ≡ []
unfolding piece_of gap
piece-nil b zero = refl
piece-nil b (suc k) = piece-nil b k

split_at : (b x : ℕ) (l : List ℕ) (t : Bool) → eqb x b ≡ t
    → ((k : ℕ) → unwrap_or (slice_get (slice_split (λ y. eqb y b) l) k) [] ≡ piece_of b k l)
    → (k : ℕ) → unwrap_or (slice_get (slice_split (λ y. eqb y b) (x ∷ l)) k) [] ≡ piece_of b k (x ∷ l)
unfolding piece_of gap
split_at b x l true e on zero = rw e refl
split_at b x l true e on (suc k) = rw e (on k)
split_at b x l false e on zero = rw (e, onto-first) (ap (λ p. x ∷ p) (on zero))
split_at b x l false e on (suc k) =
    let z : suc (gap b l) + 1 ≡ suc (gap b l + 1) = omega arith in
    rw (e, onto-others, z) (on (suc k))

pub piece-split : (b : ℕ) (l : List ℕ) (k : ℕ) → unwrap_or (slice_get (slice_split (λ y. eqb y b) l) k) [] ≡ piece_of b k l
unfolding piece_of gap
piece-split b [] zero = refl
piece-split b [] (suc k) = sym (piece-nil b k)
piece-split b (x ∷ l) k = split_at b x l (eqb x b) refl (piece-split b l) k

-- ---- pairs of digits

-- what a pair of digits writes
abbrev pub value : List ℕ → ℕ
value p = pair_value (get_or p 0 0) (get_or p 1 0)

abbrev pub chunks : List ℕ → List (List ℕ)
chunks l = first_chunks 2 (length l / 2) l

chunk : (x y : ℕ) (l : List ℕ) → chunks (x ∷ y ∷ l) ≡ (x ∷ y ∷ []) ∷ chunks l
chunk x y l =
    let z : length (x ∷ y ∷ l) / 2 ≡ suc (length l / 2) = omega arith in
    rw z refl

pub pair_octets-chunks : (l : List ℕ) → pair_octets l ≡ map value (chunks l)
unfolding pair_octets
pair_octets-chunks [] = refl
pair_octets-chunks (x ∷ []) = refl
pair_octets-chunks (x ∷ y ∷ l) = rw chunk (ap (λ n. pair_value x y ∷ n) (pair_octets-chunks l))

abbrev pub is_pair : List ℕ → Bool
is_pair p = not (ltb 255 (value p))

pub are_pairs-chunks : (l : List ℕ) → are_pairs l ≡ (eqb (length l % 2) 0 && list_all is_pair (chunks l))
unfolding are_pairs
are_pairs-chunks [] = refl
are_pairs-chunks (x ∷ []) = refl
are_pairs-chunks (x ∷ y ∷ l) =
    let z : length (x ∷ y ∷ l) % 2 ≡ length l % 2 = omega arith in
    rw (chunk, z) (step (ltb 255 (pair_value x y)) (eqb (length l % 2) 0) (list_all is_pair (chunks l)) (are_pairs-chunks l))
  where
    step : (t b c : Bool) → are_pairs l ≡ (b && c) → pick t false (are_pairs l) ≡ (b && (not t && c))
    step true true c e = refl
    step true false c e = refl
    step false b c e = e

pub pairs_even : (l : List ℕ) → are_pairs l ≡ true → length l % 2 ≡ 0
pairs_even l e = let is = are_pairs-chunks l in grind (arith, common_steps)

pub pair_octets-length : (l : List ℕ) → length (pair_octets l) ≤ length l / 2
unfolding pair_octets
pair_octets-length [] = omega arith
pair_octets-length (x ∷ []) = omega arith
pair_octets-length (x ∷ y ∷ l) = omega (arith, pair_octets-length l)

-- ---- pairs, as `pair` reads them

pub some_pair : (r : Option ℕ) (v : ℕ) → unwrap_or r 256 ≡ v → IfSome r (λ n. n < 256) → is_some r ≡ not (ltb 255 v)
some_pair None v e h = grind (arith, common_steps)
some_pair (Some n) v e h = grind (arith, common_steps)

is-some : (r : Option ℕ) (v : ℕ) → unwrap_or r 256 ≡ v → not (ltb 255 v) ≡ true → IsSome r
is-some None v e h = grind (arith, common_steps)
is-some (Some n) v e h = search rules

all_pairs : (s : List ℕ) → are_pairs s ≡ true → list_all is_pair (chunks s) ≡ true
all_pairs s e = let is = are_pairs-chunks s in grind (arith, common_steps)

pub pair_is : (s : List ℕ) (pairs : List (List ℕ)) (i : ℕ) (r : Option ℕ) → are_pairs s ≡ true → pairs ≡ chunks s → i < length pairs
    → unwrap_or r 256 ≡ value (get_or pairs i []) → IsSome r
pair_is s pairs i r e k h v =
    let all = all_pairs s e in
    let no = list_all_at is_pair pairs i [] h in
    is-some r (value (get_or pairs i [])) v (grind (arith, common_steps))

pub laid_next : (p : Page) (pairs : List (List ℕ)) (i : ℕ) → i < length pairs
    → laid p (map value (drop i pairs)) ≡ laid (placed p (value (get_or pairs i []))) (map value (drop (i + 1) pairs))
unfolding laid
laid_next p pairs i h = rw (add-one, drop-cons pairs i [] h) refl
