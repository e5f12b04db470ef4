-- What reading answers of a pair, case by case, and of pairs one after the other.
use Prim.Native.Nat.{ℕ, zero, suc, ◌+◌, ◌-◌, ◌≤◌, ◌<◌}
use mathlib.Core.Path.{◌≡◌, refl, sym, ap, ◌∙◌, subst}
use mathlib.Core.Bool.{Bool, true, not}
use mathlib.Core.List.{List, [], ◌∷◌, ◌++◌, append-nil}
use native.Mathlib.Omega.{arith}
use lib.ListN.{length, take, drop, get_or, set, replicate, length-append, length-drop, length-replicate}
use lib.Seq.{append_snoc, drop-drop, take_all}
use lib.Dec.{ltb}
use borrow.Author.Tests.{lt-ltb, le-ltb, ltb-false, not-false}
use Rattle.space_packet.specs.Bits.{pick, word}
use Rattle.space_packet.specs.Answer.{Answer, Numbers, gives, refuses, refusal, refuse_if, ◌then◌, and_then}
use Rattle.space_packet.proofs.Answers.{gives-inj, refuse-no, refuse-yes, refuse-gives, gives_then, refuses-then}
use Rattle.param_value.specs.Values.{read_value}
use Rattle.param_value.specs.declared.Value.{Value}
use Rattle.param_value.proofs.Calls.{read_is}
use Rattle.params.specs.Parameters.{Row, ptc_of, pfc_of, list_good, list_check, known, row_of}
use Rattle.params.specs.Request.{blank, holding, pushed, octets_in, found_at, read_pair, Pairs, behind, read_pairs, all_read, read_request, kept_of, read_in}
use Rattle.params.specs.declared.Pair.{Pair}
use Rattle.params.specs.declared.Params.{Params}
use Rattle.params.specs.declared.Found.{Found}
use Rattle.params.proofs.Lists.{known_some}

-- the part of octets from `at` on is their tail
pub tail_is : (at : ℕ) (m : List ℕ) → take (length m - at) (drop at m) ≡ drop at m
tail_is at m = take_all (length m - at) (drop at m) (let e = length-drop at m in omega arith)

-- ---- one pair

module _ (l : List Row) (d : List ℕ) (at : ℕ) where
  -- what stands where its value would
  abbrev value_at : Answer Value
  value_at = read_value (ptc_of (row_of l (word d at))) (pfc_of (row_of l (word d at))) (drop (at + 2) d)

  pub id-short : length d < at + 2 → read_pair l d at ≡ refuses (refusal 2 (length d ∷ (at + 2) ∷ []))
  unfolding read_pair
  id-short h = refuse-yes _ _ _ (lt-ltb (length d) (at + 2) h)

  module _ (g : list_good l ≡ true) (h : at + 2 ≤ length d) (n : 1 ≤ octets_in l (word d at)) where
    behind-id : read_pair l d at ≡ refuse_if (ltb (length d) (at + 2 + octets_in l (word d at))) (refusal 2 (length d ∷ (at + 2 + octets_in l (word d at)) ∷ [])) (gives (found_at l d at))
    unfolding read_pair
    behind-id =
        refuse-no _ _ _ (le-ltb (length d) (at + 2) h)
        ∙ refuse-no _ _ _ (ap not (known_some l (word d at) g (λ z. let m : octets_in l (word d at) ≡ 0 = z in omega arith)))

    pub pair_read : (v : Value) → value_at ≡ gives v → read_pair l d at ≡ gives (record { pair = record { id = word d at; value = v }; end = at + 2 + octets_in l (word d at) })
    pair_read v p =
        let r = read_is _ _ (drop (at + 2) d) v p in
        let k = r.fits in
        let m = length-drop (at + 2) d in
        behind-id ∙ refuse-no _ _ _ (le-ltb (length d) (at + 2 + octets_in l (word d at)) (omega (arith, k, m, h)))
        ∙ ap (λ (x : Value). gives (record { pair = record { id = word d at; value = x }; end = at + 2 + octets_in l (word d at) })) r.is

-- what a pair that was read tells
pub record PairIs (l : List Row) (d : List ℕ) (at : ℕ) (f : Found) : Type 0 where
  pub id-in : at + 2 ≤ length d
  pub known-id : known l (word d at) ≡ true
  pub value_in : at + 2 + octets_in l (word d at) ≤ length d
  pub is : found_at l d at ≡ f

pub pair_is : (l : List Row) (d : List ℕ) (at : ℕ) (f : Found) → read_pair l d at ≡ gives f → PairIs l d at f
unfolding read_pair
pair_is l d at f e =
    let p = refuse-gives _ _ _ f e in
    let q = refuse-gives _ _ _ f p.1 in
    let r = refuse-gives _ _ _ f q.1 in
    record { id-in = ltb-false _ _ p.0; known-id = not-false _ q.0; value_in = ltb-false _ _ r.0; is = gives-inj _ f r.1 }

pub end-within : (l : List Row) (d : List ℕ) (at : ℕ) (f : Found) → read_pair l d at ≡ gives f → f.end ≤ length d
end-within l d at f e = let p = pair_is l d at f e in subst (λ (x : Found). x.end ≤ length d) p.is p.value_in

-- ---- the places of a record

filled-set : (ps rest : List Pair) (p : Pair) (i : ℕ) → length ps ≡ i → 1 ≤ length rest → set (ps ++ rest) i p ≡ (ps ++ (p ∷ [])) ++ drop 1 rest
filled-set [] [] p i e h = absurd (omega arith)
filled-set [] (q ∷ rest) p zero e h = refl
filled-set [] (q ∷ rest) p (suc i) e h = absurd (omega arith)
filled-set (x ∷ ps) rest p zero e h = absurd (omega arith)
filled-set (x ∷ ps) rest p (suc i) e h = ap (λ (l : List Pair). x ∷ l) (filled-set ps rest p i (omega arith) h)

-- the places of a record, of which ps are in use
pushed-in : (ps b : List Pair) (x : Pair) → length ps < length b → length b ≡ 255
    → pushed (record { pairs = ps ++ drop (length ps) b; count = length ps }) x ≡ record { pairs = (ps ++ (x ∷ [])) ++ drop (length (ps ++ (x ∷ []))) b; count = length (ps ++ (x ∷ [])) }
pushed-in ps b x h e =
    let a = length-append ps (x ∷ []) in
    let n : length ps + 1 ≡ length (ps ++ (x ∷ [])) = omega arith in
    let d = length-drop (length ps) b in
    let s : set (ps ++ drop (length ps) b) (length ps) x ≡ (ps ++ (x ∷ [])) ++ drop (length (ps ++ (x ∷ []))) b =
    filled-set ps (drop (length ps) b) x (length ps) refl (omega arith)
    ∙ ap (λ (l : List Pair). (ps ++ (x ∷ [])) ++ l) (drop-drop 1 (length ps) b ∙ ap (λ (j : ℕ). drop j b) n) in
    ap (λ (t : Bool). pick t (record { pairs = set (ps ++ drop (length ps) b) (length ps) x; count = length ps + 1 }) (record { pairs = ps ++ drop (length ps) b; count = 256 })) (lt-ltb (length ps) 255 (omega (arith, e)))
    ∙ λ i. record { pairs = s i; count = n i }

pub pushed-holding : (ps : List Pair) (x : Pair) → length ps < 255 → pushed (holding ps) x ≡ holding (ps ++ (x ∷ []))
unfolding holding
pushed-holding ps x h = let e = length-replicate 255 blank in pushed-in ps (replicate 255 blank) x (omega (arith, e)) e

-- ---- pairs, one after the other

-- what was read, before what is read next
abbrev onward : List Pair → Answer Pairs → Answer Pairs
onward ps a = a then λ r. gives (record { pairs = ps ++ r.pairs; end = r.end })

-- i of n pairs are read, up to `at`
pub record Reading (l : List Row) (d : List ℕ) (n i at : ℕ) (p : Params) : Type 0 where
  pub read : List Pair
  pub so_far : length read ≡ i
  pub upto : i ≤ n
  pub within : at ≤ length d
  pub holds : p ≡ holding read
  pub rest : read_pairs l d n 1 ≡ onward read (read_pairs l d (n - i) at)

onward-behind : (ps : List Pair) (p : Pair) (a : Answer Pairs) → onward ps (a then λ r. gives (behind p r)) ≡ onward (ps ++ (p ∷ [])) a
unfolding and_then
onward-behind ps p (gives r) = ap (λ (x : List Pair). gives (record { pairs = x; end = r.end })) (sym (append_snoc ps p r.pairs))
onward-behind ps p (refuses e) = refl

module _ (l : List Row) (d : List ℕ) (n i at : ℕ) (p : Params) (r : Reading l d n i at p) where
  -- the turn's pair, and those behind it
  next-pair : i < n → read_pairs l d (n - i) at ≡ (read_pair l d at then λ f. read_pairs l d (n - (i + 1)) f.end then λ q. gives (behind f.pair q))
  unfolding read_pairs
  next-pair h = let z : n - i ≡ suc (n - (i + 1)) = omega arith in ap (λ (m : ℕ). read_pairs l d m at) z

  pub reading-on : i < n → n ≤ 255 → (f : Found) (q : Params) → gives f ≡ read_pair l d at → q ≡ pushed p f.pair → Reading l d n (i + 1) f.end q
  reading-on h k f q e t =
      let s = r.read in
      let w = r.so_far in
      let a = length-append s (f.pair ∷ []) in
      record {
        read = s ++ (f.pair ∷ []);
        so_far = omega arith;
        upto = omega arith;
        within = end-within l d at f (sym e);
        holds = t ∙ ap (λ (x : Params). pushed x f.pair) r.holds ∙ pushed-holding s f.pair (omega arith);
        rest = r.rest ∙ ap (onward s) (next-pair h ∙ gives_then _ _ f (sym e)) ∙ onward-behind s f.pair (read_pairs l d (n - (i + 1)) f.end);
      }

  pub reading-refused : i < n → (e : Numbers) → refuses e ≡ read_pair l d at → read_pairs l d n 1 ≡ refuses e
  reading-refused h e p = r.rest ∙ refuses-then _ _ e (next-pair h ∙ refuses-then _ _ e (sym p))

  pub reading-whole : n ≤ i → read_pairs l d n 1 ≡ gives (record { pairs = r.read; end = at })
  unfolding read_pairs
  reading-whole h =
      let k = r.upto in
      let z : n - i ≡ 0 = omega arith in
      r.rest ∙ gives_then _ _ _ (ap (λ (m : ℕ). read_pairs l d m at) z)
      ∙ ap (λ (x : List Pair). gives (record { pairs = x; end = at })) (append-nil r.read)

-- ---- the request

module _ (l : List Row) (d : List ℕ) where
  pub read-empty : list_check l ≡ gives tt → length d < 1 → read_request l d ≡ refuses (refusal 2 (length d ∷ 1 ∷ []))
  unfolding read_request
  read-empty g h = gives_then _ _ tt g ∙ refuse-yes _ _ _ (lt-ltb (length d) 1 h)

  pub read_all : list_check l ≡ gives tt → 1 ≤ length d → read_request l d ≡ all_read d (read_pairs l d (get_or d 0 0) 1)
  unfolding read_request
  read_all g h = gives_then _ _ tt g ∙ refuse-no _ _ _ (le-ltb (length d) 1 h)

  -- and what is handed back
  pub passed-refused : (e : Numbers) → read_request l d ≡ refuses e → (read_in l d).passed ≡ refuses e
  unfolding kept_of
  passed-refused e h = ap (λ (a : Answer (List Pair)). (kept_of a).passed) h

  pub kept-is : (ps : List Pair) → read_request l d ≡ gives ps → read_in l d ≡ record { passed = gives tt; kept = holding ps }
  unfolding kept_of
  kept-is ps h = ap kept_of h

  -- of the pairs that its count tells
  module _ (g : list_check l ≡ gives tt) (h : 1 ≤ length d) (i at : ℕ) (p : Params) (r : Reading l d (get_or d 0 0) i at p) where
    abbrev n : ℕ
    n = get_or d 0 0

    pub request-refused : i < n → (e : Numbers) → refuses e ≡ read_pair l d at → (read_in l d).passed ≡ refuses e
    unfolding all_read
    request-refused k e q = passed-refused e (read_all g h ∙ refuses-then _ _ e (reading-refused l d n i at p r k e q))

    pub request-left : n ≤ i → at < length d → (read_in l d).passed ≡ refuses (refusal 23 [])
    unfolding all_read
    request-left k q = passed-refused _ (read_all g h ∙ gives_then _ _ _ (reading-whole l d n i at p r k) ∙ refuse-yes _ _ _ (lt-ltb at (length d) q))

    pub request-read : n ≤ i → length d ≤ at → read_in l d ≡ record { passed = gives tt; kept = p }
    unfolding all_read
    request-read k q =
        kept-is r.read (read_all g h ∙ gives_then _ _ _ (reading-whole l d n i at p r k) ∙ refuse-no _ _ _ (le-ltb at (length d) q))
        ∙ ap (λ (x : Params). record { passed = gives tt; kept = x }) (sym r.holds)
