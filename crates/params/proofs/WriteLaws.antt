-- What writing answers of pairs, one after the other, and what it leaves in the buffer.
use Prim.Native.Nat.{ℕ, suc, ◌+◌, ◌-◌, ◌*◌, ◌≤◌, ◌<◌}
use mathlib.Core.Path.{◌≡◌, refl, sym, ap, ap₂, ◌∙◌}
use mathlib.Core.Bool.{Bool, true, not, ◌&&◌, and-eq-true_iff}
use mathlib.Core.List.{List, [], ◌∷◌, ◌++◌, append-nil, append_assoc}
use native.Mathlib.Omega.{arith}
use native.Mathlib.Numerals.{add-one}
use lib.ListN.{length, take, drop, get_or, set, drop_of_length-le, length-append, length-drop, length-take, take-append-drop}
use lib.Seq.{drop-cons, drop-length, drop-drop, take_at, drop_at}
use borrow.Author.Tests.{le-ltb, ltb-false, not-false}
use borrow.Rule.Slice.PartMut.{put_mid}
use Rattle.std.specs.Prelude.{Result, Ok, is_some}
use Rattle.std.specs.List.{list_all}
use Rattle.space_packet.specs.Answer.{Answer, Numbers, gives, refuses, ◌then◌, in_buffer, and_then}
use Rattle.space_packet.specs.declared.PusError.{PusError}
use Rattle.space_packet.specs.Bits.{be16}
use Rattle.space_packet.specs.Wrote.{Wrote}
use Rattle.space_packet.proofs.Determined.{answer-inj}
use Rattle.space_packet.proofs.Answers.{gives-inj, never, refuse-no, refuse-gives, gives_then, refuses-then, then-gives, left-written, has_room}
use Rattle.param_value.specs.Octets.{size_in, given_by}
use Rattle.param_value.specs.Values.{value_octets}
use Rattle.param_value.proofs.Types.{octets_le, pattern-is}
use Rattle.param_value.proofs.Calls.{octets-are, wrote-given}
use Rattle.param_value.proofs.RoundTrip.{written-length}
use Rattle.params.specs.Parameters.{Row, ptc_of, pfc_of, list_check, known, row_of, row_in}
use Rattle.params.specs.Request.{octets_in, ids_known, pair_octets, pairs_octets, request_octets, length_of}
use Rattle.params.specs.Places.{HasRoom}
use Rattle.params.specs.declared.Pair.{Pair}
use Rattle.params.proofs.Lists.{is_some-row, known-named}
use Rattle.params.proofs.ReadLaws.{tail_is}

-- the pair that a loop has reached, and those behind it
pub pair-at : (ps : List Pair) (i : ℕ) (d : Pair) → i < length ps → drop i ps ≡ get_or ps i d ∷ drop (i + 1) ps
pair-at ps i d h = drop-cons ps i d h ∙ ap (λ (j : ℕ). get_or ps i d ∷ drop j ps) (sym (add-one i))

pub no_more : (ps : List Pair) (i : ℕ) → length ps ≤ i → drop i ps ≡ []
no_more ps i h = drop_of_length-le ps {i = i} h

-- ---- the IDs

pub ids-all : (l : List Row) (ps : List Pair) → list_all (λ (p : Pair). is_some (row_in l p.id)) ps ≡ ids_known l ps
unfolding ids_known
ids-all l [] = refl
ids-all l (p ∷ ps) = ap₂ (λ (a b : Bool). a && b) (is_some-row l p.id) (ids-all l ps)

pub ids-next : (l : List Row) (p : Pair) (ps qs : List Pair) → qs ≡ p ∷ ps → ids_known l qs ≡ true → (known l p.id ≡ true) × (ids_known l ps ≡ true)
unfolding ids_known
ids-next l p ps qs e h = (and-eq-true_iff _ _).0 (sym (ap (ids_known l) e) ∙ h)

-- ---- lengths

-- t octets before those of an answer
abbrev pub adds : ℕ → Answer ℕ → Answer ℕ
adds t a = a then λ k. gives (t + k)

abbrev joined : Answer (List ℕ) → Answer (List ℕ) → Answer (List ℕ)
joined a b = a then λ o. b then λ r. gives (o ++ r)

joined_length : (a b : Answer (List ℕ)) (t k : ℕ) → length_of a ≡ gives k → adds (t + k) (length_of b) ≡ adds t (length_of (joined a b))
unfolding length_of and_then
joined_length (gives o) (gives r) t k p =
    let e : length o ≡ k = gives-inj (length o) k p in
    let q = length-append o r in
    let z : t + k + length r ≡ t + length (o ++ r) = omega arith in ap gives z
joined_length (gives o) (refuses e) t k p = refl
joined_length (refuses e) b t k p = absurd (never k e p)

joined-refused : (a b : Answer (List ℕ)) (e : Numbers) → length_of a ≡ refuses e → length_of (joined a b) ≡ refuses e
unfolding length_of and_then
joined-refused (gives o) b e p = absurd (never (length o) e (sym p))
joined-refused (refuses d) b e p = p

pub adds_none : (a : Answer ℕ) → adds 0 a ≡ a
unfolding and_then
adds_none (gives k) = ap gives (let z : 0 + k ≡ k = omega arith in z)
adds_none (refuses e) = refl

pub adds-refused : (t : ℕ) (a : Answer ℕ) (e : Numbers) → a ≡ refuses e → adds t a ≡ refuses e
adds-refused t a e p = refuses-then _ _ e p

pub length-on : (l : List Row) (p : Pair) (ps qs : List Pair) (t k : ℕ) → qs ≡ p ∷ ps → length_of (pair_octets l p) ≡ gives k
    → adds (t + k) (length_of (pairs_octets l ps)) ≡ adds t (length_of (pairs_octets l qs))
unfolding pairs_octets
length-on l p ps qs t k e h = joined_length (pair_octets l p) (pairs_octets l ps) t k h ∙ ap (λ (x : List Pair). adds t (length_of (pairs_octets l x))) (sym e)

pub length-not : (l : List Row) (p : Pair) (ps qs : List Pair) (e : Numbers) → qs ≡ p ∷ ps → length_of (pair_octets l p) ≡ refuses e → length_of (pairs_octets l qs) ≡ refuses e
unfolding pairs_octets
length-not l p ps qs e h r = ap (λ (x : List Pair). length_of (pairs_octets l x)) h ∙ joined-refused (pair_octets l p) (pairs_octets l ps) e r

pub length-end : (l : List Row) (qs : List Pair) (t : ℕ) → qs ≡ [] → adds t (length_of (pairs_octets l qs)) ≡ gives t
unfolding pairs_octets length_of and_then
length-end l qs t e = ap (λ (x : List Pair). adds t (length_of (pairs_octets l x))) e ∙ ap gives (let z : t + 0 ≡ t = omega arith in z)

pub length-given : (a : Answer (List ℕ)) (o : List ℕ) → a ≡ gives o → length_of a ≡ gives (length o)
unfolding length_of
length-given a o p = gives_then _ _ o p

pub length-is : (a : Answer (List ℕ)) (k : ℕ) → length_of a ≡ gives k → (o : List ℕ) × (a ≡ gives o) × (length o ≡ k)
unfolding length_of
length-is a k p = let t = then-gives a (λ o. gives (length o)) k p in (t.0, t.1, gives-inj (length t.0) k t.2)

-- ---- a pair

module _ (l : List Row) (p : Pair) where
  abbrev row_of_pair : Row
  row_of_pair = row_of l p.id

  pub record PairOctets (o : List ℕ) : Type 0 where
    pub value : List ℕ
    pub are : value_octets (ptc_of row_of_pair) (pfc_of row_of_pair) p.value ≡ gives value
    pub is : be16 p.id ++ value ≡ o

  pub pair-octets-are : (o : List ℕ) → pair_octets l p ≡ gives o → PairOctets o
  unfolding pair_octets
  pair-octets-are o h = let t = then-gives _ _ o h in record { value = t.0; are = t.1; is = gives-inj _ o t.2 }

  pub pair-length : (o : List ℕ) → pair_octets l p ≡ gives o → length o ≡ 2 + octets_in l p.id
  pair-length o h =
      let r = pair-octets-are o h in
      let w = written-length _ _ _ r.value r.are in
      let e : length (be16 p.id ++ r.value) ≡ 2 + octets_in l p.id = omega (arith, w) in ap length (sym r.is) ∙ e

  pub pair-ten : (k : ℕ) → length_of (pair_octets l p) ≡ gives k → k ≤ 10
  pair-ten k h =
      let t = length-is (pair_octets l p) k h in
      let e = pair-length t.0 t.1 in
      let m = octets_le (ptc_of row_of_pair) (pfc_of row_of_pair) in
      let j = t.2 in omega (arith, e, m, j)

pub pairs-ten : (l : List Row) (ps : List Pair) (o : List ℕ) → pairs_octets l ps ≡ gives o → length o ≤ 10 * length ps
unfolding pairs_octets
pairs-ten l [] o e = let z : 0 ≡ length o = ap length (gives-inj [] o e) in omega (arith, z)
pairs-ten l (p ∷ ps) o e =
    let t = then-gives _ _ o e in
    let u = then-gives _ _ o t.2 in
    let a = pair-ten l p (length t.0) (length-given _ _ t.1) in
    let b = pairs-ten l ps u.0 u.1 in
    let q = length-append t.0 u.0 in
    let z : length (t.0 ++ u.0) ≡ length o = ap length (gives-inj (t.0 ++ u.0) o u.2) in omega (arith, a, b, q, z)

-- ---- the request

module _ (l : List Row) (n : ℕ) (ps : List Pair) where
  pub request-pairs : list_check l ≡ gives tt → ids_known l ps ≡ true → n ≤ 255 → request_octets l n ps ≡ (pairs_octets l ps then λ o. gives (n ∷ o))
  unfolding request_octets
  request-pairs g h k = gives_then _ _ tt g ∙ refuse-no _ _ _ (ap not h) ∙ refuse-no _ _ _ (le-ltb 255 n k)

  pub record RequestIs (o : List ℕ) : Type 0 where
    pub list-good : list_check l ≡ gives tt
    pub ids : ids_known l ps ≡ true
    pub few : n ≤ 255
    pub pairs : List ℕ
    pub are : pairs_octets l ps ≡ gives pairs
    pub is : n ∷ pairs ≡ o

  pub request-is : (o : List ℕ) → request_octets l n ps ≡ gives o → RequestIs o
  unfolding request_octets
  request-is o e =
      let t = then-gives (list_check l) _ o e in
      let p = refuse-gives _ _ _ o t.2 in
      let q = refuse-gives _ _ _ o p.1 in
      let u = then-gives (pairs_octets l ps) _ o q.1 in
      record { list-good = t.1; ids = not-false _ p.0; few = ltb-false 255 n q.0; pairs = u.0; are = u.1; is = gives-inj _ o u.2 }

-- ---- what a write leaves

-- octets that an answer gives, where there is room for them
pub wrote-whole : (a : Answer (List ℕ)) (v before after : List ℕ) (r : Result ℕ PusError) → a ≡ gives v → length v ≤ length before
    → Wrote (size_in a (length before)) (given_by a) before r after → (r ≡ Ok (length v)) × (after ≡ v ++ drop (length v) before)
unfolding size_in
wrote-whole a v before after r p h w =
    let g = gives_then a (λ l. in_buffer (length before) (length l)) v p ∙ has_room (length before) (length v) (length v) refl h in (
      answer-inj r (Ok (length v)) (w.answered ∙ g),
      w.left ∙ left-written (size_in a (length before)) (given_by a) before (length v) g ∙ ap (λ (x : Answer (List ℕ)). given_by x ++ drop (length v) before) p,
    )

-- a part from `at` on comes back as the buffer's tail
pub tail-back : (at : ℕ) (m y : List ℕ) → put_mid at (length m - at) m y ≡ take at m ++ y
tail-back at m y =
    ap (λ (x : List ℕ). take at m ++ (y ++ x)) (ap (λ (k : ℕ). drop k (drop at m)) (sym (length-drop at m)) ∙ drop-length (drop at m))
    ∙ ap (λ (x : List ℕ). take at m ++ x) (append-nil y)

-- a pair written over the first of a part: two octets of its ID, and its value, which write_value wrote behind them
pub record PairPut (l : List Row) (p : Pair) (part after : List ℕ) (r : Result ℕ PusError) : Type 0 where
  pub size : ℕ
  pub done : r ≡ Ok size
  pub few : size ≤ 8
  pub whole : 2 + size ≡ length (given_by (pair_octets l p))
  pub left : be16 p.id ++ after ≡ given_by (pair_octets l p) ++ drop (length (given_by (pair_octets l p))) part

module _ (l : List Row) (p : Pair) (part : List ℕ) (h : HasRoom (pair_octets l p) 0 (length part)) where
  pub pair-known : known l p.id ≡ true
  pair-known =
      let o = pair-octets-are l p h.octets h.are in
      let v = octets-are _ _ _ o.value o.are in
      known-named l p.id (pattern-is _ _ _ v.number v.pattern).named

  pub pair-put : (row before after : List ℕ) (r : Result ℕ PusError) → row ≡ row_of l p.id → before ≡ drop 2 part
      → Wrote (size_in (value_octets (ptc_of row) (pfc_of row) p.value) (length before)) (given_by (value_octets (ptc_of row) (pfc_of row) p.value)) before r after
      → PairPut l p part after r
  pair-put row before after r e b w =
      let o = pair-octets-are l p h.octets h.are in
      let v = o.value in
      let i : given_by (pair_octets l p) ≡ be16 p.id ++ v = ap given_by h.are ∙ sym o.is in
      let a : value_octets (ptc_of row) (pfc_of row) p.value ≡ gives v = ap (λ (x : Row). value_octets (ptc_of x) (pfc_of x) p.value) e ∙ o.are in
      let k = written-length _ _ _ v o.are in
      let m = octets_le (ptc_of (row_of l p.id)) (pfc_of (row_of l p.id)) in
      let n = ap length o.is in
      let d = ap length b ∙ length-drop 2 part in
      let room = h.room in
      let q = wrote-whole _ v before after r a (omega (arith, room, n, d)) w in
      let z : length (be16 p.id ++ v) ≡ 2 + length v = omega arith in
      record {
        size = length v;
        done = q.0;
        few = omega (arith, k, m);
        whole = sym (ap length i ∙ z);
        left =
            ap (λ (x : List ℕ). be16 p.id ++ x) (q.1 ∙ ap (λ (x : List ℕ). v ++ drop (length v) x) b ∙ ap (λ (x : List ℕ). v ++ x) (drop-drop (length v) 2 part))
            ∙ ap (λ (j : ℕ). (be16 p.id ++ v) ++ drop j part) (sym z)
            ∙ ap (λ (x : List ℕ). x ++ drop (length x) part) (sym i);
      }

-- ---- the pairs, one after the other

-- i of the pairs are written, up to `at`
pub record Putting (l : List Row) (ps : List Pair) (before : List ℕ) (i at : ℕ) (buf : List ℕ) : Type 0 where
  pub all : HasRoom (pairs_octets l ps) 1 (length before)
  pub done : List ℕ
  pub rest : List ℕ
  pub parts : done ++ rest ≡ all.octets
  pub so_far : 1 + length done ≡ at
  pub next : pairs_octets l (drop i ps) ≡ gives rest
  pub left : buf ≡ take 1 before ++ done ++ drop at before

pub putting-begins : (l : List Row) (ps : List Pair) (before : List ℕ) → HasRoom (pairs_octets l ps) 1 (length before) → Putting l ps before 0 1 before
putting-begins l ps before h = record {
  all = h;
  done = [];
  rest = h.octets;
  parts = refl;
  so_far = refl;
  next = h.are;
  left = sym (ap (λ (x : List ℕ). x ++ drop 1 before) (append-nil (take 1 before)) ∙ take-append-drop 1 before);
}

module _ (l : List Row) (ps : List Pair) (before : List ℕ) (i at : ℕ) (buf : List ℕ) (g : Putting l ps before i at buf) where
  written-so-far : length (take 1 before ++ g.done) ≡ at
  written-so-far =
      let a = length-append (take 1 before) g.done in
      let b = length-take 1 before in
      let s = g.so_far in
      let r = g.all.room in omega arith

  pub putting-length : length buf ≡ length before
  putting-length =
      let e = ap length g.left ∙ length-append (take 1 before ++ g.done) (drop at before) in
      let d = length-drop at before in
      let w = written-so-far in
      let s = g.so_far in
      let r = g.all.room in
      let q = length-append g.done g.rest in
      let z = ap length g.parts in omega (arith, e, d, w, s, r, q, z)

  -- the next pair's octets, and those behind them
  record Turn (p : Pair) (qs : List Pair) : Type 0 where
    octets : List ℕ
    are : pair_octets l p ≡ gives octets
    others : List ℕ
    next-are : pairs_octets l qs ≡ gives others
    both : octets ++ others ≡ g.rest

  turn : (p : Pair) (qs : List Pair) → drop i ps ≡ p ∷ qs → Turn p qs
  unfolding pairs_octets
  turn p qs e =
      let t = then-gives (pair_octets l p) _ g.rest (sym (ap (pairs_octets l) e) ∙ g.next) in
      let u = then-gives (pairs_octets l qs) _ g.rest t.2 in
      record { octets = t.0; are = t.1; others = u.0; next-are = u.1; both = gives-inj _ g.rest u.2 }

  pub putting-room : (p : Pair) (qs : List Pair) → drop i ps ≡ p ∷ qs → HasRoom (pair_octets l p) 0 (length (take (length buf - at) (drop at buf)))
  putting-room p qs e =
      let t = turn p qs e in
      let a = ap length (tail_is at buf) ∙ length-drop at buf in
      let b = putting-length in
      let s = g.so_far in
      let r = g.all.room in
      let q = length-append g.done g.rest in
      let z = ap length g.parts in
      let u = ap length (sym t.both) ∙ length-append t.octets t.others in
      record { octets = t.octets; are = t.are; room = omega (arith, a, b, s, r, q, z, u) }

  pub putting-on : (p : Pair) (k : ℕ) (y : List ℕ) → drop i ps ≡ p ∷ drop (i + 1) ps → k ≡ length (given_by (pair_octets l p))
      → y ≡ given_by (pair_octets l p) ++ drop (length (given_by (pair_octets l p))) (take (length buf - at) (drop at buf))
      → Putting l ps before (i + 1) (at + k) (put_mid at (length buf - at) buf y)
  putting-on p k y e h z =
      let t = turn p (drop (i + 1) ps) e in
      let o = t.octets in
      let gv : given_by (pair_octets l p) ≡ o = ap given_by t.are in
      let w = written-so-far in
      let x = take 1 before ++ g.done in
      let n : k ≡ length o = h ∙ ap length gv in
      let f : take at buf ≡ x = ap (take at) g.left ∙ take_at x (drop at before) at w in
      let r : drop at buf ≡ drop at before = ap (drop at) g.left ∙ drop_at x (drop at before) at w in
      let m : length o ≡ k = sym n in
      let v : y ≡ o ++ drop (at + k) before =
      z ∙ ap₂ (λ (a b : List ℕ). a ++ drop (length a) b) gv (tail_is at buf ∙ r) ∙ ap (λ (b : List ℕ). o ++ b) (drop-drop (length o) at before ∙ ap (λ (j : ℕ). drop (at + j) before) m) in
      let s = g.so_far in
      let q = length-append g.done o in
      record {
        all = g.all;
        done = g.done ++ o;
        rest = t.others;
        parts = append_assoc g.done o t.others ∙ ap (λ (b : List ℕ). g.done ++ b) t.both ∙ g.parts;
        so_far = omega (arith, s, q, n);
        next = t.next-are;
        left =
            tail-back at buf y ∙ ap₂ (λ (a b : List ℕ). a ++ b) f v ∙ sym (append_assoc x o (drop (at + k) before))
            ∙ ap (λ (a : List ℕ). a ++ drop (at + k) before) (append_assoc (take 1 before) g.done o);
      }

  pub putting-done : drop i ps ≡ []
      → buf ≡ take 1 before ++ given_by (pairs_octets l ps) ++ drop (1 + length (given_by (pairs_octets l ps))) before
  unfolding pairs_octets
  putting-done e =
      let n : g.rest ≡ [] = sym (gives-inj [] g.rest (sym (ap (pairs_octets l) e) ∙ g.next)) in
      let a : g.done ≡ given_by (pairs_octets l ps) =
      sym (append-nil g.done) ∙ ap (λ (x : List ℕ). g.done ++ x) (sym n) ∙ g.parts ∙ sym (ap given_by g.all.are) in
      g.left ∙ ap (λ (j : ℕ). take 1 before ++ g.done ++ drop j before) (sym g.so_far)
      ∙ ap (λ (x : List ℕ). take 1 before ++ x ++ drop (1 + length x) before) a

-- ---- the whole write

counted-over : (b o : List ℕ) (n : ℕ) → 1 ≤ length b → take 1 (set b 0 n) ++ o ++ drop (1 + length o) (set b 0 n) ≡ (n ∷ o) ++ drop (length (n ∷ o)) b
counted-over [] o n h = absurd (omega arith)
counted-over (x ∷ b) o n h =
    let z : 1 + length o ≡ suc (length o) = omega arith in ap (λ (k : ℕ). n ∷ o ++ drop k (n ∷ b)) z

module _ (l : List Row) (n : ℕ) (ps : List Pair) (total : ℕ) (before : List ℕ) (p : length_of (request_octets l n ps) ≡ gives total) (h : total ≤ length before) where
  abbrev whole : (o : List ℕ) × (request_octets l n ps ≡ gives o) × (length o ≡ total)
  whole = length-is (request_octets l n ps) total p

  abbrev parts-of : RequestIs l n ps whole.0
  parts-of = request-is l n ps whole.0 whole.1

  pub count_fits : n ≤ 255
  count_fits = parts-of.few

  pub total-is : suc (length parts-of.pairs) ≡ total
  total-is = ap length parts-of.is ∙ whole.2

  pub pairs-room : (m : ℕ) → m ≡ length before → HasRoom (pairs_octets l ps) 1 m
  pairs-room m e = let t = total-is in record { octets = parts-of.pairs; are = parts-of.are; room = omega (arith, t, h, e) }

  -- the count is stored, and the pairs stand behind it
  abbrev Stored : List ℕ → Type 0
  Stored after = after ≡ take 1 (set before 0 n) ++ given_by (pairs_octets l ps) ++ drop (1 + length (given_by (pairs_octets l ps))) (set before 0 n)

  stored-left : (after : List ℕ) → Stored after → after ≡ whole.0 ++ drop (length whole.0) before
  stored-left after e =
      let t = total-is in
      e ∙ ap (λ (x : List ℕ). take 1 (set before 0 n) ++ x ++ drop (1 + length x) (set before 0 n)) (ap given_by parts-of.are)
      ∙ counted-over before parts-of.pairs n (omega (arith, t, h))
      ∙ ap (λ (x : List ℕ). x ++ drop (length x) before) parts-of.is

  pub wrote-done : (after : List ℕ) → Stored after → Wrote (size_in (request_octets l n ps) (length before)) (given_by (request_octets l n ps)) before (Ok total) after
  wrote-done after e =
      let o = whole.0 in
      let w = whole.2 in
      let g : in_buffer (length before) (length o) ≡ gives (length o) = has_room (length before) total (length o) (sym w) h in
      wrote-given (request_octets l n ps) o before (Ok total) after whole.1
      (record { answered = ap gives (sym w) ∙ sym g; left = stored-left after e ∙ sym (left-written _ o before (length o) g) })
