-- Reading and writing a request invert each other, from the law for one value.
use Prim.Native.Nat.{ℕ, zero, suc, ◌+◌, ◌*◌, ◌/◌, ◌%◌, ◌≤◌}
use mathlib.Core.Path.{◌≡◌, refl, sym, ap, ap₂, ◌∙◌, subst}
use mathlib.Core.Logic.{◌↔◌}
use mathlib.Core.Bool.{true, false, ◌&&◌}
use mathlib.Core.List.{List, [], ◌∷◌, ◌++◌, append-nil, append_assoc}
use native.Mathlib.Omega.{arith}
use native.Mathlib.Numerals.{add-one}
use lib.ListN.{length, take, drop, get_or, length-append, length-drop, take-append-drop}
use lib.Seq.{drop-cons, drop-drop, drop_at, drop-length, get_or-drop}
use lib.Dec.{eqb}
use borrow.Author.Tests.{le-ltb, lt-ltb, ltb-false, eqb-false, not-true}
use Rattle.space_packet.specs.Bits.{be16, word}
use Rattle.space_packet.specs.Answer.{gives, refuses, refusal}
use Rattle.space_packet.proofs.Answers.{gives-inj, refuse-no, refuse-yes, refuse-gives, gives_then, then-gives}
use Rattle.ecss.specs.Frame.{Octets}
use Rattle.ecss.proofs.Pieces.{octets-drop}
use Rattle.param_value.specs.Values.{read_value}
use Rattle.param_value.proofs.Types.{pattern-is}
use Rattle.param_value.proofs.Calls.{read-gives, octets-are}
use Rattle.param_value.proofs.RoundTrip.{read-write, write_read}
use Rattle.params.specs.Parameters.{Row, ptc_of, pfc_of, list_good, list_check, known, row_of}
use Rattle.params.specs.Request.{octets_in, found_at, read_pair, Pairs, read_pairs, all_read, read_request, ids_known, pair_octets, pairs_octets}
use Rattle.params.specs.declared.Pair.{Pair}
use Rattle.params.proofs.Lists.{known_by, good-by}
use Rattle.params.proofs.ReadLaws.{pair_read, pair_is, read_all}
use Rattle.params.proofs.WriteLaws.{pair-octets-are, pair-length, request-pairs, request-is}
use Rattle.params_exact.specs.Requests.{request_for, HeldAll}

-- ---- octets from a place on

-- the word at a place is that of the octets from there on
word-from : (d : List ℕ) (at : ℕ) → word d at ≡ word (drop at d) 0
word-from d at =
    let z : at ≡ at + 0 = omega arith in
    ap₂ (λ (x y : ℕ). x * 256 + y) (ap (λ (i : ℕ). get_or d i 0) z ∙ sym (get_or-drop at d 0 0)) (sym (get_or-drop at d 1 0))

-- an ID in its two octets, and back
id-back : (id : ℕ) (o : List ℕ) → word (be16 id ++ o) 0 ≡ id
id-back id o = let e : id / 256 * 256 + id % 256 ≡ id = omega arith in e

two-octets : (d : List ℕ) (at : ℕ) → Octets d → at + 2 ≤ length d → drop at d ≡ be16 (word d at) ++ drop (at + 2) d
two-octets d at o h =
    let b = o (at + 1) in
    let p : (get_or d at 0 * 256 + get_or d (at + 1) 0) / 256 ≡ get_or d at 0 = omega arith in
    let q : (get_or d at 0 * 256 + get_or d (at + 1) 0) % 256 ≡ get_or d (at + 1) 0 = omega arith in
    let i : suc at ≡ at + 1 = sym (add-one at) in
    let j : suc (at + 1) ≡ at + 2 = omega arith in
    drop-cons d at 0 (omega arith)
    ∙ ap (λ (k : ℕ). get_or d at 0 ∷ drop k d) i
    ∙ ap (λ (x : List ℕ). get_or d at 0 ∷ x) (drop-cons d (at + 1) 0 (omega arith) ∙ ap (λ (k : ℕ). get_or d (at + 1) 0 ∷ drop k d) j)
    ∙ ap₂ (λ (x y : ℕ). x ∷ y ∷ drop (at + 2) d) (sym p) (sym q)

drop_more : (d o x : List ℕ) (at : ℕ) → drop at d ≡ o ++ x → drop (at + length o) d ≡ x
drop_more d o x at e = sym (drop-drop (length o) at d) ∙ ap (drop (length o)) e ∙ drop_at o x (length o) refl

long-enough : (d x : List ℕ) (at : ℕ) → at ≤ length d → drop at d ≡ x → length d ≡ at + length x
long-enough d x at h e = let n = sym (length-drop at d) ∙ ap length e in omega (arith, n, h)

-- ---- what is written is read again

pair-back : (l : List Row) (p : Pair) (o d rest : List ℕ) (at : ℕ) → list_good l ≡ true → (at ≤ length d) → drop at d ≡ o ++ rest
    → HeldAll (p ∷ []) → pair_octets l p ≡ gives o → read_pair l d at ≡ gives (record { pair = p; end = at + length o })
pair-back l p o d rest at g h e w a =
    let r = pair-octets-are l p o a in
    let v = r.value in
    let row = row_of l p.id in
    let s = octets-are (ptc_of row) (pfc_of row) p.value v r.are in
    let n = (pattern-is (ptc_of row) (pfc_of row) p.value s.number s.pattern).named in
    let k = pair-length l p o a in
    let m = long-enough d (o ++ rest) at h e ∙ ap (λ (j : ℕ). at + j) (length-append o rest) in
    let b : drop at d ≡ be16 p.id ++ (v ++ rest) = e ∙ ap (λ (x : List ℕ). x ++ rest) (sym r.is) in
    let i : word d at ≡ p.id = word-from d at ∙ ap (λ (x : List ℕ). word x 0) b ∙ id-back p.id (v ++ rest) in
    let t : drop (at + 2) d ≡ v ++ rest = drop_more d (be16 p.id) (v ++ rest) at b in
    let f : read_value (ptc_of (row_of l (word d at))) (pfc_of (row_of l (word d at))) (drop (at + 2) d) ≡ gives p.value =
    ap₂ (λ (j : ℕ) (x : List ℕ). read_value (ptc_of (row_of l j)) (pfc_of (row_of l j)) x) i t ∙ write_read (ptc_of row) (pfc_of row) p.value v rest w.0 r.are in
    let z : at + 2 + octets_in l p.id ≡ at + length o = omega (arith, k) in
    pair_read l d at g (omega (arith, m, k)) (subst (λ (j : ℕ). 1 ≤ octets_in l j) (sym i) n) p.value f
    ∙ ap (λ (j : ℕ). gives (record { pair = record { id = j; value = p.value }; end = at + 2 + octets_in l j })) i
    ∙ ap (λ (j : ℕ). gives (record { pair = p; end = j })) z

pairs-back : (l : List Row) (ps : List Pair) (o d rest : List ℕ) (at : ℕ) → list_good l ≡ true → (at ≤ length d) → drop at d ≡ o ++ rest
    → HeldAll ps → pairs_octets l ps ≡ gives o → read_pairs l d (length ps) at ≡ gives (record { pairs = ps; end = at + length o })
unfolding read_pairs pairs_octets
pairs-back l [] o d rest at g h e w a =
    let z : 0 ≡ length o = ap length (gives-inj [] o a) in
    let y : at ≡ at + length o = omega (arith, z) in ap (λ (j : ℕ). gives (record { pairs = []; end = j })) y
pairs-back l (p ∷ ps) o d rest at g h e w a =
    let t = then-gives (pair_octets l p) _ o a in
    let u = then-gives (pairs_octets l ps) _ o t.2 in
    let o₁ = t.0 in
    let o₂ = u.0 in
    let j : o₁ ++ o₂ ≡ o = gives-inj (o₁ ++ o₂) o u.2 in
    let b : drop at d ≡ o₁ ++ (o₂ ++ rest) = e ∙ ap (λ (x : List ℕ). x ++ rest) (sym j) ∙ append_assoc o₁ o₂ rest in
    let m = long-enough d (o₁ ++ (o₂ ++ rest)) at h b ∙ ap (λ (i : ℕ). at + i) (length-append o₁ (o₂ ++ rest)) in
    let n = ap length (sym j) ∙ length-append o₁ o₂ in
    let z : at + length o₁ + length o₂ ≡ at + length o = omega (arith, n) in
    gives_then _ _ _ (pair-back l p o₁ d (o₂ ++ rest) at g h b (w.0, tt) t.1)
    ∙ gives_then _ _ _ (pairs-back l ps o₂ d rest (at + length o₁) g (omega (arith, m)) (drop_more d o₁ (o₂ ++ rest) at b) w.1 u.1)
    ∙ ap (λ (i : ℕ). gives (record { pairs = p ∷ ps; end = i })) z

-- what is written, and what may stand behind it
pub record Behind (l : List Row) (ps : List Pair) (o rest : List ℕ) : Type 0 where
  pub list-good : list_check l ≡ gives tt
  pub read : read_pairs l (o ++ rest) (get_or (o ++ rest) 0 0) 1 ≡ gives (record { pairs = ps; end = length o })

pub behind-request : (l : List Row) (ps : List Pair) (o rest : List ℕ) → HeldAll ps → request_for l ps ≡ gives o → Behind l ps o rest
behind-request l ps o rest w e =
    let r = request-is l (length ps) ps o e in
    let b = r.pairs in
    let d = (length ps ∷ b) ++ rest in
    let z : 1 + length b ≡ length (length ps ∷ b) = omega arith in
    let f : read_pairs l d (get_or d 0 0) 1 ≡ gives (record { pairs = ps; end = length (length ps ∷ b) }) =
    pairs-back l ps b d rest 1 (good-by l r.list-good) (omega arith) refl w r.are ∙ ap (λ (i : ℕ). gives (record { pairs = ps; end = i })) z in
    record { list-good = r.list-good; read = subst (λ (x : List ℕ). read_pairs l (x ++ rest) (get_or (x ++ rest) 0 0) 1 ≡ gives (record { pairs = ps; end = length x })) r.is f }

pub some-octet : (l : List Row) (ps : List Pair) (o : List ℕ) → request_for l ps ≡ gives o → 1 ≤ length o
some-octet l ps o e = let r = request-is l (length ps) ps o e in let z = ap length r.is in omega (arith, z)

pub read-written : (l : List Row) (ps : List Pair) (o : List ℕ) → HeldAll ps → request_for l ps ≡ gives o → read_request l o ≡ gives ps
unfolding all_read
read-written l ps o w e =
    let b = behind-request l ps o [] w e in
    let n : o ++ [] ≡ o = append-nil o in
    let r = subst (λ (x : List ℕ). read_pairs l x (get_or x 0 0) 1 ≡ gives (record { pairs = ps; end = length o })) n b.read in
    read_all l o b.list-good (some-octet l ps o e) ∙ gives_then _ _ _ r ∙ refuse-no _ _ _ (le-ltb (length o) (length o) (omega arith))

-- what is written is as long as reading takes: with octets behind it, these are left over
pub longer-left-over : (l : List Row) (ps : List Pair) (o rest : List ℕ) (x : ℕ) → HeldAll ps → request_for l ps ≡ gives o → read_request l (o ++ (x ∷ rest)) ≡ refuses (refusal 23 [])
unfolding all_read
longer-left-over l ps o rest x w e =
    let b = behind-request l ps o (x ∷ rest) w e in
    let n = length-append o (x ∷ rest) in
    let s = some-octet l ps o e in
    read_all l (o ++ (x ∷ rest)) b.list-good (omega (arith, n)) ∙ gives_then _ _ _ b.read
    ∙ refuse-yes _ _ _ (lt-ltb (length o) (length (o ++ (x ∷ rest))) (omega (arith, n)))

-- ---- what is read is written as it stood

-- n pairs that were read from `at` on are written as the octets up to their end
record AsRead (l : List Row) (d : List ℕ) (n at : ℕ) (r : Pairs) : Type 0 where
  count : length r.pairs ≡ n
  ids : ids_known l r.pairs ≡ true
  octets : List ℕ
  are : pairs_octets l r.pairs ≡ gives octets
  here : drop at d ≡ octets ++ drop r.end d
  within : r.end ≤ length d

pair-as-read : (l : List Row) (d : List ℕ) (at : ℕ) → list_good l ≡ true → Octets d → at + 2 ≤ length d → known l (word d at) ≡ true → at + 2 + octets_in l (word d at) ≤ length d
    → pair_octets l (found_at l d at).pair ≡ gives (be16 (word d at) ++ take (octets_in l (word d at)) (drop (at + 2) d))
unfolding pair_octets
pair-as-read l d at g o h i v =
    let row = row_of l (word d at) in
    let k = octets_in l (word d at) in
    let b : eqb k 0 ≡ false = not-true (eqb k 0) (sym (known_by l (word d at) g) ∙ i) in
    let n : 1 ≤ k = (let z = eqb-false k 0 b in omega (arith, z)) in
    let m = length-drop (at + 2) d in
    gives_then _ _ _ (read-write (ptc_of row) (pfc_of row) (drop (at + 2) d) _ (octets-drop (at + 2) d o) (read-gives (ptc_of row) (pfc_of row) (drop (at + 2) d) n (omega (arith, m, v))))

as_read : (l : List Row) (d : List ℕ) (n at : ℕ) (r : Pairs) → list_good l ≡ true → Octets d → at ≤ length d → read_pairs l d n at ≡ gives r → AsRead l d n at r
unfolding read_pairs ids_known pairs_octets
as_read l d zero at r g o h e = subst (AsRead l d zero at) (gives-inj _ r e) (record { count = refl; ids = refl; octets = []; are = refl; here = refl; within = h })
as_read l d (suc n) at r g o h e =
    let t = then-gives (read_pair l d at) _ r e in
    let u = then-gives (read_pairs l d n t.0.end) _ r t.2 in
    let f = t.0 in
    let p = pair_is l d at f t.1 in
    let k = octets_in l (word d at) in
    let q = found_at l d at in
    let v = p.value_in in
    let s = subst (λ (j : ℕ). read_pairs l d n j ≡ gives u.0) (sym (ap (λ x. x.end) p.is)) u.1 in
    let b = as_read l d n q.end u.0 g o v s in
    let a = pair-as-read l d at g o p.id-in p.known-id v in
    let x = be16 (word d at) ++ take k (drop (at + 2) d) in
    let j : r ≡ record { pairs = q.pair ∷ u.0.pairs; end = u.0.end } =
    sym (gives-inj _ r u.2) ∙ ap (λ y. record { pairs = y.pair ∷ u.0.pairs; end = u.0.end }) (sym p.is) in
    subst (AsRead l d (suc n) at) (sym j)
    (record {
      count = ap suc b.count;
      ids = ap₂ ◌&&◌ p.known-id b.ids;
      octets = x ++ b.octets;
      are = gives_then _ _ x a ∙ gives_then _ _ b.octets b.are;
      here =
          two-octets d at o p.id-in
          ∙ ap (λ (y : List ℕ). be16 (word d at) ++ y) (sym (take-append-drop k (drop (at + 2) d)) ∙ ap (λ (y : List ℕ). take k (drop (at + 2) d) ++ y) (drop-drop k (at + 2) d ∙ b.here))
          ∙ sym (append_assoc (be16 (word d at)) (take k (drop (at + 2) d)) (b.octets ++ drop u.0.end d))
          ∙ sym (append_assoc x b.octets (drop u.0.end d));
      within = b.within;
    })

pub written_read : (l : List Row) (ps : List Pair) (d : List ℕ) → Octets d → read_request l d ≡ gives ps → request_for l ps ≡ gives d
unfolding read_request all_read
written_read l ps d o e =
    let t = then-gives (list_check l) _ ps e in
    let c = refuse-gives _ _ _ ps t.2 in
    let h : 1 ≤ length d = ltb-false (length d) 1 c.0 in
    let n = get_or d 0 0 in
    let u = then-gives (read_pairs l d n 1) _ ps c.1 in
    let f = refuse-gives _ _ _ ps u.2 in
    let r = u.0 in
    let p : r.pairs ≡ ps = gives-inj r.pairs ps f.1 in
    let a = as_read l d n 1 r (good-by l t.1) o h u.1 in
    let i : length d ≤ r.end = ltb-false r.end (length d) f.0 in
    let w = a.within in
    let z : r.end ≡ length d = omega (arith, i, w) in
    let k : n ≤ 255 = (let b = o 0 in omega (arith, b)) in
    let x : a.octets ≡ drop 1 d = sym (a.here ∙ ap (λ (j : ℕ). a.octets ++ drop j d) z ∙ ap (λ (y : List ℕ). a.octets ++ y) (drop-length d) ∙ append-nil a.octets) in
    let m : length r.pairs ≡ n = a.count in
    let s : request_for l r.pairs ≡ gives (length r.pairs ∷ a.octets) =
    request-pairs l (length r.pairs) r.pairs t.1 a.ids (omega (arith, k, m)) ∙ gives_then _ _ a.octets a.are in
    let y : n ∷ drop 1 d ≡ d = sym (drop-cons d 0 0 h) in
    ap (request_for l) (sym p) ∙ s ∙ ap₂ (λ (j : ℕ) (q : List ℕ). gives (j ∷ q)) m x ∙ ap gives y

-- both ways
pub inverse : (l : List Row) (ps : List Pair) (d : List ℕ) → Octets d → HeldAll ps → (read_request l d ≡ gives ps) ↔ (request_for l ps ≡ gives d)
inverse l ps d o w = (written_read l ps d o, read-written l ps d w)
