-- What is written, cut short anywhere, ends early: so it is of just the length that reading takes.
use Prim.Native.Nat.{ℕ, zero, suc, ◌+◌, ◌*◌, ◌≤◌, ◌<◌}
use mathlib.Core.Path.{◌≡◌, refl, sym, ap, ap₂, ◌∙◌, subst}
use mathlib.Core.Bool.{Bool, true, false, not}
use mathlib.Core.List.{List, [], ◌∷◌, ◌++◌, append-nil}
use native.Mathlib.Omega.{arith}
use lib.ListN.{length, take, drop, get_or, length-drop, take-append-drop}
use lib.Seq.{length-take-le, get_or-take, drop-append-le, take-append-le}
use lib.Dec.{ltb}
use borrow.Author.Tests.{le-ltb, lt-ltb, ltb-true, ltb-false}
use Rattle.space_packet.specs.Bits.{word}
use Rattle.space_packet.specs.Answer.{Answer, gives, refuses, refusal}
use Rattle.space_packet.proofs.Answers.{gives-inj, refuse-no, refuse-yes, gives_then, refuses-then, then-gives}
use Rattle.param_value.specs.Octets.{number_of}
use Rattle.param_value.specs.Values.{value_of}
use Rattle.params.specs.Parameters.{Row, ptc_of, pfc_of, known, row_of}
use Rattle.params.specs.Request.{octets_in, found_at, read_pair, Pairs, read_pairs, all_read, read_request}
use Rattle.params.specs.declared.Pair.{Pair}
use Rattle.params.proofs.ReadLaws.{id-short, pair_is, read-empty, read_all}
use Rattle.params_exact.specs.Requests.{request_for, HeldAll}
use Rattle.params_exact.proofs.Inverse.{behind-request}

-- refused with 2, found j octets
abbrev Ended : {A : Type 0} → ℕ → Answer A → Type 0
Ended j a = (e : ℕ) × (a ≡ refuses (refusal 2 (j ∷ e ∷ [])))

module _ (l : List Row) (d : List ℕ) (j : ℕ) (fits : j ≤ length d) where
  abbrev cut : List ℕ
  cut = take j d

  cut-length : length cut ≡ j
  cut-length = length-take-le j d fits

  cut_word : (at : ℕ) → at + 2 ≤ j → word cut at ≡ word d at
  cut_word at h = ap₂ (λ (x y : ℕ). x * 256 + y) (get_or-take j d at 0 (omega arith)) (get_or-take j d (at + 1) 0 (omega arith))

  cut-part : (m k : ℕ) → m + k ≤ j → take k (drop m cut) ≡ take k (drop m d)
  cut-part m k h =
      let n = length-drop m cut in
      let c = cut-length in
      sym (ap (λ (x : List ℕ). take k (drop m x)) (sym (take-append-drop j d))
      ∙ ap (take k) (drop-append-le m cut (drop j d) (omega arith))
      ∙ take-append-le k (drop m cut) (drop j d) (omega arith))

  -- a pair that is whole is read as before
  same-pair : (at : ℕ) → at + 2 ≤ j → known l (word d at) ≡ true → at + 2 + octets_in l (word d at) ≤ j → read_pair l cut at ≡ gives (found_at l d at)
  unfolding read_pair
  same-pair at h k v =
      let c = cut-length in
      let w = cut_word at h in
      let o : octets_in l (word cut at) ≡ octets_in l (word d at) = ap (octets_in l) w in
      refuse-no _ _ _ (le-ltb (length cut) (at + 2) (omega arith))
      ∙ refuse-no _ _ _ (ap (λ (i : ℕ). not (known l i)) w ∙ ap not k)
      ∙ refuse-no _ _ _ (le-ltb (length cut) (at + 2 + octets_in l (word cut at)) (omega (arith, c, o, v)))
      ∙ ap (λ (i : ℕ). gives (record { pair = record { id = i; value = value_of (ptc_of (row_of l i)) (pfc_of (row_of l i)) (number_of (take (octets_in l i) (drop (at + 2) cut))) }; end = at + 2 + octets_in l i })) w
      ∙ ap (λ (x : List ℕ). gives (record { pair = record { id = word d at; value = value_of (ptc_of (row_of l (word d at))) (pfc_of (row_of l (word d at))) (number_of x) }; end = at + 2 + octets_in l (word d at) })) (cut-part (at + 2) (octets_in l (word d at)) v)

  -- and one that is not ends early
  cut-pair : (at : ℕ) → known l (word d at) ≡ true → j < at + 2 + octets_in l (word d at) → Ended j (read_pair l cut at)
  unfolding read_pair
  cut-pair at k v = by-id (ltb j (at + 2)) refl
    where
      by-id : (b : Bool) → ltb j (at + 2) ≡ b → Ended j (read_pair l cut at)
      by-id true t =
          let c = cut-length in
          let h = ltb-true j (at + 2) t in
          (at + 2, id-short l cut at (omega (arith, c, h)) ∙ ap (λ (n : ℕ). refuses (refusal 2 (n ∷ (at + 2) ∷ []))) c)
      by-id false t =
          let c = cut-length in
          let h = ltb-false j (at + 2) t in
          let w = cut_word at h in
          let o : octets_in l (word cut at) ≡ octets_in l (word d at) = ap (octets_in l) w in (
            at + 2 + octets_in l (word cut at),
            refuse-no _ _ _ (le-ltb (length cut) (at + 2) (omega (arith, c, h)))
                ∙ refuse-no _ _ _ (ap (λ (i : ℕ). not (known l i)) w ∙ ap not k)
                ∙ refuse-yes _ _ _ (lt-ltb (length cut) (at + 2 + octets_in l (word cut at)) (omega (arith, c, o, v)))
                ∙ ap (λ (n : ℕ). refuses (refusal 2 (n ∷ (at + 2 + octets_in l (word cut at)) ∷ []))) c,
          )

  cut-pairs : (n at : ℕ) (r : Pairs) → at ≤ j → read_pairs l d n at ≡ gives r → j < r.end → Ended j (read_pairs l cut n at)
  unfolding read_pairs
  cut-pairs zero at r h e v = absurd (let z : at ≡ r.end = ap (λ (x : Pairs). x.end) (gives-inj _ r e) in omega (arith, z, h, v))
  cut-pairs (suc n) at r h e v =
      let t = then-gives (read_pair l d at) _ r e in
      let u = then-gives (read_pairs l d n t.0.end) _ r t.2 in
      let p = pair_is l d at t.0 t.1 in
      let q : read_pairs l d n (found_at l d at).end ≡ gives u.0 = ap (λ x. read_pairs l d n x.end) p.is ∙ u.1 in
      let z : u.0.end ≡ r.end = ap (λ (x : Pairs). x.end) (gives-inj _ r u.2) in
      by-pair (ltb j (found_at l d at).end) refl p.known-id (λ i. cut-pairs n (found_at l d at).end u.0 i q (omega (arith, z, v)))
    where
      by-pair : (b : Bool) → ltb j (found_at l d at).end ≡ b → known l (word d at) ≡ true → ((found_at l d at).end ≤ j → Ended j (read_pairs l cut n (found_at l d at).end)) → Ended j (read_pairs l cut (suc n) at)
      by-pair true b k f = let c = cut-pair at k (ltb-true j _ b) in (c.0, refuses-then _ _ _ c.1)
      by-pair false b k f =
          let i = ltb-false j (found_at l d at).end b in
          let c = f i in
          (c.0, gives_then _ _ _ (same-pair at (omega (arith, i)) k i) ∙ refuses-then _ _ _ c.1)

pub shorter-ends : (l : List Row) (ps : List Pair) (o : List ℕ) (j : ℕ) → HeldAll ps → request_for l ps ≡ gives o → j < length o
    → (e : ℕ) × (read_request l (take j o) ≡ refuses (refusal 2 (j ∷ e ∷ [])))
unfolding all_read
shorter-ends l ps o j w e h = by_count (ltb j 1) refl
  where
    by_count : (b : Bool) → ltb j 1 ≡ b → (e : ℕ) × (read_request l (take j o) ≡ refuses (refusal 2 (j ∷ e ∷ [])))
    by_count true t =
        let c = length-take-le j o (omega (arith, h)) in
        let k = ltb-true j 1 t in
        let b = behind-request l ps o [] w e in
        (1, read-empty l (take j o) b.list-good (omega (arith, c, k)) ∙ ap (λ (n : ℕ). refuses (refusal 2 (n ∷ 1 ∷ []))) c)
    by_count false t =
        let c = length-take-le j o (omega (arith, h)) in
        let k = ltb-false j 1 t in
        let b = behind-request l ps o [] w e in
        let n : o ++ [] ≡ o = append-nil o in
        let r = subst (λ (x : List ℕ). read_pairs l x (get_or x 0 0) 1 ≡ gives (record { pairs = ps; end = length o })) n b.read in
        let q = cut-pairs l o j (omega (arith, h)) (get_or o 0 0) 1 _ k r h in (
          q.0,
          read_all l (take j o) b.list-good (omega (arith, c, k))
              ∙ refuses-then _ _ _ (ap (λ (i : ℕ). read_pairs l (take j o) i 1) (get_or-take j o 0 0 (omega (arith, k))) ∙ q.1),
        )
