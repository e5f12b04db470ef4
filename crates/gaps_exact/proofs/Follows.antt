-- Commands whose counts all follow have no gap; and without one of them they have one, just there.
use Prim.Native.Nat.{ℕ, ◌+◌, ◌<◌}
use mathlib.Core.Path.{◌≡◌, refl, sym, ap, ap₂, ◌∙◌, subst}
use mathlib.Core.Bool.{Bool, true, false}
use mathlib.Core.List.{List, [], ◌∷◌, ◌++◌, append_assoc}
use native.Mathlib.Omega.{arith}
use borrow.Author.Tests.{eq-eqb, ne_eqb, eqb-true, eqb-false}
use lib.Dec.{eqb}
use lib.ListN.{length}
use Rattle.space_packet.specs.Bits.{pick}
use Rattle.gaps.specs.Gaps.{Rows, after_count}
use Rattle.gaps.specs.declared.Command.{Command}
use Rattle.gaps_exact.specs.History.{Seen, never, last, seen_in, gap_after, gaps_behind, is_new, new_behind, counts_of, Follow, AllFollow, Among}

-- counts that follow what was seen
abbrev FollowOn : Seen → List ℕ → Type 0
FollowOn never l = Follow l
FollowOn (last k) l = Follow (k ∷ l)

-- those of each APID, behind these commands
abbrev pub Goes : List Command → List Command → Type 0
Goes before cs = (a : ℕ) → FollowOn (seen_in before a) (counts_of a cs)

-- ---- one command

-- its count, by whether it is of the APID
abbrev with-count : Bool → Command → List ℕ → List ℕ
with-count b c l = pick b (c.count.0 ∷ l) l

own : (c : Command) (cs : List Command) (a : ℕ) → c.apid.0 ≡ a → counts_of a (c ∷ cs) ≡ c.count.0 ∷ counts_of a cs
unfolding counts_of
own c cs a e = ap (λ (b : Bool). with-count b c (counts_of a cs)) (eq-eqb c.apid.0 a e)

-- it follows, so there is no gap
no_row : (s : Seen) (c : Command) (l : List ℕ) → FollowOn s (c.count.0 ∷ l) → gap_after s c ≡ []
unfolding gap_after Follow
no_row never c l f = refl
no_row (last k) c l f =
    ap (λ (b : Bool). pick b [] ((c.apid.0 ∷ after_count k ∷ c.count.0 ∷ []) ∷ [])) (eq-eqb c.count.0 (after_count k) f.0)

-- and those behind it follow it
follow-it : (s : Seen) (x : ℕ) (l : List ℕ) → FollowOn s (x ∷ l) → Follow (x ∷ l)
unfolding Follow
follow-it never x l f = f
follow-it (last k) x l f = f.1

goes_by : (s : Seen) (c : Command) (l : List ℕ) (b : Bool) → FollowOn s (with-count b c l) → FollowOn (pick b (last c.count.0) s) l
goes_by s c l true f = follow-it s c.count.0 l f
goes_by s c l false f = f

pub goes_on : (before : List Command) (c : Command) (cs : List Command) → Goes before (c ∷ cs) → Goes (c ∷ before) cs
unfolding seen_in counts_of
goes_on before c cs g a = goes_by (seen_in before a) c (counts_of a cs) (eqb c.apid.0 a) (g a)

goes-row : (before : List Command) (c : Command) (cs : List Command) → Goes before (c ∷ cs) → gap_after (seen_in before c.apid.0) c ≡ []
goes-row before c cs g =
    no_row (seen_in before c.apid.0) c (counts_of c.apid.0 cs)
    (subst (FollowOn (seen_in before c.apid.0)) (own c cs c.apid.0 refl) (g c.apid.0))

-- its count is one more than the last of its APID
pub follows-last : (before : List Command) (c : Command) (cs : List Command) (k : ℕ) → Goes before (c ∷ cs) → seen_in before c.apid.0 ≡ last k
    → c.count.0 ≡ after_count k
unfolding Follow
follows-last before c cs k g e =
    let a = c.apid.0 in
    (subst (λ (s : Seen). FollowOn s (c.count.0 ∷ counts_of a cs)) e (subst (FollowOn (seen_in before a)) (own c cs a refl) (g a))).0

-- ---- all of them

none-behind : (before cs : List Command) → Goes before cs → gaps_behind before cs ≡ []
unfolding gaps_behind
none-behind before [] g = refl
none-behind before (c ∷ cs) g = ap₂ ◌++◌ (goes-row before c cs g) (none-behind (c ∷ before) cs (goes_on before c cs g))

-- counts that all follow leave no gap
pub follow-none : (cs : List Command) → AllFollow cs → gaps_behind [] cs ≡ []
unfolding seen_in
follow-none cs f = none-behind [] cs f

-- ---- what came before counts by what was seen alone

alike : (before other cs : List Command) → ((a : ℕ) → seen_in before a ≡ seen_in other a) → gaps_behind before cs ≡ gaps_behind other cs
unfolding gaps_behind seen_in
alike before other [] e = refl
alike before other (c ∷ cs) e =
    ap₂ ◌++◌ (ap (λ (s : Seen). gap_after s c) (e c.apid.0))
    (alike (c ∷ before) (c ∷ other) cs (λ a. ap (pick (eqb c.apid.0 a) (last c.count.0)) (e a)))

new-pick : (b : Bool) (k : ℕ) (s t : Seen) → is_new s ≡ is_new t → is_new (pick b (last k) s) ≡ is_new (pick b (last k) t)
new-pick true k s t e = refl
new-pick false k s t e = e

new-alike : (before other cs : List Command) → ((a : ℕ) → is_new (seen_in before a) ≡ is_new (seen_in other a)) → new_behind before cs ≡ new_behind other cs
unfolding new_behind seen_in
new-alike before other [] e = refl
new-alike before other (c ∷ cs) e =
    ap₂ ◌+◌ (e c.apid.0)
    (new-alike (c ∷ before) (c ∷ other) cs (λ a. new-pick (eqb c.apid.0 a) c.count.0 (seen_in before a) (seen_in other a) (e a)))

-- ---- commands one after the other

-- with these before them, the latest first
unfoldable pub back : List Command → List Command → List Command
back [] before = before
back (c ∷ cs) before = back cs (c ∷ before)

pub gaps-split : (before cs ds : List Command) → gaps_behind before (cs ++ ds) ≡ gaps_behind before cs ++ gaps_behind (back cs before) ds
unfolding gaps_behind back
gaps-split before [] ds = refl
gaps-split before (c ∷ cs) ds =
    ap (λ (r : Rows). gap_after (seen_in before c.apid.0) c ++ r) (gaps-split (c ∷ before) cs ds)
    ∙ sym (append_assoc (gap_after (seen_in before c.apid.0) c) (gaps_behind (c ∷ before) cs) (gaps_behind (back cs (c ∷ before)) ds))

pub new_split : (before cs ds : List Command) → new_behind before (cs ++ ds) ≡ new_behind before cs + new_behind (back cs before) ds
unfolding new_behind back
new_split before [] ds = omega arith
new_split before (c ∷ cs) ds = let e = new_split (c ∷ before) cs ds in omega (arith, e)

-- the first of them follow, and so do the others behind them
first_goes : (before cs ds : List Command) → Goes before (cs ++ ds) → (gaps_behind before cs ≡ []) × Goes (back cs before) ds
unfolding gaps_behind back
first_goes before [] ds g = (refl, g)
first_goes before (c ∷ cs) ds g =
    let r = first_goes (c ∷ before) cs ds (goes_on before c (cs ++ ds) g) in
    (ap₂ ◌++◌ (goes-row before c (cs ++ ds) g) r.0, r.1)

-- ---- an APID that has come

abbrev Has : ℕ → List Command → Type 0
Has a before = (k : ℕ) × (seen_in before a ≡ last k)

has_more : (a : ℕ) (c : Command) (before : List Command) (b : Bool) → eqb c.apid.0 a ≡ b → Has a before → Has a (c ∷ before)
unfolding seen_in
has_more a c before true e h = (c.count.0, ap (λ (b : Bool). pick b (last c.count.0) (seen_in before a)) e)
has_more a c before false e h = (h.0, ap (λ (b : Bool). pick b (last c.count.0) (seen_in before a)) e ∙ h.1)

has-back : (a : ℕ) (cs before : List Command) → Has a before → Has a (back cs before)
unfolding back
has-back a [] before h = h
has-back a (c ∷ cs) before h = has-back a cs (c ∷ before) (has_more a c before (eqb c.apid.0 a) refl h)

has-by : (a : ℕ) (c : Command) (cs before : List Command) (b : Bool) → eqb c.apid.0 a ≡ b → 0 < length (with-count b c (counts_of a cs))
    → (Among a cs → Has a (back cs (c ∷ before))) → Has a (back cs (c ∷ before))
unfolding seen_in
has-by a c cs before true e h on =
    has-back a cs (c ∷ before) (c.count.0, ap (λ (b : Bool). pick b (last c.count.0) (seen_in before a)) e)
has-by a c cs before false e h on = on h

has-come : (a : ℕ) (cs before : List Command) → Among a cs → Has a (back cs before)
unfolding counts_of back
has-come a [] before h = absurd (omega (arith, h))
has-come a (c ∷ cs) before h = has-by a c cs before (eqb c.apid.0 a) refl h (has-come a cs (c ∷ before))

-- ---- without one command

not_same : (m : ℕ) → after_count m ≡ m → ⊥
not_same m e = omega (arith, e)

-- behind `before` the count k was the last of the APID, behind `other` it is m, one more; all others are alike
record Lacks (a k m : ℕ) (before other : List Command) : Type 0 where
  pub here : seen_in before a ≡ last k
  pub there : seen_in other a ≡ last m
  pub one : m ≡ after_count k
  pub rest : (b : ℕ) → (b ≡ a → ⊥) → seen_in before b ≡ seen_in other b

module _ (a k m : ℕ) (before other : List Command) (h : Lacks a k m before other) (c : Command) (cs : List Command) (g : Goes other (c ∷ cs)) where
  -- a command of another APID has no gap, and changes nothing
  other_row : (c.apid.0 ≡ a → ⊥) → gap_after (seen_in before c.apid.0) c ≡ []
  other_row n = ap (λ (s : Seen). gap_after s c) (h.rest c.apid.0 n) ∙ goes-row other c cs g

  other-lacks : (c.apid.0 ≡ a → ⊥) → Lacks a k m (c ∷ before) (c ∷ other)
  unfolding seen_in
  other-lacks n =
      let e = ne_eqb c.apid.0 a n in
      record {
        here = ap (λ (b : Bool). pick b (last c.count.0) (seen_in before a)) e ∙ h.here;
        there = ap (λ (b : Bool). pick b (last c.count.0) (seen_in other a)) e ∙ h.there;
        one = h.one;
        rest = λ b x. ap (pick (eqb c.apid.0 b) (last c.count.0)) (h.rest b x);
      }

  -- the next of the APID has the one gap
  own-count : c.apid.0 ≡ a → c.count.0 ≡ after_count m
  own-count e = follows-last other c cs m g (ap (seen_in other) e ∙ h.there)

  own_row : c.apid.0 ≡ a → gap_after (seen_in before c.apid.0) c ≡ (a ∷ m ∷ after_count m ∷ []) ∷ []
  unfolding gap_after
  own_row e =
      let f = own-count e in
      let n : c.count.0 ≡ after_count k → ⊥ = λ x. not_same m (sym f ∙ x ∙ sym h.one) in
      ap (λ (s : Seen). gap_after s c) (ap (seen_in before) e ∙ h.here)
      ∙ ap (λ (b : Bool). pick b [] ((c.apid.0 ∷ after_count k ∷ c.count.0 ∷ []) ∷ [])) (ne_eqb c.count.0 (after_count k) n)
      ∙ (λ i. (e i ∷ sym h.one i ∷ f i ∷ []) ∷ [])

  -- and from there on nothing is lacking
  own-by : c.apid.0 ≡ a → (b : ℕ) (d : Bool) → eqb c.apid.0 b ≡ d → pick d (last c.count.0) (seen_in before b) ≡ pick d (last c.count.0) (seen_in other b)
  own-by e b true x = refl
  own-by e b false x = h.rest b (λ y. eqb-false c.apid.0 b x (e ∙ sym y))

  own-alike : c.apid.0 ≡ a → (b : ℕ) → seen_in (c ∷ before) b ≡ seen_in (c ∷ other) b
  unfolding seen_in
  own-alike e b = own-by e b (eqb c.apid.0 b) refl

  own-rest : c.apid.0 ≡ a → gaps_behind (c ∷ before) cs ≡ []
  own-rest e = alike (c ∷ before) (c ∷ other) cs (own-alike e) ∙ none-behind (c ∷ other) cs (goes_on other c cs g)

lacks-by : (a k m : ℕ) (before other : List Command) (c : Command) (cs : List Command) (b : Bool) → eqb c.apid.0 a ≡ b
    → Lacks a k m before other → Goes other (c ∷ cs) → 0 < length (with-count b c (counts_of a cs))
    → (Lacks a k m (c ∷ before) (c ∷ other) → Goes (c ∷ other) cs → Among a cs → gaps_behind (c ∷ before) cs ≡ (a ∷ m ∷ after_count m ∷ []) ∷ [])
    → gaps_behind before (c ∷ cs) ≡ (a ∷ m ∷ after_count m ∷ []) ∷ []
unfolding gaps_behind
lacks-by a k m before other c cs true e h g n on =
    let i = eqb-true c.apid.0 a e in
    ap₂ ◌++◌ (own_row a k m before other h c cs g i) (own-rest a k m before other h c cs g i)
lacks-by a k m before other c cs false e h g n on =
    let i = eqb-false c.apid.0 a e in
    ap₂ ◌++◌ (other_row a k m before other h c cs g i) (on (other-lacks a k m before other h c cs g i) (goes_on other c cs g) n)

one-gap : (a k m : ℕ) (before other cs : List Command) → Lacks a k m before other → Goes other cs → Among a cs
    → gaps_behind before cs ≡ (a ∷ m ∷ after_count m ∷ []) ∷ []
unfolding counts_of
one-gap a k m before other [] h g n = absurd (omega (arith, n))
one-gap a k m before other (c ∷ cs) h g n =
    lacks-by a k m before other c cs (eqb c.apid.0 a) refl h g n (one-gap a k m (c ∷ before) (c ∷ other) cs)

-- ---- a command is dropped

module _ (cs : List Command) (c : Command) (ds : List Command) (f : AllFollow (cs ++ (c ∷ ds))) (first : Among c.apid.0 cs) where
  abbrev at : ℕ
  at = c.apid.0

  goes : (gaps_behind [] cs ≡ []) × Goes (back cs []) (c ∷ ds)
  unfolding seen_in
  goes = first_goes [] cs (c ∷ ds) f

  has : Has at (back cs [])
  has = has-come at cs [] first

  lacks : Lacks at has.0 c.count.0 (back cs []) (c ∷ back cs [])
  unfolding seen_in
  lacks = record {
    here = has.1;
    there = ap (λ (b : Bool). pick b (last c.count.0) (seen_in (back cs []) at)) (eq-eqb at at refl);
    one = follows-last (back cs []) c ds has.0 goes.1 has.1;
    rest = λ b n. sym (ap (λ (d : Bool). pick d (last c.count.0) (seen_in (back cs []) b)) (ne_eqb at b (λ e. n (sym e))));
  }

  -- its count is expected where the next of its APID is found
  pub dropped-gap : Among at ds → gaps_behind [] (cs ++ ds) ≡ (at ∷ c.count.0 ∷ after_count c.count.0 ∷ []) ∷ []
  dropped-gap n =
      gaps-split [] cs ds
      ∙ ap₂ ◌++◌ goes.0 (one-gap at has.0 c.count.0 (back cs []) (c ∷ back cs []) ds lacks (goes_on (back cs []) c ds goes.1) n)

  new-kept : (a : ℕ) (b : Bool) → eqb at a ≡ b → is_new (seen_in (back cs []) a) ≡ is_new (pick b (last c.count.0) (seen_in (back cs []) a))
  unfolding is_new
  new-kept a true e = ap is_new (ap (seen_in (back cs [])) (sym (eqb-true at a e)) ∙ has.1)
  new-kept a false e = refl

  -- and no APID is lost
  pub dropped-apids : new_behind [] (cs ++ ds) ≡ new_behind [] (cs ++ (c ∷ ds))
  unfolding new_behind is_new seen_in
  dropped-apids =
      let same = new-alike (back cs []) (c ∷ back cs []) ds (λ a. new-kept a (eqb at a) refl) in
      let none = ap is_new has.1 in
      new_split [] cs ds ∙ (let z : new_behind [] cs + new_behind (back cs []) ds ≡ new_behind [] cs + (is_new (seen_in (back cs []) at) + new_behind (c ∷ back cs []) ds) = omega (arith, same, none) in z)
      ∙ sym (new_split [] cs (c ∷ ds))
