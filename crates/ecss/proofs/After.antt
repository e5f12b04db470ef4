-- Read behind a check that comes before all others: what a total says, what is reported of it, and the verdict.
use Prim.Native.Nat.{ℕ, ◌+◌, ◌≤◌, ◌<◌}
use mathlib.Core.Path.{◌≡◌, refl, sym, ap, ap₂, ◌∙◌}
use mathlib.Core.Bool.{Bool, true}
use mathlib.Core.List.{List}
use native.Mathlib.Omega.{arith}
use lib.ListN.{length, get_or, drop, length-drop}
use lib.Seq.{get_or-take, get_or-drop, length-take-le}
use borrow.Author.Tests.{le-ltb}
use Rattle.space_packet.specs.Answer.{Answer, Numbers, Passed, gives, refuses, ◌then◌, and_then}
use Rattle.space_packet.specs.Header.{header_read, read_header}
use Rattle.space_packet.proofs.Answers.{gives-inj, refuses-inj, refuse-no, then-gives, gives_then}
use Rattle.ecss.specs.Frame.{stated_of, checked_of, frame_after, checked_after, Framed}
use Rattle.ecss.specs.Kind.{Kind, start_of, secondary_of, strict_rule, judge}
use Rattle.ecss.proofs.Frames.{frame-total, total-frame, checked-total}

module _ (first : Passed) (start : ℕ) (s : List ℕ) where
  -- where there is a frame, the check passes, and the octets hold the packet
  pub frame-given : (b : Bool) (n : ℕ) → frame_after first start s b ≡ gives n → Framed first start b s n
  unfolding frame_after
  frame-given b n p =
      let q = then-gives first _ n p in
      let t = frame-total start s b n q.2 in record { good = q.1; room = t.room; fits = t.fits }

  pub checked-given : (n : ℕ) → checked_after first start s ≡ gives n → Framed first start true s n
  unfolding checked_after
  checked-given n p =
      let q = then-gives first _ n p in
      let t = (checked-total start s n q.2).0 in record { good = q.1; room = t.room; fits = t.fits }

  -- a frame whose checksum is compared is one where it is only taken
  pub frame-checked : (n : ℕ) → checked_after first start s ≡ gives n → frame_after first start s true ≡ gives n
  unfolding checked_after frame_after
  frame-checked n p =
      let q = then-gives first _ n p in
      gives_then _ _ tt q.1 ∙ total-frame start s true n (checked-total start s n q.2).0

-- as the code finds them: the answer a of the check's answer p and the start n that it computes
pub frame_found : (first p : Passed) (start n : ℕ) (s : List ℕ) (b : Bool) (a : Answer ℕ) → a ≡ frame_after p n s b → p ≡ first → n ≡ start → frame_after first start s b ≡ a
frame_found first p start n s b a q i e = sym (q ∙ ap₂ (λ (x : Passed) (k : ℕ). frame_after x k s b) i e)

pub checked-found : (first p : Passed) (start n : ℕ) (s : List ℕ) (a : Answer ℕ) → a ≡ checked_after p n s → p ≡ first → n ≡ start → checked_after first start s ≡ a
checked-found first p start n s a q i e = sym (q ∙ ap₂ (λ (x : Passed) (k : ℕ). checked_after x k s) i e)

-- ---- what is reported of a total

module _ {R : Type 0} (g : ℕ → R) (total : R → ℕ) (back : (n : ℕ) → total (g n) ≡ n) where
  pub reported : (a : Answer ℕ) (r : R) → (a then λ n. gives (g n)) ≡ gives r → (a ≡ gives (total r)) × (r ≡ g (total r))
  reported a r p =
      let q = then-gives a _ r p in
      let e = sym (gives-inj _ r q.2) in
      let n : q.0 ≡ total r = sym (back q.0) ∙ ap total (sym e) in (q.1 ∙ ap gives n, e ∙ ap g n)

-- ---- the headers, in octets that have room for them

pub primary-read : (s : List ℕ) → 6 ≤ length s → header_read s ≡ gives (read_header s)
unfolding header_read
primary-read s n = refuse-no _ _ _ (le-ltb (length s) 6 n)

pub secondary-length : (n : ℕ) (s : List ℕ) → 6 + n ≤ length s → length (secondary_of n s) ≡ n
secondary-length n s h = length-take-le n (drop 6 s) (omega (arith, length-drop 6 s, h))

-- the first octet of the secondary header
pub octet-six : (n : ℕ) (s : List ℕ) → 0 < n → get_or (secondary_of n s) 0 0 ≡ get_or s 6 0
octet-six n s h = get_or-take n (drop 6 s) 0 0 h ∙ get_or-drop 6 s 0 0

-- ---- the verdict, which reports g of the total

module _ {H R : Type 0} (first : Passed) (k : Kind H) (s : List ℕ) (g : ℕ → R) where
  abbrev pub verdict_after : Answer R
  verdict_after = first then λ _. judge k s then λ _. gives (g (stated_of s))

  by_first : (a : Passed) (e : Numbers) → first ≡ a → (a then λ _. checked_of (start_of k) s) ≡ refuses e → verdict_after ≡ refuses e
  unfolding judge and_then
  by_first (refuses d) e i p = rw i (ap refuses (refuses-inj d e p))
  by_first (gives u) e i p = rw (i, p) refl

  -- where the reader refuses, the verdict is its refusal
  pub verdict-refused : (e : Numbers) → checked_after first (start_of k) s ≡ refuses e → verdict_after ≡ refuses e
  unfolding checked_after
  verdict-refused e p = by_first first e refl p

  -- where it takes n octets, the verdict is the strict checks'; by their answer, not by how the definition goes through them
  taken-ruled : (n : ℕ) (a : Passed) → first ≡ gives tt → checked_of (start_of k) s ≡ gives n → strict_rule k (read_header s) (secondary_of k.size s) ≡ a
      → verdict_after ≡ (a then λ _. gives (g (stated_of s)))
  unfolding judge and_then
  taken-ruled n (gives u) i p q = rw (i, p, q) refl
  taken-ruled n (refuses e) i p q = rw (i, p, q) refl

  pub verdict-ruled : (n : ℕ) → checked_after first (start_of k) s ≡ gives n
      → verdict_after ≡ (strict_rule k (read_header s) (secondary_of k.size s) then λ _. gives (g n))
  unfolding checked_after
  verdict-ruled n p =
      let q = then-gives first _ n p in
      let i = (checked-total (start_of k) s n q.2).0.is in
      taken-ruled n _ q.1 q.2 refl
      ∙ ap (λ (m : ℕ). strict_rule k (read_header s) (secondary_of k.size s) then λ _. gives (g m)) (sym i)
