-- A step of the splitter: when it ends, finds a tail or finds a packet; and what a piece says of the capture.
use Prim.Native.Nat.{ℕ, ◌+◌, ◌-◌, ◌≤◌, ◌<◌}
use mathlib.Core.Path.{◌≡◌, refl, sym, ap, ap₂, ◌∙◌, subst}
use mathlib.Core.Bool.{Bool, true, false, ◌||◌}
use mathlib.Core.List.{List}
use native.Mathlib.Omega.{arith}
use lib.ListN.{length, take, drop, length-drop}
use lib.Seq.{take_all}
use lib.Dec.{ltb, leb}
use borrow.Author.Tests.{le-ltb, le-leb, lt-leb, ltb-false, leb-true, leb-false}
use Rattle.space_packet.specs.Bits.{pick}
use Rattle.space_packet.specs.Answer.{Answer}
use Rattle.ecss.specs.Frame.{stated_of}
use Rattle.tc_read.specs.declared.PusTcRecord.{PusTcRecord}
use Rattle.tc_strict.specs.Split.{Piece, packet, tail, end, piece, is_tail, piece_by, length_of, step_by}

-- ---- what is found

-- what remains from `at` on, as a part of the capture
pub rest-is : (s : List ℕ) (at : ℕ) → take (length s - at) (drop at s) ≡ drop at s
rest-is s at = take_all (length s - at) (drop at s) (omega (arith, length-drop at s))

pub whole : (rest : List ℕ) → 6 ≤ length rest → stated_of rest ≤ length rest → is_tail rest ≡ false
whole rest h k = ap₂ ◌||◌ (le-ltb (length rest) 6 h) (le-ltb (length rest) (stated_of rest) k)

-- where a piece begins
abbrev pub begin_of : Piece → ℕ
begin_of (packet at n v) = at
begin_of (tail at n) = at

or-false : (a b : Bool) → a || b ≡ false → (a ≡ false) × (b ≡ false)
or-false false b e = (refl, e)
or-false true b e = absurd (let z : ◌≡◌ {A = ℕ} 0 1 = cc in omega arith)

pick-piece : (b : Bool) (q p : Piece) (m n : ℕ) → pick b end (piece q m) ≡ piece p n → (b ≡ false) × (q ≡ p) × (m ≡ n)
pick-piece true q p m n e = absurd (let z : ◌≡◌ {A = ℕ} 0 1 = cc in omega arith)
pick-piece false q p m n e = (refl, cc, cc)

pick_end : (b : Bool) (q : Piece) (m : ℕ) → pick b end (piece q m) ≡ end → b ≡ true
pick_end true q m e = refl
pick_end false q m e = absurd (let z : ◌≡◌ {A = ℕ} 0 1 = cc in omega arith)

-- ---- by the verdict that each packet is given

module _ (verdict : List ℕ → Answer PusTcRecord) where
  pub step_end : (s : List ℕ) (at : ℕ) → length s ≤ at → step_by verdict s at ≡ end
  unfolding step_by
  step_end s at h =
      ap (λ (b : Bool). pick b end (piece (piece_by verdict at (drop at s)) (at + length_of (piece_by verdict at (drop at s))))) (le-leb (length s) at h)

  step-piece : (s : List ℕ) (at : ℕ) (p : Piece) → at < length s → piece_by verdict at (drop at s) ≡ p → step_by verdict s at ≡ piece p (at + length_of p)
  unfolding step_by
  step-piece s at p h e =
      ap (λ (b : Bool). pick b end (piece (piece_by verdict at (drop at s)) (at + length_of (piece_by verdict at (drop at s))))) (lt-leb (length s) at h)
      ∙ ap (λ (q : Piece). piece q (at + length_of q)) e

  pub step-tail : (s : List ℕ) (at : ℕ) → at < length s → is_tail (drop at s) ≡ true → step_by verdict s at ≡ piece (tail at (length s - at)) (length s)
  unfolding piece_by
  step-tail s at h t =
      let rest = drop at s in
      let e = ap (λ (b : Bool). pick b (tail at (length rest)) (packet at (stated_of rest) (verdict (take (stated_of rest) rest)))) t ∙ ap (tail at) (length-drop at s) in
      let n : at + (length s - at) ≡ length s = omega arith in step-piece s at (tail at (length s - at)) h e ∙ ap (piece (tail at (length s - at))) n

  pub step-packet : (s : List ℕ) (at n : ℕ) (v : Answer PusTcRecord) → at < length s → is_tail (drop at s) ≡ false → n ≡ stated_of (drop at s)
      → v ≡ verdict (take n (take (length s - at) (drop at s))) → step_by verdict s at ≡ piece (packet at n v) (at + n)
  unfolding piece_by
  step-packet s at n v h t e k =
      let rest = drop at s in
      step-piece s at (packet at n v) h
      (ap (λ (b : Bool). pick b (tail at (length rest)) (packet at (stated_of rest) (verdict (take (stated_of rest) rest)))) t
      ∙ ap (λ (m : ℕ). packet at m (verdict (take m rest))) (sym e)
      ∙ ap (packet at n) (sym (k ∙ ap (λ (l : List ℕ). verdict (take n l)) (rest-is s at))))

  -- a packet is the stated total of octets, and its verdict is the strict verdict of just those; a tail is what remains
  abbrev pub Judged : List ℕ → Piece → Type 0
  Judged s (packet at n v) = (n ≡ stated_of (drop at s)) × (v ≡ verdict (take n (drop at s)))
  Judged s (tail at n) = (n ≡ length s - at) × (is_tail (drop at s) ≡ true)

  pub record PieceIs (s : List ℕ) (at : ℕ) (p : Piece) : Type 0 where
    pub begins : begin_of p ≡ at
    pub long : 0 < length_of p
    pub inside : at + length_of p ≤ length s
    pub judged : Judged s p

  piece_is : (s : List ℕ) (at : ℕ) (b : Bool) → at < length s → is_tail (drop at s) ≡ b
      → PieceIs s at (pick b (tail at (length (drop at s))) (packet at (stated_of (drop at s)) (verdict (take (stated_of (drop at s)) (drop at s)))))
  piece_is s at true h t =
      let l = length-drop at s in record { begins = refl; long = omega (arith, l); inside = omega (arith, l); judged = (l, t) }
  piece_is s at false h t =
      let l = length-drop at s in
      let k : stated_of (drop at s) ≤ length (drop at s) = ltb-false _ _ (or-false (ltb (length (drop at s)) 6) (ltb (length (drop at s)) (stated_of (drop at s))) t).1 in
      record { begins = refl; long = omega arith; inside = omega (arith, l); judged = (refl, refl) }

  -- a step that finds a piece goes on behind it
  pub step_is : (s : List ℕ) (at : ℕ) (p : Piece) (next : ℕ) → step_by verdict s at ≡ piece p next → PieceIs s at p × (next ≡ at + length_of p)
  unfolding step_by piece_by
  step_is s at p next e =
      let q = pick-piece (leb (length s) at) (piece_by verdict at (drop at s)) p (at + length_of (piece_by verdict at (drop at s))) next e in
      let h = piece_is s at (is_tail (drop at s)) (leb-false (length s) at q.0) refl in
      (subst (PieceIs s at) q.1 h, sym q.2 ∙ ap (λ (x : Piece). at + length_of x) q.1)

  -- and one that ends finds no octet left
  pub ended_is : (s : List ℕ) (at : ℕ) → step_by verdict s at ≡ end → length s ≤ at
  unfolding step_by
  ended_is s at e = leb-true (length s) at (pick_end (leb (length s) at) (piece_by verdict at (drop at s)) _ e)
