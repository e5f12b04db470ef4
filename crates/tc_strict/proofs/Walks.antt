-- The steps of the splitter walk a capture from its beginning to its end, piece by piece.
use Prim.Native.Nat.{ℕ, zero, suc, ◌+◌, ◌-◌, ◌≤◌}
use mathlib.Core.Path.{◌≡◌, refl, sym, ap₂, ◌∙◌, subst}
use mathlib.Core.Logic.{◌↔◌}
use mathlib.Core.List.{List, [], ◌∷◌}
use native.Mathlib.Omega.{arith}
use lib.ListN.{length}
use Rattle.space_packet.specs.Answer.{Answer}
use Rattle.tc_read.specs.declared.PusTcRecord.{PusTcRecord}
use Rattle.tc_strict.specs.Split.{Piece, packet, tail, Next, end, piece, length_of, step_by, continue, walk_by, whole_by}
use Rattle.tc_strict.proofs.Pieces.{begin_of, Judged, step_end, step_is, ended_is}

one_piece : (p q : Piece) (m n : ℕ) → piece p m ≡ piece q n → (p ≡ q) × (m ≡ n)
one_piece p q m n e = (cc, cc)

no-piece : (p : Piece) (n : ℕ) → end ≡ piece p n → ⊥
no-piece p n e = let z : ◌≡◌ {A = ℕ} 0 1 = cc in omega arith

-- each begins where the one before it ended
unfoldable pub Contiguous : ℕ → List Piece → Type 0
Contiguous at [] = Unit {0}
Contiguous at (p ∷ ps) = (begin_of p ≡ at) × Contiguous (at + length_of p) ps

unfoldable pub octets_in : List Piece → ℕ
octets_in [] = 0
octets_in (p ∷ ps) = length_of p + octets_in ps

unfoldable pub Each : (Piece → Type 0) → List Piece → Type 0
Each P [] = Unit {0}
Each P (p ∷ ps) = P p × Each P ps

-- only the last piece is a tail
unfoldable pub TailLast : List Piece → Type 0
TailLast [] = Unit {0}
TailLast (packet at n v ∷ ps) = TailLast ps
TailLast (tail at n ∷ ps) = ps ≡ []

-- ---- the steps, by the verdict that each packet is given

module _ (verdict : List ℕ → Answer PusTcRecord) where
  -- from `at` on, the steps find these pieces one after the other, and then end
  unfoldable pub Steps : List ℕ → ℕ → List Piece → Type 0
  Steps s at [] = step_by verdict s at ≡ end
  Steps s at (p ∷ ps) = (next : ℕ) × (step_by verdict s at ≡ piece p next) × Steps s next ps

  -- the turns suffice, since each piece has an octet
  steps_on : (turns : ℕ) (s : List ℕ) (at : ℕ) (x : Next) → step_by verdict s at ≡ x → length s - at ≤ suc turns
      → ((next : ℕ) → length s - next ≤ turns → Steps s next (walk_by verdict turns s next)) → Steps s at (continue x (walk_by verdict turns s))
  unfolding Steps
  steps_on turns s at end e h on = e
  steps_on turns s at (piece p next) e h on =
      let q = step_is verdict s at p next e in
      let n : next ≡ at + length_of p = q.1 in
      let l = q.0.long in (next, e, on next (omega arith))

  steps-from : (turns : ℕ) (s : List ℕ) (at : ℕ) → length s - at ≤ turns → Steps s at (walk_by verdict turns s at)
  unfolding walk_by Steps
  steps-from zero s at h = step_end verdict s at (omega arith)
  steps-from (suc turns) s at h = steps_on turns s at (step_by verdict s at) refl h (steps-from turns s)

  -- the steps walk exactly the list that is the walk
  pub steps-walk : (s : List ℕ) → Steps s 0 (whole_by verdict s)
  steps-walk s = steps-from (length s) s 0 (omega arith)

  -- and no other
  steps-one : (s : List ℕ) (at : ℕ) (ps qs : List Piece) → Steps s at ps → Steps s at qs → ps ≡ qs
  unfolding Steps
  steps-one s at [] [] a b = refl
  steps-one s at [] (q ∷ qs) a b = absurd (no-piece q b.0 (sym a ∙ b.1))
  steps-one s at (p ∷ ps) [] a b = absurd (no-piece p a.0 (sym b ∙ a.1))
  steps-one s at (p ∷ ps) (q ∷ qs) a b =
      let e = one_piece p q a.0 b.0 (sym a.1 ∙ b.1) in
      ap₂ ◌∷◌ e.0 (steps-one s b.0 ps qs (subst (λ (n : ℕ). Steps s n ps) e.1 a.2) b.2)

  pub steps-only : (s : List ℕ) (ps : List Piece) → Steps s 0 ps → ps ≡ whole_by verdict s
  steps-only s ps h = steps-one s 0 ps (whole_by verdict s) h (steps-walk s)

  -- the walk ends: more turns find nothing more
  pub walk_ends : (turns : ℕ) (s : List ℕ) → length s ≤ turns → walk_by verdict turns s 0 ≡ whole_by verdict s
  walk_ends turns s h = steps-only s (walk_by verdict turns s 0) (steps-from turns s 0 (omega arith))

  -- and a step from the capture's end on, and only from there, ends
  pub end-reached : (s : List ℕ) (at : ℕ) → (step_by verdict s at ≡ end) ↔ (length s ≤ at)
  end-reached s at = (ended_is verdict s at, step_end verdict s at)

  contiguous-from : (s : List ℕ) (at : ℕ) (ps : List Piece) → Steps s at ps → Contiguous at ps
  unfolding Steps Contiguous
  contiguous-from s at [] h = tt
  contiguous-from s at (p ∷ ps) h =
      let q = step_is verdict s at p h.0 h.1 in (q.0.begins, contiguous-from s (at + length_of p) ps (subst (λ (n : ℕ). Steps s n ps) q.1 h.2))

  octets-from : (s : List ℕ) (at : ℕ) (ps : List Piece) → at ≤ length s → Steps s at ps → at + octets_in ps ≡ length s
  unfolding Steps octets_in
  octets-from s at [] h k = let e = ended_is verdict s at k in omega arith
  octets-from s at (p ∷ ps) h k =
      let q = step_is verdict s at p k.0 k.1 in
      let n : k.0 ≡ at + length_of p = q.1 in
      let i = q.0.inside in
      let r = octets-from s k.0 ps (omega arith) k.2 in omega arith

  judged-from : (s : List ℕ) (at : ℕ) (ps : List Piece) → Steps s at ps → Each (Judged verdict s) ps
  unfolding Steps Each
  judged-from s at [] h = tt
  judged-from s at (p ∷ ps) h = ((step_is verdict s at p h.0 h.1).0.judged, judged-from s h.0 ps h.2)

  -- a tail reaches the capture's end
  tail_from : (s : List ℕ) (at : ℕ) (ps : List Piece) → Steps s at ps → TailLast ps
  unfolding Steps TailLast
  tail_from s at [] h = tt
  tail_from s at (packet a n v ∷ ps) h = tail_from s h.0 ps h.2
  tail_from s at (tail a n ∷ []) h = refl
  tail_from s at (tail a n ∷ (p ∷ ps)) h =
      let q = step_is verdict s at (tail a n) h.0 h.1 in
      let b : a ≡ at = q.0.begins in
      let e : n ≡ length s - a = q.0.judged.0 in
      let m : h.0 ≡ at + n = q.1 in absurd (no-piece p h.2.0 (sym (step_end verdict s h.0 (omega arith)) ∙ h.2.1))

  -- packets and tail are contiguous from the capture's beginning on
  pub walk-contiguous : (s : List ℕ) → Contiguous 0 (whole_by verdict s)
  walk-contiguous s = contiguous-from s 0 (whole_by verdict s) (steps-walk s)

  -- and their lengths sum to the capture's
  pub walk-octets : (s : List ℕ) → octets_in (whole_by verdict s) ≡ length s
  walk-octets s = let e = octets-from s 0 (whole_by verdict s) (omega arith) (steps-walk s) in omega arith

  -- each packet's verdict is the strict verdict of just its octets
  pub walk-judged : (s : List ℕ) → Each (Judged verdict s) (whole_by verdict s)
  walk-judged s = judged-from s 0 (whole_by verdict s) (steps-walk s)

  -- and only the last piece is a tail
  pub walk-tail-last : (s : List ℕ) → TailLast (whole_by verdict s)
  walk-tail-last s = tail_from s 0 (whole_by verdict s) (steps-walk s)
