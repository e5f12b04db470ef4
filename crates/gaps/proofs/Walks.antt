-- The loop of the walk: what is listed so far, and that the rest of the walk is still to come.
use Prim.Native.Nat.{ℕ, zero, suc, ◌+◌, ◌-◌, ◌≤◌, ◌<◌}
use mathlib.Core.Path.{◌≡◌, refl, sym, ap, ap₂, ◌∙◌, subst}
use mathlib.Core.List.{List, [], ◌∷◌, ◌++◌, append-nil}
use native.Mathlib.Omega.{arith}
use native.Mathlib.Numerals.{add-one}
use lib.ListN.{length, take, drop, set, length-set, take-append-drop}
use lib.Seq.{append_snoc, take-suc-set, drop-set-lt, drop-drop, length-take-le}
use Rattle.space_packet.specs.Answer.{Numbers, gives, refuses}
use Rattle.tc_strict.specs.Split.{Piece, Next, piece, length_of, step_of, continue, walk_by, walk_from}
use Rattle.tc_strict.specs.Verdict.{strict_of}
use Rattle.tc_strict.proofs.Pieces.{step_end, step_is}
use Rattle.gaps.specs.Gaps.{Rows, State, Move, on, lists, stop, move_of, sum_of, Outcome, followed, scan, begin, gaps_of}
use Rattle.gaps.proofs.Moves.{Counts, move-counts}

pub record Here (s : List ℕ) (before now : Rows) (t : State) (at : ℕ) : Type 0 where
  pub inside : at ≤ length s
  pub sums : sum_of t.totals ≡ at
  pub room : t.listed ≤ length before
  pub same : length now ≡ length before
  pub behind : drop t.listed now ≡ drop t.listed before
  pub turns : ℕ
  pub enough : length s - at ≤ turns
  pub rows : (gaps_of (length before) s).rows ≡ take t.listed now ++ (scan (length before) t (walk_from turns s at)).rows
  pub answer : (gaps_of (length before) s).answer ≡ (scan (length before) t (walk_from turns s at)).answer

pub here-begin : (s : List ℕ) (l : Rows) → Here s l l begin 0
here-begin s l = record {
  inside = omega arith;
  sums = refl;
  room = omega arith;
  same = refl;
  behind = refl;
  turns = length s;
  enough = omega arith;
  rows = refl;
  answer = refl;
}

-- ---- one turn

record On (s : List ℕ) (turns at : ℕ) (p : Piece) (next : ℕ) : Type 0 where
  pub left : ℕ
  pub enough : length s - next ≤ left
  pub is : walk_from turns s at ≡ p ∷ walk_from left s next

walk-on : (turns : ℕ) (s : List ℕ) (at : ℕ) (p : Piece) (next : ℕ) → at < length s → length s - at ≤ turns → step_of s at ≡ piece p next → On s turns at p next
unfolding walk_by
walk-on zero s at p next h k e = absurd (omega arith)
walk-on (suc t) s at p next h k e =
    let q = step_is strict_of s at p next e in
    let n : next ≡ at + length_of p = q.1 in
    let l = q.0.long in record { left = t; enough = omega arith; is = ap (λ (x : Next). continue x (walk_from t s)) e }

abbrev rest : List ℕ → ℕ → ℕ → ℕ → State → Outcome
rest s places left next t = scan places t (walk_from left s next)

scan-on : (places : ℕ) (t : State) (s : List ℕ) (turns at : ℕ) (p : Piece) (next : ℕ) (o : On s turns at p next) (m : Move) → m ≡ move_of places t p
    → scan places t (walk_from turns s at) ≡ followed m (rest s places o.left next)
unfolding scan
scan-on places t s turns at p next o m e =
    ap (scan places t) o.is ∙ ap (λ (x : Move). followed x (rest s places o.left next)) (sym e)

module _ (s : List ℕ) (before now : Rows) (t : State) (at : ℕ) (h : Here s before now t at) (p : Piece) (next : ℕ)
    (k : at < length s) (e : step_of s at ≡ piece p next) where
  on-walk : On s h.turns at p next
  on-walk = walk-on h.turns s at p next k h.enough e

  goes : (m : Move) → m ≡ move_of (length before) t p → scan (length before) t (walk_from h.turns s at) ≡ followed m (rest s (length before) on-walk.left next)
  goes m f = scan-on (length before) t s h.turns at p next on-walk m f

  counts : (m : Move) → m ≡ move_of (length before) t p → Counts (length before) t (length_of p) m
  counts m f = subst (Counts (length before) t (length_of p)) (sym f) (move-counts (length before) t p)

  next-is : (next ≡ at + length_of p) × (next ≤ length s)
  next-is =
      let q = step_is strict_of s at p next e in
      let n : next ≡ at + length_of p = q.1 in
      let i = q.0.inside in (n, omega arith)

  pub here_on : (u : State) → on u ≡ move_of (length before) t p → Here s before now u next
  here_on u f =
      let c = counts (on u) f in
      let g = goes (on u) f in
      let n = next-is in
      let a = h.sums in
      let r = h.room in
      let i : t.listed ≡ u.listed = sym c.0 in
      record {
        inside = n.1;
        sums = c.1 ∙ omega (arith, a, n.0);
        room = omega (arith, i, r);
        same = h.same;
        behind = ap (λ (x : ℕ). drop x now) (sym i) ∙ h.behind ∙ ap (λ (x : ℕ). drop x before) i;
        turns = on-walk.left;
        enough = on-walk.enough;
        rows = h.rows ∙ ap₂ (λ (x : ℕ) (o : Outcome). take x now ++ o.rows) i g;
        answer = h.answer ∙ ap (λ (o : Outcome). o.answer) g;
      }

  pub here-lists : (row : List ℕ) (u : State) → lists row u ≡ move_of (length before) t p → Here s before (set now t.listed row) u next
  here-lists row u f =
      let c = counts (lists row u) f in
      let g = goes (lists row u) f in
      let n = next-is in
      let a = h.sums in
      let m = h.same in
      let w = c.2 in
      let j = t.listed in
      let i : suc j ≡ u.listed = sym (add-one j) ∙ sym c.0 in
      let l : j < length now = omega (arith, m, w) in
      let d : (x : Rows) → drop (suc j) x ≡ drop 1 (drop j x) = λ x. ap (λ (y : ℕ). drop y x) (sym (add-one j)) ∙ sym (drop-drop 1 j x) in
      record {
        inside = n.1;
        sums = c.1 ∙ omega (arith, a, n.0);
        room = omega (arith, i, w);
        same = length-set now j row ∙ m;
        behind = ap (λ (x : ℕ). drop x (set now j row)) (sym i) ∙ drop-set-lt (suc j) now j row (omega arith) ∙ d now ∙ ap (drop 1) h.behind ∙ sym (d before) ∙ ap (λ (x : ℕ). drop x before) i;
        turns = on-walk.left;
        enough = on-walk.enough;
        rows = h.rows ∙ ap (λ (o : Outcome). take j now ++ o.rows) g ∙ sym (append_snoc (take j now) row _)
            ∙ ap (λ (x : Rows). x ++ (rest s (length before) on-walk.left next u).rows) (sym (take-suc-set now j row l))
            ∙ ap (λ (x : ℕ). take x (set now j row) ++ (rest s (length before) on-walk.left next u).rows) i;
        answer = h.answer ∙ ap (λ (o : Outcome). o.answer) g;
      }

  pub here-stop : (n : Numbers) → stop n ≡ move_of (length before) t p → ((gaps_of (length before) s).rows ≡ take t.listed now) × ((gaps_of (length before) s).answer ≡ refuses n)
  here-stop n f =
      let g = goes (stop n) f in
      (h.rows ∙ ap (λ (o : Outcome). take t.listed now ++ o.rows) g ∙ append-nil _, h.answer ∙ ap (λ (o : Outcome). o.answer) g)

-- ---- the end

walk-done : (turns : ℕ) (s : List ℕ) (at : ℕ) → length s ≤ at → walk_from turns s at ≡ []
unfolding walk_by
walk-done zero s at h = refl
walk-done (suc t) s at h = ap (λ (x : Next). continue x (walk_from t s)) (step_end strict_of s at h)

pub here_end : (s : List ℕ) (before now : Rows) (t : State) (at : ℕ) → Here s before now t at → length s ≤ at
    → ((gaps_of (length before) s).rows ≡ take t.listed now) × ((gaps_of (length before) s).answer ≡ gives t.totals)
unfolding scan
here_end s before now t at h k =
    let g = ap (scan (length before) t) (walk-done h.turns s at k) in
    (h.rows ∙ ap (λ (o : Outcome). take t.listed now ++ o.rows) g ∙ append-nil _, h.answer ∙ ap (λ (o : Outcome). o.answer) g)

-- what is listed stands at the beginning of the list, and behind it what stood there
pub here-left : (s : List ℕ) (before now : Rows) (t : State) (at : ℕ) → Here s before now t at → (rows : Rows) → rows ≡ take t.listed now
    → (t.listed ≡ length rows) × (now ≡ rows ++ drop (length rows) before)
here-left s before now t at h rows e =
    let r = h.room in
    let m = h.same in
    let l : t.listed ≡ length rows = sym (length-take-le t.listed now (omega arith)) ∙ ap length (sym e) in
    (l, sym (take-append-drop t.listed now) ∙ ap₂ ◌++◌ (sym e) (h.behind ∙ ap (λ (x : ℕ). drop x before) l))
