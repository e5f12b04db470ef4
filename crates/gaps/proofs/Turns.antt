-- One turn of the loop: the step from `at`, and what it leaves of the walk and of the list.
use Prim.Native.Nat.{ℕ, ◌+◌, ◌≤◌, ◌<◌}
use mathlib.Core.Path.{◌≡◌, sym, ap, ◌∙◌, subst}
use mathlib.Core.List.{List}
use native.Mathlib.Omega.{arith}
use lib.ListN.{length}
use Rattle.std.specs.Prelude.{Some, None, Ok, Err}
use Rattle.std.proofs.lemmas.Option.{same_Some, none-some}
use Rattle.space_packet.specs.Answer.{Kept, Passed, gives, refuses, numbers_of}
use Rattle.space_packet.specs.declared.PusError.{PusError}
use Rattle.space_packet.proofs.Answers.{never, refuses-inj}
use Rattle.tc_strict.specs.Verdict.{strict_of}
use Rattle.tc_strict.specs.Split.{Piece, Next, end, piece, length_of, step_of}
use Rattle.tc_strict.specs.declared.split.Cursor.{Cursor}
use Rattle.tc_strict.proofs.Pieces.{step_is, ended_is}
use Rattle.gaps.specs.Gaps.{Rows, State, Move, on, lists, stop, begin, Listed, Reached, by_move, move_of, move_by, length_by, next_by, sum_of}
use Rattle.gaps.proofs.Walks.{Here, here-begin, here_on, here-lists, here-stop, here_end, here-left}

-- what one turn comes to, where the walk stands in t and the list holds now
module _ (s : List ℕ) (before : Rows) where
  abbrev told : Reached → PusError → Type 0
  told r e = Listed s before (record { listed = r.state.listed; result = Err e }) r.rows

  ended : (now : Rows) (t : State) (at : ℕ) → Here s before now t at → length s ≤ at → Listed s before (record { listed = t.listed; result = Ok t.totals }) now
  ended now t at h k =
      let q = here_end s before now t at h k in
      let w = here-left s before now t at h _ q.0 in record { answered = sym q.1; counted = w.0; left = w.1 }

  module _ (now : Rows) (t : State) (at : ℕ) (h : Here s before now t at) where
    abbrev Moved : Passed → State → Rows → Move → Type 0
    Moved a u rows m = record { passed = a; kept = record { state = u; rows = rows } } ≡ by_move m t now

    left : (a : Passed) (u : State) (rows : Rows) (m : Move) → Moved a u rows m → record { state = u; rows = rows } ≡ (by_move m t now).kept
    left a u rows m k = ap (λ (x : Kept Reached). x.kept) k

    answers : (a : Passed) (u : State) (rows : Rows) (m : Move) → Moved a u rows m → a ≡ (by_move m t now).passed
    answers a u rows m k = ap (λ (x : Kept Reached). x.passed) k

    module _ (p : Piece) (next : ℕ) (k : at < length s) (e : step_of s at ≡ piece p next) where
      goes-by : (u : State) (rows : Rows) (m : Move) → m ≡ move_of (length before) t p → Moved (gives tt) u rows m → Here s before rows u next
      goes-by u rows (on v) q w = subst (λ (r : Reached). Here s before r.rows r.state next) (sym (left _ u rows (on v) w)) (here_on s before now t at h p next k e v q)
      goes-by u rows (lists row v) q w = subst (λ (r : Reached). Here s before r.rows r.state next) (sym (left _ u rows (lists row v) w)) (here-lists s before now t at h p next k e row v q)
      goes-by u rows (stop x) q w = absurd (never tt x (sym (answers _ u rows (stop x) w)))

      stops-by : (x : PusError) (u : State) (rows : Rows) (m : Move) → m ≡ move_of (length before) t p → Moved (refuses (numbers_of x)) u rows m → told (record { state = u; rows = rows }) x
      stops-by x u rows (on v) q w = absurd (never tt (numbers_of x) (answers _ u rows (on v) w))
      stops-by x u rows (lists row v) q w = absurd (never tt (numbers_of x) (answers _ u rows (lists row v) w))
      stops-by x u rows (stop y) q w =
          let a : numbers_of x ≡ y = refuses-inj _ _ (answers _ u rows (stop y) w) in
          let z = here-stop s before now t at h p next k e y q in
          let l = here-left s before now t at h _ z.0 in
          subst (λ (r : Reached). told r x) (sym (left _ u rows (stop y) w)) (record { answered = ap refuses a ∙ sym z.1; counted = l.0; left = l.1 })

-- ---- the loop: it stands at `at`, where the step x was found

pub begins : (s : List ℕ) (before : Rows) (t : State) (at : ℕ) → t ≡ begin → at ≡ 0 → Here s before before t at
begins s before t at e z = subst (λ (n : ℕ). Here s before before t n) (sym z) (subst (λ (t : State). Here s before before t 0) (sym e) (here-begin s before))

not-ended : (s : List ℕ) (at : ℕ) (p : Piece) (next : ℕ) → piece p next ≡ step_of s at → (at < next) × (next ≤ length s) × (at + length_of p ≤ length s)
not-ended s at p next e =
    let q = step_is strict_of s at p next (sym e) in
    let m : next ≡ at + length_of p = q.1 in
    let l = q.0.long in
    let i = q.0.inside in (omega arith, omega arith, i)

module _ {s : List ℕ} {before now : Rows} {t : State} {at : ℕ} (h : Here s before now t at) where
  pub fits : (x : Next) → x ≡ step_of s at → sum_of t.totals + length_by x ≤ length s
  fits end e = let a = h.sums in let i = h.inside in omega arith
  fits (piece p next) e = let a = h.sums in let i = not-ended s at p next e in omega (arith, i.2)

  -- a piece was found, and the walk goes on behind it
  pub goes : (x : Next) → x ≡ step_of s at → (u : State) (rows : Rows) (next : Cursor) → Some next ≡ next_by x
      → record { passed = gives tt; kept = record { state = u; rows = rows } } ≡ by_move (move_by (length now) t x) t now
      → Here s before rows u next.at × ((at < next.at) × (next.at ≤ length s))
  goes end e u rows next n w = absurd (none-some next (sym n))
  goes (piece p to) e u rows next n w =
      let a : next.at ≡ to = ap (λ (c : Cursor). c.at) (same_Some _ _ n) in
      let i = not-ended s at p to e in (
        subst (λ (n : ℕ). Here s before rows u n) (sym a) (goes-by s before now t at h p to (omega (arith, i)) (sym e) u rows _ (ap (λ (n : ℕ). move_of n t p) h.same) w),
        (omega (arith, a, i), omega (arith, a, i)),
      )

  -- or it ended the walk
  pub stops : (x : Next) → x ≡ step_of s at → (r : PusError) (u : State) (rows : Rows)
      → record { passed = refuses (numbers_of r); kept = record { state = u; rows = rows } } ≡ by_move (move_by (length now) t x) t now
      → Listed s before (record { listed = u.listed; result = Err r }) rows
  stops end e r u rows w = absurd (never tt (numbers_of r) (ap (λ (k : Kept Reached). k.passed) w))
  stops (piece p to) e r u rows w =
      let i = not-ended s at p to e in
      stops-by s before now t at h p to (omega (arith, i)) (sym e) r u rows _ (ap (λ (n : ℕ). move_of n t p) h.same) w

  -- the capture has ended
  pub ends : (x : Next) → x ≡ step_of s at → (u : State) (rows : Rows) → None ≡ next_by x
      → record { passed = gives tt; kept = record { state = u; rows = rows } } ≡ by_move (move_by (length now) t x) t now
      → Listed s before (record { listed = u.listed; result = Ok u.totals }) rows
  ends (piece p next) e u rows n w = absurd (none-some _ n)
  ends end e u rows n w =
      let k = ended_is strict_of s at (sym e) in
      subst (λ (r : Reached). Listed s before (record { listed = r.state.listed; result = Ok r.state.totals }) r.rows) (sym (ap (λ (k : Kept Reached). k.kept) w)) (ended s before now t at h k)
