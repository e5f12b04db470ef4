-- `Tracker::open_at` meets its contract: the request of the entry at that place, where it is in use.
use Prim.Native.Nat.{ℕ}
use mathlib.Core.Path.{◌≡◌, sym, ap, ◌∙◌}
use mathlib.Core.List.{List}
use denote.Ref.{Bor}
use lib.Dec.{ltb}
use lib.ListN.{length, get_or}
use borrow.Author.Tests.{ltb-true, ltb-false}
use Rattle.std.proofs.Common.{rules}
use Rattle.std.specs.Option.{is_some, IfSome, IsSomeAnd, MatchOption}
use Rattle.std.specs.Prelude.{Option, Some, None}
use Rattle.tracker.specs.declared.Entry.{Entry}
use Rattle.tracker.specs.Open.{ids_of, request_at}
use Rattle.tracker.proofs.Entries.{request-here, request-none}
use Rattle.tracker.proofs.Tracker.open_at.Goals as goal

at_is : (l : List Entry) (i : ℕ) (Q : Bor Entry → ℕ → Type 0) → ((x : Bor Entry) (y : ℕ) → Q x y → y ≡ x.now.id) → (o : Option (Bor Entry)) (r : Option ℕ)
    → is_some o ≡ ltb i (length l) → IfSome o (λ x. x.now ≡ get_or l i x.now) → MatchOption o (r ≡ None) (λ x. IsSomeAnd r (Q x)) → r ≡ request_at (ids_of l) i
at_is l i Q q None r e h k = k ∙ request-none l i (ltb-false i (length l) (sym e))
at_is l i Q q (Some x) None e h k = absurd k
at_is l i Q q (Some x) (Some y) e h k =
    ap Some (q x y k ∙ ap (λ (z : Entry). z.id) h) ∙ request-here l i x.now (ltb-true i (length l) (sym e))

pub returns : goal.returns
returns c =
    let g = c.get.ensures.lookup in
    at_is c.open.result.now c.args.i _ (λ x y k. search rules) c.get.result c.map.result g.0 g.1 c.map.ensures.cases ∙ ap (λ l. request_at (ids_of l) c.args.i) c.open.ensures
