-- `Scan::accept` meets its contract, in each of its exits: the first of an APID, a gap with no place, and a command that is noted, with a
-- gap or with none.
use Prim.Native.Nat.{◌<◌}
use mathlib.Core.Path.{◌≡◌, sym, ap, ap₂, subst, ◌∙◌}
use lib.ListN.{length, take, set}
use Rattle.space_packet.specs.Answer.{Kept, gives}
use Rattle.gaps.specs.Gaps.{Rows, State, Reached, stop, place_of, with_accepted, by_move}
use Rattle.gaps.specs.declared.Scan.TheInside.{Inside}
use Rattle.gaps.proofs.Scans.{starts, moves, stops, takes-next, takes-no-place, takes-gap}
use Rattle.gaps.proofs.Scan.accept.Goals as goal
use Rattle.gaps.proofs.Scan.accept.Goals.{then-found-expected+else-self-list, else-found-expected}

pub returns-in_default : goal.returns-in_default
returns-in_default c = starts _ c.args.self.now _ _ _ _ _ c.in_default.ensures c.start.ensures

pub returns-then-self-list : goal.returns-then-self-list
returns-then-self-list c =
    let a = c.args in
    let f = c.self.inside in
    let v = c.self.view_is in
    let h = subst (λ (s : State). (c.in-Some.place ≡ place_of s.lasts a.command.apid.0) × (c.in-Some.place < length s.lasts)) (sym v) c.in-Some.ensures in
    ap (λ n. by_move (stop n) a.self.now a.list.now) c.no_place.ensures
    ∙ stops _ f.lasts f.apids f.listed f.totals a.total a.command a.self.now a.list.now _ v
    (takes-no-place (length a.list.now) f.lasts f.apids f.listed f.totals a.total a.command _ h.0 h.1 _ _ c.after-expected.ensures c.value-found.ensures c.if-found-expected.true c.if-self-list.true)

pub returns : goal.returns
returns c =
    let a = c.args in
    let f = c.self.inside in
    let v = c.self.view_is in
    let p = c.in-Some.place in
    let h = subst (λ (s : State). (p ≡ place_of s.lasts a.command.apid.0) × (p < length s.lasts)) (sym v) c.in-Some.ensures in
    let noted : Inside → Rows → Kept Reached =
    λ x l. record { passed = gives tt; kept = record { state = record { lasts = take x.apids (set x.lasts p a.command); listed = x.listed; totals = with_accepted x.totals a.total }; rows = l } } in
    elim c.if-found-expected.branch [
      | then-found-expected+else-self-list w ↦
          ap₂ noted w.self-inside-is w.list-is
          ∙ moves _ f.lasts f.apids f.listed f.totals a.total a.command a.self.now a.list.now _ v
          (takes-gap (length a.list.now) f.lasts f.apids f.listed f.totals a.total a.command p h.0 h.1 _ _ c.after-expected.ensures c.value-found.ensures w.if-found-expected.true w.if-self-list.false _ w.value.ensures)
      | else-found-expected w ↦
          ap₂ noted w.self-inside-is w.list-is
          ∙ moves _ f.lasts f.apids f.listed f.totals a.total a.command a.self.now a.list.now _ v
          (takes-next (length a.list.now) f.lasts f.apids f.listed f.totals a.total a.command p h.0 h.1 _ _ c.after-expected.ensures c.value-found.ensures w.if-found-expected.false)
    ]
