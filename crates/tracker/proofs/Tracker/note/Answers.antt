-- `Tracker::note` meets its contract: each turn leaves what the report leaves of one more entry.
use mathlib.Core.Path.{◌≡◌, refl, ap}
use native.Mathlib.Omega.{arith}
use lib.ListN.{length, length-take}
use Rattle.std.proofs.Common.{rules}
use Rattle.tracker.specs.Open.{holding, left}
use Rattle.tracker.proofs.Entries.{places_of, left-room, left_step, left_end}
use Rattle.tracker.proofs.Tracker.note.Goals as goal

pub loop-entry-init : goal.loop-entry-init
unfolding holding left
loop-entry-init c = record { items = c.open-entry-items.ensures; done = refl }

pub add_left-requires : goal.add_left-requires
add_left-requires c =
    let t = c.args.self.now in
    let n : length t.entries ≡ 32 = search rules in
    let k = c.loop-entry in
    let m = ap length k.invariant.items in
    let l = length-take t.count t.entries in
    left-room (places_of t.entries) _ k.entry-index _ _ k.self (omega arith) (omega arith) k.invariant.done

pub loop-entry-preserved : goal.loop-entry-preserved
loop-entry-preserved c =
    let k = c.loop-entry in record {
      items = k.invariant.items;
      done = left_step (places_of c.args.self.now.entries) _ k.entry-index _ _ _ k.self _ (omega arith) k.invariant.done c.add_left.ensures;
    }

pub returns : goal.returns
returns c =
    let k = c.loop-entry in
    left_end c.args.self.now _ k.entry-index _ _ k.self k.invariant.items (omega arith) k.invariant.done
