-- `Tracker::note` meets its contract: each turn leaves what the report leaves of one more entry.
use mathlib.Core.Path.{◌≡◌}
use lib.ListN.{take}
use Rattle.tracker.specs.Open.{entries_of, holding, left}
use Rattle.tracker.proofs.Entries.{places_of}
use Rattle.tracker.proofs.Tracker.note.Given as goal

abbrev pub invariant-loop-entry : goal.invariant-loop-entry
invariant-loop-entry l = record {
  items : l.entry-items ≡ entries_of l.fn.self;
  done : l.self ≡ holding (places_of l.fn.self.entries) (left l.id l.subtype (take l.entry-index l.entry-items));
}
