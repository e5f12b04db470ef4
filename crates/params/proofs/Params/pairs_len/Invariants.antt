-- `Params::pairs_len` meets its contract: the octets so far, and those of the pairs from the next on.
use Rattle.std.proofs.Common.{◌≡◌, ◌*◌, ◌≤◌, true, drop}
use Rattle.params.specs.Request.{ids_known, pairs_octets, length_of}
use Rattle.params.proofs.WriteLaws.{adds}
use Rattle.params.proofs.Params.pairs_len.Given as goal

abbrev pub invariant-loop-pair : goal.invariant-loop-pair
invariant-loop-pair l = record {
  few : l.total ≤ 10 * l.pair-index;
  known : ids_known l.list (drop l.pair-index l.pair-items) ≡ true;
  rest : adds l.total (length_of (pairs_octets l.list (drop l.pair-index l.pair-items))) ≡ length_of (pairs_octets l.list l.pair-items);
}
