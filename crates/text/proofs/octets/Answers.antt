-- `text::octets` meets its contract: pairs that have room are laid from the start on.
use Rattle.std.proofs.Common.{◌≡◌, true, arith}
use Rattle.std.proofs.lemmas.Grind.{common_steps}
use Rattle.text.specs.Digits.{are_pairs, pair_octets}
use Rattle.text.specs.Page.{octets_of}
use Rattle.text.proofs.Laws.{pairs_even, pair_octets-length}
use Rattle.text.proofs.Pages.{laid-room}
use Rattle.text.proofs.octets.Goals as goal

pub returns : goal.returns
unfolding octets_of
returns c =
    let s = c.args.s.now in
    let good : are_pairs s ≡ true = grind (arith, common_steps) in
    let even = pairs_even s good in
    let room = laid-room (pair_octets s) c.args.out.now (omega (arith, pair_octets-length s)) in
    grind (arith, common_steps)
