-- `input::put_all` meets its contract: each turn writes one octet or more of the text, behind those before.
use Rattle.std.proofs.Common.{◌≡◌, ◌-◌, ◌≤◌, length, take, drop}
use Rattle.std.specs.Io.KnownBytes.{Appends}
use Rattle.input.proofs.put_all.Given as goal

abbrev pub invariant-loop-rest : goal.invariant-loop-rest
invariant-loop-rest g l =
    let at = length l.text - length l.rest in
    (length l.rest ≤ length l.text) × (l.rest ≡ drop at l.text) × Appends (g.W.Write.contents l.initial.writer) (g.W.Write.contents l.writer) (take at l.text)

abbrev pub decreases-loop-rest : goal.decreases-loop-rest
decreases-loop-rest g l =
    length l.rest
