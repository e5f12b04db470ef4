-- `answers::lines::lines` is safe: no more is held than the buffer has room for.
use Rattle.std.proofs.Common.{length, ◌≤◌}
use Rattle.answers.proofs.lines.lines.Given as goal

abbrev pub invariant-loop : goal.invariant-loop
invariant-loop g l =
    l.held ≤ length l.buf
