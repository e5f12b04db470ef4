-- `space_packet::word_at` meets its contract: past the end both octets are 0, and else it is the sum of the two.
use Prim.Native.Nat.{◌+◌}
use native.Mathlib.Omega.{arith}
use lib.ListN.{get_or-eq_default}
use Rattle.space_packet.proofs.word_at.Goals as goal

pub returns-then-s-at : goal.returns-then-s-at
returns-then-s-at c =
    let s = c.args.s.now in let i = c.args.at in omega (arith, get_or-eq_default s 0 {n = i} (omega arith), get_or-eq_default s 0 {n = i + 1} (omega arith))
