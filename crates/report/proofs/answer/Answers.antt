-- `report::answer` meets its contract where the input cannot be read: the text that says so stands at the buffer's start.
use native.Mathlib.Omega.{arith}
use Rattle.input.proofs.Shown.{laid-counts}
use Rattle.report.proofs.answer.Goals as goal

pub returns-in-Err-clause-prefix_len : goal.returns-in-Err-clause-prefix_len
returns-in-Err-clause-prefix_len c =
    let room = c.requires in laid-counts _ _ _ _ c.put_text.ensures (omega (arith, room))
