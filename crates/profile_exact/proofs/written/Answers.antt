-- `profile_exact::written` meets its contract: `written-accepted` on what the write leaves.
use mathlib.Core.Path.{ap, ◌∙◌}
use Rattle.space_packet.specs.Answer.{gives}
use Rattle.profile_exact.proofs.Building.{written-accepted}
use Rattle.profile_exact.proofs.written.Goals as goal

pub returns : goal.returns
returns c =
    let a = c.args in
    λ n e.
    let k = written-accepted a.command a.app_data.now a.buf.now _ _ n c.write_to_slice-size.ensures e in
    record { answers = e ∙ ap gives k.0; accepted = c.judge-verdict.ensures ∙ k.1 }
