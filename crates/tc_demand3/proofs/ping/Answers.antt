-- `tc_demand3::ping` meets its contract: what is built is not refused, and its octets are the ping command's.
use mathlib.Core.Path.{◌∙◌}
use Rattle.space_packet.proofs.Answers.{gives-inj, never}
use Rattle.tc_demand3.proofs.Pinged.{ping-made, ping-wrote}
use Rattle.tc_demand3.proofs.ping.Goals as goal

pub returns-in_err-creator : goal.returns-in_err-creator
returns-in_err-creator c =
    λ a n. absurd (never _ _ (c.in_err-creator.ensures ∙ ping-made _ (gives-inj _ _ (c.in_ok-ping_builder.ensures a n))))

pub returns : goal.returns
returns c =
    λ a n.
    ping-wrote _ _ _ _
    (gives-inj _ _ (c.in_ok-creator.ensures ∙ ping-made _ (gives-inj _ _ (c.in_ok-ping_builder.ensures a n))))
    c.write_to_slice.ensures
