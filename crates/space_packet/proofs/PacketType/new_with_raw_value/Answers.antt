-- `PacketType::new_with_raw_value` meets its contract: its test is the definition's, on the lowest bit.
use borrow.Author.Tests.{eq-eqb, ne_eqb}
use Rattle.space_packet.proofs.PacketType.new_with_raw_value.Goals as goal

pub returns-then-value-eq1 : goal.returns-then-value-eq1
returns-then-value-eq1 c =
    simp (eq-eqb _ _ c.if-value-eq1.true)

pub returns-else-value-eq1 : goal.returns-else-value-eq1
returns-else-value-eq1 c =
    simp (ne_eqb _ _ c.if-value-eq1.false)
