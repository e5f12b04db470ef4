-- `SequenceFlags::new_with_raw_value` meets its contract: both tests are the definition's, in each of the four cases.
use borrow.Author.Tests.{eq-eqb, ne_eqb}
use Rattle.space_packet.proofs.SequenceFlags.new_with_raw_value.Goals as goal

pub returns-then-value-eq1-2 : goal.returns-then-value-eq1-2
returns-then-value-eq1-2 c =
    simp (eq-eqb _ _ c.if-value-eq1.true, eq-eqb _ _ c.if-value-eq1-2.true)

pub returns-then-value-eq1 : goal.returns-then-value-eq1
returns-then-value-eq1 c =
    simp (eq-eqb _ _ c.if-value-eq1.true, ne_eqb _ _ c.if-value-eq1-2.false)

pub returns-then-value-eq1-3 : goal.returns-then-value-eq1-3
returns-then-value-eq1-3 c =
    simp (ne_eqb _ _ c.if-value-eq1.false, eq-eqb _ _ c.if-value-eq1-3.true)

pub returns : goal.returns
returns c =
    simp (ne_eqb _ _ c.if-value-eq1.false, ne_eqb _ _ c.if-value-eq1-3.false)
