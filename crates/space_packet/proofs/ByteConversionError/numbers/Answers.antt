-- `ByteConversionError::numbers` meets its contract: each arm is its line of the table.
use mathlib.Core.Path.{sym, ap, ◌∙◌}
use Rattle.space_packet.specs.Answer.{bytes_numbers, in_numbers}
use Rattle.space_packet.proofs.ByteConversionError.numbers.Goals as goal

pub returns-in-ToSliceTooSmall : goal.returns-in-ToSliceTooSmall
returns-in-ToSliceTooSmall c =
    c.in_numbers.ensures ∙ ap (λ e. in_numbers (bytes_numbers e)) (sym c.in-ToSliceTooSmall.is)

pub returns-in-FromSliceTooSmall : goal.returns-in-FromSliceTooSmall
returns-in-FromSliceTooSmall c =
    c.in_numbers-in-FromSliceTooSmall.ensures ∙ ap (λ e. in_numbers (bytes_numbers e)) (sym c.in-FromSliceTooSmall.is)
