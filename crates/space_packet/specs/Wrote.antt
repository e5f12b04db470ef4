-- What a write answers, and what it leaves in the buffer that was lent to it.
use Rattle.std.specs.Prelude.{ℕ, ◌≡◌, List, Result}
use Rattle.space_packet.specs.Answer.{answer_of, Answer}
use Rattle.space_packet.specs.declared.PusError.{PusError}
use Rattle.space_packet.specs.Header.{left_by}

-- it answers a; where a gives a size, the buffer begins with the octets p and then is as it was; else it is as it was
pub record Wrote (a : Answer ℕ) (p before : List ℕ) (r : Result ℕ PusError) (after : List ℕ) : Type 0 where
  pub answered : answer_of r ≡ a
  pub left : after ≡ left_by a p before
