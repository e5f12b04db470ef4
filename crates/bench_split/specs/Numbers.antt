-- What a step of the splitter answers as one number.
use Rattle.std.specs.Prelude.{ℕ}
use Rattle.space_packet.specs.Answer.{Answer, gives, refuses}
use Rattle.tc_read.specs.declared.PusTcRecord.{PusTcRecord}
use Rattle.tc_strict.specs.Split.{Next, end, piece, packet, tail}

-- where the next piece begins, behind a packet that is accepted
abbrev pub next_behind : Answer PusTcRecord → ℕ → ℕ
next_behind (gives r) next = next
next_behind (refuses e) next = 0

abbrev pub step_number : Next → ℕ
step_number end = 0
step_number (piece (packet at n v) next) = next_behind v next
step_number (piece (tail at n) next) = 0
