-- Where a part of lent octets lies, which is handed out without a copy.
use Rattle.std.specs.Prelude.{ℕ, ◌+◌, List, length, ltb}
use Rattle.space_packet.specs.Bits.{pick}

-- an address: a block of memory, and a place in it
abbrev pub Address : Type 0
Address = ℕ × ℕ

-- the address n octets on
abbrev pub beyond : ℕ → Address → Address
beyond n a = (a.0, n + a.1)

-- how far into the octets s the part behind the first `at` begins; where there are not so many, it is the empty part at their start
abbrev pub reached : ℕ → List ℕ → ℕ
reached at s = pick (ltb (length s) at) 0 at
