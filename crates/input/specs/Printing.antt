-- What a program prints of its input, and how it stands in a buffer.
use Rattle.std.specs.Prelude.{ℕ, ◌≤◌, ◌≡◌, List, ◌++◌, Option, Ok, Err, length, take}
use Rattle.std.specs.Io.KnownBytes.{Appends}
use Rattle.text.specs.Ascii.{ascii}
use Rattle.text.specs.Page.{page, at_start}
use Rattle.input.specs.Reading.{Input, Within}

-- its report of the octets that were read, or behind its first line that they cannot be read
unfoldable pub printed_by : List ℕ → (List ℕ → List ℕ) → Input → List ℕ → List ℕ
printed_by first report (Ok n) l = report (take n l)
printed_by first report (Err e) l = first ++ ascii "cannot be read\n"

-- what putting a report t, for which `room` octets suffice, at the start of the buffer `before` answers and leaves
pub record Rendered (room : ℕ) (t before : List ℕ) (n : ℕ) (after : List ℕ) : Type 0 where
  -- as much of the report as there is room for, and its length; behind it what was there
  pub shown : page after n ≡ at_start before (take (length before) t)
  -- which is all of it where there are `room` octets
  pub whole : length t ≤ room

-- known octets grow by some beginning of a text, and by nothing else
pub record AppendsPart (before after : Option (List ℕ)) (t : List ℕ) : Type 0 where
  pub count : ℕ
  pub part : count ≤ length t
  pub shown : Appends before after (take count t)

-- what a program's run does to the octets that its writer holds: behind them it puts what is printed of an input, of which it has
-- read no more octets than its buffer holds, and nothing else
pub record Prints (printed : Input → List ℕ → List ℕ) (before after : Option (List ℕ)) : Type 0 where
  pub input : Input
  pub buffer : List ℕ
  pub whole : length buffer ≡ 65537
  pub within : Within input (length buffer)
  pub shown : Appends before after (printed input buffer)

-- what a run does to them that an error ends: behind them it puts some beginning of what it would have printed, and nothing else
pub record PrintsPart (printed : Input → List ℕ → List ℕ) (before after : Option (List ℕ)) : Type 0 where
  pub input : Input
  pub buffer : List ℕ
  pub whole : length buffer ≡ 65537
  pub within : Within input (length buffer)
  pub count : ℕ
  pub part : count ≤ length (printed input buffer)
  pub shown : Appends before after (take count (printed input buffer))
