-- What reading comes to.
use Rattle.std.specs.Prelude.{ℕ, ◌≤◌, Result, Ok, Err, IfOk}
use Rattle.input.specs.declared.Failed.{Failed}

-- so many octets, none at the end of the input, or that it failed
abbrev pub Input : Type 0
Input = Result ℕ Failed

-- what the system's answer to a read says: an error that it failed, else so many octets came
unfoldable pub input_of : {E : Type 0} → Result ℕ E → Input
input_of (Err e) = Err (record {})
input_of (Ok n) = Ok n

-- no more octets came than there is room for
abbrev pub Within : Input → ℕ → Type 0
Within i most = IfOk i (λ n. n ≤ most)
