-- What the program prints.
use Rattle.std.specs.Prelude.{ℕ, List}
use Rattle.input.specs.Printing.{printed_by}
use Rattle.input.specs.Reading.{Input}
use Rattle.text.specs.Ascii.{ascii}
use Rattle.report.specs.Report.{report_text}

-- of an input: the report of the octets that were read, or that they cannot be read
abbrev pub printed : Input → List ℕ → List ℕ
printed = printed_by (ascii "tcverdict 1\n") report_text
