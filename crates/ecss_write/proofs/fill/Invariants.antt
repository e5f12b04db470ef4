-- `ecss_write::fill` meets its contract: before each octet those before it are the data's, and the rest are as they were.
use Rattle.std.proofs.Common.{◌≡◌, ◌++◌, take, drop}
use Rattle.ecss_write.proofs.fill.Given as goal

abbrev pub invariant-loop-place : goal.invariant-loop-place
invariant-loop-place l =
    l.part ≡ take l.place l.data ++ drop l.place l.initial.part
