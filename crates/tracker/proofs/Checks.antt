-- What the verdict reports of a command, and what is asked of a report, case by case.
use Prim.Native.Nat.{ℕ, ◌%◌}
use mathlib.Core.Path.{◌≡◌, sym, ap, ◌∙◌}
use mathlib.Core.Bool.{true, false, not}
use mathlib.Core.List.{List, []}
use native.Mathlib.Omega.{arith}
use Rattle.space_packet.specs.Answer.{Answer, Numbers, gives, refuses, refusal}
use Rattle.space_packet.proofs.Answers.{gives-inj, then-gives, gives_then, refuses-then, refuse-yes, refuse-no}
use Rattle.ecss.proofs.After.{octet-six}
use Rattle.tc_header.specs.Header.{tc_of}
use Rattle.tc_read.specs.Read.{record_in}
use Rattle.tc_read.specs.declared.PusTcRecord.{PusTcRecord}
use Rattle.tc_strict.specs.Verdict.{strict_in, strict_of}
use Rattle.tracker.specs.Reports.{asked_of, Report}
use Rattle.tracker.specs.Refusals.{among, report_check}

-- the acknowledgement bits that the verdict reports are the command's
pub strict-asked : (s : List ℕ) (r : PusTcRecord) → strict_of s ≡ gives r → r.sec_header.ack_flags.0 ≡ asked_of s
unfolding strict_in record_in tc_of
strict-asked s r p =
    let q = then-gives _ _ r (then-gives _ _ r p).2 in
    sym (ap (λ (x : PusTcRecord). x.sec_header.ack_flags.0) (gives-inj _ _ q.2)) ∙ ap (λ (o : ℕ). o % 16) (octet-six 5 s (omega arith))

-- what the check uses for a sending
pub ruleset sent = (strict-asked)

-- ---- a report

pub check-refused : (ids : List ℕ) (a : Answer Report) (n : Numbers) → a ≡ refuses n → report_check ids a ≡ refuses n
unfolding report_check
check-refused ids a n e = refuses-then _ _ n e

pub check-closed : (ids : List ℕ) (a : Answer Report) (r : Report) → a ≡ gives r → among r.request ids ≡ false → report_check ids a ≡ refuses (refusal 16 [])
unfolding report_check
check-closed ids a r e k = gives_then _ _ r e ∙ refuse-yes _ _ _ (ap not k)

pub check-open : (ids : List ℕ) (a : Answer Report) (r : Report) → a ≡ gives r → among r.request ids ≡ true → report_check ids a ≡ gives tt
unfolding report_check
check-open ids a r e k = gives_then _ _ r e ∙ refuse-no _ _ _ (ap not k)
