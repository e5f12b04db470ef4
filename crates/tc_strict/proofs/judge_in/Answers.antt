-- `tc_strict::judge_in` meets its contract: the reader's answer, then the strict checks on what it reported.
use mathlib.Core.Path.{sym, ◌∙◌}
use Rattle.std.proofs.Common.{rules}
use Rattle.space_packet.proofs.Answers.{gives_then, refuses-then}
use Rattle.tc_strict.proofs.Verdicts.{verdict-refused, verdict-ruled}
use Rattle.tc_strict.proofs.judge_in.Goals as goal

pub returns-in_err-record : goal.returns-in_err-record
returns-in_err-record c =
    let e = verdict-refused _ _ _ (sym c.in_err-record.ensures) in search rules

pub returns-in_err-strict_rule : goal.returns-in_err-strict_rule
returns-in_err-strict_rule c =
    let e = verdict-ruled _ _ _ _ c.sec_header_part.ensures.result_value (sym c.in_ok-record.ensures) ∙ refuses-then _ _ _ (sym c.in_err-strict_rule.ensures) in search rules

pub returns : goal.returns
returns c =
    sym (verdict-ruled _ _ _ _ c.sec_header_part.ensures.result_value (sym c.in_ok-record.ensures) ∙ gives_then _ _ _ (sym c.in_ok-strict_rule.ensures))
