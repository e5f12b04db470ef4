-- `PusTmSecondaryHeader::write_to_slice` meets its contract: what passes the check is what both stores ask for.
use Prim.Native.Nat.{ℕ, ◌+◌}
use mathlib.Core.Path.{refl, sym, ap, ◌∙◌}
use mathlib.Core.List.{◌++◌}
use native.Mathlib.Omega.{arith}
use lib.ListN.{drop}
use Rattle.space_packet.specs.Answer.{gives}
use Rattle.space_packet.proofs.Answers.{gives_then, left-written}
use Rattle.ecss_write.proofs.Over.{over-more}
use Rattle.tm_header.specs.Header.{field_octets, tm_octets, sec_write}
use Rattle.tm_header.proofs.Checks.{asked-put}
use Rattle.tm_header.proofs.PusTmSecondaryHeader.write_to_slice.Goals as goal

pub put-requires : goal.put-requires
put-requires c =
    let q = asked-put _ _ _ (sym c.in_ok-check.ensures) in (q.0, omega (arith, q.1.1))

pub put_time-requires : goal.put_time-requires
put_time-requires c =
    let q = asked-put _ _ _ (sym c.in_ok-check.ensures) in omega (arith, q.1.0, q.1.1)

pub returns : goal.returns
unfolding sec_write tm_octets
returns c =
    let a = c.args in
    let e = sym c.in_ok-check.ensures in
    let q = asked-put _ _ _ e in
    let w = gives_then _ _ _ e in
    record {
      answered = ap gives c.sec_header_len.ensures ∙ sym w;
      left =
          c.put_time.ensures
          ∙ over-more (field_octets a.self) a.time.now a.buf.now _ 7 refl c.put.ensures
          ∙ ap (λ (n : ℕ). field_octets a.self ++ a.time.now ++ drop (7 + n) a.buf.now) q.1.0
          ∙ sym (left-written _ _ _ _ w);
    }
