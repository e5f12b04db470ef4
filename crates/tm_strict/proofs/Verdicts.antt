-- The verdict by the reader's answer and the strict checks on it.
use Prim.Native.Nat.{ℕ}
use mathlib.Core.Path.{◌≡◌, refl, sym, ap, ◌∙◌}
use mathlib.Core.Bool.{true}
use mathlib.Core.List.{List, []}
use native.Mathlib.Omega.{arith}
use lib.ListN.{get_or}
use Rattle.space_packet.specs.Answer.{Answer, Passed, Numbers, gives, refuses, refusal, ◌then◌, and_then}
use Rattle.space_packet.specs.Header.{read_header}
use Rattle.space_packet.specs.declared.SpacePacketHeader.{SpacePacketHeader}
use Rattle.space_packet.specs.declared.PacketType.TheVariants.{Tm}
use Rattle.space_packet.proofs.Answers.{then_same}
use Rattle.ecss.specs.Kind.{Packet, pus_rule, secondary_of, strict_rule, judge}
use Rattle.ecss.proofs.After as After
use Rattle.tm_header.specs.Header.{TmHeader, time_limit, tm}
use Rattle.tm_read.specs.Read.{record_in, checked_in}
use Rattle.tm_read.specs.declared.PusTmRecord.{PusTmRecord}
use Rattle.tm_read.proofs.Records.{checked-is, checked_refused}
use Rattle.tm_strict.specs.Verdict.{strict_in}

module _ (t : ℕ) (s : List ℕ) where
  -- by the two answers, and not by how the definition groups them
  by-answers : (a : Passed) (j : Answer (Packet TmHeader)) → time_limit t ≡ a → judge (tm t) s ≡ j
      → strict_in t s ≡ After.verdict_after (time_limit t) (tm t) s (record_in t s true)
  unfolding strict_in and_then
  by-answers (refuses e) j p q = rw p refl
  by-answers (gives u) (refuses e) p q = rw (p, q) refl
  by-answers (gives u) (gives x) p q = rw (p, q) refl

  -- telemetry asks nothing besides what every kind shares
  rule-is : (h : SpacePacketHeader) → strict_rule (tm t) h (secondary_of (tm t).size s) ≡ pus_rule Tm (refusal 13 []) 2 h (get_or s 6 0)
  unfolding strict_rule
  rule-is h = then_same _ ∙ ap (pus_rule Tm (refusal 13 []) 2 h) (After.octet-six (tm t).size s (omega arith))

  -- where the reader refuses, the verdict is its refusal
  pub verdict-refused : (e : Numbers) → checked_in t s ≡ refuses e → strict_in t s ≡ refuses e
  verdict-refused e p = by-answers _ _ refl refl ∙ After.verdict-refused (time_limit t) (tm t) s (record_in t s true) e (checked_refused t s e p)

  -- and where it reports a record, the strict checks' on it
  verdict-ruled : (r : PusTmRecord) → checked_in t s ≡ gives r → strict_in t s ≡ (pus_rule Tm (refusal 13 []) 2 r.sp_header (get_or s 6 0) then λ _. gives r)
  unfolding record_in
  verdict-ruled r p =
      let q = checked-is t s r p in
      let h : read_header s ≡ r.sp_header = sym (ap (λ (x : PusTmRecord). x.sp_header) q.1) in
      by-answers _ _ refl refl ∙ After.verdict-ruled (time_limit t) (tm t) s (record_in t s true) r.total q.0
      ∙ ap (λ (c : Passed). c then λ _. gives (record_in t s true r.total)) (rule-is (read_header s))
      ∙ (λ j. pus_rule Tm (refusal 13 []) 2 (h j) (get_or s 6 0) then λ _. gives (sym q.1 j))

  by-read : (a : Answer PusTmRecord) → checked_in t s ≡ a → strict_in t s ≡ (a then λ r. pus_rule Tm (refusal 13 []) 2 r.sp_header (get_or s 6 0) then λ _. gives r)
  unfolding and_then
  by-read (refuses e) p = verdict-refused e p
  by-read (gives r) p = verdict-ruled r p

  -- so the verdict is the reader's answer, and then the strict checks on what it reported
  pub verdict_is : strict_in t s ≡ (checked_in t s then λ r. pus_rule Tm (refusal 13 []) 2 r.sp_header (get_or s 6 0) then λ _. gives r)
  verdict_is = by-read (checked_in t s) refl
