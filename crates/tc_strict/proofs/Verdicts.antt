-- The verdict by the reader's answer and the strict checks on it.
use Prim.Native.Nat.{ℕ}
use mathlib.Core.Path.{◌≡◌, refl, sym, ap, ◌∙◌}
use mathlib.Core.Bool.{true}
use mathlib.Core.List.{List}
use Rattle.space_packet.specs.Answer.{Answer, Passed, Numbers, gives, refuses, ◌then◌, and_then}
use Rattle.space_packet.specs.Header.{read_header}
use Rattle.ecss.specs.Frame.{stated_of, checked_of}
use Rattle.ecss.specs.Kind.{Packet, start_of, secondary_of, strict_rule, judge}
use Rattle.space_packet.proofs.Answers.{gives_then, then-gives}
use Rattle.ecss.proofs.After as After
use Rattle.tc_header.specs.Form.{form_c, form_check}
use Rattle.tc_header.specs.Header.{tc, pus_c}
use Rattle.tc_header.specs.declared.PusTcSecondaryHeader.{PusTcSecondaryHeader}
use Rattle.tc_header.specs.declared.TcForm.{TcForm}
use Rattle.tc_header.proofs.Forms.{taken-c}
use Rattle.tc_read.specs.Read.{record_in, checked_in}
use Rattle.tc_read.specs.declared.PusTcRecord.{PusTcRecord}
use Rattle.tc_read.proofs.Records.{checked-is, checked_refused}
use Rattle.tc_strict.specs.Verdict.{strict_in, strict_of}

module _ (f : TcForm) (s : List ℕ) where
  -- what is judged to be a packet has passed the strict checks
  passed : (x : Packet PusTcSecondaryHeader) → judge (tc f) s ≡ gives x → strict_rule (tc f) (read_header s) (secondary_of (tc f).size s) ≡ gives tt
  unfolding judge
  passed x q =
      let strict = strict_rule (tc f) (read_header s) (secondary_of (tc f).size s) in
      (then-gives strict _ x (then-gives (checked_of (start_of (tc f)) s) _ x q).2).1

  -- by the two answers, and not by how the definition groups them
  by-answers : (a : Passed) (j : Answer (Packet PusTcSecondaryHeader)) → form_check f ≡ a → judge (tc f) s ≡ j
      → strict_in f s ≡ After.verdict_after (form_check f) (tc f) s (record_in f s true)
  unfolding strict_in and_then
  by-answers (refuses e) j p q = rw p refl
  by-answers (gives u) (refuses e) p q = rw (p, q) refl
  by-answers (gives u) (gives x) p q = simp (p, q, passed x q)

  -- where the reader refuses, the verdict is its refusal
  pub verdict-refused : (e : Numbers) → checked_in f s ≡ refuses e → strict_in f s ≡ refuses e
  verdict-refused e p = by-answers _ _ refl refl ∙ After.verdict-refused (form_check f) (tc f) s (record_in f s true) e (checked_refused f s e p)

  -- and where it reports a record, the strict checks'
  pub verdict-ruled : (r : PusTcRecord) (l : List ℕ) → l ≡ secondary_of (tc f).size s → checked_in f s ≡ gives r
      → strict_in f s ≡ (strict_rule (tc f) r.sp_header l then λ _. gives r)
  unfolding record_in
  verdict-ruled r l i p =
      let q = checked-is f s r p in
      let h : read_header s ≡ r.sp_header = sym (ap (λ (x : PusTcRecord). x.sp_header) q.1) in
      by-answers _ _ refl refl ∙ After.verdict-ruled (form_check f) (tc f) s (record_in f s true) r.total q.0
      ∙ (λ j. strict_rule (tc f) (h j) (sym i j) then λ _. gives (sym q.1 j))

-- PUS C, written out: its form is taken
pub strict-c : (s : List ℕ) → strict_of s ≡ (judge pus_c s then λ _. gives (record_in form_c s true (stated_of s)))
strict-c s = by-answers form_c s _ _ refl refl ∙ gives_then _ _ tt taken-c
