-- What the checks ask: a check passes where this holds, and only there.
use Prim.Native.Nat.{ℕ, ◌≤◌}
use mathlib.Core.Path.{◌≡◌, refl, sym, ◌∙◌}
use mathlib.Core.Logic.{◌↔◌}
use mathlib.Core.List.{List, [], ◌∷◌}
use lib.Dec.{ltb}
use lib.ListN.{length}
use borrow.Author.Tests.{ltb-false}
use Rattle.space_packet.specs.Answer.{Answer, Numbers, Passed, gives, refuses, refusal, refuse_if, ◌then◌, in_buffer, and_then}
use Rattle.space_packet.proofs.Answers.{never, refuse-gives, range-passes, then-gives, gives_then, then_same}
use Rattle.tc_header.specs.Form.{form_c, form_check, source_len, SourceFits}
use Rattle.tc_header.specs.Header.{ack_check, version_in, version_check, fields_check, widths_check, sec_checks, sec_write_in, sec_write, sec_read_in, sec_read, sec_of, tc}
use Rattle.tc_header.specs.declared.AckFlags.{AckFlags}
use Rattle.tc_header.specs.declared.PusTcSecondaryHeader.{PusTcSecondaryHeader}
use Rattle.tc_header.specs.declared.TcForm.{TcForm}
use Rattle.tc_header.proofs.Forms.{taken, taken-c, source-passes}

pub ack-passes : (a : AckFlags) → (ack_check a ≡ gives tt) ↔ (a.0 ≤ 15)
ack-passes a = range-passes 4 15 a.0

-- the fields pass where they are within their widths, and only there
pub fields-pass : (f : TcForm) (x : PusTcSecondaryHeader) → (fields_check f x ≡ gives tt) ↔ ((x.ack_flags.0 ≤ 15) × SourceFits (source_len f) x.source_id)
fields-pass f x =
    let s = source-passes (source_len f) x.source_id in (
      λ p. let q = then-gives (ack_check x.ack_flags) _ tt p in ((ack-passes x.ack_flags).0 q.1, s.0 q.2),
      λ h. gives_then _ _ tt ((ack-passes x.ack_flags).1 h.0) ∙ s.1 h.1,
    )

-- ---- what a write asks, by the answers of its checks and not by how the definition groups them

module _ (f : TcForm) (x : PusTcSecondaryHeader) (n : ℕ) where
  pub checks-refused : (e : Numbers) → widths_check f x ≡ refuses e → sec_checks f x n ≡ refuses e
  unfolding sec_checks and_then
  checks-refused e p = rw p refl

  pub checks-no-room : (e : Numbers) → widths_check f x ≡ gives tt → in_buffer n (tc f).size ≡ refuses e → sec_checks f x n ≡ refuses e
  unfolding sec_checks and_then
  checks-no-room e p q = rw (p, q) refl

  pub checks-version : (m : ℕ) → widths_check f x ≡ gives tt → in_buffer n (tc f).size ≡ gives m → sec_checks f x n ≡ version_in f x.version
  unfolding sec_checks and_then
  checks-version m p q = rw (p, q) refl

  by-answers : (a : Passed) (b : Answer ℕ) → widths_check f x ≡ a → in_buffer n (tc f).size ≡ b → sec_checks f x n ≡ gives tt
      → (widths_check f x ≡ gives tt) × ((m : ℕ) × (in_buffer n (tc f).size ≡ gives m))
  by-answers (refuses e) b p q h = absurd (never tt e (sym (checks-refused e p) ∙ h))
  by-answers (gives u) (refuses e) p q h = absurd (never tt e (sym (checks-no-room e p q) ∙ h))
  by-answers (gives u) (gives m) p q h = (p, (m, q))

  -- what passed: flags of four bits, at most two octets of source ID, and room
  pub asked-put : sec_checks f x n ≡ gives tt → (x.ack_flags.0 ≤ 15) × ((source_len f ≤ 2) × ((tc f).size ≤ n))
  asked-put h =
      let a = by-answers _ _ refl refl h in
      let b = then-gives (form_check f) _ tt a.0 in
      (((fields-pass f x).0 b.2).0, ((taken f b.1).at_most_two, ltb-false _ _ (refuse-gives _ _ _ _ a.1.1).0))

-- ---- PUS C, written out

pub fields-c : (x : PusTcSecondaryHeader) → fields_check form_c x ≡ ack_check x.ack_flags
fields-c x = then_same (ack_check x.ack_flags)

widths-c : (x : PusTcSecondaryHeader) → widths_check form_c x ≡ ack_check x.ack_flags
widths-c x = gives_then _ _ tt taken-c ∙ fields-c x

-- what a write of PUS C asks and answers, shown by the answers, as above
abbrev pub WriteC : PusTcSecondaryHeader → ℕ → Type 0
WriteC x n = sec_write x n ≡ ((ack_check x.ack_flags then λ _. in_buffer n 5 then λ _. version_check x.version) then λ _. gives 5)

write-by-answers : (x : PusTcSecondaryHeader) (n : ℕ) (a : Passed) (b : Answer ℕ) → ack_check x.ack_flags ≡ a → in_buffer n 5 ≡ b → WriteC x n
unfolding sec_write_in and_then
write-by-answers x n (refuses e) b p q = rw (p, checks-refused form_c x n e (widths-c x ∙ p)) refl
write-by-answers x n (gives u) (refuses e) p q = rw (p, q, checks-no-room form_c x n e (widths-c x ∙ p) q) refl
write-by-answers x n (gives u) (gives m) p q = rw (p, q, checks-version form_c x n m (widths-c x ∙ p) q) refl

pub write-c : (x : PusTcSecondaryHeader) (n : ℕ) → WriteC x n
write-c x n = write-by-answers x n _ _ refl refl

pub read-c : (s : List ℕ) → sec_read s ≡ refuse_if (ltb (length s) 5) (refusal 2 (length s ∷ 5 ∷ [])) (gives (sec_of s))
unfolding sec_read_in
read-c s = gives_then _ _ tt taken-c
