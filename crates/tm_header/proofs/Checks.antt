-- What the checks ask: a check passes where this holds, and only there.
use Prim.Native.Nat.{ℕ, ◌≤◌}
use mathlib.Core.Path.{◌≡◌, refl, sym, ap, ◌∙◌}
use mathlib.Core.Logic.{◌↔◌}
use mathlib.Core.Bool.{not}
use mathlib.Core.List.{[]}
use native.Mathlib.Omega.{arith}
use lib.ListN.{length}
use borrow.Author.Tests.{eqb-true, eq-eqb, not-false, lt-ltb, le-ltb, ltb-false}
use Rattle.space_packet.specs.Answer.{Answer, Numbers, Passed, gives, refuses, refusal, in_buffer, and_then}
use Rattle.space_packet.proofs.Answers.{never, refuse-yes, refuse-no, refuse-gives, range-passes, then-gives, gives_then}
use Rattle.tm_header.specs.Header.{TmHeader, time_limit, time_check, tm, asked_time, asked_fields, asked_version, sec_checks}

-- ---- the time

pub limit-passes : (t : ℕ) → (time_limit t ≡ gives tt) ↔ (t ≤ 16)
unfolding time_limit
limit-passes t = (λ p. ltb-false 16 t (refuse-gives _ _ _ _ p).0, λ h. refuse-no _ _ _ (le-ltb 16 t h))

pub limit-refused : (t : ℕ) → (t ≤ 16 → ⊥) → time_limit t ≡ refuses (refusal 14 [])
unfolding time_limit
limit-refused t h = refuse-yes _ _ _ (lt-ltb 16 t (omega (arith, h)))

-- a time of n octets, where the mission has t
pub time-passes : (t n : ℕ) → (time_check t n ≡ gives tt) ↔ ((t ≤ 16) × (n ≡ t))
unfolding time_check
time-passes t n = (
  λ p.
      let q = then-gives (time_limit t) _ tt p in
      ((limit-passes t).0 q.1, eqb-true n t (not-false _ (refuse-gives _ _ _ _ q.2).0)),
  λ h. gives_then _ _ tt ((limit-passes t).1 h.0) ∙ refuse-no _ _ _ (ap not (eq-eqb n t h.1)),
)

-- ---- what a write asks, by the answers of its checks and not by how the definition groups them

module _ (t : ℕ) (x : TmHeader) (n : ℕ) where
  pub checks-time : (e : Numbers) → asked_time t x ≡ refuses e → sec_checks t x n ≡ refuses e
  unfolding sec_checks and_then
  checks-time e p = rw p refl

  pub checks-fields : (e : Numbers) → asked_time t x ≡ gives tt → asked_fields x ≡ refuses e → sec_checks t x n ≡ refuses e
  unfolding sec_checks and_then
  checks-fields e p q = rw (p, q) refl

  pub checks-no-room : (e : Numbers) → asked_time t x ≡ gives tt → asked_fields x ≡ gives tt → in_buffer n (tm t).size ≡ refuses e → sec_checks t x n ≡ refuses e
  unfolding sec_checks and_then
  checks-no-room e p q r = rw (p, q, r) refl

  pub checks-version : (m : ℕ) → asked_time t x ≡ gives tt → asked_fields x ≡ gives tt → in_buffer n (tm t).size ≡ gives m → sec_checks t x n ≡ asked_version x
  unfolding sec_checks and_then
  checks-version m p q r = rw (p, q, r) refl

  by-answers : (a b : Passed) (c : Answer ℕ) → asked_time t x ≡ a → asked_fields x ≡ b → in_buffer n (tm t).size ≡ c → sec_checks t x n ≡ gives tt
      → (asked_time t x ≡ gives tt) × ((asked_fields x ≡ gives tt) × ((m : ℕ) × (in_buffer n (tm t).size ≡ gives m)))
  by-answers (refuses e) b c p q r h = absurd (never tt e (sym (checks-time e p) ∙ h))
  by-answers (gives u) (refuses e) c p q r h = absurd (never tt e (sym (checks-fields e p q) ∙ h))
  by-answers (gives u) (gives v) (refuses e) p q r h = absurd (never tt e (sym (checks-no-room e p q r) ∙ h))
  by-answers (gives u) (gives v) (gives m) p q r h = (p, (q, (m, r)))

  -- what passed: a status of four bits, a time of the mission's length, and room
  pub asked-put : sec_checks t x n ≡ gives tt → (x.fields.sc_time_ref_status ≤ 15) × ((length x.time ≡ t) × ((tm t).size ≤ n))
  asked-put h =
      let a = by-answers _ _ _ refl refl refl h in
      ((range-passes 4 15 _).0 a.1.0, (((time-passes t _).0 a.0).1, ltb-false _ _ (refuse-gives _ _ _ _ a.1.1.1).0))
