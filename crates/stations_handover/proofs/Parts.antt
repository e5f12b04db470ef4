-- The part that is handed back: it is accepted and reports what its capture reports, and it is empty exactly where neither passes.
use Prim.Native.Nat.{ℕ, ◌≤◌}
use mathlib.Core.Path.{◌≡◌, refl, sym, ap, ◌∙◌}
use mathlib.Core.Logic.{◌↔◌}
use mathlib.Core.List.{List, [], ◌∷◌, append-nil}
use native.Mathlib.Omega.{arith}
use lib.ListN.{length}
use lib.Seq.{length-take-le}
use Rattle.space_packet.specs.Answer.{Answer, gives, refuses}
use Rattle.space_packet.proofs.Answers.{then-gives}
use Rattle.ecss.specs.Frame.{Octets, stated_of}
use Rattle.ecss.specs.Kind.{BeginsWith, judge}
use Rattle.exactness.proofs.Exact.{rewritten, sound}
use Rattle.tm_header.specs.Header.{time_limit, tm}
use Rattle.tm_header.proofs.Laws.{tm-laws}
use Rattle.tm_read.specs.declared.PusTmRecord.{PusTmRecord}
use Rattle.tm_strict.specs.Verdict.{strict_in}
use Rattle.tm_demand3.proofs.Demand3.{reports}
use Rattle.stations.specs.Best.{packet_in, best_in}
use Rattle.stations.proofs.Choices.{passed-frame}
use Rattle.stations_handover.specs.Handover.{Passes, Refused, Judged}
use Rattle.stations_handover.proofs.Apart.{first-is, second_is, neither-is}

pub none-of-length : (l : List ℕ) → length l ≡ 0 → l ≡ []
none-of-length [] e = refl
none-of-length (x ∷ l) e = absurd (omega (arith, e))

module _ (t : ℕ) where
  -- what does not pass is refused
  not-passed : (s : List ℕ) (v : Answer PusTmRecord) → strict_in t s ≡ v → (Passes t s → ⊥) → Refused t s
  not-passed s (gives r) e h = absurd (h (r, e))
  not-passed s (refuses n) e h = (n, e)

  -- a capture that passes begins with its packet, and that alone is judged as the capture is
  packet-judged : (s : List ℕ) → Octets s → Passes t s → strict_in t (packet_in s) ≡ strict_in t s
  unfolding strict_in
  packet-judged s o p =
      let q = then-gives (time_limit t) _ p.0 p.1 in
      let j = then-gives (judge (tm t) s) _ p.0 q.2 in
      let b = sound (tm t) (tm-laws t) s j.0 o j.1 in
      let e = rewritten (tm t) (tm-laws t) s j.0 o j.1 in
      let alone : BeginsWith (tm t) (packet_in s) j.0 = record { rules = b.rules; rest = []; octets = e ∙ sym (append-nil _) } in
      reports t q.1 (packet_in s) j.0 alone ∙ sym (reports t q.1 s j.0 b)

  -- it has the octets that it states, which are more than none
  packet-not-empty : (s : List ℕ) → Passes t s → packet_in s ≡ [] → ⊥
  packet-not-empty s p e =
      let f = (passed-frame t s p.0 p.1).1.1 in
      let h : stated_of s ≤ length s = omega (arith, f.is, f.fits) in
      omega (arith, sym (length-take-le (stated_of s) s h) ∙ ap length e)

  none-refused : Refused t []
  none-refused = not-passed [] _ refl (λ p. packet-not-empty [] p refl)

module _ (t : ℕ) (a b : List ℕ) where
  -- The part, if not empty, is itself strictly accepted and reports what its capture reports.
  pub part-judged : Octets a → Octets b → Judged t a b (strict_in t (best_in t a b))
  part-judged o k = record {
    first = λ p. ap (strict_in t) (first-is t a b p).part ∙ packet-judged t a o p;
    second = λ n p. ap (strict_in t) (second_is t a b n p).part ∙ packet-judged t b k p;
    neither = λ m n. ((none-refused t).0, ap (strict_in t) (neither-is t a b m n).part ∙ (none-refused t).1);
  }

  -- It is empty exactly where neither passes.
  pub part-empty : (best_in t a b ≡ []) ↔ (Refused t a × Refused t b)
  part-empty = (
    λ e.
        let m = not-passed t a _ refl (λ p. packet-not-empty t a p (sym (first-is t a b p).part ∙ e)) in
        (m, not-passed t b _ refl (λ p. packet-not-empty t b p (sym (second_is t a b m p).part ∙ e))),
    λ n. (neither-is t a b n.0 n.1).part,
  )
