-- The answer and its part by the two verdicts; and the capture that is not taken changes nothing in them.
use Prim.Native.Nat.{ℕ, ◌<◌}
use mathlib.Core.Path.{◌≡◌, sym, ap, ap₂, ◌∙◌}
use mathlib.Core.List.{List, []}
use native.Mathlib.Omega.{arith}
use Rattle.space_packet.specs.Answer.{refuses, refusal}
use Rattle.space_packet.proofs.Answers.{refuses-then}
use Rattle.tm_header.proofs.Checks.{limit-refused}
use Rattle.tm_strict.specs.Verdict.{strict_in}
use Rattle.stations.specs.Best.{Choice, first, second, neither, choose, chosen, part_of, best_in}
use Rattle.stations_handover.specs.Handover.{Passes, Refused, Same}

module _ (t : ℕ) where
  -- the answer c, and its part
  pub record Is (a b : List ℕ) (c : Choice) : Type 0 where
    pub answer : chosen t a b ≡ c
    pub part : best_in t a b ≡ part_of c a b

  is : (a b : List ℕ) (c : Choice) → choose (strict_in t a) (strict_in t b) ≡ c → Is a b c
  unfolding chosen
  is a b c e = record { answer = e; part = ap (λ (x : Choice). part_of x a b) e }

  pub first-is : (a b : List ℕ) → Passes t a → Is a b first
  first-is a b p = is a b first (ap (λ v. choose v (strict_in t b)) p.1)

  pub second_is : (a b : List ℕ) → Refused t a → Passes t b → Is a b second
  second_is a b n p = is a b second (ap₂ choose n.1 p.1)

  pub neither-is : (a b : List ℕ) (m : Refused t a) (n : Refused t b) → Is a b (neither m.0 n.0)
  neither-is a b m n = is a b (neither m.0 n.0) (ap₂ choose m.1 n.1)

  -- If the first capture passes, the second changes nothing in part or answer.
  pub second-apart : (a b c : List ℕ) → Passes t a → Same t a b a c
  second-apart a b c p =
      let x = first-is a b p in
      let y = first-is a c p in record { answer = x.answer ∙ sym y.answer; part = x.part ∙ sym y.part }

  -- If the second passes alone, the first changes nothing as long as it is refused, whatever its refusal.
  pub first-apart : (a b c : List ℕ) → Refused t a → Refused t c → Passes t b → Same t a b c b
  first-apart a b c m n p =
      let x = second_is a b m p in
      let y = second_is c b n p in record { answer = x.answer ∙ sym y.answer; part = x.part ∙ sym y.part }

  long-refused : 16 < t → (s : List ℕ) → strict_in t s ≡ refuses (refusal 14 [])
  unfolding strict_in
  long-refused h s = refuses-then _ _ _ (limit-refused t (λ k. omega (arith, h, k)))

  -- With a time of more than 16 octets it is neither, with 14 and 14.
  pub long-time : 16 < t → (a b : List ℕ) → (chosen t a b ≡ neither (refusal 14 []) (refusal 14 [])) × (best_in t a b ≡ [])
  long-time h a b =
      let n = neither-is a b (refusal 14 [], long-refused h a) (refusal 14 [], long-refused h b) in (n.answer, n.part)

-- what the check uses for the two calls
pub ruleset apart = (second-apart, first-apart)
