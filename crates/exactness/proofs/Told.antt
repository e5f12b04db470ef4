-- Where the verdict refuses with 4, it tells both checksums of the packet, and they differ: for every kind.
use Prim.Native.Nat.{ℕ}
use mathlib.Core.Path.{◌≡◌}
use mathlib.Core.List.{List}
use native.Mathlib.Omega.{arith}
use Rattle.space_packet.specs.Answer.{Numbers, refuses}
use Rattle.space_packet.specs.Header.{read_header}
use Rattle.space_packet.proofs.Answers.{Holds, holds_then, holds-refused, held}
use Rattle.ecss.specs.Frame.{Octets, checked_of, Told}
use Rattle.ecss.specs.Kind.{Kind, KindLaws, Packet, start_of, secondary_of, strict_rule, ruled, judge}
use Rattle.ecss.proofs.Checksums.{checked-told}
use Rattle.ecss.proofs.Rules.{strict-holds}

module _ {H : Type 0} (k : Kind H) (l : KindLaws k) (s : List ℕ) (o : Octets s) where
  -- the strict checks do not refuse with 4
  ruled-told : (n : ℕ) → Holds (λ (p : Packet H). Unit {0}) (Told s) (ruled k s n)
  ruled-told n =
      let second = secondary_of k.size s in
      holds_then _ _ (strict_rule k (read_header s) second) _
      (strict-holds k (read_header s) second (Told s)
      (λ z. absurd (omega (arith, z))) (λ z. absurd (l.other-not-four z)) (λ z. absurd (omega (arith, z))) (λ z. absurd (omega (arith, z))) (λ z. absurd (omega (arith, z)))
      (holds-refused (Told s) (k.rule second) (λ e p z. absurd (l.rule-not-four second e p z))))
      (λ _ _. tt)

  pub told : (e : Numbers) → judge k s ≡ refuses e → Told s e
  unfolding judge
  told e p =
      held (λ (q : Packet H). Unit {0}) (Told s) (judge k s) e
      (holds_then _ _ (checked_of (start_of k) s) (ruled k s) (checked-told (start_of k) s o) (λ n _. ruled-told n)) p
