-- What it says that the strict checks pass, and when they do: for every kind.
use Prim.Native.Nat.{ℕ, ◌/◌}
use mathlib.Core.Path.{◌≡◌, refl, sym, ap, subst, ◌∙◌}
use mathlib.Core.Bool.{Bool, true, false, not}
use mathlib.Core.List.{List, [], ◌∷◌}
use native.Mathlib.Omega.{arith}
use lib.ListN.{get_or}
use lib.Dec.{eqb}
use borrow.Author.Tests.{eq-eqb, eqb-true, not-false}
use Rattle.space_packet.specs.Answer.{Numbers, Passed, gives, refuses, refusal, refuse_if}
use Rattle.space_packet.specs.Fields.{type_number, is_idle}
use Rattle.space_packet.specs.declared.SpacePacketHeader.{SpacePacketHeader}
use Rattle.space_packet.specs.declared.PacketType.{PacketType}
use Rattle.space_packet.specs.declared.PacketType.TheVariants.{Tm, Tc}
use Rattle.space_packet.proofs.Answers.{refuse-no, refuse-yes, refuse-gives, then-gives, gives_then, refuses-then, Holds, holds-if, holds_then}
use Rattle.ecss.specs.Kind.{Kind, Primary, idle_header, pus_rule, strict_rule}

type-inj : (t u : PacketType) → type_number t ≡ type_number u → t ≡ u
type-inj Tm Tm e = refl
type-inj Tc Tc e = refl
type-inj Tm Tc e = absurd (omega (arith, e))
type-inj Tc Tm e = absurd (omega (arith, e))

module _ (type : PacketType) (other : Numbers) (version : ℕ) (h : SpacePacketHeader) (octet : ℕ) where
  abbrev told : Bool → Bool → Bool → Bool → Bool → Passed
  told zero typed flagged versioned idle =
      refuse_if (not zero) (refusal 9 (h.version ∷ []))
      (refuse_if (not typed) other
      (refuse_if (not flagged) (refusal 11 [])
      (refuse_if (not versioned) (refusal 3 (octet / 16 ∷ []))
      (refuse_if idle (refusal 12 []) (gives tt)))))

  -- by the tests' answers, and not by how the definition groups them
  by_tests : (a b c d e : Bool) → eqb h.version 0 ≡ a → eqb (type_number h.packet_id.packet_type) (type_number type) ≡ b
      → h.packet_id.sec_header_flag ≡ c → eqb (octet / 16) version ≡ d → is_idle h.packet_id.apid ≡ e
      → pus_rule type other version h octet ≡ told a b c d e
  unfolding pus_rule refuse_if
  by_tests false b c d e p q r s t = rw p refl
  by_tests true false c d e p q r s t = rw (p, q) refl
  by_tests true true false d e p q r s t = rw (p, q, r) refl
  by_tests true true true false e p q r s t = rw (p, q, r, s) refl
  by_tests true true true true e p q r s t = rw (p, q, r, s, t) refl

  rule-primary : pus_rule type other version h octet ≡ gives tt → Primary type h × (octet / 16 ≡ version)
  rule-primary p =
      let a = refuse-gives _ _ _ tt (sym (by_tests _ _ _ _ _ refl refl refl refl refl) ∙ p) in
      let b = refuse-gives _ _ _ tt a.1 in
      let c = refuse-gives _ _ _ tt b.1 in
      let d = refuse-gives _ _ _ tt c.1 in
      let e = refuse-gives _ _ _ tt d.1 in (
        record {
          version-zero = eqb-true _ 0 (not-false _ a.0);
          type-is = type-inj _ type (eqb-true _ _ (not-false _ b.0));
          has-secondary = not-false _ c.0;
          not-idle = e.0;
        },
        eqb-true _ version (not-false _ d.0),
      )

  -- the APID is asked for last of what every kind shares
  apid-last : h.version ≡ 0 → h.packet_id.packet_type ≡ type → h.packet_id.sec_header_flag ≡ true → octet / 16 ≡ version
      → pus_rule type other version h octet ≡ refuse_if (is_idle h.packet_id.apid) (refusal 12 []) (gives tt)
  unfolding refuse_if
  apid-last v t f e = by_tests true true true true _ (eq-eqb h.version 0 v) (eq-eqb _ _ (ap type_number t)) f (eq-eqb (octet / 16) version e) refl

  primary-rule : Primary type h → octet / 16 ≡ version → pus_rule type other version h octet ≡ gives tt
  primary-rule k e = apid-last k.version-zero k.type-is k.has-secondary e ∙ refuse-no _ _ _ k.not-idle

  -- what holds of each refusal of theirs
  rule-holds : (Q : Numbers → Type 0) → Q (refusal 9 (h.version ∷ [])) → Q other → Q (refusal 11 []) → Q (refusal 3 (octet / 16 ∷ [])) → Q (refusal 12 [])
      → Holds (λ (u : Unit {0}). Unit {0}) Q (pus_rule type other version h octet)
  rule-holds Q a b c d e =
      subst (λ x. Holds (λ (u : Unit {0}). Unit {0}) Q x) (sym (by_tests _ _ _ _ _ refl refl refl refl refl))
      (holds-if _ _ _ _ _ (λ _. a)
      (λ _. holds-if _ _ _ _ _ (λ _. b)
      (λ _. holds-if _ _ _ _ _ (λ _. c) (λ _. holds-if _ _ _ _ _ (λ _. d) (λ _. holds-if _ _ _ _ _ (λ _. e) (λ _. tt))))))

module _ {H : Type 0} (k : Kind H) (h : SpacePacketHeader) (l : List ℕ) where
  pub strict-passes : Primary k.type h → get_or l 0 0 / 16 ≡ k.version → k.rule l ≡ gives tt → strict_rule k h l ≡ gives tt
  unfolding strict_rule
  strict-passes p v r = gives_then _ _ tt (primary-rule k.type k.other k.version h (get_or l 0 0) p v) ∙ r

  -- a header that they pass is refused with 12, and with nothing else, once it has the APID of idle packets
  pub strict-idle : Primary k.type h → get_or l 0 0 / 16 ≡ k.version → strict_rule k (idle_header h) l ≡ refuses (refusal 12 [])
  unfolding strict_rule
  strict-idle p v =
      refuses-then _ _ _
      (apid-last k.type k.other k.version (idle_header h) (get_or l 0 0) p.version-zero p.type-is p.has-secondary v ∙ refuse-yes _ _ _ refl)

  pub strict-says : strict_rule k h l ≡ gives tt → Primary k.type h × (get_or l 0 0 / 16 ≡ k.version) × (k.rule l ≡ gives tt)
  unfolding strict_rule
  strict-says p =
      let a = then-gives (pus_rule k.type k.other k.version h (get_or l 0 0)) _ tt p in
      let q = rule-primary k.type k.other k.version h (get_or l 0 0) a.1 in
      (q.0, q.1, a.2)

  pub strict-holds : (Q : Numbers → Type 0) → Q (refusal 9 (h.version ∷ [])) → Q k.other → Q (refusal 11 []) → Q (refusal 3 (get_or l 0 0 / 16 ∷ [])) → Q (refusal 12 [])
      → Holds (λ (u : Unit {0}). Unit {0}) Q (k.rule l) → Holds (λ (u : Unit {0}). Unit {0}) Q (strict_rule k h l)
  unfolding strict_rule
  strict-holds Q a b c d e r =
      holds_then _ _ _ _ (rule-holds k.type k.other k.version h (get_or l 0 0) Q a b c d e) (λ _ _. r)
