-- The profile tells of the first rule that is broken, in the order named: its verdict, and its builder alike.
use Prim.Native.Nat.{ℕ, ◌+◌}
use mathlib.Core.Path.{◌≡◌, refl, sym, ap, ◌∙◌}
use mathlib.Core.Logic.{◌↔◌, inl, inr}
use mathlib.Core.Bool.{Bool, true, false, true≢false}
use mathlib.Core.List.{List, []}
use native.Mathlib.Omega.{arith}
use lib.ListN.{length}
use Rattle.space_packet.specs.Answer.{Answer, Numbers, Passed, gives, refuses, refusal, refuse_if, ◌then◌}
use Rattle.space_packet.specs.Header.{packet_len}
use Rattle.space_packet.specs.declared.SpacePacketHeader.{SpacePacketHeader}
use Rattle.space_packet.proofs.Answers.{refuses-inj, never, gives_then, then-refused, refuses-then}
use Rattle.ecss.specs.Version.{default_config}
use Rattle.ecss_write.specs.Writer.{made_by}
use Rattle.tc_header.specs.declared.PusTcSecondaryHeader.{PusTcSecondaryHeader}
use Rattle.tc_write.specs.Command.{command_c}
use Rattle.tc_write.specs.Creator.{new_of}
use Rattle.tc_write.specs.declared.PusTcCreator.{PusTcCreator}
use Rattle.tc_read.specs.Read.{start_c}
use Rattle.tc_strict.specs.Verdict.{strict_of}
use Rattle.profile.specs.Rules.{rules, profile_rule, profile_of}
use Rattle.profile.specs.Builder.{header_for, sec_for, creator_for, built_for}
use Rattle.profile.specs.declared.ProfileTc.{ProfileTc}
use Rattle.profile.proofs.Commands.{constructed}
use Rattle.profile_exact.specs.First.{BrokenOr, FirstBroken, TellsFirst}
use Rattle.profile_exact.proofs.Exactly.{not_found, unsegmented-found, apid-found, length_found, data-found, states-total}

-- one rule, with its test, and what is refused next
refused-or : (b : Bool) (k : ℕ) (next : Passed) (e : Numbers) (P Q : Type 0) → (b ≡ false) ↔ P → (next ≡ refuses e) ↔ Q → (refuse_if b (refusal k []) next ≡ refuses e) ↔ BrokenOr e k P Q
unfolding refuse_if
refused-or true k next e P Q found rest = (
  λ p. inl (λ q. true≢false (found.1 q), sym (refuses-inj (refusal k []) e p)),
  elim [ inl a ↦ ap refuses (sym a.1) | inr a ↦ absurd (true≢false (found.1 a.0)) ],
)
refused-or false k next e P Q found rest = (
  λ p. inr (found.0 refl, rest.0 p),
  elim [ inl a ↦ absurd (a.0 (found.0 refl)) | inr a ↦ rest.1 a.1 ],
)

-- the definition's rules refuse so
pub rule-first : (h : SpacePacketHeader) (x : PusTcSecondaryHeader) (n : ℕ) → packet_len h ≡ start_c + n + 2 → (e : Numbers) → (profile_rule h x ≡ refuses e) ↔ FirstBroken h x n e
unfolding rules
rule-first h x n l e =
    refused-or _ _ _ e _ _ (length_found h x n l)
    (refused-or _ _ _ e _ _ (unsegmented-found _)
    (refused-or _ _ _ e _ _ (apid-found _)
    (refused-or _ _ _ e _ _ (not_found _)
    (refused-or _ _ _ e _ _ (not_found _)
    (refused-or _ _ _ e _ _ (data-found h x n l)
    (λ p. never tt e (sym p), λ z. absurd z))))))

-- behind what was given, a check's refusal is the whole's
behind : {A B : Type 0} (a : Answer A) (f : A → Passed) (g : A → B) (x : A) → a ≡ gives x → (e : Numbers) → ((a then λ y. f y then λ _. gives (g y)) ≡ refuses e) ↔ (f x ≡ refuses e)
behind a f g x p e = (
  λ q. then-refused (f x) (λ _. g x) e (sym (gives_then _ _ x p) ∙ q),
  λ q. gives_then _ _ x p ∙ refuses-then _ _ e q,
)

-- It tells of the first rule that a strictly accepted packet breaks.
pub tells_first : (s : List ℕ) → TellsFirst (profile_of s) s
unfolding profile_of
tells_first s r p e =
    let a = behind (strict_of s) _ _ r p e in
    let b = rule-first r.sp_header r.sec_header _ (states-total s r p) e in
    (λ q. b.0 (a.0 q), λ q. a.1 (b.1 q))

-- So does the builder, of what construction takes.
pub build-first : (t : ProfileTc) (d : List ℕ) (c : PusTcCreator) → new_of (header_for t) (sec_for t) (length d) default_config ≡ gives c
    → (e : Numbers) → (built_for t (length d) ≡ refuses e) ↔ FirstBroken (header_for t) (sec_for t) (length d) e
unfolding creator_for
build-first t d c p e =
    let k = ap (λ (u : PusTcCreator). profile_rule u.sp_header u.sec_header) (constructed t d c p).2 in
    let a = behind (new_of (header_for t) (sec_for t) (length d) default_config) _ _ c p e in
    let b = rule-first (made_by command_c (header_for t) d) (sec_for t) (length d) (omega arith) e in
    (λ q. b.0 (sym k ∙ a.0 (then-refused _ _ e q)), λ q. refuses-then _ _ e (a.1 (k ∙ b.1 q)))
