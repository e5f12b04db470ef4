-- A version by its number, and what it says that a version passes.
use Prim.Native.Nat.{◌≤◌}
use mathlib.Core.Path.{◌≡◌, refl, sym, ap, ◌∙◌}
use mathlib.Core.Logic.{◌↔◌}
use mathlib.Core.Bool.{not}
use native.Mathlib.Omega.{arith}
use borrow.Author.Tests.{eqb-true, eq-eqb, not-false}
use Rattle.space_packet.specs.Answer.{gives}
use Rattle.space_packet.proofs.Answers.{gives-inj, refuse-no, refuse-gives}
use Rattle.ecss.specs.Version.{version_number, version_of, version_is}
use Rattle.ecss.specs.declared.PusVersion.{PusVersion}
use Rattle.ecss.specs.declared.PusVersion.TheVariants.{EsaPus, PusA, PusC}

pub version-le : (v : PusVersion) → version_number v ≤ 2
version-le EsaPus = omega arith
version-le PusA = omega arith
version-le PusC = omega arith

version-back : (v : PusVersion) → version_of (version_number v) ≡ gives v
unfolding version_of
version-back EsaPus = refl
version-back PusA = refl
version-back PusC = refl

-- a version number tells the version
pub version-told : (v w : PusVersion) → version_number v ≡ version_number w → v ≡ w
version-told v w p = gives-inj v w (sym (version-back v) ∙ ap version_of p ∙ version-back w)

pub version-passes : (own v : PusVersion) → (version_is own v ≡ gives tt) ↔ (v ≡ own)
version-passes own v = (
  λ p. version-told v own (eqb-true _ _ (not-false _ (refuse-gives _ _ _ _ p).0)),
  λ e. refuse-no _ _ _ (ap not (eq-eqb _ _ (ap version_number e))),
)
