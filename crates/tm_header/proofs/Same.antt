-- Secondary headers are the same where they are equal and only there, and headers are compared so by `==`.
use mathlib.Core.Path.{◌≡◌, refl, sym, ap, ◌∙◌}
use mathlib.Core.Bool.{true}
use mathlib.Core.Logic.{◌↔◌}
use native.Mathlib.Omega.{arith}
use lib.Dec.{eqb}
use borrow.Author.Tests.{eqb-true}
use denote.Enum.Bare.{sameb}
use Rattle.space_packet.proofs.Same.{first-same, itself}
use Rattle.ecss.specs.Version.{version_number, message_type_of}
use Rattle.ecss.specs.contracts.PusVersion as Version
use Rattle.ecss.specs.declared.PusVersion.{PusVersion}
use Rattle.ecss.specs.declared.PusVersion.TheVariants.{EsaPus, PusA, PusC}
use Rattle.ecss.proofs.Versions.{version-told}
use Rattle.tm_header.specs.Header.{sec_from, same_sec}
use Rattle.tm_header.specs.contracts.PusTmSecondaryHeaderPartialEq.TheImpl as Secondary
use Rattle.tm_header.specs.declared.PusTmSecondaryHeader.{PusTmSecondaryHeader}

equal-fields : (x y : PusTmSecondaryHeader) → same_sec x y ≡ true → x ≡ y
unfolding same_sec
equal-fields x y p =
    let t = first-same _ _ _ p in
    let u = first-same _ _ _ t.1 in
    let n = first-same _ _ _ u.1 in
    let d = first-same _ _ _ n.1 in
    let s = first-same _ _ _ d.1 in
    let v = version-told _ _ (eqb-true _ _ s.1) in
    λ i. sec_from (v i) (s.0 i) (message_type_of (t.0 i) (u.0 i)) (n.0 i) (d.0 i)

same-itself : (x : PusTmSecondaryHeader) → same_sec x x ≡ true
unfolding same_sec
same-itself x = simp itself

pub same-sec : (x y : PusTmSecondaryHeader) → (same_sec x y ≡ true) ↔ (x ≡ y)
same-sec x y = (equal-fields x y, λ e. ap (same_sec x) (sym e) ∙ same-itself x)

-- ---- what `==` answers of headers

same-version : (v w : PusVersion) → sameb Version.the_type v w ≡ eqb (version_number v) (version_number w)
same-version EsaPus EsaPus = refl
same-version EsaPus PusA = refl
same-version EsaPus PusC = refl
same-version PusA EsaPus = refl
same-version PusA PusA = refl
same-version PusA PusC = refl
same-version PusC EsaPus = refl
same-version PusC PusA = refl
same-version PusC PusC = refl

pub compared-secondary : (x y : PusTmSecondaryHeader) → Secondary.ghosts.eq x y ≡ same_sec x y
unfolding same_sec
compared-secondary x y = grind (arith, same-version)
