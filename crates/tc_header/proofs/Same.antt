-- Secondary headers are the same where they are equal and only there; and what `==` answers of forms and headers.
use mathlib.Core.Path.{◌≡◌, refl, sym, ap, ◌∙◌}
use mathlib.Core.Bool.{true}
use mathlib.Core.Logic.{◌↔◌}
use native.Mathlib.Omega.{arith}
use lib.Dec.{eqb}
use borrow.Author.Tests.{eqb-true}
use denote.Enum.Bare.{sameb}
use Rattle.space_packet.proofs.Same.{first-same, itself}
use Rattle.ecss.specs.Version.{version_number}
use Rattle.ecss.specs.contracts.PusVersion as Version
use Rattle.ecss.specs.declared.PusVersion.{PusVersion}
use Rattle.ecss.specs.declared.PusVersion.TheVariants.{EsaPus, PusA, PusC}
use Rattle.ecss.proofs.Versions.{version-told}
use Rattle.tc_header.specs.Form.{same_form}
use Rattle.tc_header.specs.Header.{same_sec}
use Rattle.tc_header.specs.contracts.PusTcSecondaryHeaderPartialEq.TheImpl as Secondary
use Rattle.tc_header.specs.contracts.TcFormPartialEq.TheImpl as Form
use Rattle.tc_header.specs.declared.PusTcSecondaryHeader.{PusTcSecondaryHeader}
use Rattle.tc_header.specs.declared.TcForm.{TcForm}

equal-fields : (x y : PusTcSecondaryHeader) → same_sec x y ≡ true → x ≡ y
unfolding same_sec
equal-fields x y p =
    let t = first-same _ _ _ p in
    let u = first-same _ _ _ t.1 in
    let s = first-same _ _ _ u.1 in
    let a = first-same _ _ _ s.1 in
    let v = version-told _ _ (eqb-true _ _ a.1) in
    λ i. record { message_type_id = record { type_id = t.0 i; subtype_id = u.0 i }; source_id = s.0 i; ack_flags = record { 0 = a.0 i }; version = v i }

same-itself : (x : PusTcSecondaryHeader) → same_sec x x ≡ true
unfolding same_sec
same-itself x = simp itself

pub same-sec : (x y : PusTcSecondaryHeader) → (same_sec x y ≡ true) ↔ (x ≡ y)
same-sec x y = (equal-fields x y, λ e. ap (same_sec x) (sym e) ∙ same-itself x)

-- ---- what `==` answers

same-version : (v w : PusVersion) → sameb Version.the_type v w ≡ eqb (version_number v) (version_number w)
same-version EsaPus EsaPus = refl
same-version EsaPus PusA = refl
same-version EsaPus PusC = refl
same-version PusA EsaPus = refl
same-version PusA PusA = refl
same-version PusA PusC = refl
same-version PusC EsaPus = refl
same-version PusC PusA = refl
same-version PusC PusC = refl

pub compared-secondary : (x y : PusTcSecondaryHeader) → Secondary.ghosts.eq x y ≡ same_sec x y
unfolding same_sec
compared-secondary x y = grind (arith, same-version)

pub compared-form : (f g : TcForm) → Form.ghosts.eq f g ≡ same_form f g
unfolding same_form
compared-form f g = simp same-version
