-- Laws of answers: what an answer says of its checks, and that a number with its values tells the refusal.
use Prim.Native.Nat.{ℕ, ◌≤◌, ◌<◌}
use mathlib.Core.Path.{◌≡◌, refl, sym, ap, ◌∙◌, subst}
use mathlib.Core.Logic.{◌↔◌}
use mathlib.Core.Bool.{Bool, true, false}
use mathlib.Core.List.{List, [], ◌∷◌, ◌++◌}
use native.Mathlib.Omega.{arith}
use lib.ListN.{get_or, drop}
use lib.Dec.{eqb, ltb}
use borrow.Author.Tests.{lt-ltb, le-ltb, ltb-false, eqb-false}
use Rattle.space_packet.specs.Bits.{pick}
use Rattle.space_packet.specs.Answer.{Numbers, Answer, Passed, gives, refuses, refusal, refuse_if, ◌then◌, set_if, in_range, in_buffer, numbers_of, and_then}
use Rattle.space_packet.specs.Header.{left_by}
use Rattle.space_packet.specs.declared.PusError.{PusError}
use Rattle.space_packet.specs.declared.PusError.TheVariants as E
use Rattle.space_packet.specs.declared.ByteConversionError.TheVariants.{ToSliceTooSmall, FromSliceTooSmall}

-- what has a left inverse tells its argument
pub by-inverse : {A B : Type 0} (f : A → B) (g : B → A) → ((x : A) → g (f x) ≡ x) → (x y : A) → f x ≡ f y → x ≡ y
by-inverse f g back x y p = sym (back x) ∙ ap g p ∙ back y

pub gives-inj : {A : Type 0} (x y : A) → gives x ≡ gives y → x ≡ y
gives-inj x y e = cc

pub refuses-inj : {A : Type 0} (d e : Numbers) → ◌≡◌ {A = Answer A} (refuses d) (refuses e) → d ≡ e
refuses-inj d e p = cc

pub never : {A : Type 0} (x : A) (e : Numbers) → refuses e ≡ gives x → ⊥
never x e p = let z : ◌≡◌ {A = ℕ} 0 1 = cc in omega arith

pub refuse-no : {A : Type 0} (b : Bool) (e : Numbers) (k : Answer A) → b ≡ false → refuse_if b e k ≡ k
unfolding refuse_if
refuse-no b e k p = ap (λ (x : Bool). refuse_if x e k) p

pub refuse-yes : {A : Type 0} (b : Bool) (e : Numbers) (k : Answer A) → b ≡ true → refuse_if b e k ≡ refuses e
unfolding refuse_if
refuse-yes b e k p = ap (λ (x : Bool). refuse_if x e k) p

pub refuse-gives : {A : Type 0} (b : Bool) (e : Numbers) (k : Answer A) (x : A) → refuse_if b e k ≡ gives x → (b ≡ false) × (k ≡ gives x)
unfolding refuse_if
refuse-gives true e k x p = absurd (never x e p)
refuse-gives false e k x p = (refl, p)

pub then-gives : {A B : Type 0} (a : Answer A) (f : A → Answer B) (y : B) → (a then f) ≡ gives y → (x : A) × (a ≡ gives x) × (f x ≡ gives y)
unfolding and_then
then-gives (gives x) f y p = (x, refl, p)
then-gives (refuses e) f y p = absurd (never y e p)

pub gives_then : {A B : Type 0} (a : Answer A) (f : A → Answer B) (x : A) → a ≡ gives x → (a then f) ≡ f x
unfolding and_then
gives_then a f x p = ap (λ (z : Answer _). z then f) p

pub refuses-then : {A B : Type 0} (a : Answer A) (f : A → Answer B) (e : Numbers) → a ≡ refuses e → (a then f) ≡ refuses e
unfolding and_then
refuses-then a f e p = ap (λ (z : Answer _). z then f) p

-- a check, and what is asked next
pub if-then : {A B : Type 0} (b : Bool) (e : Numbers) (k : Answer A) (f : A → Answer B) → (refuse_if b e k then f) ≡ refuse_if b e (k then f)
unfolding refuse_if and_then
if-then true e k f = refl
if-then false e k f = refl

-- what refuses nothing refuses with what comes before it
pub then-refused : {A B : Type 0} (a : Answer A) (g : A → B) (e : Numbers) → (a then λ x. gives (g x)) ≡ refuses e → a ≡ refuses e
unfolding and_then
then-refused (refuses d) g e p = ap refuses (refuses-inj d e p)
then-refused (gives x) g e p = absurd (never (g x) e (sym p))

-- of what an answer gives P holds, and of what it refuses with Q
abbrev pub Holds : {A : Type 0} → (A → Type 0) → (Numbers → Type 0) → Answer A → Type 0
Holds P Q (gives x) = P x
Holds P Q (refuses e) = Q e

pub holds-if : {A : Type 0} (P : A → Type 0) (Q : Numbers → Type 0) (b : Bool) (e : Numbers) (k : Answer A) → (b ≡ true → Q e) → (b ≡ false → Holds P Q k) → Holds P Q (refuse_if b e k)
unfolding refuse_if
holds-if P Q true e k h s = h refl
holds-if P Q false e k h s = s refl

pub holds_then : {A B : Type 0} (P : B → Type 0) (Q : Numbers → Type 0) (a : Answer A) (f : A → Answer B)
    → Holds (λ (x : A). Unit {0}) Q a → ((x : A) → a ≡ gives x → Holds P Q (f x)) → Holds P Q (a then f)
unfolding and_then
holds_then P Q (gives x) f s k = k x refl
holds_then P Q (refuses e) f s k = s

-- what follows from Q holds too; Q holds of each refusal that an answer can be, and of the one that it is
pub holds_more : {A : Type 0} (P : A → Type 0) (Q R : Numbers → Type 0) (a : Answer A) → ((e : Numbers) → Q e → R e) → Holds P Q a → Holds P R a
holds_more P Q R (gives x) f h = h
holds_more P Q R (refuses e) f h = f e h

pub holds-refused : {A : Type 0} (Q : Numbers → Type 0) (a : Answer A) → ((e : Numbers) → a ≡ refuses e → Q e) → Holds (λ (x : A). Unit {0}) Q a
holds-refused Q (gives x) f = tt
holds-refused Q (refuses e) f = f e refl

pub held : {A : Type 0} (P : A → Type 0) (Q : Numbers → Type 0) (a : Answer A) (e : Numbers) → Holds P Q a → a ≡ refuses e → Q e
held P Q a e h p = subst (Holds P Q) p h

-- what is asked next, of an answer that is known
pub then-of : {A B : Type 0} (a b : Answer A) (f : A → Answer B) → a ≡ b → (a then f) ≡ (b then f)
then-of a b f e = ap (λ (x : Answer _). x then f) e

-- a check that passes what another says is that check
pub then_same : (p : Passed) → (p then λ _. gives tt) ≡ p
unfolding and_then
then_same (gives u) = refl
then_same (refuses e) = refl

-- a setter keeps the new record where it passed, and the old where it was refused
pub kept_new : {A : Type 0} (a p : Passed) (old new : A) → a ≡ p → p ≡ gives tt → record { passed = a; kept = new } ≡ set_if p old new
unfolding set_if
kept_new a (gives u) old new e q = ap (λ (z : Passed). record { passed = z; kept = new }) e
kept_new a (refuses d) old new e q = absurd (never tt d q)

pub kept-old : {A : Type 0} (a p : Passed) (old new : A) (d : Numbers) → a ≡ p → p ≡ refuses d → record { passed = a; kept = old } ≡ set_if p old new
unfolding set_if
kept-old a (refuses e) old new d p q = ap (λ (z : Passed). record { passed = z; kept = old }) p
kept-old a (gives u) old new d p q = absurd (never u d (sym q))

-- what a setter keeps, set in another record
pub set-in : {A B : Type 0} (f : A → B) (p : Passed) (old new : A) → record { passed = (set_if p old new).passed; kept = f (set_if p old new).kept } ≡ set_if p (f old) (f new)
unfolding set_if
set-in f (gives u) old new = refl
set-in f (refuses e) old new = refl

-- a field passes where it is at most its largest, and only there
pub range-passes : (place largest value : ℕ) → (in_range place largest value ≡ gives tt) ↔ (value ≤ largest)
range-passes place largest value = (
  λ p. ltb-false largest value (refuse-gives _ _ _ _ p).0,
  λ h. refuse-no _ _ _ (le-ltb largest value h),
)

-- a size n that the code computed: the buffer of m octets has no room for it, or it has
pub no_room : (m n k : ℕ) → n ≡ k → m < n → refuses (refusal 1 (m ∷ n ∷ [])) ≡ in_buffer m k
no_room m n k e h = sym (refuse-yes _ _ _ (lt-ltb m n h)) ∙ ap (in_buffer m) e

pub has_room : (m n k : ℕ) → n ≡ k → n ≤ m → in_buffer m k ≡ gives k
has_room m n k e h = refuse-no _ _ _ (le-ltb m k (omega arith))

-- and the same of octets that are read
pub too_few : {A : Type 0} (m n k : ℕ) (r : Answer A) → n ≡ k → m < n → refuses (refusal 2 (m ∷ n ∷ [])) ≡ refuse_if (ltb m k) (refusal 2 (m ∷ k ∷ [])) r
too_few m n k r e h = sym (refuse-yes _ _ _ (lt-ltb m n h)) ∙ ap (λ (z : ℕ). refuse_if (ltb m z) (refusal 2 (m ∷ z ∷ [])) r) e

pub enough : {A : Type 0} (m n k : ℕ) (r : Answer A) → n ≡ k → n ≤ m → refuse_if (ltb m k) (refusal 2 (m ∷ k ∷ [])) r ≡ r
enough m n k r e h = refuse-no _ _ _ (le-ltb m k (omega arith))

-- what a write leaves, refused or done
pub left-refused : (a : Answer ℕ) (p before : List ℕ) (e : Numbers) → a ≡ refuses e → left_by a p before ≡ before
left-refused a p before e q = ap (λ (z : Answer ℕ). left_by z p before) q

pub left-written : (a : Answer ℕ) (p before : List ℕ) (n : ℕ) → a ≡ gives n → left_by a p before ≡ p ++ drop n before
left-written a p before n q = ap (λ (z : Answer ℕ). left_by z p before) q

-- ---- the refusal of a number and its values

pub error_of : Numbers → PusError
error_of n =
    pick (eqb n.number 1) (E.ByteConversion (ToSliceTooSmall (get_or n.values 0 0) (get_or n.values 1 0)))
    (pick (eqb n.number 2) (E.ByteConversion (FromSliceTooSmall (get_or n.values 0 0) (get_or n.values 1 0)))
    (pick (eqb n.number 3) (E.VersionNotSupported (get_or n.values 0 0))
    (pick (eqb n.number 4) (E.ChecksumFailure (get_or n.values 0 0) (get_or n.values 1 0))
    (pick (eqb n.number 6) (E.PacketTooLong (get_or n.values 0 0))
    (pick (eqb n.number 7) (E.FieldRange (get_or n.values 0 0) (get_or n.values 1 0))
    (pick (eqb n.number 8) E.Reservation
    (pick (eqb n.number 9) (E.PacketVersion (get_or n.values 0 0))
    (pick (eqb n.number 10) E.PacketTypeTm
    (pick (eqb n.number 11) E.NoSecondaryHeader
    (pick (eqb n.number 12) E.IdleApid
    (pick (eqb n.number 13) E.PacketTypeTc
    (pick (eqb n.number 14) E.TimeLength
    (pick (eqb n.number 15) E.NotAReport
    (pick (eqb n.number 16) E.RequestNotOpen
    (pick (eqb n.number 17) E.RequestOpen
    (pick (eqb n.number 18) E.TrackerFull
    (pick (eqb n.number 19) E.SpareLength
    (pick (eqb n.number 20) E.SpareNotZero
    (pick (eqb n.number 21) E.ParameterList
    (pick (eqb n.number 22) E.UnknownParameter
    (pick (eqb n.number 23) E.OctetsLeftOver
    (pick (eqb n.number 24) E.ParameterValue
    (pick (eqb n.number 25) E.ProfileLength
    (pick (eqb n.number 26) E.ProfileSegmented
    (pick (eqb n.number 27) E.ProfileApid
    (pick (eqb n.number 28) E.ProfileService
    (pick (eqb n.number 29) E.ProfileAcceptance
    (pick (eqb n.number 30) E.ProfileData
    (pick (eqb n.number 31) E.TooManyApids E.SourceWidth)))))))))))))))))))))))))))))

pub error-back : (e : PusError) → error_of (numbers_of e) ≡ e
unfolding error_of
error-back (E.ByteConversion (ToSliceTooSmall a b)) = refl
error-back (E.ByteConversion (FromSliceTooSmall a b)) = refl
error-back (E.VersionNotSupported v) = refl
error-back (E.ChecksumFailure s c) = refl
error-back (E.PacketTooLong n) = refl
error-back (E.FieldRange p v) = refl
error-back E.Reservation = refl
error-back (E.PacketVersion n) = refl
error-back E.PacketTypeTm = refl
error-back E.NoSecondaryHeader = refl
error-back E.IdleApid = refl
error-back E.PacketTypeTc = refl
error-back E.TimeLength = refl
error-back E.NotAReport = refl
error-back E.RequestNotOpen = refl
error-back E.RequestOpen = refl
error-back E.TrackerFull = refl
error-back E.SpareLength = refl
error-back E.SpareNotZero = refl
error-back E.ParameterList = refl
error-back E.UnknownParameter = refl
error-back E.OctetsLeftOver = refl
error-back E.ParameterValue = refl
error-back E.ProfileLength = refl
error-back E.ProfileSegmented = refl
error-back E.ProfileApid = refl
error-back E.ProfileService = refl
error-back E.ProfileAcceptance = refl
error-back E.ProfileData = refl
error-back E.TooManyApids = refl
error-back E.SourceWidth = refl

pub numbers-inj : (e f : PusError) → numbers_of e ≡ numbers_of f → e ≡ f
numbers-inj = by-inverse numbers_of error_of error-back

-- 5 is retired: no refusal has its number
not_five : (e : PusError) → eqb (numbers_of e).number 5 ≡ false
not_five (E.ByteConversion (ToSliceTooSmall a b)) = refl
not_five (E.ByteConversion (FromSliceTooSmall a b)) = refl
not_five (E.VersionNotSupported v) = refl
not_five (E.ChecksumFailure s c) = refl
not_five (E.PacketTooLong n) = refl
not_five (E.FieldRange p v) = refl
not_five E.Reservation = refl
not_five (E.PacketVersion n) = refl
not_five E.PacketTypeTm = refl
not_five E.NoSecondaryHeader = refl
not_five E.IdleApid = refl
not_five E.PacketTypeTc = refl
not_five E.TimeLength = refl
not_five E.NotAReport = refl
not_five E.RequestNotOpen = refl
not_five E.RequestOpen = refl
not_five E.TrackerFull = refl
not_five E.SpareLength = refl
not_five E.SpareNotZero = refl
not_five E.ParameterList = refl
not_five E.UnknownParameter = refl
not_five E.OctetsLeftOver = refl
not_five E.ParameterValue = refl
not_five E.ProfileLength = refl
not_five E.ProfileSegmented = refl
not_five E.ProfileApid = refl
not_five E.ProfileService = refl
not_five E.ProfileAcceptance = refl
not_five E.ProfileData = refl
not_five E.TooManyApids = refl
not_five E.SourceWidth = refl

pub no-five : (e : PusError) → (numbers_of e).number ≡ 5 → ⊥
no-five e = eqb-false _ 5 (not_five e)

-- the result of an answer, by its two constructors: what each result's answer is undone by
unfoldable pub result_of : {A R : Type 0} → (A → R) → (PusError → R) → Answer A → R
result_of ok err (gives a) = ok a
result_of ok err (refuses n) = err (error_of n)
