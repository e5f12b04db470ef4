-- What calls answer: a value, or a refusal in its number and its values.
use Rattle.std.specs.Prelude.{ℕ, Bool, true, false, List, [], ◌∷◌, ltb, length, get_or, Result, Ok, Err}
use Rattle.space_packet.specs.declared.PusError.{PusError}
use Rattle.space_packet.specs.declared.PusError.TheVariants as E
use Rattle.space_packet.specs.declared.ByteConversionError.{ByteConversionError}
use Rattle.space_packet.specs.declared.ByteConversionError.TheVariants.{ToSliceTooSmall, FromSliceTooSmall}
use Rattle.space_packet.specs.declared.RefusalNumbers.{RefusalNumbers}

-- a refusal's number and its values
pub record Numbers : Type 0 where
  pub number : ℕ
  pub values : List ℕ

abbrev pub refusal : ℕ → List ℕ → Numbers
refusal k v = record { number = k; values = v }

-- a value, or a refusal
pub data Answer (A : Type 0) : Type 0 where
  gives : A → Answer A
  refuses : Numbers → Answer A

-- refused where the test holds, and else what follows
unfoldable pub refuse_if : {A : Type 0} → Bool → Numbers → Answer A → Answer A
refuse_if true e k = refuses e
refuse_if false e k = k

-- a refusal ends it; a value goes on
unfoldable pub and_then : {A B : Type 0} → Answer A → (A → Answer B) → Answer B
and_then (refuses e) f = refuses e
and_then (gives a) f = f a

infixr 40 ◌then◌
abbrev pub ◌then◌ : {A B : Type 0} → Answer A → (A → Answer B) → Answer B
a then f = and_then a f

-- a check that gives nothing but its passing
abbrev pub Passed : Type 0
Passed = Answer (Unit {0})

-- what a setter hands back: whether it was refused, and the record, the old one where it was
pub record Kept (A : Type 0) : Type 0 where
  pub passed : Passed
  pub kept : A

unfoldable pub set_if : {A : Type 0} → Passed → A → A → Kept A
set_if (refuses e) old new = record { passed = refuses e; kept = old }
set_if (gives u) old new = record { passed = gives u; kept = new }

-- ---- the numbers of refusal; 5 is retired, which is the theorem `no-five`

abbrev pub bytes_numbers : ByteConversionError → Numbers
bytes_numbers (ToSliceTooSmall found expected) = refusal 1 (found ∷ expected ∷ [])
bytes_numbers (FromSliceTooSmall found expected) = refusal 2 (found ∷ expected ∷ [])

abbrev pub numbers_of : PusError → Numbers
numbers_of (E.ByteConversion e) = bytes_numbers e
numbers_of (E.VersionNotSupported nibble) = refusal 3 (nibble ∷ [])
numbers_of (E.ChecksumFailure stored computed) = refusal 4 (stored ∷ computed ∷ [])
numbers_of (E.PacketTooLong length) = refusal 6 (length ∷ [])
numbers_of (E.FieldRange place value) = refusal 7 (place ∷ value ∷ [])
numbers_of E.Reservation = refusal 8 []
numbers_of (E.PacketVersion number) = refusal 9 (number ∷ [])
numbers_of E.PacketTypeTm = refusal 10 []
numbers_of E.NoSecondaryHeader = refusal 11 []
numbers_of E.IdleApid = refusal 12 []
numbers_of E.PacketTypeTc = refusal 13 []
numbers_of E.TimeLength = refusal 14 []
numbers_of E.NotAReport = refusal 15 []
numbers_of E.RequestNotOpen = refusal 16 []
numbers_of E.RequestOpen = refusal 17 []
numbers_of E.TrackerFull = refusal 18 []
numbers_of E.SpareLength = refusal 19 []
numbers_of E.SpareNotZero = refusal 20 []
numbers_of E.ParameterList = refusal 21 []
numbers_of E.UnknownParameter = refusal 22 []
numbers_of E.OctetsLeftOver = refusal 23 []
numbers_of E.ParameterValue = refusal 24 []
numbers_of E.ProfileLength = refusal 25 []
numbers_of E.ProfileSegmented = refusal 26 []
numbers_of E.ProfileApid = refusal 27 []
numbers_of E.ProfileService = refusal 28 []
numbers_of E.ProfileAcceptance = refusal 29 []
numbers_of E.ProfileData = refusal 30 []
numbers_of E.TooManyApids = refusal 31 []
numbers_of E.SourceWidth = refusal 32 []

-- written out, with 0 for a value that it has not
abbrev pub in_numbers : Numbers → RefusalNumbers
in_numbers n = record { number = n.number; count = length n.values; first = get_or n.values 0 0; second = get_or n.values 1 0 }

-- a field's value is at most its largest, or is refused with its place
abbrev pub in_range : ℕ → ℕ → ℕ → Passed
in_range place largest value = refuse_if (ltb largest value) (refusal 7 (place ∷ value ∷ [])) (gives tt)

-- a buffer of m octets has room for a total
abbrev pub in_buffer : ℕ → ℕ → Answer ℕ
in_buffer m total = refuse_if (ltb m total) (refusal 1 (m ∷ total ∷ [])) (gives total)

-- ---- what a call answers, and what a setter leaves

abbrev pub answer_of : {A : Type 0} → Result A PusError → Answer A
answer_of (Ok a) = gives a
answer_of (Err e) = refuses (numbers_of e)

abbrev pub outcome : {A : Type 0} → Result (Unit {0}) PusError → A → Kept A
outcome r a = record { passed = answer_of r; kept = a }
