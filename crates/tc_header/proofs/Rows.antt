-- The octets of the secondary header are the row of its fields, written and read, for every form that is taken.
use Prim.Native.Nat.{ℕ, zero, suc, ◌+◌, ◌*◌, ◌/◌, ◌%◌, ◌^◌, ◌≤◌}
use mathlib.Core.Path.{◌≡◌, refl, sym, ap, ap₂, ◌∙◌}
use mathlib.Core.Bool.{Bool}
use mathlib.Core.List.{List, [], ◌∷◌, ◌++◌, append_assoc, append-nil}
use native.Mathlib.Omega.{arith}
use native.Mathlib.Nat.{one-le-pow}
use lib.ListN.{length, get_or, drop, replicate, length-drop}
use lib.Seq.{take_all}
use Rattle.space_packet.specs.Answer.{gives}
use Rattle.space_packet.specs.Bits.{bits, row}
use Rattle.space_packet.proofs.Rows.{bits-split, bits-mask, last_row}
use Rattle.ecss.specs.Frame.{Octets}
use Rattle.ecss.specs.Kind.{Taken}
use Rattle.ecss.specs.Version.{version_number}
use Rattle.ecss.specs.declared.PusVersion.{PusVersion}
use Rattle.ecss.specs.declared.PusVersion.TheVariants.{EsaPus, PusA, PusC}
use Rattle.tc_header.specs.Form.{form_spare, form_a, form_check, source_len, source_octets, source_at, spare_at, spare_of}
use Rattle.tc_header.specs.Header.{tc_octets, sec_octets, fields_row, sec_row, row_a, tc_of, tc}
use Rattle.tc_header.specs.declared.PusTcSecondaryHeader.{PusTcSecondaryHeader}
use Rattle.tc_header.specs.declared.TcForm.{TcForm}
use Rattle.tc_header.proofs.Forms.{taken, taken-spare}
use Rattle.tc_header.proofs.Laws.{parted, written_read}

-- the low n octets of a source ID are its low bits
source_row : (n v : ℕ) → n ≤ 2 → row (source_octets n v) ≡ bits (8 * n) v
unfolding row bits
source_row zero v h = refl
source_row (suc zero) v h = append-nil _ ∙ bits-mask 8 v
source_row (suc (suc zero)) v h = last_row v
source_row (suc (suc (suc n))) v h = absurd (omega arith)

-- octets one behind the other are rows one behind the other, and zeros are bits that are zero
row-append : (s t : List ℕ) → row (s ++ t) ≡ row s ++ row t
unfolding row
row-append [] t = refl
row-append (o ∷ s) t = ap (λ (r : List Bool). bits 8 o ++ r) (row-append s t) ∙ sym (append_assoc (bits 8 o) (row s) (row t))

zeros-row : (n : ℕ) → row (replicate n 0) ≡ bits (8 * n) 0
unfolding row bits
zeros-row zero = refl
zeros-row (suc n) =
    let w : 8 + 8 * n ≡ 8 * suc n = omega arith in
    let v : 0 * 2 ^ (8 * n) + 0 ≡ 0 = omega arith in
    ap (λ (r : List Bool). bits 8 0 ++ r) (zeros-row n) ∙ sym (bits-split 8 (8 * n) 0 0 (one-le-pow (8 * n) 2 (omega arith))) ∙ ap₂ bits w v

-- the row that a form has: its version, behind it what both editions draw, and the spare bits
abbrev pub row_in : TcForm → PusTcSecondaryHeader → List Bool
row_in f x = bits 4 (version_number x.version) ++ fields_row f.source_width x ++ bits (8 * f.spare_len) 0

module _ (f : TcForm) (good : form_check f ≡ gives tt) where
  source_in : (v : ℕ) → row (source_octets (source_len f) v) ≡ bits f.source_width v
  source_in v = let w = taken f good in source_row (source_len f) v w.at_most_two ∙ ap (λ (n : ℕ). bits n v) (sym w.whole)

  -- the octets that are written for a header
  pub layout-in : (x : PusTcSecondaryHeader) → x.ack_flags.0 ≤ 15 → row (tc_octets f x) ≡ row_in f x
  unfolding row tc_octets
  layout-in x h =
      let v = version_number x.version in
      let a = x.ack_flags.0 in
      let o : bits 8 (v * 16 + a) ≡ bits 4 v ++ bits 4 a = bits-split 4 4 v a (omega arith) in
      let s = source_in x.source_id in
      rw (row-append (source_octets (source_len f) x.source_id) (replicate f.spare_len 0), o, s, zeros-row f.spare_len) (simp append_assoc)

  -- the header that is read from octets of the form's version, as it is always reported
  pub layout-read-in : (l : List ℕ) → Taken (tc f) l → row_in f (tc_of f l) ≡ row l
  unfolding tc_of
  layout-read-in l t = sym (layout-in (tc_of f l) (omega arith)) ∙ ap row (written_read f good l t)

  -- the header that the lenient reader reports of any octets: between the four bits of the version and the spare octets, of which it asks
  -- nothing, its fields
  pub layout-lenient : (l : List ℕ) → Octets l → length l ≡ (tc f).size
      → bits 4 (get_or l 0 0 / 16) ++ fields_row f.source_width (tc_of f l) ++ row (spare_of f l) ≡ row l
  unfolding row tc_of
  layout-lenient l o n =
      let v = get_or l 0 0 / 16 in
      let a = get_or l 0 0 % 16 in
      let z : get_or l 0 0 ≡ v * 16 + a = omega arith in
      let b : bits 8 (get_or l 0 0) ≡ bits 4 v ++ bits 4 a = ap (bits 8) z ∙ bits-split 4 4 v a (omega arith) in
      let source = source_octets (source_len f) (source_at (source_len f) l) in
      let d = length-drop (spare_at f) l in
      let spare : spare_of f l ≡ drop (spare_at f) l = take_all f.spare_len (drop (spare_at f) l) (omega (arith, d, n)) in
      rw (spare, sym (source_in (source_at (source_len f) l)))
      (sym
      (ap row (sym (parted f good l o n))
      ∙ rw (row-append source (drop (spare_at f) l), b) (simp append_assoc)))

-- PUS C, for each spare length that is taken
module _ (n : ℕ) (few : n ≤ 4) where
  pub layout : (x : PusTcSecondaryHeader) → x.ack_flags.0 ≤ 15 → row (tc_octets (form_spare n) x) ≡ sec_row n x
  unfolding sec_row
  layout = layout-in (form_spare n) (taken-spare n few)

  pub layout-read : (l : List ℕ) → Taken (tc (form_spare n)) l → sec_row n (tc_of (form_spare n) l) ≡ row l
  unfolding sec_row
  layout-read = layout-read-in (form_spare n) (taken-spare n few)

-- with none, the row ends with the source ID
pub layout-c : (x : PusTcSecondaryHeader) → x.ack_flags.0 ≤ 15 → row (sec_octets x) ≡ bits 4 (version_number x.version) ++ fields_row 16 x
unfolding sec_row bits
layout-c x h = layout 0 (omega arith) x h ∙ append-nil _

-- PUS A, for each width that is taken: a version of three bits below a bit that is zero
three-bits : (v : PusVersion) → bits 4 (version_number v) ≡ bits 1 0 ++ bits 3 (version_number v)
unfolding bits
three-bits EsaPus = refl
three-bits PusA = refl
three-bits PusC = refl

as-row-a : (w : ℕ) (x : PusTcSecondaryHeader) → row_in (form_a w) x ≡ row_a w x
unfolding row_a bits
as-row-a w x = append-nil _ ∙ ap (λ (r : List Bool). r ++ fields_row w x) (three-bits x.version) ∙ append_assoc (bits 1 0) (bits 3 (version_number x.version)) (fields_row w x)

module _ (w : ℕ) (good : form_check (form_a w) ≡ gives tt) where
  pub layout-a : (x : PusTcSecondaryHeader) → x.ack_flags.0 ≤ 15 → row (tc_octets (form_a w) x) ≡ row_a w x
  layout-a x h = layout-in (form_a w) good x h ∙ as-row-a w x

  pub layout-read-a : (l : List ℕ) → Taken (tc (form_a w)) l → row_a w (tc_of (form_a w) l) ≡ row l
  layout-read-a l t = sym (as-row-a w (tc_of (form_a w) l)) ∙ layout-read-in (form_a w) good l t
