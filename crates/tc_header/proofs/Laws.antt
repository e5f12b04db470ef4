-- What a telecommand owes as a kind of packet, for every form that is taken.
use Prim.Native.Nat.{ℕ, ◌+◌, ◌*◌, ◌/◌, ◌%◌, ◌≤◌}
use mathlib.Core.Path.{◌≡◌, refl, sym, ap, ◌∙◌}
use mathlib.Core.List.{List, ◌∷◌, ◌++◌}
use native.Mathlib.Omega.{arith}
use lib.ListN.{length, get_or, drop, replicate, length-append, length-replicate, take-append-drop}
use lib.Seq.{drop-cons, drop-drop}
use Rattle.space_packet.specs.Answer.{gives}
use Rattle.ecss.specs.Frame.{Octets}
use Rattle.ecss.specs.Kind.{KindLaws, Taken}
use Rattle.ecss.specs.Version.{version_number}
use Rattle.tc_header.specs.Form.{form_check, source_len, source_octets, source_at, spare_at, spare_rule}
use Rattle.tc_header.specs.Header.{first_octets, tc_octets, tc_of, Fits, tc, pus_c}
use Rattle.tc_header.specs.declared.PusTcSecondaryHeader.{PusTcSecondaryHeader}
use Rattle.tc_header.specs.declared.TcForm.{TcForm}
use Rattle.tc_header.proofs.Forms.{taken, taken-c, source-size, source-read, source-within, source-back}
use Rattle.tc_header.proofs.Spares.{spares-pass, spares-back, rule-not-four}

three : (l : List ℕ) → 3 ≤ length l → get_or l 0 0 ∷ get_or l 1 0 ∷ get_or l 2 0 ∷ drop 3 l ≡ l
three l e = rw (sym (drop-cons l 2 0 (omega arith)), sym (drop-cons l 1 0 (omega arith)), sym (drop-cons l 0 0 (omega arith)))

-- the octets before the spare ones
abbrev pub before : TcForm → PusTcSecondaryHeader → List ℕ
before f x = first_octets x ++ source_octets (source_len f) x.source_id

pub length_before : (f : TcForm) (x : PusTcSecondaryHeader) → source_len f ≤ 2 → length (before f x) ≡ spare_at f
length_before f x few = let n = source-size (source_len f) x.source_id few in omega arith

module _ (f : TcForm) (good : form_check f ≡ gives tt) where
  few : source_len f ≤ 2
  few = (taken f good).at_most_two

  pub length-octets : (x : PusTcSecondaryHeader) → length (tc_octets f x) ≡ (tc f).size
  unfolding tc_octets
  length-octets x =
      let n = length_before f x few in
      let k = length-replicate {A = ℕ} f.spare_len 0 in length-append (before f x) (replicate f.spare_len 0) ∙ omega arith

  dec-enc : (x : PusTcSecondaryHeader) → Fits f x → tc_of f (tc_octets f x) ≡ x
  unfolding tc_octets tc_of
  dec-enc x s =
      let a = s.ack-fits in
      let k : (version_number x.version * 16 + x.ack_flags.0) % 16 ≡ x.ack_flags.0 = omega arith in
      let n = source-read (source_len f) x.source_id _ _ _ (replicate f.spare_len 0) few s.source_fits in
      λ i. record { message_type_id = x.message_type_id; source_id = n i; ack_flags = record { 0 = k i }; version = sym s.version-is i }

  enc-version : (x : PusTcSecondaryHeader) → Fits f x → get_or (tc_octets f x) 0 0 / 16 ≡ version_number f.version
  unfolding tc_octets
  enc-version x s =
      let a = s.ack-fits in
      let v = ap version_number s.version-is in omega arith

  rule-enc : (x : PusTcSecondaryHeader) → spare_rule f (tc_octets f x) ≡ gives tt
  unfolding tc_octets
  rule-enc x = spares-pass f (before f x) (length_before f x few)

  dec-fits : (l : List ℕ) → Taken (tc f) l → Fits f (tc_of f l)
  unfolding tc_of
  dec-fits l t = record { version-is = refl; ack-fits = omega arith; source_fits = source-within (source_len f) l t.octets }

  -- the octets of a secondary header: the first three, those of the source ID, and the spare ones
  pub parted : (l : List ℕ) → Octets l → length l ≡ (tc f).size
      → get_or l 0 0 ∷ get_or l 1 0 ∷ get_or l 2 0 ∷ (source_octets (source_len f) (source_at (source_len f) l) ++ drop (spare_at f) l) ≡ l
  parted l o n =
      let s = source-back (source_len f) l few o (omega (arith, n)) in
      let z = sym (drop-drop (source_len f) 3 l) in
      (λ i. get_or l 0 0 ∷ get_or l 1 0 ∷ get_or l 2 0 ∷ s i ++ z i)
      ∙ ap (λ (y : List ℕ). get_or l 0 0 ∷ get_or l 1 0 ∷ get_or l 2 0 ∷ y) (take-append-drop (source_len f) (drop 3 l))
      ∙ three l (omega (arith, n))

  -- octets of the form's version with zeros in the spare ones, read and written again
  pub written_read : (l : List ℕ) → Taken (tc f) l → tc_octets f (tc_of f l) ≡ l
  unfolding tc_octets tc_of
  written_read l t =
      let v = t.versioned in
      let p : version_number f.version * 16 + get_or l 0 0 % 16 ≡ get_or l 0 0 = omega arith in
      let z = spares-back f l t.sized t.ruled in
      (λ i. p i ∷ get_or l 1 0 ∷ get_or l 2 0 ∷ source_octets (source_len f) (source_at (source_len f) l) ++ z i) ∙ parted l t.octets t.sized

  pub laws : KindLaws (tc f)
  laws =
      record {
        enc-size = λ x s. length-octets x;
        dec-enc = dec-enc;
        enc-version = enc-version;
        rule-enc = λ x s. rule-enc x;
        dec-fits = dec-fits;
        enc-dec = written_read;
        other-not-four = λ z. omega (arith, z);
        rule-not-four = rule-not-four f;
      }

pub laws-c : KindLaws pus_c
laws-c = laws _ taken-c
