-- What telemetry owes as a kind of packet, for every length of its time.
use Prim.Native.Nat.{ℕ, ◌+◌, ◌*◌, ◌/◌, ◌%◌, ◌≤◌}
use mathlib.Core.Path.{◌≡◌, refl, sym, ap, ◌∙◌}
use mathlib.Core.List.{List, ◌∷◌}
use native.Mathlib.Omega.{arith}
use lib.ListN.{length, get_or, drop, length-drop}
use lib.Seq.{drop-cons}
use Rattle.space_packet.specs.Bits.{word}
use Rattle.space_packet.proofs.Answers.{never}
use Rattle.ecss.specs.Kind.{KindLaws, Taken}
use Rattle.ecss.specs.Version.{version_number}
use Rattle.tm_header.specs.Header.{TmHeader, timed, sec_from, tm_octets, fields_of, tm_of, Fits, tm}

seven : (l : List ℕ) → 7 ≤ length l
    → get_or l 0 0 ∷ get_or l 1 0 ∷ get_or l 2 0 ∷ get_or l 3 0 ∷ get_or l 4 0 ∷ get_or l 5 0 ∷ get_or l 6 0 ∷ drop 7 l ≡ l
seven l e =
    rw (sym (drop-cons l 6 0 (omega arith)), sym (drop-cons l 5 0 (omega arith)), sym (drop-cons l 4 0 (omega arith)), sym (drop-cons l 3 0 (omega arith)), sym (drop-cons l 2 0 (omega arith)), sym (drop-cons l 1 0 (omega arith)), sym (drop-cons l 0 0 (omega arith)))

-- two octets of a word
word_back : (n : ℕ) → n / 256 * 256 + n % 256 ≡ n
word_back n = omega arith

module _ (t : ℕ) where
  pub length-octets : (x : TmHeader) → length x.time ≡ t → length (tm_octets x) ≡ (tm t).size
  unfolding tm_octets
  length-octets x e = omega (arith, e)

  dec-enc : (x : TmHeader) → Fits t x → tm_of (tm_octets x) ≡ x
  unfolding tm_octets tm_of fields_of
  dec-enc x s =
      let a = s.status-fits in
      let k : (version_number x.fields.pus_version * 16 + x.fields.sc_time_ref_status) % 16 ≡ x.fields.sc_time_ref_status = omega arith in
      let n = word_back x.fields.msg_counter in
      let d = word_back x.fields.dest_id in
      λ i. timed (sec_from (sym s.version-is i) (k i) x.fields.message_type_id (n i) (d i)) x.time

  enc-version : (x : TmHeader) → Fits t x → get_or (tm_octets x) 0 0 / 16 ≡ (tm t).version
  unfolding tm_octets
  enc-version x s =
      let a = s.status-fits in
      let v = ap version_number s.version-is in omega arith

  dec-fits : (l : List ℕ) → Taken (tm t) l → Fits t (tm_of l)
  unfolding tm_of fields_of
  dec-fits l k = record { version-is = refl; status-fits = omega arith; time-length = omega (arith, length-drop 7 l, k.sized) }

  -- octets of version 2, read and written again
  pub written_read : (l : List ℕ) → Taken (tm t) l → tm_octets (tm_of l) ≡ l
  unfolding tm_octets tm_of fields_of
  written_read l k =
      let v = k.versioned in
      let b4 = k.octets 4 in
      let b6 = k.octets 6 in
      let p0 : 2 * 16 + get_or l 0 0 % 16 ≡ get_or l 0 0 = omega arith in
      let p3 : word l 3 / 256 ≡ get_or l 3 0 = omega arith in
      let p4 : word l 3 % 256 ≡ get_or l 4 0 = omega arith in
      let p5 : word l 5 / 256 ≡ get_or l 5 0 = omega arith in
      let p6 : word l 5 % 256 ≡ get_or l 6 0 = omega arith in
      (λ i. p0 i ∷ get_or l 1 0 ∷ get_or l 2 0 ∷ p3 i ∷ p4 i ∷ p5 i ∷ p6 i ∷ drop 7 l) ∙ seven l (omega (arith, k.sized))

  pub tm-laws : KindLaws (tm t)
  tm-laws =
      record {
        enc-size = λ x s. length-octets x s.time-length;
        dec-enc = dec-enc;
        enc-version = enc-version;
        rule-enc = λ x s. refl;
        dec-fits = dec-fits;
        enc-dec = written_read;
        other-not-four = λ z. omega (arith, z);
        rule-not-four = λ l e p. absurd (never tt e (sym p));
      }
