-- What a telecommand of any form owes as a writer, and what it hands to the calls that every kind shares.
use Prim.Native.Nat.{ℕ, ◌≤◌}
use mathlib.Core.Path.{◌≡◌, ◌∙◌}
use mathlib.Core.List.{List}
use native.Mathlib.Omega.{arith}
use lib.ListN.{length, take}
use borrow.Author.Tests.{le-ltb}
use Rattle.space_packet.specs.Answer.{gives}
use Rattle.space_packet.specs.Header.{left_by}
use Rattle.space_packet.proofs.Answers.{gives_then, refuse-no}
use Rattle.ecss_write.specs.Write.{asks_answer}
use Rattle.ecss_write.specs.Writer.{WriterLaws, asked_of}
use Rattle.ecss_write.specs.declared.packet.Asks.{Asks}
use Rattle.ecss_write.proofs.Calls.{Hands, hands-by}
use Rattle.tc_header.specs.Form.{form_check}
use Rattle.tc_header.specs.Header.{fields_check, version_in, tc_octets, sec_write_in, tc}
use Rattle.tc_header.specs.declared.PusTcSecondaryHeader.{PusTcSecondaryHeader}
use Rattle.tc_header.specs.declared.TcForm.{TcForm}
use Rattle.ecss.proofs.Versions.{version-passes}
use Rattle.tc_header.proofs.Checks.{fields-pass, checks-version}
use Rattle.tc_header.proofs.Forms.{taken, taken-c}
use Rattle.tc_header.proofs.Laws.{laws, length-octets}
use Rattle.tc_write.specs.Command.{command_in, command_c}

-- its checks pass exactly for the headers that the strict checks take
pub writer-laws : (f : TcForm) → form_check f ≡ gives tt → WriterLaws (command_in f)
writer-laws f good =
    record {
      kind-laws = laws f good;
      passed-fits = λ x q p v.
          let h = (fields-pass f x).0 p in
          record { version-is = (version-passes f.version x.version).0 v; ack-fits = h.0; source_fits = h.1 };
      fits-passes = λ x s.
          (good, (fields-pass f x).1 (s.ack-fits, s.source_fits), (version-passes f.version x.version).1 s.version-is);
    }

pub writer-laws-c : WriterLaws command_c
writer-laws-c = writer-laws _ taken-c

-- it hands over the octets l, as many of s as the form has, where writing the header left s in the room z for the longest
module _ (f : TcForm) (x : PusTcSecondaryHeader) (z s l : List ℕ) (n : ℕ) (ez : length z ≡ 9) (es : length s ≡ 9)
    (left : s ≡ left_by (sec_write_in f x (length z)) (tc_octets f x) z) (en : n ≡ (tc f).size) (el : l ≡ take n s) where
  longest : form_check f ≡ gives tt → (tc f).size ≤ 9
  longest good = let w = taken f good in omega (arith, w.at_most_two, w.at-most-four)

  passes : form_check f ≡ gives tt → fields_check f x ≡ gives tt → version_in f x.version ≡ gives tt → sec_write_in f x (length z) ≡ gives (tc f).size
  unfolding sec_write_in
  passes good p v =
      let room = refuse-no _ _ _ (le-ltb (length z) (tc f).size (omega (arith, longest good))) in
      gives_then _ _ tt (checks-version f x (length z) _ (gives_then _ _ tt good ∙ p) room ∙ v)

  pub hands : (a : Asks) → asks_answer a ≡ asked_of (command_in f) x → Hands (command_in f) x a l
  hands =
      hands-by (command_in f) x z s l n _ (λ good. omega (arith, longest good)) (λ good. length-octets f good x)
      passes left en el
