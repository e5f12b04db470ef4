-- What telemetry owes as a writer, for every length of its time that is taken, and what it hands to the calls that every kind shares.
use Prim.Native.Nat.{ℕ, ◌≤◌}
use mathlib.Core.Path.{◌≡◌, refl, ◌∙◌}
use mathlib.Core.List.{List}
use native.Mathlib.Omega.{arith}
use lib.ListN.{length, take}
use Rattle.space_packet.specs.Answer.{gives}
use Rattle.space_packet.specs.Header.{left_by}
use Rattle.space_packet.proofs.Answers.{gives_then, range-passes, has_room}
use Rattle.ecss.specs.declared.PusVersion.TheVariants.{PusC}
use Rattle.ecss.proofs.Versions.{version-passes}
use Rattle.ecss_write.specs.Write.{asks_answer}
use Rattle.ecss_write.specs.Writer.{WriterLaws, asked_of}
use Rattle.ecss_write.specs.declared.packet.Asks.{Asks}
use Rattle.ecss_write.proofs.Calls.{Hands, hands-by}
use Rattle.tm_header.specs.Header.{TmHeader, tm, tm_octets, asked_time, asked_fields, asked_version, sec_write}
use Rattle.tm_header.proofs.Checks.{time-passes, checks-version}
use Rattle.tm_header.proofs.Laws.{tm-laws, length-octets}
use Rattle.tm_write.specs.Report.{report_by}

-- its checks pass exactly for the headers that the strict checks take
pub writer-laws : (t : ℕ) → t ≤ 16 → WriterLaws (report_by t)
writer-laws t h =
    record {
      kind-laws = tm-laws t;
      passed-fits = λ x q p v.
          record {
            version-is = (version-passes PusC x.fields.pus_version).0 v;
            status-fits = (range-passes 4 15 x.fields.sc_time_ref_status).0 p;
            time-length = ((time-passes t (length x.time)).0 q).1;
          };
      fits-passes = λ x s. (
        (time-passes t (length x.time)).1 (h, s.time-length),
        (range-passes 4 15 x.fields.sc_time_ref_status).1 s.status-fits,
        (version-passes PusC x.fields.pus_version).1 s.version-is,
      );
    }

-- it hands over the octets l, as many of s as the mission's time asks, where writing the header left s in the room z for the longest
module _ (t : ℕ) (x : TmHeader) (z s l : List ℕ) (n : ℕ) (ez : length z ≡ 23) (es : length s ≡ 23)
    (left : s ≡ left_by (sec_write t x (length z)) (tm_octets x) z) (en : n ≡ (tm t).size) (el : l ≡ take n s) where
  fits : (m : ℕ) → m ≡ 23 → asked_time t x ≡ gives tt → (tm t).size ≤ m
  fits m e p = let h = ((time-passes t (length x.time)).0 p).0 in omega arith

  passes : asked_time t x ≡ gives tt → asked_fields x ≡ gives tt → asked_version x ≡ gives tt → sec_write t x (length z) ≡ gives (tm t).size
  unfolding sec_write
  passes p q v =
      gives_then _ _ tt (checks-version t x (length z) _ p q (has_room (length z) (tm t).size _ refl (fits (length z) ez p)) ∙ v)

  pub hands : (a : Asks) → asks_answer a ≡ asked_of (report_by t) x → Hands (report_by t) x a l
  hands =
      hands-by (report_by t) x z s l n _ (fits (length s) es)
      (λ p. length-octets t x ((time-passes t (length x.time)).0 p).1) passes left en el
