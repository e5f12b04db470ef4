-- What a comparison says: yes exactly where both are read, and what it compares is equal.
use Prim.Native.Nat.{ℕ}
use mathlib.Core.Path.{◌≡◌, refl}
use mathlib.Core.Logic.{◌↔◌}
use mathlib.Core.Bool.{Bool, true, false≢true, ◌&&◌, and-eq-true_iff}
use mathlib.Core.List.{List}
use Rattle.space_packet.specs.Answer.{Answer, gives, refuses}
use Rattle.space_packet.specs.Header.{same_header}
use Rattle.space_packet.proofs.Same.{same-header, compared-primary}
use Rattle.std.proofs.Math.Bool.{and_assoc}
use Rattle.ecss.proofs.Octets.{same-octets, pairwise-same, ReadAlike, same_read}
use Rattle.tc_header.specs.Header.{same_sec}
use Rattle.tc_header.specs.declared.TcForm.{TcForm}
use Rattle.tc_header.proofs.Same.{same-sec, compared-secondary}
use Rattle.tc_write.specs.declared.PusTcCreator.{PusTcCreator}
use Rattle.tc_read.specs.Read.{read_in, app_data_in, raw_data_in}
use Rattle.tc_compare.specs.Compare.{reports_creator, equals_creator_in, equals_reader_in}
use Rattle.tc_read.specs.declared.PusTcRecord.{PusTcRecord}

-- what a reader that equals a creator read
pub record ReadAsCreator (a : Answer PusTcRecord) (user : List ℕ) (t : PusTcCreator) (d : List ℕ) : Type 0 where
  pub reported : PusTcRecord
  pub is_read : a ≡ gives reported
  pub primary-equal : reported.sp_header ≡ t.sp_header
  pub secondary-equal : reported.sec_header ≡ t.sec_header
  pub data-equal : user ≡ d

says-creator : (a : Answer PusTcRecord) (user : List ℕ) (t : PusTcCreator) (d : List ℕ) → reports_creator a user t d ≡ true → ReadAsCreator a user t d
says-creator (refuses e) user t d p = absurd (false≢true p)
says-creator (gives r) user t d p =
    let h = (and-eq-true_iff (same_header r.sp_header t.sp_header) _).0 p in
    let x = (and-eq-true_iff (same_sec r.sec_header t.sec_header) _).0 h.1 in
    record {
      reported = r;
      is_read = refl;
      primary-equal = (same-header _ _).0 h.0;
      secondary-equal = (same-sec _ _).0 x.0;
      data-equal = (same-octets user d).0 x.1;
    }

creator-says : (a : Answer PusTcRecord) (user : List ℕ) (t : PusTcCreator) (d : List ℕ) → ReadAsCreator a user t d → reports_creator a user t d ≡ true
creator-says a user t d k =
    rw (k.is_read, (same-header _ _).1 k.primary-equal, (same-sec _ _).1 k.secondary-equal) ((same-octets user d).1 k.data-equal)

-- by both headers and the data
pub equals-creator : (f : TcForm) (s : List ℕ) (b : Bool) (t : PusTcCreator) (d : List ℕ) → (equals_creator_in f s b t d ≡ true) ↔ ReadAsCreator (read_in f s b) (app_data_in f s b) t d
equals-creator f s b t d = (says-creator _ _ t d, creator-says _ _ t d)

-- two readers, by their raw octets
pub equals-reader : (f : TcForm) (s : List ℕ) (b : Bool) (t : List ℕ) (c : Bool)
    → (equals_reader_in f s b t c ≡ true) ↔ ReadAlike (read_in f s b) (read_in f t c) (raw_data_in f s b) (raw_data_in f t c)
equals-reader f s b t c = same_read _ _ _ _

-- what the comparisons answer, by `==`
pub ruleset comparing = (compared-primary, compared-secondary, pairwise-same, and_assoc)
