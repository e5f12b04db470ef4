-- What a comparison says: yes exactly where both are read, and what it compares is equal.
use Prim.Native.Nat.{ℕ}
use mathlib.Core.Path.{◌≡◌, refl, ap, ◌∙◌}
use mathlib.Core.Logic.{◌↔◌}
use mathlib.Core.Bool.{Bool, true, false≢true, ◌&&◌, and-eq-true_iff}
use mathlib.Core.List.{List}
use lib.Dec.{eqb}
use borrow.Author.Tests.{eq-eqb, eqb-true}
use Rattle.space_packet.specs.Answer.{Answer, gives, refuses}
use Rattle.space_packet.specs.Header.{same_header}
use Rattle.space_packet.proofs.Same.{same-header, compared-primary}
use Rattle.ecss.specs.Frame.{same_octets}
use Rattle.ecss.proofs.Octets.{same-octets, pairwise-same, ReadAlike, same_read}
use Rattle.tm_header.specs.Header.{same_sec}
use Rattle.tm_header.proofs.Same.{same-sec, compared-secondary}
use Rattle.tm_write.specs.declared.PusTmCreator.{PusTmCreator}
use Rattle.tm_read.specs.Read.{read_in, timestamp_in, source_data_in, raw_data_in}
use Rattle.tm_read.specs.declared.PusTmRecord.{PusTmRecord}
use Rattle.tm_compare.specs.Compare.{reports_creator, equals_creator_in, equals_reader_in}

-- what was read compared with a creator, where the comparisons of both headers and the time are known
creator-compared : (a : Answer PusTmRecord) (time user : List ℕ) (c : PusTmCreator) (l d : List ℕ) (r : PusTmRecord) (h x z : Bool) → a ≡ gives r
    → same_header r.sp_header c.sp_header ≡ h → same_sec r.sec_header c.sec_header ≡ x → same_octets time l ≡ z
    → reports_creator a time user c l d ≡ h && (x && (z && same_octets user d))
creator-compared a time user c l d r h x z p q s y =
    ap (λ (k : Answer PusTmRecord). reports_creator k time user c l d) p ∙ (λ i. q i && (s i && (y i && same_octets user d)))

-- what a reader that equals a creator read
pub record ReadAsCreator (a : Answer PusTmRecord) (time user : List ℕ) (c : PusTmCreator) (l d : List ℕ) : Type 0 where
  pub reported : PusTmRecord
  pub is_read : a ≡ gives reported
  pub primary-equal : reported.sp_header ≡ c.sp_header
  pub secondary-equal : reported.sec_header ≡ c.sec_header
  pub time-equal : time ≡ l
  pub data-equal : user ≡ d

says-creator : (a : Answer PusTmRecord) (time user : List ℕ) (c : PusTmCreator) (l d : List ℕ) → reports_creator a time user c l d ≡ true → ReadAsCreator a time user c l d
says-creator (refuses e) time user c l d p = absurd (false≢true p)
says-creator (gives r) time user c l d p =
    let h = (and-eq-true_iff (same_header r.sp_header c.sp_header) _).0 p in
    let x = (and-eq-true_iff (same_sec r.sec_header c.sec_header) _).0 h.1 in
    let z = (and-eq-true_iff (same_octets time l) _).0 x.1 in
    record {
      reported = r;
      is_read = refl;
      primary-equal = (same-header _ _).0 h.0;
      secondary-equal = (same-sec _ _).0 x.0;
      time-equal = (same-octets time l).0 z.0;
      data-equal = (same-octets user d).0 z.1;
    }

-- by the time length, both headers, the time and the data
pub equals-creator : (t : ℕ) (s : List ℕ) (b : Bool) (c : PusTmCreator) (l d : List ℕ)
    → (equals_creator_in t s b c l d ≡ true) ↔ ((t ≡ c.time_len) × ReadAsCreator (read_in t s b) (timestamp_in t s b) (source_data_in t s b) c l d)
equals-creator t s b c l d = (
  λ p.
      let e = (and-eq-true_iff (eqb t c.time_len) _).0 p in
      (eqb-true t _ e.0, says-creator (read_in t s b) (timestamp_in t s b) (source_data_in t s b) c l d e.1),
  λ w.
      let k = w.1 in
      (and-eq-true_iff (eqb t c.time_len) _).1 (
        eq-eqb t _ w.0,
        creator-compared (read_in t s b) (timestamp_in t s b) (source_data_in t s b) c l d k.reported true true true
            k.is_read ((same-header _ _).1 k.primary-equal) ((same-sec _ _).1 k.secondary-equal) ((same-octets _ l).1 k.time-equal)
            ∙ (same-octets (source_data_in t s b) d).1 k.data-equal,
      ),
)

-- two readers, by their raw octets
pub equals-reader : (t : ℕ) (s : List ℕ) (b : Bool) (u : List ℕ) (c : Bool)
    → (equals_reader_in t s b u c ≡ true) ↔ ReadAlike (read_in t s b) (read_in t u c) (raw_data_in t s b) (raw_data_in t u c)
equals-reader t s b u c = same_read _ _ _ _

-- what the check cites of the tests in the code: both headers and octets
pub ruleset parts = (compared-primary, compared-secondary, pairwise-same)
