-- What a reader finds in octets, for every form: the record, and the parts.
use Prim.Native.Nat.{ℕ, ◌-◌, ◌≤◌}
use mathlib.Core.Path.{◌≡◌, refl, sym, ap, ap₂, ◌∙◌}
use mathlib.Core.Bool.{Bool, true}
use mathlib.Core.List.{List, []}
use native.Mathlib.Omega.{arith}
use lib.ListN.{length, take, drop}
use borrow.Author.Tests.{le-ltb}
use Rattle.std.specs.Prelude.{Option}
use Rattle.space_packet.specs.Answer.{Answer, Numbers, gives, refuses}
use Rattle.space_packet.specs.Header.{header_read, read_header}
use Rattle.space_packet.specs.declared.SpacePacketHeader.{SpacePacketHeader}
use Rattle.space_packet.proofs.Answers.{gives-inj, refuse-no, gives_then, then-refused}
use Rattle.ecss.specs.Frame.{trailer, frame_of, checked_of, frame_after, checked_after, Framed, crc_taken, raw_part, data_part}
use Rattle.ecss.specs.Kind.{secondary_of}
use Rattle.ecss.proofs.After.{frame-given, checked-given, frame-checked, reported, primary-read, secondary-length}
use Rattle.tc_header.specs.Form.{form_c, form_check}
use Rattle.tc_header.specs.Header.{sec_read_in, tc_of, tc}
use Rattle.tc_header.specs.declared.TcForm.{TcForm}
use Rattle.tc_header.proofs.Forms.{taken-c}
use Rattle.tc_header.specs.declared.PusTcSecondaryHeader.{PusTcSecondaryHeader}
use Rattle.tc_read.specs.Read.{start_in, start_c, record_in, frame_in, checked_frame, read_in, checked_in, app_data_in, raw_data_in}
use Rattle.tc_read.specs.declared.PusTcRecord.{PusTcRecord}

-- PUS C, written out: its form is taken
pub frame-c : (s : List ℕ) (b : Bool) → frame_in form_c s b ≡ frame_of start_c s b
unfolding frame_after
frame-c s b = gives_then _ _ tt taken-c

pub checked-c : (s : List ℕ) → checked_frame form_c s ≡ checked_of start_c s
unfolding checked_after
checked-c s = gives_then _ _ tt taken-c

-- ---- what a reader finds in octets that have room for both headers

secondary-read : (f : TcForm) (s : List ℕ) → start_in f ≤ length s → form_check f ≡ gives tt
    → sec_read_in f (secondary_of (tc f).size s) ≡ gives (tc_of f (secondary_of (tc f).size s))
unfolding sec_read_in
secondary-read f s l good =
    gives_then _ _ tt good ∙ refuse-no _ _ _ (le-ltb (length (secondary_of (tc f).size s)) (tc f).size (omega (arith, secondary-length (tc f).size s l)))

-- so neither header is refused there
pub both_read : (f : TcForm) (s t : List ℕ) (b : Bool) (n : ℕ) → Framed (form_check f) (start_in f) b s n → t ≡ secondary_of (tc f).size s
    → (header_read s ≡ gives (read_header s)) × (sec_read_in f t ≡ gives (tc_of f (secondary_of (tc f).size s)))
both_read f s t b n w i =
    let l : start_in f ≤ length s = omega (arith, w.room, w.fits) in
    (primary-read s (omega (arith, l)), ap (sec_read_in f) i ∙ secondary-read f s l w.good)

pub record-read : (f : TcForm) (s t : List ℕ) (b : Bool) (n : ℕ) (h : SpacePacketHeader) (x : PusTcSecondaryHeader) (a e : ℕ) (k : Option ℕ)
    → Framed (form_check f) (start_in f) b s n
    → header_read s ≡ gives h → t ≡ secondary_of (tc f).size s → sec_read_in f t ≡ gives x → a ≡ start_in f → e ≡ n - trailer b → k ≡ crc_taken b s n
    → record { sp_header = h; sec_header = x; start = a; end = e; total = n; crc16 = k } ≡ record_in f s b n
unfolding record_in
record-read f s t b n h x a e k w p i q start end crc =
    let r = both_read f s t b n w i in
    let hs = gives-inj h (read_header s) (sym p ∙ r.0) in
    let xs = gives-inj x (tc_of f (secondary_of (tc f).size s)) (sym q ∙ r.1) in
    λ j. record { sp_header = hs j; sec_header = xs j; start = start j; end = end j; total = n; crc16 = crc j }

-- what a total says of the octets
pub ruleset framed = (frame-given, checked-given)

-- ---- what was read, and the parts

module _ (f : TcForm) (s : List ℕ) where
  -- a record tells the total that it is of
  record-total : (b : Bool) (n : ℕ) → (record_in f s b n).total ≡ n
  unfolding record_in
  record-total b n = refl

  -- a read that gives a record gives that of the total
  pub read_is : (b : Bool) (r : PusTcRecord) → read_in f s b ≡ gives r → (frame_in f s b ≡ gives r.total) × (r ≡ record_in f s b r.total)
  unfolding read_in
  read_is b r p = reported (record_in f s b) (λ x. x.total) (record-total b) (frame_in f s b) r p

  pub checked-is : (r : PusTcRecord) → checked_in f s ≡ gives r → (checked_frame f s ≡ gives r.total) × (r ≡ record_in f s true r.total)
  unfolding checked_in
  checked-is r p = reported (record_in f s true) (λ x. x.total) (record-total true) (checked_frame f s) r p

  -- what is reported where the checksum is compared is reported where it is only taken
  pub checked-read : (r : PusTcRecord) → checked_in f s ≡ gives r → read_in f s true ≡ gives r
  unfolding read_in
  checked-read r p = let q = checked-is r p in gives_then _ _ _ (frame-checked _ _ s r.total q.0) ∙ ap gives (sym q.1)

  -- where the data lies
  bounds : (b : Bool) (r : PusTcRecord) → r ≡ record_in f s b r.total → (r.start ≡ start_in f) × (r.end ≡ r.total - trailer b)
  unfolding record_in
  bounds b r e = (ap (λ (x : PusTcRecord). x.start) e, ap (λ (x : PusTcRecord). x.end) e)

  pub data-part : (b : Bool) (r : PusTcRecord) → read_in f s b ≡ gives r → app_data_in f s b ≡ take (r.end - r.start) (drop r.start s)
  data-part b r p =
      let q = read_is b r p in
      let e = bounds b r q.1 in
      ap (λ (a : Answer ℕ). data_part (start_in f) b a s) q.0
      ∙ ap₂ (λ (x y : ℕ). take (x - y) (drop y s)) (sym e.1) (sym e.0)

  pub raw-part : (b : Bool) (r : PusTcRecord) → read_in f s b ≡ gives r → raw_data_in f s b ≡ take r.total s
  raw-part b r p = ap (λ (a : Answer ℕ). raw_part a s) (read_is b r p).0

  pub checked_refused : (e : Numbers) → checked_in f s ≡ refuses e → checked_frame f s ≡ refuses e
  unfolding checked_in
  checked_refused e p = then-refused (checked_frame f s) (record_in f s true) e p

  -- where the read is refused, both parts are empty
  pub refused-parts : (b : Bool) (e : Numbers) → read_in f s b ≡ refuses e → (app_data_in f s b ≡ []) × (raw_data_in f s b ≡ [])
  unfolding read_in
  refused-parts b e p =
      let q = then-refused (frame_in f s b) (record_in f s b) e p in
      (ap (λ (a : Answer ℕ). data_part (start_in f) b a s) q, ap (λ (a : Answer ℕ). raw_part a s) q)
