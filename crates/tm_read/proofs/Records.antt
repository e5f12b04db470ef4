-- What a reader finds in octets, for every length of the time: the record, and the parts.
use Prim.Native.Nat.{ℕ, ◌-◌, ◌≤◌}
use mathlib.Core.Path.{◌≡◌, refl, sym, ap, ap₂, ◌∙◌}
use mathlib.Core.Bool.{Bool, true}
use mathlib.Core.List.{List, []}
use native.Mathlib.Omega.{arith}
use lib.ListN.{length, take, drop, length-drop}
use lib.Seq.{take-add, drop_at, drop-drop, length-take-le}
use borrow.Author.Tests.{le-ltb}
use Rattle.std.specs.Prelude.{Option}
use Rattle.space_packet.specs.Answer.{Answer, Numbers, gives, refuses}
use Rattle.space_packet.specs.Header.{header_read, read_header}
use Rattle.space_packet.specs.declared.SpacePacketHeader.{SpacePacketHeader}
use Rattle.space_packet.proofs.Answers.{gives-inj, refuse-no, gives_then, then-refused}
use Rattle.ecss.specs.Frame.{trailer, Framed, crc_taken, raw_part, data_part}
use Rattle.ecss.specs.Kind.{secondary_of}
use Rattle.ecss.proofs.After.{frame-given, checked-given, frame-checked, reported, primary-read, secondary-length}
use Rattle.tm_header.specs.Header.{time_limit, sec_read, fields_of, time_of, tm}
use Rattle.tm_header.specs.declared.PusTmSecondaryHeader.{PusTmSecondaryHeader}
use Rattle.tm_read.specs.Read.{start_in, record_in, frame_in, checked_frame, read_in, checked_in, time_part, timestamp_in, source_data_in, raw_data_in}
use Rattle.tm_read.specs.declared.PusTmRecord.{PusTmRecord}

-- ---- what a reader finds in octets that have room for both headers

secondary-read : (t : ℕ) (s : List ℕ) → start_in t ≤ length s → time_limit t ≡ gives tt
    → sec_read t (secondary_of (tm t).size s) ≡ gives (fields_of (secondary_of (tm t).size s))
unfolding sec_read
secondary-read t s l good =
    gives_then _ _ tt good ∙ refuse-no _ _ _ (le-ltb (length (secondary_of (tm t).size s)) (tm t).size (omega (arith, secondary-length (tm t).size s l)))

-- so neither header is refused there
pub both_read : (t : ℕ) (s l : List ℕ) (b : Bool) (n : ℕ) → Framed (time_limit t) (start_in t) b s n → l ≡ secondary_of (tm t).size s
    → (header_read s ≡ gives (read_header s)) × (sec_read t l ≡ gives (fields_of (secondary_of (tm t).size s)))
both_read t s l b n w i =
    let h : start_in t ≤ length s = omega (arith, w.room, w.fits) in
    (primary-read s (omega (arith, h)), ap (sec_read t) i ∙ secondary-read t s h w.good)

pub record-read : (t : ℕ) (s l : List ℕ) (b : Bool) (n : ℕ) (h : SpacePacketHeader) (x : PusTmSecondaryHeader) (a e : ℕ) (k : Option ℕ)
    → Framed (time_limit t) (start_in t) b s n
    → header_read s ≡ gives h → l ≡ secondary_of (tm t).size s → sec_read t l ≡ gives x → a ≡ start_in t → e ≡ n - trailer b → k ≡ crc_taken b s n
    → record { sp_header = h; sec_header = x; start = a; end = e; total = n; crc16 = k } ≡ record_in t s b n
unfolding record_in
record-read t s l b n h x a e k w p i q start end crc =
    let r = both_read t s l b n w i in
    let hs = gives-inj h (read_header s) (sym p ∙ r.0) in
    let xs = gives-inj x (fields_of (secondary_of (tm t).size s)) (sym q ∙ r.1) in
    λ j. record { sp_header = hs j; sec_header = xs j; start = start j; end = end j; total = n; crc16 = crc j }

-- what the check cites of a total that was given
pub ruleset framed = (frame-given, checked-given)

-- ---- what was read, and the parts

-- a frame has room for the time behind seven octets
pub time-room : (t : ℕ) (s : List ℕ) (b : Bool) (n : ℕ) → Framed (time_limit t) (start_in t) b s n → 7 ≤ length (secondary_of (tm t).size s)
time-room t s b n w =
    let h : start_in t ≤ length s = omega (arith, w.room, w.fits) in
    omega (arith, secondary-length (tm t).size s h)

module _ (t : ℕ) (s : List ℕ) where
  -- a record tells the total that it is of
  record-total : (b : Bool) (n : ℕ) → (record_in t s b n).total ≡ n
  unfolding record_in
  record-total b n = refl

  -- a read that gives a record gives that of the total
  pub read_is : (b : Bool) (r : PusTmRecord) → read_in t s b ≡ gives r → (frame_in t s b ≡ gives r.total) × (r ≡ record_in t s b r.total)
  unfolding read_in
  read_is b r p = reported (record_in t s b) (λ x. x.total) (record-total b) (frame_in t s b) r p

  pub checked-is : (r : PusTmRecord) → checked_in t s ≡ gives r → (checked_frame t s ≡ gives r.total) × (r ≡ record_in t s true r.total)
  unfolding checked_in
  checked-is r p = reported (record_in t s true) (λ x. x.total) (record-total true) (checked_frame t s) r p

  -- what is reported where the checksum is compared is reported where it is only taken
  pub checked-read : (r : PusTmRecord) → checked_in t s ≡ gives r → read_in t s true ≡ gives r
  unfolding read_in
  checked-read r p = let q = checked-is r p in gives_then _ _ _ (frame-checked _ _ s r.total q.0) ∙ ap gives (sym q.1)

  -- where the data lies
  bounds : (b : Bool) (r : PusTmRecord) → r ≡ record_in t s b r.total → (r.start ≡ start_in t) × (r.end ≡ r.total - trailer b)
  unfolding record_in
  bounds b r e = (ap (λ (x : PusTmRecord). x.start) e, ap (λ (x : PusTmRecord). x.end) e)

  pub data-part : (b : Bool) (r : PusTmRecord) → read_in t s b ≡ gives r → source_data_in t s b ≡ take (r.end - r.start) (drop r.start s)
  data-part b r p =
      let q = read_is b r p in
      let e = bounds b r q.1 in
      ap (λ (a : Answer ℕ). data_part (start_in t) b a s) q.0
      ∙ ap₂ (λ (x y : ℕ). take (x - y) (drop y s)) (sym e.1) (sym e.0)

  pub raw-part : (b : Bool) (r : PusTmRecord) → read_in t s b ≡ gives r → raw_data_in t s b ≡ take r.total s
  raw-part b r p = ap (λ (a : Answer ℕ). raw_part a s) (read_is b r p).0

  -- the time stands from octet 13 up to the data
  pub time-part : (b : Bool) (r : PusTmRecord) → read_in t s b ≡ gives r → timestamp_in t s b ≡ take t (drop 13 s)
  time-part b r p =
      let q = (read_is b r p).0 in
      let w = frame-given _ _ s b r.total q in
      let h : 7 ≤ length (drop 6 s) = omega (arith, length-drop 6 s, w.room, w.fits) in
      ap (λ (a : Answer ℕ). time_part t a s) q
      ∙ ap time_of (take-add 7 t (drop 6 s)) ∙ drop_at (take 7 (drop 6 s)) _ 7 (length-take-le 7 (drop 6 s) h)
      ∙ ap (take t) (drop-drop 7 6 s)

  pub checked_refused : (e : Numbers) → checked_in t s ≡ refuses e → checked_frame t s ≡ refuses e
  unfolding checked_in
  checked_refused e p = then-refused (checked_frame t s) (record_in t s true) e p

  -- where the read is refused, every part is empty
  pub refused-parts : (b : Bool) (e : Numbers) → read_in t s b ≡ refuses e → (timestamp_in t s b ≡ []) × (source_data_in t s b ≡ []) × (raw_data_in t s b ≡ [])
  unfolding read_in
  refused-parts b e p =
      let q = then-refused (frame_in t s b) (record_in t s b) e p in
      (ap (λ (a : Answer ℕ). time_part t a s) q, ap (λ (a : Answer ℕ). data_part (start_in t) b a s) q, ap (λ (a : Answer ℕ). raw_part a s) q)
