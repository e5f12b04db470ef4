-- The reserved path agrees with the plain write, for every kind.
use Prim.Native.Nat.{ℕ, ◌+◌, ◌-◌, ◌≤◌}
use mathlib.Core.Path.{◌≡◌, refl, sym, ap, ap₂, ◌∙◌}
use mathlib.Core.Bool.{Bool, true}
use mathlib.Core.List.{List, [], ◌++◌, append_assoc, append-nil}
use native.Mathlib.Omega.{arith}
use lib.ListN.{length, take, drop, length-append}
use borrow.Author.Tests.{le-ltb}
use Rattle.space_packet.specs.Answer.{Answer, gives}
use Rattle.space_packet.specs.Header.{header_octets, left_by}
use Rattle.space_packet.specs.declared.SpacePacketHeader.{SpacePacketHeader}
use Rattle.space_packet.proofs.Answers.{refuse-no, gives_then, left-written}
use Rattle.space_packet.proofs.RoundTrip.{length-header_octets}
use Rattle.ecss.specs.Frame.{trailer, closed}
use Rattle.ecss_write.specs.Write.{total_for, with_length}
use Rattle.ecss.specs.Kind.{content_of}
use Rattle.reserve.specs.Reserve.{end_of, holds_in, fill_in, filled_by, finish_in, finished}
use Rattle.reserve.proofs.Filled.{fill-by}
use Rattle.reserve.proofs.Reserved.{in-holds}
use Rattle.ecss_write.proofs.Over.{over-take, over-drop, over-length, over-more}
use Rattle.ecss_write.proofs.Written.{reserves, write-given}
use Rattle.ecss_write.specs.Writer.{Writer, WriterLaws, start_by, content_by, octets_by, as_kind, new_by, write_by, reserve_by, head_by, headed_by}
use Rattle.exactness.specs.Demand3.{held_by}
use Rattle.exactness.proofs.Given.{checked, check-made, new-given}

module _ {H : Type 0} (w : Writer H) (l : WriterLaws w) where
  -- ---- the octets of a packet

  pub content-length : (h : SpacePacketHeader) (x : H) (d : List ℕ) → w.kind.Fits x → length (content_by w h x d) ≡ start_by w + length d
  unfolding content_of
  content-length h x d f =
      let e = w.kind.enc x in
      omega (arith, length-append (header_octets h) (e ++ d), length-append e d, length-header_octets h, l.kind-laws.enc-size x f)

  pub content-parts : (h : SpacePacketHeader) (x : H) (d : List ℕ) → content_by w h x [] ++ d ≡ content_by w h x d
  unfolding content_of
  content-parts h x d =
      let e = w.kind.enc x in append_assoc (header_octets h) (e ++ []) d ∙ ap (λ (z : List ℕ). header_octets h ++ (z ++ d)) (append-nil e)

  -- ---- a buffer `before` in which a packet of the data d was reserved, filled in and finished

  module _ (h : SpacePacketHeader) (x : H) (b : Bool) (d before : List ℕ) (total : ℕ) where
    abbrev pub headed : List ℕ
    headed = headed_by w (reserve_by w h x b (length d) (length before)) (head_by w h x b (length d)) before

    abbrev pub filled : List ℕ
    filled = filled_by (fill_in (start_by w) (held_by w b total) (length headed) (length d)) (start_by w) d headed

    -- it was filled in whole, and finishing answers and leaves what the write of these headers does
    pub record AsWritten : Type 0 where
      pub header : SpacePacketHeader
      pub made : new_by w h x b true (length d) ≡ gives header
      pub writes : write_by w header x b (length d) (length before) ≡ gives total
      pub is : total ≡ total_for (start_by w) b (length d)
      pub fills : fill_in (start_by w) (held_by w b total) (length headed) (length d) ≡ gives (length d)
      pub answers : finish_in (start_by w) (held_by w b total) (length filled) ≡ gives total
      pub leaves :
          left_by (finish_in (start_by w) (held_by w b total) (length filled)) (finished (held_by w b total) filled) filled
          ≡ left_by (write_by w header x b (length d) (length before)) (octets_by w header x b d) before

    pub reserved-agrees : length before ≤ 18446744073709551615 → reserve_by w h x b (length d) (length before) ≡ gives total → AsWritten
    unfolding fill_in finish_in
    reserved-agrees k g =
        let p = reserves _ _ (start_by w) b (length d) (length before) total g in
        let e : total ≡ start_by w + length d + trailer b = p.0.is in
        let f : total ≤ length before = p.0.fits in
        let s : total ≤ 65542 = p.1 in
        let c = checked w l h x p.0.before-passed in
        let fit = l.passed-fits x c.0 c.2 p.0.after-passed in
        let t = with_length (as_kind w h) (total_for (start_by w) b (length d) - 7) in
        let q = held_by w b total in
        let m = headed in
        let y = filled in
        let o = content_by w t x [] in
        let zo : length o ≡ start_by w = content-length t x [] fit ∙ omega arith in
        let zc = content-length t x d fit in
        let em : m ≡ o ++ drop (start_by w) before = ap (λ (a : Answer ℕ). headed_by w a o before) g in
        let sm : length m ≡ length before = ap length em ∙ over-length o before (start_by w) zo (omega arith) in
        let holds : (z : List ℕ) → length z ≡ length before → holds_in (start_by w) q (length z) ≡ gives tt =
        λ z i. in-holds (start_by w) q (length z) (record { starts = refl; room = omega arith; states = s }) (omega arith) in
        let fills = gives_then _ _ tt (holds m sm) ∙ refuse-no _ _ _ (le-ltb (end_of q - start_by w) (length d) (omega arith)) in
        let ey : y ≡ content_by w t x d ++ drop (start_by w + length d) before =
        fill-by _ (start_by w) d m _ fills ∙ over-more o d before m (start_by w) zo em
        ∙ ap (λ (z : List ℕ). z ++ drop (start_by w + length d) before) (content-parts t x d) in
        let sy : length y ≡ length before = ap length ey ∙ over-length (content_by w t x d) before _ zc (omega arith) in
        let fin = gives_then _ _ tt (holds y sy) in
        let wr = write-given _ _ (start_by w) b (length d) (length before) total (record { before-passed = check-made w l h x _ ∙ p.0.before-passed; after-passed = p.0.after-passed; is = p.0.is; fits = f }) k in
        let i : total - trailer b ≡ start_by w + length d = omega arith in
        let j : total ≡ start_by w + length d + trailer b = e in
        record {
          header = t;
          made = new-given w l h x b (length d) p.0.before-passed (omega arith);
          writes = wr;
          is = p.0.is;
          fills = fills;
          answers = fin;
          leaves =
              left-written _ _ _ _ fin
              ∙ ap₂ (λ (u v : List ℕ). closed b u ++ v)
              (ap (λ (n : ℕ). take n y) i ∙ over-take (content_by w t x d) before y _ zc ey)
              (ap (λ (n : ℕ). drop n y) j ∙ over-drop (content_by w t x d) before y _ (trailer b) zc ey ∙ ap (λ (n : ℕ). drop n before) (sym j))
              ∙ sym (left-written _ _ _ _ wr);
        }
