-- Written packets are accepted, for every kind: what construction, a write and a reservation give is under the written rules.
use Prim.Native.Nat.{ℕ, ◌+◌, ◌-◌, ◌≤◌}
use mathlib.Core.Path.{◌≡◌, refl, sym, ap, ◌∙◌}
use mathlib.Core.Bool.{Bool, true}
use mathlib.Core.List.{List, ◌++◌}
use native.Mathlib.Omega.{arith}
use lib.ListN.{length}
use Rattle.space_packet.specs.Answer.{gives}
use Rattle.space_packet.specs.Header.{InRange, header_check}
use Rattle.space_packet.specs.declared.SpacePacketHeader.{SpacePacketHeader}
use Rattle.space_packet.proofs.Answers.{gives-inj, then-gives, gives_then}
use Rattle.space_packet.proofs.RoundTrip.{in-range-check, check-in-range}
use Rattle.ecss.specs.Kind.{Rules, judge}
use Rattle.ecss_write.specs.Write.{total_for, with_length, field_with}
use Rattle.ecss_write.specs.Writer.{Writer, WriterLaws, packet_by, start_by, octets_by, as_kind, made_by, check_by, new_by, write_by, reserve_by, Handed}
use Rattle.ecss_write.proofs.Written.{field-total, field-stated, write-given, reserve-given}
use Rattle.exactness.proofs.Exact.{complete}

module _ {H : Type 0} (w : Writer H) (l : WriterLaws w) where
  -- ---- the checks

  pub checked : (h : SpacePacketHeader) (x : H) → check_by w h x ≡ gives tt → (w.first x ≡ gives tt) × InRange h × (w.fields x ≡ gives tt)
  checked h x p =
      let a = then-gives (w.first x) _ tt p in
      let b = then-gives (header_check h) _ tt a.2 in
      (a.1, check-in-range h b.1, b.2)

  check-given : (h : SpacePacketHeader) (x : H) → InRange h → w.kind.Fits x → check_by w h x ≡ gives tt
  check-given h x i f =
      let p = l.fits-passes x f in
      gives_then _ _ tt p.0 ∙ gives_then _ _ tt (in-range-check h i) ∙ p.1

  -- the header's type, flag and length are not among them
  pub check-made : (h : SpacePacketHeader) (x : H) (n : ℕ) → check_by w (with_length (as_kind w h) n) x ≡ check_by w h x
  unfolding header_check
  check-made h x n = refl

  check-kind : (h : SpacePacketHeader) (x : H) → check_by w (as_kind w h) x ≡ check_by w h x
  unfolding header_check
  check-kind h x = refl

  -- ---- nothing is refused

  pub new-given : (h : SpacePacketHeader) (x : H) (b : Bool) (n : ℕ) → check_by w h x ≡ gives tt → total_for (start_by w) b n ≤ 65542
      → new_by w h x b true n ≡ gives (with_length (as_kind w h) (total_for (start_by w) b n - 7))
  unfolding field_with
  new-given h x b n p m = gives_then _ _ _ (gives_then _ _ tt (check-kind h x ∙ p) ∙ field-stated (start_by w) b n m)

  module _ (h : SpacePacketHeader) (x : H) (d : List ℕ) where
    pub handed-rules : Handed w.kind (packet_by h x d) → Rules w.kind (packet_by (made_by w h d) x d)
    handed-rules g =
        record {
          stated =
              record {
                in-range = record { version-fits = g.in-range.version-fits; apid-fits = g.in-range.apid-fits; count_fits = g.in-range.count_fits };
                fits = g.fits;
                states-length = omega arith;
              };
          at_most = g.at_most;
          primary = record { version-zero = g.version-zero; type-is = refl; has-secondary = refl; not-idle = g.not-idle };
        }

    pub handed-new : Handed w.kind (packet_by h x d) → new_by w h x true true (length d) ≡ gives (made_by w h d)
    handed-new g = new-given h x true (length d) (check-given h x g.in-range g.fits) g.at_most

    -- what was made of them was handed over so, but for the version of the secondary header, which is asked at the write
    pub new-handed : (g : SpacePacketHeader) → new_by w h x true true (length d) ≡ gives g → (check_by w h x ≡ gives tt) × (start_by w + length d + 2 ≤ 65542) × (g ≡ made_by w h d)
    unfolding field_with
    new-handed g p =
        let f = then-gives (field_with (check_by w (as_kind w h) x) (start_by w) true (length d) true h.data_len) _ g p in
        let c = then-gives (check_by w (as_kind w h) x) _ f.0 f.1 in
        let t = field-total (start_by w) true (length d) f.0 c.2 in
        (sym (check-kind h x) ∙ c.1, t.1, sym (gives-inj _ g f.2) ∙ ap (with_length (as_kind w h)) t.0)

    pub handed-reserve : (m : ℕ) → Handed w.kind (packet_by h x d) → start_by w + length d + 2 ≤ m → m ≤ 18446744073709551615
        → reserve_by w h x true (length d) m ≡ gives (start_by w + length d + 2)
    handed-reserve m g f k =
        reserve-given _ _ (start_by w) true (length d) m _
        (record { before-passed = check-given h x g.in-range g.fits; after-passed = (l.fits-passes x g.fits).2; is = refl; fits = f }) k g.at_most

    pub rules-write : (m : ℕ) → Rules w.kind (packet_by h x d) → start_by w + length d + 2 ≤ m → m ≤ 18446744073709551615
        → write_by w h x true (length d) m ≡ gives (start_by w + length d + 2)
    rules-write m u f k =
        let p = l.fits-passes x u.stated.fits in
        write-given _ _ (start_by w) true (length d) m _
        (record { before-passed = check-given h x u.stated.in-range u.stated.fits; after-passed = p.2; is = refl; fits = f }) k

    -- and is accepted, with anything after it
    pub rules-accepted : (rest : List ℕ) → Rules w.kind (packet_by h x d) → judge w.kind (octets_by w h x true d ++ rest) ≡ gives (packet_by h x d)
    rules-accepted rest u = complete w.kind l.kind-laws _ (packet_by h x d) (record { rules = u; rest = rest; octets = refl })
