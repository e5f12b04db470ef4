-- `tm_read::timestamp` meets its contract: in a frame that is given, what stands behind seven octets of the secondary header.
use Prim.Native.Nat.{ℕ, ◌≤◌}
use mathlib.Core.Path.{◌≡◌, sym, ap, ◌∙◌}
use native.Mathlib.Omega.{arith}
use lib.ListN.{length}
use Rattle.space_packet.specs.Answer.{Answer}
use Rattle.space_packet.specs.Part.{Address, beyond}
use Rattle.space_packet.proofs.Parts.{beyond-twice, reached-all}
use Rattle.ecss.specs.Frame.{data_at}
use Rattle.ecss.proofs.After.{frame_found, frame-given}
use Rattle.tm_read.proofs.Records.{time-room}
use Rattle.tm_read.proofs.timestamp.Goals as goal

begins-at : {x z : Answer ℕ} (p : Address) (n : ℕ) → x ≡ z → beyond (data_at n x) p ≡ beyond (data_at n z) p
begins-at p n = ap (λ (z : Answer ℕ). beyond (data_at n z) p)

pub slice_bounds-result-count : goal.slice_bounds-result-count
slice_bounds-result-count c =
    let q = frame_found _ _ _ _ _ _ _ c.in-Ok.ensures c.check_time_len.ensures c.min_len_without_source_data-start.ensures in
    let h = time-room _ _ _ _ (frame-given _ _ _ _ _ q) in
    omega (arith, h, ap length c.sec_header_part.ensures.result_value)

pub slice_bounds-result-start : goal.slice_bounds-result-start
slice_bounds-result-start c =
    let q = frame_found _ _ _ _ _ _ _ c.in-Ok.ensures c.check_time_len.ensures c.min_len_without_source_data-start.ensures in
    let h = time-room _ _ _ _ (frame-given _ _ _ _ _ q) in
    omega (arith, h, ap length c.sec_header_part.ensures.result_value)

pub returns-in-Ok-clause-ref_ptr_value : goal.returns-in-Ok-clause-ref_ptr_value
returns-in-Ok-clause-ref_ptr_value c =
    let a = c.args in
    let q = frame_found _ _ _ _ _ _ _ c.in-Ok.ensures c.check_time_len.ensures c.min_len_without_source_data-start.ensures in
    let w = frame-given _ _ _ _ _ q in
    let h : 6 ≤ length a.slice.now = omega (arith, w.room, w.fits) in
    ap (beyond 7) (c.sec_header_part.ensures.ref_ptr_value ∙ sym (reached-all 6 a.slice.now a.slice.ref_ptr h)) ∙ beyond-twice 6 7 a.slice.ref_ptr
    ∙ sym (begins-at _ _ q)
