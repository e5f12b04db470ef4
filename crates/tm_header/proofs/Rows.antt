-- The octets of the secondary header are the row of its fields and its time, written and read, for every length of the time.
use Prim.Native.Nat.{ℕ, ◌+◌, ◌*◌, ◌≤◌}
use mathlib.Core.Path.{◌≡◌, sym, ap, ◌∙◌}
use mathlib.Core.Bool.{Bool}
use mathlib.Core.List.{List, ◌++◌, append_assoc}
use native.Mathlib.Omega.{arith}
use Rattle.space_packet.specs.Bits.{bits, row, be16}
use Rattle.space_packet.proofs.Rows.{bits-split, word_row}
use Rattle.ecss.specs.Kind.{Taken}
use Rattle.ecss.specs.Version.{version_number}
use Rattle.tm_header.specs.Header.{TmHeader, tm_row, tm_octets, fields_of, tm_of, tm}
use Rattle.tm_header.proofs.Laws.{written_read}

-- the octets that are written for a header
pub layout : (x : TmHeader) → x.fields.sc_time_ref_status ≤ 15 → row (tm_octets x) ≡ tm_row x
unfolding row tm_octets tm_row
layout x h =
    let v = version_number x.fields.pus_version in
    let s = x.fields.sc_time_ref_status in
    let o : bits 8 (v * 16 + s) ≡ bits 4 v ++ bits 4 s = bits-split 4 4 v s (omega arith) in
    let w = word_row x.fields.msg_counter (be16 x.fields.dest_id ++ x.time)
    ∙ ap (λ (l : List Bool). bits 16 x.fields.msg_counter ++ l) (word_row x.fields.dest_id x.time) in
    (λ i. o i ++ (bits 8 x.fields.message_type_id.type_id ++ (bits 8 x.fields.message_type_id.subtype_id ++ w i)))
    ∙ simp append_assoc

-- the header that is read from octets of version 2, as it is always reported
pub layout-read : (t : ℕ) (l : List ℕ) → Taken (tm t) l → tm_row (tm_of l) ≡ row l
unfolding tm_of fields_of
layout-read t l k = sym (layout (tm_of l) (omega arith)) ∙ ap row (written_read t l k)
