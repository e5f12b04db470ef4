-- `params::put_pair` meets its contract: two octets of the ID, then the value's.
use mathlib.Core.Path.{◌≡◌, ap, ◌∙◌}
use mathlib.Core.List.{List, [], ◌∷◌, ◌++◌}
use Prim.Native.Nat.{ℕ, ◌+◌, ◌/◌, ◌%◌}
use native.Mathlib.Omega.{arith}
use Rattle.std.proofs.Common.{rules}
use Rattle.std.specs.Prelude.{Some}
use Rattle.space_packet.specs.Bits.{be16}
use Rattle.params.specs.Parameters.{row_of}
use Rattle.params.proofs.Lists.{row-is, found-row}
use Rattle.params.proofs.WriteLaws.{pair-length, pair-known, pair-put}
use Rattle.params.proofs.put_pair.Goals as goal

pub unwrap-requires : goal.unwrap-requires
unwrap-requires c =
    let l = c.args.list.now in
    let p = c.args.pair in
    let e : c.find_row.result ≡ Some (row_of l p.id) = c.find_row.ensures ∙ row-is l p.id (pair-known l p c.args.part.now c.requires) in
    search rules

pub split_at_mut-id-requires : goal.split_at_mut-id-requires
split_at_mut-id-requires c =
    omega (arith, pair-length c.args.list.now c.args.pair c.requires.octets c.requires.are, c.requires.room)

pub unwrap-requires-2 : goal.unwrap-requires-2
unwrap-requires-2 c =
    let a = c.args in
    let e = found-row a.list.now a.pair.id _ _ c.find_row.ensures c.unwrap.ensures in
    let put = pair-put a.list.now a.pair a.part.now c.requires _ _ _ _ e c.split_at_mut-id.ensures.back c.write_value.ensures in
    rw put.done

pub overflow_add-result : goal.overflow_add-result
overflow_add-result c =
    let a = c.args in
    let e = found-row a.list.now a.pair.id _ _ c.find_row.ensures c.unwrap.ensures in
    let put = pair-put a.list.now a.pair a.part.now c.requires _ _ _ _ e c.split_at_mut-id.ensures.back c.write_value.ensures in
    let n : c.unwrap-2.result ≡ put.size = cc (put.done, c.unwrap-2.ensures) in
    omega (arith, n, put.few)

pub returns : goal.returns
returns c =
    let a = c.args in
    let e = found-row a.list.now a.pair.id _ _ c.find_row.ensures c.unwrap.ensures in
    let put = pair-put a.list.now a.pair a.part.now c.requires _ _ _ _ e c.split_at_mut-id.ensures.back c.write_value.ensures in
    let n : c.unwrap-2.result ≡ put.size = cc (put.done, c.unwrap-2.ensures) in
    let h : a.pair.id / 256 % 256 ≡ a.pair.id / 256 = omega arith in
    let i : c.copy_from_slice.new.self ≡ be16 a.pair.id = c.copy_from_slice.ensures.after ∙ c.to_be_bytes.ensures ∙ ap (λ (x : ℕ). x ∷ a.pair.id % 256 ∷ []) h in (
      ap (λ (k : ℕ). 2 + k) n ∙ put.whole,
      ap (λ (x : List ℕ). x ++ c.write_value.new.buf) i ∙ put.left,
    )
