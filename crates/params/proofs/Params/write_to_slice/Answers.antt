-- `Params::write_to_slice` meets its contract: the count, and the pairs behind it.
use mathlib.Core.Path.{sym}
use native.Mathlib.Omega.{arith}
use lib.ListN.{length-set}
use Rattle.params.specs.Request.{pairs_of}
use Rattle.params.proofs.WriteLaws.{count_fits, total-is, pairs-room, wrote-done}
use Rattle.params.proofs.Params.write_to_slice.Goals as goal

pub overflow_cast-buf : goal.overflow_cast-buf
overflow_cast-buf c =
    let p = c.args.self.now in
    omega (arith, count_fits c.args.list.now p.count (pairs_of p) _ c.args.buf.now (sym c.in_ok-total.ensures) c.if-buf-total.false)

pub bounds-buf-0 : goal.bounds-buf-0
bounds-buf-0 c =
    let p = c.args.self.now in
    omega (arith, total-is c.args.list.now p.count (pairs_of p) _ c.args.buf.now (sym c.in_ok-total.ensures) c.if-buf-total.false, c.if-buf-total.false)

pub put_pairs-requires : goal.put_pairs-requires
put_pairs-requires c =
    let p = c.args.self.now in
    pairs-room c.args.list.now p.count (pairs_of p) _ c.args.buf.now (sym c.in_ok-total.ensures) c.if-buf-total.false _ (length-set c.args.buf.now 0 _)

pub returns : goal.returns
returns c =
    let p = c.args.self.now in
    wrote-done c.args.list.now p.count (pairs_of p) _ c.args.buf.now (sym c.in_ok-total.ensures) c.if-buf-total.false _ c.put_pairs.ensures
