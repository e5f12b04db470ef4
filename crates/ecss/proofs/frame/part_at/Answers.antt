-- `frame::part_at` meets its contract: the octets behind the first `at`, up to n of them.
use Prim.Native.Nat.{◌-◌}
use mathlib.Core.Path.{sym, ap, ◌∙◌}
use native.Mathlib.Omega.{arith}
use lib.ListN.{length, take, drop, length-drop}
use lib.Seq.{take_all}
use Rattle.space_packet.proofs.Parts.{reached-none, reached-all}
use Rattle.ecss.proofs.Frames.{none_left}
use Rattle.ecss.proofs.frame.part_at.Goals as goal

pub returns-then-s-at : goal.returns-then-s-at
returns-then-s-at c =
    let a = c.args in
    let h = c.if-s-at.true in record { result_value = sym (none_left a.at a.n a.s.now h); ref_ptr_value = reached-none a.at a.s.now a.s.ref_ptr h }

pub returns : goal.returns
returns c =
    let a = c.args in
    let r = c.front.ensures in record {
      result_value =
          r.result_value ∙ ap (take a.n) (take_all (length a.s.now - a.at) (drop a.at a.s.now) (omega (arith, length-drop a.at a.s.now)));
      ref_ptr_value =
          r.ref_ptr_value ∙ reached-all a.at a.s.now a.s.ref_ptr c.if-s-at.false;
    }
