-- `input::put_all` meets its contract: what a turn writes stands between what was written and what is left.
use Rattle.std.proofs.Common.{◌≡◌, ℕ, ◌+◌, ◌-◌, ◌≤◌, List, ◌++◌, length, take, drop, refl, sym, ap, ◌∙◌, subst, arith}
use Rattle.std.proofs.Math.Seq.{take-add, drop-drop}
use Rattle.std.proofs.lemmas.List.{take_rest, length-drop}
use Rattle.std.proofs.KnownBytes.{Appends-trans}
use Rattle.std.specs.Io.KnownBytes.{Appends}
use Rattle.input.proofs.put_all.Goals as goal

-- n octets more of a text, of which `rest` is left
further : (text rest : List ℕ) (n : ℕ) → length rest ≤ length text → rest ≡ drop (length text - length rest) text → n ≤ length rest
    → (left : List ℕ) → left ≡ take (length rest - n) (drop n rest)
    → (length left ≤ length text) × (left ≡ drop (length text - length left) text) × (take (length text - length left) text ≡ take (length text - length rest) text ++ take n rest)
further text rest n short is bound left e =
    let dropped : left ≡ drop n rest = e ∙ take_rest rest n in
    let long : length left ≡ length rest - n = ap length dropped ∙ length-drop n rest in
    let at = length text - length rest in
    let on : length text - length left ≡ at + n = omega arith in (
      omega arith,
      dropped ∙ ap (drop n) is ∙ drop-drop n at text ∙ sym (ap (λ k. drop k text) on),
      ap (λ k. take k text) on ∙ take-add at n text ∙ ap (λ l. take at text ++ take n l) (sym is),
    )

pub loop-rest-preserved : goal.loop-rest-preserved
loop-rest-preserved g c =
    let text = c.args.text.now in
    let rest = c.loop-rest.rest.now in
    let (short, is, before) = c.loop-rest.invariant in
    let k = further text rest c.in_ok-n.n short is c.in_ok-n.ensures.bound _ refl in
    (k.0, k.1, subst (Appends _ _) (sym k.2) (Appends-trans _ _ _ _ _ before c.in_ok-n.ensures.bytes))
