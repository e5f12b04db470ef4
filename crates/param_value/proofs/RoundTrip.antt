-- Reading and writing in octets invert each other.
use Prim.Native.Nat.{ℕ, ◌^◌, ◌≤◌, ◌<◌}
use mathlib.Core.Path.{◌≡◌, sym, ap, ◌∙◌, subst}
use mathlib.Core.List.{List, ◌++◌}
use native.Mathlib.Omega.{arith}
use lib.ListN.{length, take, length-append}
use lib.Seq.{length-take-le, take_at}
use Rattle.space_packet.specs.Answer.{gives}
use Rattle.param_value.specs.declared.Value.{Value}
use Rattle.param_value.specs.Octets.{Octets, number_of, octets_of}
use Rattle.param_value.specs.Values.{Held, octets_for, value_of, pattern_of, read_value, value_octets}
use Rattle.param_value.proofs.Numbers.{number-back, octets-back}
use Rattle.param_value.proofs.Inverse.{value-back, value-again}
use Rattle.param_value.proofs.Calls.{octets-take, number_lt, octets_length, read_is, read-gives, octets-given, octets-are}
use Rattle.param_value.proofs.Types.{pattern-is}

-- what is read is written as it stood
pub read-write : (ptc pfc : ℕ) (s : List ℕ) (v : Value) → Octets s → read_value ptc pfc s ≡ gives v → value_octets ptc pfc v ≡ gives (take (octets_for ptc pfc) s)
read-write ptc pfc s v o e =
    let r = read_is ptc pfc s v e in
    let k = octets_for ptc pfc in
    let l : length (take k s) ≡ k = length-take-le k s r.fits in
    let t = octets-take k s o in
    let n : number_of (take k s) < 256 ^ k = subst (λ (j : ℕ). number_of (take k s) < 256 ^ j) l (number_lt (take k s) t) in
    octets-given ptc pfc v (number_of (take k s)) (ap (pattern_of ptc pfc) (sym r.is) ∙ value-back ptc pfc (number_of (take k s)) r.named n)
    ∙ ap gives (ap (λ (j : ℕ). octets_of j (number_of (take k s))) (sym l) ∙ octets-back (take k s) t)

-- what is written is of the length of its type
pub written-length : (ptc pfc : ℕ) (v : Value) (l : List ℕ) → value_octets ptc pfc v ≡ gives l → length l ≡ octets_for ptc pfc
written-length ptc pfc v l e =
    let r = octets-are ptc pfc v l e in ap length (sym r.is) ∙ octets_length (octets_for ptc pfc) r.number

-- and is read again, whatever stands behind it
pub write_read : (ptc pfc : ℕ) (v : Value) (l rest : List ℕ) → Held v → value_octets ptc pfc v ≡ gives l → read_value ptc pfc (l ++ rest) ≡ gives v
write_read ptc pfc v l rest w e =
    let r = octets-are ptc pfc v l e in
    let k = octets_for ptc pfc in
    let a = pattern-is ptc pfc v r.number r.pattern in
    let g = value-again ptc pfc v r.number w r.pattern in
    let n = written-length ptc pfc v l e in
    let f : k ≤ length (l ++ rest) = (let q = length-append l rest in omega arith) in
    let t : take k (l ++ rest) ≡ octets_of k r.number = take_at l rest k n ∙ sym r.is in
    read-gives ptc pfc (l ++ rest) a.named f
    ∙ ap gives (ap (λ (x : List ℕ). value_of ptc pfc (number_of x)) t ∙ ap (value_of ptc pfc) (number-back k r.number g.within) ∙ g.same)
