-- What the calls on a record of pairs leave: octets that are read as those pairs, and by the pairs that were read the octets as they stood.
use Prim.Native.Nat.{ℕ, ◌≤◌}
use mathlib.Core.Path.{◌≡◌, refl, sym, ap, ◌∙◌}
use mathlib.Core.List.{List, ◌++◌}
use native.Mathlib.Omega.{arith}
use lib.ListN.{length, take, drop}
use lib.Seq.{length-take-le, take_at}
use Rattle.std.specs.Prelude.{Result, Ok}
use Rattle.std.specs.Result.{result_unwrap_or}
use Rattle.space_packet.specs.Answer.{answer_of, outcome, Answer, Kept, gives}
use Rattle.space_packet.specs.declared.PusError.{PusError}
use Rattle.space_packet.specs.Wrote.{Wrote}
use Rattle.space_packet.proofs.Answers.{gives_then, left-written, has_room}
use Rattle.space_packet.proofs.Determined.{answer-inj}
use Rattle.ecss.specs.Frame.{Octets}
use Rattle.param_value.specs.Octets.{size_in, given_by}
use Rattle.params.specs.Parameters.{Row}
use Rattle.params.specs.Request.{holding, pairs_of, read_request, kept_of, request_octets, record_octets, write_in}
use Rattle.params.specs.declared.Pair.{Pair}
use Rattle.params.specs.declared.Params.{Params}
use Rattle.params.proofs.WriteLaws.{request-is}
use Rattle.params_exact.specs.Requests.{request_for}
use Rattle.params_exact.proofs.Inverse.{written_read}
use Rattle.params_exact.proofs.Whole.{pairs-held, read_told}

-- a record's octets are those of its pairs: what is written has no more pairs than places
pub request-held : (l : List Row) (p : Params) (o : List ℕ) → length p.pairs ≡ 255 → record_octets l p ≡ gives o → request_for l (pairs_of p) ≡ gives o
request-held l p o n e =
    let f = (request-is l p.count (pairs_of p) o e).few in
    ap (λ (k : ℕ). request_octets l k (pairs_of p)) (length-take-le p.count p.pairs (omega (arith, f, n))) ∙ e

pub holding-request : (l : List Row) (ps : List Pair) → record_octets l (holding ps) ≡ request_for l ps
unfolding holding
holding-request l ps = ap (request_octets l (length ps)) (pairs-held ps)

kept-is : (ps : List Pair) → (kept_of (gives ps)).kept ≡ holding ps
unfolding kept_of
kept-is ps = refl

-- ---- a write with room

module _ (l : List Row) (p : Params) (o before after : List ℕ) (r : Result ℕ PusError) (e : record_octets l p ≡ gives o) (h : length o ≤ length before) (w : Wrote (write_in l p (length before)) (given_by (record_octets l p)) before r after) where
  answers : write_in l p (length before) ≡ gives (length o)
  unfolding size_in
  answers = gives_then _ _ o e ∙ has_room (length before) (length o) (length o) refl h

  pub request-answered : answer_of r ≡ gives (length o)
  request-answered = w.answered ∙ answers

  pub request-left : after ≡ o ++ drop (length o) before
  request-left =
      w.left
      ∙ left-written _ (given_by (record_octets l p)) before (length o) answers
      ∙ ap (λ (a : Answer (List ℕ)). given_by a ++ drop (length o) before) e

  -- the octets that the code takes for the request's
  pub front-is : (n : ℕ) → n ≡ result_unwrap_or r 0 → take n after ≡ o
  front-is n q =
      let k : n ≡ length o = q ∙ ap (λ (x : Result ℕ PusError). result_unwrap_or x 0) (answer-inj r (Ok (length o)) request-answered) in
      ap (take n) request-left ∙ take_at o _ n (sym k)

-- ---- what was read is written as it stood

-- by the record that reading hands back
pub record-written : (l : List Row) (d before after : List ℕ) (r : Result ℕ PusError) (p : Params) (q : Result (Unit {0}) PusError) → Octets d → outcome q p ≡ kept_of (read_request l d)
    → answer_of q ≡ gives tt → length d ≤ length before → Wrote (write_in l p (length before)) (given_by (record_octets l p)) before r after
    → (answer_of r ≡ gives (length d)) × (after ≡ d ++ drop (length d) before)
record-written l d before after r p q o e t h w =
    let a = read_told l d p q e t in
    let ps = pairs_of p in
    let i : p ≡ holding ps = ap (λ (z : Kept Params). z.kept) e ∙ ap (λ (z : Answer (List Pair)). (kept_of z).kept) a ∙ kept-is ps in
    let j : record_octets l p ≡ gives d = ap (record_octets l) i ∙ holding-request l ps ∙ written_read l ps d o a in
    (request-answered l p d before after r j h w, request-left l p d before after r j h w)
