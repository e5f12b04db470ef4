-- Captures that begin with the same packets, and captures with the same octets behind them: what is found there is the same.
use Prim.Native.Nat.{ℕ, ◌+◌, ◌*◌, ◌-◌, ◌≤◌, ◌<◌}
use mathlib.Core.Path.{◌≡◌, refl, sym, ap, ap₂, ◌∙◌, subst}
use mathlib.Core.List.{List, [], ◌∷◌, ◌++◌}
use native.Mathlib.Omega.{arith}
use lib.ListN.{length, take, drop, length-append, length-drop, take-append-drop, drop_of_length-le}
use lib.Seq.{append_snoc, get_or-take, drop-append-le, take-append-le, drop-append_seam, drop-drop, length-take-le}
use Rattle.space_packet.specs.Answer.{Answer, gives, refuses}
use Rattle.ecss.specs.Frame.{stated_of}
use Rattle.tc_read.specs.declared.PusTcRecord.{PusTcRecord}
use Rattle.tc_strict.specs.Verdict.{strict_of}
use Rattle.tc_strict.specs.Split.{Piece, packet, tail, piece, length_of, is_tail, step_of, walk}
use Rattle.tc_strict.proofs.Pieces.{rest-is, whole, step_end, step-tail, step-packet, step_is, ended_is}
use Rattle.tc_strict.proofs.Walks.{octets_in, TailLast, Steps, steps-walk, steps-only, walk-tail-last}
use Rattle.gaps.specs.Gaps.{command_of}
use Rattle.gaps_exact.specs.History.{commands_of}

-- ---- one packet

stated-take : (l : List ℕ) (n : ℕ) → 6 ≤ n → stated_of (take n l) ≡ stated_of l
stated-take l n h = ap₂ (λ (x y : ℕ). x * 256 + y + 7) (get_or-take n l 4 0 (omega arith)) (get_or-take n l 5 0 (omega arith))

-- octets that begin with the stated total of a packet are that packet
packet-at : (t : List ℕ) (j n : ℕ) (v : Answer PusTcRecord) → j + n ≤ length t → n ≡ stated_of (drop j t) → v ≡ strict_of (take n (drop j t))
    → step_of t j ≡ piece (packet j n v) (j + n)
packet-at t j n v h e k =
    let l = length-drop j t in
    step-packet strict_of t j n v (omega arith) (whole (drop j t) (omega (arith, l, e)) (omega (arith, l, e))) e
    (k ∙ ap (λ (x : List ℕ). strict_of (take n x)) (sym (rest-is t j)))

front : (a b : List ℕ) (i n : ℕ) → i + n ≤ length a → take n (drop i (a ++ b)) ≡ take n (drop i a)
front a b i n h =
    let l = length-drop i a in
    ap (take n) (drop-append-le i a b (omega arith)) ∙ take-append-le n (drop i a) b (omega (arith, l))

-- a packet that stands whole in a front is found there whatever follows
packet-front : (a b t : List ℕ) (i at n : ℕ) (v : Answer PusTcRecord) (next : ℕ) → i + n ≤ length a → step_of (a ++ b) i ≡ piece (packet at n v) next
    → step_of (a ++ t) i ≡ piece (packet at n v) next
packet-front a b t i at n v next h e =
    let q = step_is strict_of (a ++ b) i (packet at n v) next e in
    let i-is : at ≡ i = q.0.begins in
    let n-is : n ≡ stated_of (drop i (a ++ b)) = q.0.judged.0 ∙ ap (λ (x : ℕ). stated_of (drop x (a ++ b))) i-is in
    let v-is : v ≡ strict_of (take n (drop i (a ++ b))) = q.0.judged.1 ∙ ap (λ (x : ℕ). strict_of (take n (drop x (a ++ b)))) i-is in
    let same : take n (drop i (a ++ b)) ≡ take n (drop i (a ++ t)) = front a b i n h ∙ sym (front a t i n h) in
    let six : 6 ≤ n = omega (arith, n-is) in
    let stated : n ≡ stated_of (drop i (a ++ t)) =
    n-is ∙ sym (stated-take (drop i (a ++ b)) n six) ∙ ap stated_of same ∙ stated-take (drop i (a ++ t)) n six in
    let l = length-append a t in
    packet-at (a ++ t) i n v (omega (arith, l, h)) stated (v-is ∙ ap strict_of same)
    ∙ ap₂ (λ (x y : ℕ). piece (packet x n v) y) (sym i-is) (sym q.1)

-- ---- the packets of a front

-- pieces that are packets, so no tail
unfoldable Packets : List Piece → Type 0
Packets [] = Unit {0}
Packets (packet at n v ∷ ps) = Packets ps
Packets (tail at n ∷ ps) = ⊥

steps_front : (a b t : List ℕ) (i : ℕ) (ps qs rs : List Piece) → Packets ps → i + octets_in ps ≡ length a → Steps strict_of (a ++ b) i (ps ++ qs)
    → Steps strict_of (a ++ t) (length a) rs → Steps strict_of (a ++ t) i (ps ++ rs)
unfolding Steps octets_in Packets
steps_front a b t i [] qs rs k e h m = subst (λ (n : ℕ). Steps strict_of (a ++ t) n rs) (let z : length a ≡ i = omega (arith, e) in z) m
steps_front a b t i (packet at n v ∷ ps) qs rs k e h m =
    let x : h.0 ≡ i + n = (step_is strict_of (a ++ b) i (packet at n v) h.0 h.1).1 in
    (h.0, packet-front a b t i at n v h.0 (omega (arith, e)) h.1, steps_front a b t h.0 ps qs rs k (omega (arith, x, e)) h.2 m)
steps_front a b t i (tail at n ∷ ps) qs rs k e h m = absurd k

-- pieces before others end where these begin
steps-at : (s : List ℕ) (i j : ℕ) (ps qs : List Piece) → j ≡ i + octets_in ps → Steps strict_of s i (ps ++ qs) → Steps strict_of s j qs
unfolding Steps octets_in
steps-at s i j [] qs e h = subst (λ (n : ℕ). Steps strict_of s n qs) (let z : i ≡ j = omega (arith, e) in z) h
steps-at s i j (p ∷ ps) qs e h =
    let x : h.0 ≡ i + length_of p = (step_is strict_of s i p h.0 h.1).1 in
    steps-at s h.0 j ps qs (omega (arith, x, e)) h.2

reaches : (s : List ℕ) (i : ℕ) (ps qs : List Piece) → i ≤ length s → Steps strict_of s i (ps ++ qs) → i + octets_in ps ≤ length s
unfolding Steps octets_in
reaches s i [] qs k h = omega (arith, k)
reaches s i (p ∷ ps) qs k h =
    let q = step_is strict_of s i p h.0 h.1 in
    let x : h.0 ≡ i + length_of p = q.1 in
    let inside = q.0.inside in
    let r = reaches s h.0 ps qs (omega (arith, x, inside)) h.2 in
    omega (arith, r, x)

-- ---- the same octets elsewhere

-- pieces from a place on whose commands are those of others
record Alike (t : List ℕ) (j : ℕ) (ps : List Piece) : Type 0 where
  pub pieces : List Piece
  pub steps : Steps strict_of t j pieces
  pub commands : commands_of pieces ≡ commands_of ps

alike-packet : (t : List ℕ) (j at n : ℕ) (v : Answer PusTcRecord) (ps : List Piece) → step_of t j ≡ piece (packet j n v) (j + n) → Alike t (j + n) ps
    → Alike t j (packet at n v ∷ ps)
unfolding Steps commands_of
alike-packet t j at n (gives r) ps e k =
    record { pieces = packet j n (gives r) ∷ k.pieces; steps = (j + n, e, k.steps); commands = ap (λ x. command_of r ∷ x) k.commands }
alike-packet t j at n (refuses x) ps e k =
    record { pieces = packet j n (refuses x) ∷ k.pieces; steps = (j + n, e, k.steps); commands = k.commands }

alike : (s t : List ℕ) (i j : ℕ) (ps : List Piece) → drop i s ≡ drop j t → Steps strict_of s i ps → Alike t j ps
unfolding Steps commands_of
alike s t i j [] e h =
    let k = ended_is strict_of s i h in
    let l : length s - i ≡ length t - j = sym (length-drop i s) ∙ ap length e ∙ length-drop j t in
    record { pieces = []; steps = step_end strict_of t j (omega (arith, k, l)); commands = refl }
alike s t i j (tail at n ∷ ps) e h =
    let q = step_is strict_of s i (tail at n) h.0 h.1 in
    let i-is : at ≡ i = q.0.begins in
    let l : length s - i ≡ length t - j = sym (length-drop i s) ∙ ap length e ∙ length-drop j t in
    let n-is : n ≡ length s - at = q.0.judged.0 in
    let long : 0 < n = q.0.long in
    let next : h.0 ≡ i + n = q.1 in
    let inside : i + n ≤ length s = q.0.inside in
    let rest = alike s t h.0 (length t) ps (drop_of_length-le s {i = h.0} (omega (arith, n-is, i-is, next)) ∙ sym (drop_of_length-le t {i = length t} (omega arith))) h.2 in
    record {
      pieces = tail j (length t - j) ∷ rest.pieces;
      steps = (length t, step-tail strict_of t j (omega (arith, l, long, n-is, i-is)) (ap is_tail (sym e ∙ ap (λ (x : ℕ). drop x s) (sym i-is)) ∙ q.0.judged.1), rest.steps);
      commands = rest.commands;
    }
alike s t i j (packet at n v ∷ ps) e h =
    let q = step_is strict_of s i (packet at n v) h.0 h.1 in
    let i-is : at ≡ i = q.0.begins in
    let l : length s - i ≡ length t - j = sym (length-drop i s) ∙ ap length e ∙ length-drop j t in
    let here : drop at s ≡ drop j t = ap (λ (x : ℕ). drop x s) i-is ∙ e in
    let n-is : n ≡ stated_of (drop j t) = q.0.judged.0 ∙ ap stated_of here in
    let inside : i + n ≤ length s = q.0.inside in
    let long : 0 < n = q.0.long in
    let next : h.0 ≡ i + n = q.1 in
    let behind : drop h.0 s ≡ drop (j + n) t = ap (λ (x : ℕ). drop x s) next ∙ sym (drop-drop n i s) ∙ ap (drop n) e ∙ drop-drop n j t in
    alike-packet t j at n v ps
    (packet-at t j n v (omega (arith, l, inside, long)) n-is (q.0.judged.1 ∙ ap (λ (x : List ℕ). strict_of (take n x)) here))
    (alike s t h.0 (j + n) ps behind h.2)

-- ---- a capture without one of its packets, or with other octets behind it

pub commands-append : (ps qs : List Piece) → commands_of (ps ++ qs) ≡ commands_of ps ++ commands_of qs
unfolding commands_of
commands-append [] qs = refl
commands-append (packet at n (gives r) ∷ ps) qs = ap (λ x. command_of r ∷ x) (commands-append ps qs)
commands-append (packet at n (refuses e) ∷ ps) qs = commands-append ps qs
commands-append (tail at n ∷ ps) qs = commands-append ps qs

no-nil : (ps : List Piece) (q : Piece) (qs : List Piece) → ps ++ (q ∷ qs) ≡ [] → ⊥
no-nil ps q qs e = let z = length-append ps (q ∷ qs) in omega (arith, z, ap length e)

packets-before : (ps : List Piece) (q : Piece) (qs : List Piece) → TailLast (ps ++ (q ∷ qs)) → Packets ps
unfolding TailLast Packets
packets-before [] q qs h = tt
packets-before (packet at n v ∷ ps) q qs h = packets-before ps q qs h
packets-before (tail at n ∷ ps) q qs h = no-nil ps q qs h

packets-with : (ps : List Piece) (at n : ℕ) (v : Answer PusTcRecord) → Packets ps → Packets (ps ++ (packet at n v ∷ []))
unfolding Packets
packets-with [] at n v h = tt
packets-with (packet a k x ∷ ps) at n v h = packets-with ps at n v h
packets-with (tail a k ∷ ps) at n v h = absurd h

octets-append : (ps qs : List Piece) → octets_in (ps ++ qs) ≡ octets_in ps + octets_in qs
unfolding octets_in
octets-append [] qs = omega arith
octets-append (p ∷ ps) qs = let e = octets-append ps qs in omega (arith, e)

-- pieces up to a place, and from it on others
other-end : (s t : List ℕ) (at : ℕ) (ps qs : List Piece) → walk s ≡ ps ++ qs → Packets ps → octets_in ps ≡ at → (rs : List Piece) × (walk (take at s ++ t) ≡ ps ++ rs)
other-end s t at ps qs w k e =
    let all : Steps strict_of s 0 (ps ++ qs) = subst (Steps strict_of s 0) w (steps-walk strict_of s) in
    let a = take at s in
    let rest = alike t (a ++ t) 0 (length a) (walk t) (sym (drop-append_seam a t)) (steps-walk strict_of t) in
    let long : length a ≡ at = length-take-le at s (let z = reaches s 0 ps qs (omega arith) all in omega (arith, z, e)) in
    let whole-walk = subst (λ (x : List ℕ). Steps strict_of x 0 (ps ++ qs)) (sym (take-append-drop at s)) all in
    (rest.pieces, sym (steps-only strict_of (a ++ t) (ps ++ rest.pieces) (steps_front a (drop at s) t 0 ps qs rest.pieces k (omega (arith, long, e)) whole-walk rest.steps)))

module _ (s : List ℕ) (ps : List Piece) (at n : ℕ) (v : Answer PusTcRecord) (qs : List Piece) (w : walk s ≡ ps ++ (packet at n v ∷ qs)) where
  all : Steps strict_of s 0 (ps ++ (packet at n v ∷ qs))
  all = subst (Steps strict_of s 0) w (steps-walk strict_of s)

  here : Steps strict_of s (0 + octets_in ps) (packet at n v ∷ qs)
  here = steps-at s 0 (0 + octets_in ps) ps (packet at n v ∷ qs) refl all

  before-packets : Packets ps
  before-packets = packets-before ps (packet at n v) qs (subst TailLast w (walk-tail-last strict_of s))

  -- its commands are those before and those behind it
  pub without : commands_of (walk (take at s ++ drop (at + n) s)) ≡ commands_of ps ++ commands_of qs
  unfolding Steps
  without =
      let h = here in
      let q = step_is strict_of s (0 + octets_in ps) (packet at n v) h.0 h.1 in
      let at-is : at ≡ 0 + octets_in ps = q.0.begins in
      let next : h.0 ≡ 0 + octets_in ps + n = q.1 in
      let inside : 0 + octets_in ps + n ≤ length s = q.0.inside in
      let a = take at s in
      let t = drop (at + n) s in
      let long : length a ≡ at = length-take-le at s (omega (arith, at-is, inside)) in
      let next-is : h.0 ≡ at + n = omega (arith, next, at-is) in
      let rest = alike s (a ++ t) (at + n) (length a) qs (sym (drop-append_seam a t)) (subst (λ (x : ℕ). Steps strict_of s x qs) next-is h.2) in
      let whole-walk = subst (λ (x : List ℕ). Steps strict_of x 0 (ps ++ (packet at n v ∷ qs))) (sym (take-append-drop at s)) all in
      let steps = steps_front a (drop at s) t 0 ps (packet at n v ∷ qs) rest.pieces before-packets (omega (arith, long, at-is)) whole-walk rest.steps in
      ap commands_of (sym (steps-only strict_of (a ++ t) (ps ++ rest.pieces) steps)) ∙ commands-append ps rest.pieces
      ∙ ap (λ x. commands_of ps ++ x) rest.commands

  -- with other octets behind it the walk finds the same up to it
  pub other-behind : (t : List ℕ) → (rs : List Piece) × (walk (take (at + n) s ++ t) ≡ (ps ++ (packet at n v ∷ [])) ++ rs)
  unfolding Steps octets_in
  other-behind t =
      let h = here in
      let begins : at ≡ 0 + octets_in ps = (step_is strict_of s (0 + octets_in ps) (packet at n v) h.0 h.1).0.begins in
      let sum = octets-append ps (packet at n v ∷ []) in
      other-end s t (at + n) (ps ++ (packet at n v ∷ [])) qs (w ∙ sym (append_snoc ps (packet at n v) qs)) (packets-with ps at n v before-packets)
      (omega (arith, sum, begins))
