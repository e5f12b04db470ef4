-- Where a walk is refused: the command at which it is, that nothing behind it is read, and with which number by the commands alone.
use Prim.Native.Nat.{ℕ, ◌+◌, ◌≤◌, ◌<◌}
use mathlib.Core.Path.{◌≡◌, refl, sym, ap, ◌∙◌}
use mathlib.Core.Bool.{Bool, true, false}
use mathlib.Core.List.{List, [], ◌∷◌, ◌++◌, append-nil}
use native.Mathlib.Omega.{arith}
use borrow.Author.Tests.{eq-eqb, leb-true, leb-false}
use lib.Dec.{leb}
use lib.ListN.{length, take, length-append}
use lib.Seq.{append_snoc}
use Rattle.space_packet.specs.Answer.{Numbers, refusal, gives, refuses}
use Rattle.space_packet.specs.Bits.{pick}
use Rattle.space_packet.proofs.Answers.{never}
use Rattle.tc_read.specs.declared.PusTcRecord.{PusTcRecord}
use Rattle.tc_strict.specs.Split.{Piece, packet, tail, walk}
use Rattle.gaps.specs.Gaps.{Rows, place_of, expected_at, State, Move, on, lists, stop, with_refused, with_tail, command_of, command_move, move_of, Outcome, followed, scan, begin, gaps_of}
use Rattle.gaps.specs.declared.Command.{Command}
use Rattle.gaps.proofs.Scans.{full, no_place}
use Rattle.gaps_exact.specs.History.{Seen, commands_of, seen_in, gap_after, gaps_behind, is_new, new_behind, Is65th, NoPlace, RefusedAt}
use Rattle.gaps_exact.proofs.Captures.{other-behind}
use Rattle.gaps_exact.proofs.Follows.{back, gaps-split, new_split}
use Rattle.gaps_exact.proofs.History.{Reached, reached-first}
use Rattle.gaps_exact.proofs.Tables.{seen_at, unseen}

-- ---- the command at which it is refused

-- a piece that is taken
later : (places : ℕ) (s t : State) (p : Piece) (ps : List Piece) (e : Numbers) → ((qs : List Piece) → (scan places s (p ∷ qs)).answer ≡ (scan places t qs).answer)
    → RefusedAt places t ps e → RefusedAt places s (p ∷ ps) e
later places s t p ps e f k = record {
  before = p ∷ k.before;
  at = k.at;
  n = k.n;
  command = k.command;
  behind = k.behind;
  pieces = ap (λ (x : List Piece). p ∷ x) k.pieces;
  totals = k.totals;
  taken = f k.before ∙ k.taken;
  refused = f (k.before ++ (packet k.at k.n (gives k.command) ∷ [])) ∙ k.refused;
}

module _ (places : ℕ) (s : State) (at n : ℕ) (r : PusTcRecord) (ps : List Piece) (e : Numbers)
    (on-rest : (t : State) → (scan places t ps).answer ≡ refuses e → RefusedAt places t ps e) where
  taken-by : (t : State) → ((qs : List Piece) → (scan places s (packet at n (gives r) ∷ qs)).answer ≡ (scan places t qs).answer)
      → (scan places s (packet at n (gives r) ∷ ps)).answer ≡ refuses e → RefusedAt places s (packet at n (gives r) ∷ ps) e
  taken-by t f h = later places s t (packet at n (gives r)) ps e f (on-rest t (sym (f ps) ∙ h))

  by_move : (m : Move) → command_move places s n (command_of r) ≡ m → (scan places s (packet at n (gives r) ∷ ps)).answer ≡ refuses e
      → RefusedAt places s (packet at n (gives r) ∷ ps) e
  unfolding scan
  by_move (on t) q = taken-by t (λ qs. ap (λ (m : Move). (followed m (λ (u : State). scan places u qs)).answer) q)
  by_move (lists row t) q = taken-by t (λ qs. ap (λ (m : Move). (followed m (λ (u : State). scan places u qs)).answer) q)
  by_move (stop x) q = λ h.
      let f : (qs : List Piece) → (scan places s (packet at n (gives r) ∷ qs)).answer ≡ refuses x = λ qs. ap (λ (m : Move). (followed m (λ (u : State). scan places u qs)).answer) q in
      record { before = []; at = at; n = n; command = r; behind = ps; pieces = refl; totals = s.totals; taken = refl; refused = f [] ∙ sym (f ps) ∙ h }

refused-from : (places : ℕ) (ps : List Piece) (e : Numbers) (s : State) → (scan places s ps).answer ≡ refuses e → RefusedAt places s ps e
unfolding scan
refused-from places [] e s h = absurd (never s.totals e (sym h))
refused-from places (tail at n ∷ ps) e s h =
    let t : State = record { lasts = s.lasts; listed = s.listed; totals = with_tail s.totals n } in
    later places s t (tail at n) ps e (λ qs. refl) (refused-from places ps e t h)
refused-from places (packet at n (refuses x) ∷ ps) e s h =
    let t : State = record { lasts = s.lasts; listed = s.listed; totals = with_refused s.totals n } in
    later places s t (packet at n (refuses x)) ps e (λ qs. refl) (refused-from places ps e t h)
refused-from places (packet at n (gives r) ∷ ps) e s h =
    by_move places s at n r ps e (refused-from places ps e) (command_move places s n (command_of r)) refl h

-- Every refused capture has a command at which it is refused.
pub refused-at : (places : ℕ) (s : List ℕ) (e : Numbers) → (gaps_of places s).answer ≡ refuses e → RefusedAt places begin (walk s) e
refused-at places s e h = refused-from places (walk s) e begin h

-- ---- nothing behind it is read

stops-by : (places : ℕ) (ps qs : List Piece) (e : Numbers) (m : Move)
    → ((t : State) → (scan places t ps).answer ≡ refuses e → scan places t (ps ++ qs) ≡ scan places t ps)
    → (followed m (λ (t : State). scan places t ps)).answer ≡ refuses e
    → followed m (λ (t : State). scan places t (ps ++ qs)) ≡ followed m (λ (t : State). scan places t ps)
stops-by places ps qs e (on t) f h = f t h
stops-by places ps qs e (lists row t) f h = ap (λ (o : Outcome). record { rows = row ∷ o.rows; answer = o.answer }) (f t h)
stops-by places ps qs e (stop n) f h = refl

stops : (places : ℕ) (ps qs : List Piece) (e : Numbers) (t : State) → (scan places t ps).answer ≡ refuses e → scan places t (ps ++ qs) ≡ scan places t ps
unfolding scan
stops places [] qs e t h = absurd (never t.totals e (sym h))
stops places (p ∷ ps) qs e t h = stops-by places ps qs e (move_of places t p) (stops places ps qs e) h

-- Other octets behind that command change nothing.
pub nothing-after : (places : ℕ) (s t : List ℕ) (e : Numbers) (k : RefusedAt places begin (walk s) e) → gaps_of places (take (k.at + k.n) s ++ t) ≡ gaps_of places s
nothing-after places s t e k =
    let p = packet k.at k.n (gives k.command) in
    let ps = k.before ++ (p ∷ []) in
    let o = other-behind s k.before k.at k.n (gives k.command) k.behind k.pieces t in
    ap (scan places begin) o.1 ∙ stops places ps o.0 e begin k.refused ∙ sym (stops places ps k.behind e begin k.refused)
    ∙ ap (scan places begin) (append_snoc k.before p k.behind ∙ sym k.pieces)

-- ---- by the commands alone

-- an APID that is new stands behind the last
new-place : (ls : List Command) (a : ℕ) (b : Bool) → leb (length ls) (place_of ls a) ≡ b → is_new (seen_in ls a) ≡ 1 → length ls ≤ place_of ls a
unfolding is_new
new-place ls a true e h = leb-true (length ls) (place_of ls a) e
new-place ls a false e h = absurd (let z = ap is_new (seen_at ls a (leb-false (length ls) (place_of ls a) e)) in omega (arith, z, h))

-- a command with a gap is not the first of its APID
gap-place : (ls : List Command) (c : Command) (b : Bool) → leb (length ls) (place_of ls c.apid.0) ≡ b → length (gap_after (seen_in ls c.apid.0) c) ≡ 1
    → place_of ls c.apid.0 < length ls
unfolding gap_after
gap-place ls c true e h =
    let p = place_of ls c.apid.0 in
    let z = ap (λ (x : Seen). length (gap_after x c)) (unseen ls c.apid.0 (leb-true (length ls) p e)) in absurd (omega (arith, z, h))
gap-place ls c false e h = leb-false (length ls) (place_of ls c.apid.0) e

-- and its count does not follow
gap-count : (ls : List Command) (c : Command) → place_of ls c.apid.0 < length ls → length (gap_after (seen_in ls c.apid.0) c) ≡ 1
    → c.count.0 ≡ expected_at ls (place_of ls c.apid.0) → ⊥
unfolding gap_after
gap-count ls c k h q =
    let x = expected_at ls (place_of ls c.apid.0) in
    let z : length (gap_after (seen_in ls c.apid.0) c) ≡ 0 =
    ap (λ (s : Seen). length (gap_after s c)) (seen_at ls c.apid.0 k)
    ∙ ap (λ (b : Bool). length (pick b [] ((c.apid.0 ∷ x ∷ c.count.0 ∷ []) ∷ []))) (eq-eqb c.count.0 x q) in
    omega (arith, z, h)

-- what the table tells of a command is what the commands before it do
module _ {places : ℕ} {ps : List Piece} (k : Reached places begin [] ps) (c : Command) where
  abbrev before : List Command
  before = commands_of ps

  abbrev table : List Command
  table = k.stands.lasts

  pub new-with : new_behind [] (before ++ (c ∷ [])) ≡ new_behind [] before + is_new (seen_in table c.apid.0)
  unfolding new_behind
  new-with = let split = new_split [] before (c ∷ []) in let tells = ap is_new (k.tells c.apid.0) in omega (arith, split, tells)

  pub gaps-with : length (gaps_behind [] (before ++ (c ∷ []))) ≡ length (gaps_behind [] before) + length (gap_after (seen_in table c.apid.0) c)
  unfolding gaps_behind
  gaps-with =
      let row = gap_after (seen_in (back before []) c.apid.0) c in
      let split = ap length (gaps-split [] before (c ∷ [])) in
      let sum = length-append (gaps_behind [] before) (row ++ []) in
      let own = ap length (append-nil row) in
      let tells = ap (λ (x : Seen). length (gap_after x c)) (k.tells c.apid.0) in
      omega (arith, split, sum, own, tells)

-- The rows and the answer of a walk that is refused at a command.
module _ (places : ℕ) (s : List ℕ) (ps : List Piece) (at n : ℕ) (r : PusTcRecord) (qs : List Piece) (w : walk s ≡ ps ++ (packet at n (gives r) ∷ qs)) where
  -- the commands before it are taken, and it stops the walk
  stopped : (k : Reached places begin [] ps) (e : Numbers) → stop e ≡ command_move places k.stands n (command_of r)
      → gaps_of places s ≡ record { rows = gaps_behind [] (commands_of ps); answer = refuses e }
  unfolding scan
  stopped k e q =
      let rows = gaps_behind [] (commands_of ps) in
      ap (scan places begin) w ∙ k.goes (packet at n (gives r) ∷ qs)
      ∙ ap (λ (m : Move). record { rows = rows ++ (followed m (λ (t : State). scan places t qs)).rows; answer = (followed m (λ (t : State). scan places t qs)).answer }) (sym q)
      ∙ ap (λ (x : Rows). record { rows = x; answer = refuses e }) (append-nil rows)

  -- 31, at the first command of a 65th APID; the gaps before it stand
  pub refused-31 : Is65th (commands_of ps) (command_of r) → length (gaps_behind [] (commands_of ps)) ≤ places
      → gaps_of places s ≡ record { rows = gaps_behind [] (commands_of ps); answer = refuses (refusal 31 []) }
  refused-31 h room =
      let c = command_of r in
      let a = c.apid.0 in
      let before = h.0 in
      let with_it = h.1 in
      let k = reached-first places ps (omega (arith, before)) room in
      let ls = k.stands.lasts in
      let sum = new-with k c in
      let behind : length ls ≤ place_of ls a = new-place ls a (leb (length ls) (place_of ls a)) refl (omega (arith, sum, before, with_it)) in
      let apids = k.apids in
      stopped k (refusal 31 []) (full places k.stands n c (place_of ls a) refl behind (omega (arith, behind, apids, before)))

  -- 1, at a gap that the list has no place for; those before it fill the list
  pub refused-1 : NoPlace places (commands_of ps) (command_of r) → new_behind [] (commands_of ps) ≤ 64
      → gaps_of places s ≡ record { rows = gaps_behind [] (commands_of ps); answer = refuses (refusal 1 (places ∷ (places + 1) ∷ [])) }
  refused-1 h few =
      let c = command_of r in
      let a = c.apid.0 in
      let before = h.0 in
      let with_it = h.1 in
      let k = reached-first places ps few (omega (arith, before)) in
      let ls = k.stands.lasts in
      let sum = gaps-with k c in
      let one : length (gap_after (seen_in ls a) c) ≡ 1 = omega (arith, sum, before, with_it) in
      let inside = gap-place ls c (leb (length ls) (place_of ls a)) refl one in
      let listed = k.listed in
      stopped k (refusal 1 (places ∷ (places + 1) ∷ []))
      (no_place places k.stands n c (place_of ls a) refl inside (gap-count ls c inside one) (omega (arith, listed, before)))
