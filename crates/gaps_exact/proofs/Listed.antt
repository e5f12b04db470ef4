-- What shift engineers ask of the list: nothing where all counts follow, and one row, just there, where one command is missing.
use Prim.Native.Nat.{ℕ, ◌+◌, ◌≤◌}
use mathlib.Core.Path.{◌≡◌, refl, sym, ap, ◌∙◌, subst}
use mathlib.Core.List.{List, [], ◌∷◌, ◌++◌}
use native.Mathlib.Omega.{arith}
use borrow.Author.Tests.{eqb-false, leb-false}
use lib.Dec.{eqb, leb}
use lib.ListN.{length, take, drop}
use Rattle.space_packet.specs.Answer.{refusal, gives, refuses}
use Rattle.space_packet.specs.Bits.{pick}
use Rattle.tc_read.specs.declared.PusTcRecord.{PusTcRecord}
use Rattle.tc_strict.specs.Split.{Piece, packet, tail, walk}
use Rattle.gaps.specs.Gaps.{Rows, place_of, after_count, expected_at, State, Move, on, stop, with_refused, with_tail, command_of, noting, command_move, Outcome, followed, scan, begin, gaps_of}
use Rattle.gaps.specs.declared.Command.{Command}
use Rattle.gaps.proofs.Moves.{either}
use Rattle.gaps_exact.specs.History.{last, commands_of, totals_of, seen_in, gaps_behind, new_behind, gaps_in, apids_in, AllFollow, Among}
use Rattle.gaps_exact.proofs.Captures.{commands-append, without}
use Rattle.gaps_exact.proofs.Follows.{Goes, goes_on, follows-last, follow-none, dropped-gap, dropped-apids}
use Rattle.gaps_exact.proofs.History.{as-history}
use Rattle.gaps_exact.proofs.Tables.{seen_at, seen-noted}

-- with these rows, of which there are few enough
listed : (places : ℕ) (s : List ℕ) (rows : Rows) → apids_in s ≤ 64 → gaps_in s ≡ rows → length rows ≤ places
    → gaps_of places s ≡ record { rows = rows; answer = gives (totals_of (walk s)) }
listed places s rows h e k =
    as-history places s h (subst (λ (r : Rows). length r ≤ places) (sym e) k)
    ∙ ap (λ (r : Rows). record { rows = r; answer = gives (totals_of (walk s)) }) e

-- ---- counts that all follow

-- an accepted command that follows lists nothing, whatever else comes of it
none-by : (places : ℕ) (s : State) (before : List Command) (c : Command) (cs : List Command) (n : ℕ) (f : State → Outcome)
    → ((a : ℕ) → seen_in s.lasts a ≡ seen_in before a) → Goes before (c ∷ cs) → (f (noting s (place_of s.lasts c.apid.0) c s.listed n)).rows ≡ []
    → (followed (command_move places s n c) f).rows ≡ []
unfolding command_move
none-by places s before c cs n f tells g on-rest =
    let a = c.apid.0 in
    let p = place_of s.lasts a in
    let P : Move → Type 0 = λ m. (followed m f).rows ≡ [] in
    either P (leb (length s.lasts) p) _ _
    (λ _. either P (leb 64 p) (stop (refusal 31 [])) (on (noting s p c s.listed n)) (λ _. refl) (λ _. on-rest))
    (λ e. either P (eqb c.count.0 (expected_at s.lasts p)) (on (noting s p c s.listed n)) _ (λ _. on-rest)
    (λ q. absurd (eqb-false c.count.0 (expected_at s.lasts p) q (follows-last before c cs _ g (sym (tells a) ∙ seen_at s.lasts a (leb-false (length s.lasts) p e))))))

none_from : (places : ℕ) (ps : List Piece) (s : State) (before : List Command) → ((a : ℕ) → seen_in s.lasts a ≡ seen_in before a) → Goes before (commands_of ps)
    → (scan places s ps).rows ≡ []
unfolding scan commands_of seen_in
none_from places [] s before tells g = refl
none_from places (tail at n ∷ ps) s before tells g = none_from places ps (record { lasts = s.lasts; listed = s.listed; totals = with_tail s.totals n }) before tells g
none_from places (packet at n (refuses e) ∷ ps) s before tells g = none_from places ps (record { lasts = s.lasts; listed = s.listed; totals = with_refused s.totals n }) before tells g
none_from places (packet at n (gives r) ∷ ps) s before tells g =
    let c = command_of r in
    none-by places s before c (commands_of ps) n (λ (t : State). scan places t ps) tells g
    (none_from places ps (noting s (place_of s.lasts c.apid.0) c s.listed n) (c ∷ before)
    (λ a. seen-noted s.lasts c a ∙ ap (pick (eqb c.apid.0 a) (last c.count.0)) (tells a)) (goes_on before c (commands_of ps) g))

-- A capture whose counts all follow has no gap, with a list of any size.
pub no_gap : (places : ℕ) (s : List ℕ) → AllFollow (commands_of (walk s)) → (gaps_of places s).rows ≡ []
unfolding seen_in
no_gap places s f = none_from places (walk s) begin [] (λ a. refl) f

-- And where it has at most 64 APIDs its walk ends unrefused.
pub no-gap-ends : (places : ℕ) (s : List ℕ) → AllFollow (commands_of (walk s)) → apids_in s ≤ 64
    → gaps_of places s ≡ record { rows = []; answer = gives (totals_of (walk s)) }
no-gap-ends places s f h = listed places s [] h (follow-none (commands_of (walk s)) f) (omega arith)

-- ---- one command missing

-- Dropping one accepted packet from such a capture of at most 64 APIDs, neither the first nor the last of its APID, lists exactly that place: the APID, the
-- dropped count expected, the one after found.
module _ (places : ℕ) (s : List ℕ) (ps : List Piece) (at n : ℕ) (r : PusTcRecord) (qs : List Piece) (w : walk s ≡ ps ++ (packet at n (gives r) ∷ qs))
    (f : AllFollow (commands_of (walk s))) (h : apids_in s ≤ 64) where
  abbrev apid : ℕ
  apid = (command_of r).apid.0

  abbrev count : ℕ
  count = (command_of r).count.0

  commands-are : commands_of (walk s) ≡ commands_of ps ++ (command_of r ∷ commands_of qs)
  unfolding commands_of
  commands-are = ap commands_of w ∙ commands-append ps (packet at n (gives r) ∷ qs)

  pub dropped : Among apid (commands_of ps) → Among apid (commands_of qs) → 1 ≤ places
      → gaps_of places (take at s ++ drop (at + n) s) ≡ record { rows = (apid ∷ count ∷ after_count count ∷ []) ∷ []; answer = gives (totals_of (walk (take at s ++ drop (at + n) s))) }
  dropped first more room =
      let follow = subst AllFollow commands-are f in
      let without-it = without s ps at n (gives r) qs w in
      let apids : apids_in (take at s ++ drop (at + n) s) ≡ apids_in s =
      ap (new_behind []) without-it ∙ dropped-apids (commands_of ps) (command_of r) (commands_of qs) follow first ∙ ap (new_behind []) (sym commands-are) in
      listed places (take at s ++ drop (at + n) s) ((apid ∷ count ∷ after_count count ∷ []) ∷ []) (omega (arith, apids, h))
      (ap (gaps_behind []) without-it ∙ dropped-gap (commands_of ps) (command_of r) (commands_of qs) follow first more) room
