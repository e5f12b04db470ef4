-- An accepted packet has 13 octets or more, and each row is within its widths: so a list of 5,041 places has room for 65,536 octets.
use Prim.Native.Nat.{ℕ, ◌+◌, ◌*◌, ◌≤◌, ◌<◌}
use mathlib.Core.Path.{◌≡◌, refl, sym, ◌∙◌, subst}
use mathlib.Core.Bool.{true}
use mathlib.Core.List.{List, [], ◌∷◌}
use native.Mathlib.Omega.{arith}
use lib.Dec.{eqb, leb}
use lib.ListN.{length, get_or, take, drop, length-take}
use borrow.Author.Tests.{leb-true}
use Rattle.space_packet.specs.Answer.{Numbers, refusal, gives, refuses}
use Rattle.space_packet.specs.Fields.{id_of, psc_of}
use Rattle.space_packet.specs.Header.{read_header}
use Rattle.space_packet.proofs.Answers.{gives-inj, refuses-inj, never, then-gives, gives_then, range-passes}
use Rattle.ecss.specs.Frame.{frame_of, checked_of, stated_of}
use Rattle.ecss.specs.Kind.{judge}
use Rattle.ecss.proofs.Frames.{frame-total}
use Rattle.tc_header.specs.Form.{form_c}
use Rattle.tc_header.specs.Header.{pus_c}
use Rattle.tc_read.specs.Read.{start_c, record_in}
use Rattle.tc_read.specs.declared.PusTcRecord.{PusTcRecord}
use Rattle.tc_strict.specs.Verdict.{strict_of}
use Rattle.tc_strict.specs.Split.{Piece, packet, tail, length_of, walk}
use Rattle.tc_strict.proofs.Pieces.{Judged}
use Rattle.tc_strict.proofs.Verdicts.{strict-c}
use Rattle.tc_strict.proofs.Walks.{octets_in, Each, walk-octets, walk-judged}
use Rattle.gaps.specs.Gaps.{place_of, expected_at, State, Move, on, lists, stop, command_of, noting, command_move, move_of, Outcome, followed, scan, begin, gaps_of}
use Rattle.gaps.specs.Records.{gap_in, gap_of_row, gap_from}
use Rattle.gaps.specs.declared.Command.{Command}
use Rattle.gaps.proofs.Moves.{either}
use Rattle.gaps_exact.specs.History.{RowWithin, AllRows}

-- ---- accepted packets

abbrev Within : Command → Type 0
Within l = (l.apid.0 < 2048) × (l.count.0 < 16384)

read-within : (s : List ℕ) (n : ℕ) → Within (command_of (record_in form_c s true n))
unfolding record_in read_header id_of psc_of
read-within s n = (omega arith, omega arith)

accepted : (s : List ℕ) (r : PusTcRecord) → strict_of s ≡ gives r → (13 ≤ length s) × Within (command_of r)
unfolding judge checked_of
accepted s r e =
    let j = then-gives (judge pus_c s) _ r (sym (strict-c s) ∙ e) in
    let k = then-gives (checked_of start_c s) _ j.0 j.1 in
    let f = then-gives (frame_of start_c s true) _ k.0 k.1 in
    let m = frame-total start_c s true f.0 f.1 in
    let room = m.room in
    let fits = m.fits in
    (omega (arith, room, fits), subst (λ (x : PusTcRecord). Within (command_of x)) (gives-inj _ r j.2) (read-within s (stated_of s)))

abbrev Good : Piece → Type 0
Good (packet at n (gives r)) = (13 ≤ n) × Within (command_of r)
Good (packet at n (refuses e)) = Unit {0}
Good (tail at n) = Unit {0}

good : (s : List ℕ) (p : Piece) → Judged strict_of s p → Good p
good s (packet at n (gives r)) j =
    let a = accepted (take n (drop at s)) r (sym j.1) in
    let l = length-take n (drop at s) in
    let m = a.0 in (omega (arith, l, m), a.1)
good s (packet at n (refuses e)) j = tt
good s (tail at n) j = tt

each-good : (s : List ℕ) (ps : List Piece) → Each (Judged strict_of s) ps → Each Good ps
unfolding Each
each-good s [] h = tt
each-good s (p ∷ ps) h = (good s p h.0, each-good s ps h.1)

all-good : (s : List ℕ) → Each Good (walk s)
all-good s = each-good s (walk s) (walk-judged strict_of s)

-- ---- what a piece does

abbrev Bounded : ℕ → State → ℕ → Move → Type 0
Bounded places s n (on t) = t.listed ≡ s.listed
Bounded places s n (lists row t) = (t.listed ≡ s.listed + 1) × (13 ≤ n) × RowWithin row
Bounded places s n (stop e) = (13 ≤ n) × (s.listed < places → e ≡ refusal 31 [])

command-bounded : (places : ℕ) (s : State) (n : ℕ) (l : Command) → 13 ≤ n → Within l → Bounded places s n (command_move places s n l)
unfolding command_move
command-bounded places s n l h w =
    let p = place_of s.lasts l.apid.0 in
    let B = Bounded places s n in
    either B (leb (length s.lasts) p) _ _
    (λ _. either B (leb 64 p) (stop (refusal 31 [])) (on (noting s p l s.listed n)) (λ _. (h, λ _. refl)) (λ _. refl))
    (λ _. either B (eqb l.count.0 (expected_at s.lasts p)) (on (noting s p l s.listed n)) _ (λ _. refl)
    (λ _. either B (leb places s.listed) (stop (refusal 1 (places ∷ (places + 1) ∷ [])))
    (lists (l.apid.0 ∷ expected_at s.lasts p ∷ l.count.0 ∷ []) (noting s p l (s.listed + 1) n))
    (λ e. (h, λ k. absurd (let m = leb-true places s.listed e in omega (arith, k, m))))
    (λ _. (refl, h, (w.0, omega arith, w.1)))))

move-bounded : (places : ℕ) (s : State) (p : Piece) → Good p → Bounded places s (length_of p) (move_of places s p)
move-bounded places s (tail at n) g = refl
move-bounded places s (packet at n (refuses e)) g = refl
move-bounded places s (packet at n (gives r)) g = command-bounded places s n (command_of r) g.0 g.1

-- ---- the walk

-- so few rows, each within its widths; and with places for all that the octets can bring, no refusal but 31
record Few (places listed octets : ℕ) (o : Outcome) : Type 0 where
  pub few : 13 * length o.rows ≤ octets
  pub within : AllRows RowWithin o.rows
  pub only : 13 * listed + octets < 13 * places + 13 → (e : Numbers) → o.answer ≡ refuses e → e ≡ refusal 31 []

few-by : (places : ℕ) (s : State) (n left : ℕ) (m : Move) (f : State → Outcome) → Bounded places s n m → ((t : State) → Few places t.listed left (f t))
    → Few places s.listed (n + left) (followed m f)
unfolding AllRows
few-by places s n left (on t) f b g =
    let k = g t in
    let i : t.listed ≡ s.listed = b in
    let few = k.few in
    record { few = omega (arith, few); within = k.within; only = λ h. k.only (omega (arith, h, i)) }
few-by places s n left (lists row t) f b g =
    let k = g t in
    let i : t.listed ≡ s.listed + 1 = b.0 in
    let thirteen : 13 ≤ n = b.1 in
    let few = k.few in
    record { few = omega (arith, few, thirteen); within = (b.2, k.within); only = λ h. k.only (omega (arith, h, i, thirteen)) }
few-by places s n left (stop x) f b g =
    let thirteen : 13 ≤ n = b.0 in
    record { few = omega arith; within = tt; only = λ h e q. sym (refuses-inj x e q) ∙ b.1 (omega (arith, h, thirteen)) }

few-from : (places : ℕ) (s : State) (ps : List Piece) → Each Good ps → Few places s.listed (octets_in ps) (scan places s ps)
unfolding scan octets_in Each AllRows
few-from places s [] g = record { few = omega arith; within = tt; only = λ h e q. absurd (never s.totals e (sym q)) }
few-from places s (p ∷ ps) g =
    few-by places s (length_of p) (octets_in ps) (move_of places s p) (λ (t : State). scan places t ps) (move-bounded places s p g.0)
    (λ t. few-from places t ps g.1)

few-in : (places : ℕ) (s : List ℕ) → Few places 0 (octets_in (walk s)) (gaps_of places s)
few-in places s = few-from places begin (walk s) (all-good s)

-- ---- of a capture

-- no more than a row for each 13 octets
pub rows_few : (places : ℕ) (s : List ℕ) → 13 * length (gaps_of places s).rows ≤ length s
rows_few places s = let k = (few-in places s).few in let l = walk-octets strict_of s in omega (arith, k, l)

-- each is an APID and two counts
pub rows-within : (places : ℕ) (s : List ℕ) → AllRows RowWithin (gaps_of places s).rows
rows-within places s = (few-in places s).within

-- With a list of 5,041 places a capture of at most 65,536 octets is refused with 31 alone.
pub only-31 : (s : List ℕ) (e : Numbers) → length s ≤ 65536 → (gaps_of 5041 s).answer ≡ refuses e → e ≡ refusal 31 []
only-31 s e h = (few-in 5041 s).only (let l = walk-octets strict_of s in omega (arith, h, l)) e

-- and so each makes a record, of just its three numbers
pub row-record : (row : List ℕ) → RowWithin row → gap_of_row row ≡ gives (gap_from (get_or row 0 0) (get_or row 1 0) (get_or row 2 0))
unfolding gap_in
row-record row w =
    let a = w.0 in
    let e = w.1 in
    let f = w.2 in
    gives_then _ _ tt ((range-passes 2 2047 (get_or row 0 0)).1 (omega (arith, a)))
    ∙ gives_then _ _ tt ((range-passes 3 16383 (get_or row 1 0)).1 (omega (arith, e)))
    ∙ gives_then _ _ tt ((range-passes 3 16383 (get_or row 2 0)).1 (omega (arith, f)))
