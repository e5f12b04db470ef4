-- What a reader holds, read anew, is read as the octets that it was made from: the calls on a reader say what those on octets say.
use Prim.Native.Nat.{ℕ, ◌+◌, ◌-◌, ◌*◌, ◌≤◌}
use mathlib.Core.Path.{◌≡◌, refl, sym, ap, ap₂, ◌∙◌}
use mathlib.Core.Bool.{Bool, true, false, ◌&&◌}
use mathlib.Core.List.{List, [], ◌∷◌}
use native.Mathlib.Omega.{arith}
use lib.ListN.{length, take, drop}
use lib.Seq.{length-take-le, get_or-take, take-take, take-add, drop_at}
use Rattle.std.specs.Prelude.{Some}
use Rattle.space_packet.specs.Bits.{word}
use Rattle.space_packet.specs.Answer.{Numbers, Answer, refusal, gives, refuses}
use Rattle.space_packet.specs.Header.{read_header}
use Rattle.space_packet.proofs.Answers.{refuse-yes, gives_then, refuses-then}
use Rattle.ecss.specs.Frame.{trailer, frame_of, crc_taken, raw_part, data_part, same_octets, was_read}
use Rattle.ecss.proofs.Frames.{frame-total, total-frame}
use Rattle.tc_header.specs.Form.{form_c}
use Rattle.tc_header.specs.Header.{tc_of}
use Rattle.tc_write.specs.declared.PusTcCreator.{PusTcCreator}
use Rattle.tc_read.specs.Read.{start_c, record_in, frame_in, read_in, read_of, app_data_of, raw_data_of}
use Rattle.tc_read.proofs.Records.{frame-c}
use Rattle.tc_compare.specs.Compare.{reports_creator, equals_creator, equals_reader}
use Rattle.tc_held.specs.Held.{Held, primary_in, secondary_in, held_of}

-- ---- the first n octets

word-take : (n : ℕ) (s : List ℕ) (at : ℕ) → at + 2 ≤ n → word (take n s) at ≡ word s at
word-take n s at h = ap₂ (λ (x y : ℕ). x * 256 + y) (get_or-take n s at 0 (omega arith)) (get_or-take n s (at + 1) 0 (omega arith))

drop-take : (a m : ℕ) (s : List ℕ) → a + m ≤ length s → drop a (take (a + m) s) ≡ take m (drop a s)
drop-take a m s h = ap (drop a) (take-add a m s) ∙ drop_at (take a s) (take m (drop a s)) a (length-take-le a s (omega arith))

part-take : (a k n : ℕ) (s : List ℕ) → a + k ≤ n → n ≤ length s → take k (drop a (take n s)) ≡ take k (drop a s)
part-take a k n s h f =
    let e : n ≡ a + (n - a) = omega arith in
    ap (λ (x : ℕ). take k (drop a (take x s))) e ∙ ap (take k) (drop-take a (n - a) s (omega arith)) ∙ take-take k (n - a) (drop a s) (omega arith)

header-take : (n : ℕ) (s : List ℕ) → 6 ≤ n → read_header (take n s) ≡ read_header s
unfolding read_header
header-take n s h = rw (word-take n s 0 (omega arith), word-take n s 2 (omega arith), word-take n s 4 (omega arith)) refl

crc-take : (b : Bool) (n : ℕ) (s : List ℕ) → 2 ≤ n → crc_taken b (take n s) n ≡ crc_taken b s n
crc-take true n s h = ap Some (word-take n s (n - 2) (omega arith))
crc-take false n s h = refl

record-take : (b : Bool) (n : ℕ) (s : List ℕ) → start_c ≤ n → n ≤ length s → record_in form_c (take n s) b n ≡ record_in form_c s b n
unfolding record_in
record-take b n s h f =
    let x = header-take n s (omega arith) in
    let y = ap (tc_of form_c) (part-take 6 5 n s h f) in
    let z = crc-take b n s (omega arith) in
    λ i. record { sp_header = x i; sec_header = y i; start = start_c; end = n - trailer b; total = n; crc16 = z i }

-- ---- read anew

-- octets r are read as s is, but for the numbers of a refusal
pub record Alike (b : Bool) (r s : List ℕ) : Type 0 where
  pub held : held_of r b ≡ held_of s b
  pub app : app_data_of r b ≡ app_data_of s b
  pub is_read : was_read (read_of r b) ≡ was_read (read_of s b)
  pub compared : (t : PusTcCreator) (d : List ℕ) → equals_creator r b t d ≡ equals_creator s b t d

given-alike : (b : Bool) (n : ℕ) (s : List ℕ) → frame_in form_c s b ≡ gives n → Alike b (take n s) s
unfolding read_in
given-alike b n s p =
    let f = frame-total start_c s b n (sym (frame-c s b) ∙ p) in
    let h : start_c + trailer b ≤ n = f.room in
    let k : n ≤ length s = f.fits in
    let l = length-take-le n s k in
    let q : frame_in form_c (take n s) b ≡ gives n = frame-c (take n s) b ∙ total-frame start_c (take n s) b n (record { is = f.is ∙ sym (ap (λ (x : ℕ). x + 7) (word-take n s 4 (omega arith))); room = h; fits = omega (arith, l) }) in
    let x : read_of (take n s) b ≡ read_of s b =
    gives_then _ _ n q ∙ ap gives (record-take b n s (omega arith) k) ∙ sym (gives_then _ _ n p) in
    let y : raw_data_of (take n s) b ≡ raw_data_of s b =
    ap (λ (a : Answer ℕ). raw_part a (take n s)) q ∙ take-take n n s (omega arith) ∙ sym (ap (λ (a : Answer ℕ). raw_part a s) p) in
    let z : app_data_of (take n s) b ≡ app_data_of s b =
    ap (λ (a : Answer ℕ). data_part start_c b a (take n s)) q ∙ part-take start_c (n - trailer b - start_c) n s (omega arith) k ∙ sym (ap (λ (a : Answer ℕ). data_part start_c b a s) p) in
    record {
      held = λ i. record { raw = y i; sp_header = primary_in (x i); sec_header = secondary_in (x i); has_checksum = b };
      app = z;
      is_read = ap was_read x;
      compared = λ t d i. reports_creator (x i) (z i) t d;
    }

empty-refused : (b : Bool) → frame_in form_c [] b ≡ refuses (refusal 2 (0 ∷ start_c ∷ []))
unfolding frame_of
empty-refused b = frame-c [] b ∙ refuse-yes _ _ _ refl

-- all octets that are refused are alike
refused-alike : (b : Bool) (r s : List ℕ) (d e : Numbers) → frame_in form_c r b ≡ refuses d → frame_in form_c s b ≡ refuses e → Alike b r s
unfolding read_in
refused-alike b r s d e p q =
    let x = refuses-then (frame_in form_c r b) (λ n. gives (record_in form_c r b n)) d p in
    let y = refuses-then (frame_in form_c s b) (λ n. gives (record_in form_c s b n)) e q in
    record {
      held = rw (x, y, p, q) refl;
      app = rw (p, q) refl;
      is_read = rw (x, y) refl;
      compared = λ t o. rw (x, y) refl;
    }

alike-by : (b : Bool) (s : List ℕ) (a : Answer ℕ) → frame_in form_c s b ≡ a → Alike b (raw_part a s) s
alike-by b s (gives n) p = given-alike b n s p
alike-by b s (refuses e) p = refused-alike b [] s _ e (empty-refused b) p

-- what a reader holds is read as the octets that it was made from
pub alike : (b : Bool) (s : List ℕ) → Alike b (raw_data_of s b) s
alike b s = alike-by b s (frame_in form_c s b) refl

-- ---- the calls on a reader of octets s, in the terms of s

pub held-app-data : (s : List ℕ) (b : Bool) (h : Held) → h ≡ held_of s b → app_data_of h.raw h.has_checksum ≡ app_data_of s b
held-app-data s b h e = ap (λ (x : Held). app_data_of x.raw x.has_checksum) e ∙ (alike b s).app

pub held-eq-creator : (s : List ℕ) (b : Bool) (h : Held) (t : PusTcCreator) (d : List ℕ) → h ≡ held_of s b
    → equals_creator h.raw h.has_checksum t d ≡ equals_creator s b t d
held-eq-creator s b h t d e = ap (λ (x : Held). equals_creator x.raw x.has_checksum t d) e ∙ (alike b s).compared t d

pub held-eq-reader : (s r : List ℕ) (b c : Bool) (h k : Held) → h ≡ held_of s b → k ≡ held_of r c
    → equals_reader h.raw h.has_checksum k.raw k.has_checksum ≡ equals_reader s b r c
held-eq-reader s r b c h k p q =
    ap₂ (λ (x y : Held). equals_reader x.raw x.has_checksum y.raw y.has_checksum) p q
    ∙ ap₂ (λ (x y : Bool). x && (y && same_octets (raw_data_of (raw_data_of s b) b) (raw_data_of (raw_data_of r c) c))) (alike b s).is_read (alike c r).is_read
    ∙ ap₂ (λ (x y : Held). was_read (read_of s b) && (was_read (read_of r c) && same_octets x.raw y.raw)) (alike b s).held (alike c r).held
