-- How long a report is: a capture that is not too long has 65,536 octets at most, and each of its packets 7 at least.
use Prim.Native.Nat.{ℕ, zero, suc, ◌+◌, ◌*◌, ◌-◌, ◌^◌, ◌≤◌, ◌<◌}
use mathlib.Core.Path.{◌≡◌, refl, sym, subst}
use mathlib.Core.Bool.{Bool, true, false}
use mathlib.Core.List.{List, ◌++◌}
use native.Mathlib.Omega.{arith}
use lib.ListN.{length, take, drop, length-append}
use lib.Dec.{ltb}
use borrow.Author.Tests.{ltb-false}
use Rattle.text.specs.Ascii.{ascii}
use Rattle.text.specs.Digits.{decimal}
use Rattle.text.proofs.Decimals.{decimal-length}
use Rattle.space_packet.specs.Answer.{Numbers, Answer, gives, refuses, refuse_if, ◌then◌}
use Rattle.space_packet.specs.Bits.{pick}
use Rattle.space_packet.proofs.Answers.{Holds, holds-if, holds_then, holds_more}
use Rattle.space_packet.specs.declared.SpacePacketHeader.{SpacePacketHeader}
use Rattle.ecss.specs.Frame.{Octets, stated_of, frame_of, checked_of}
use Rattle.ecss.specs.Kind.{strict_rule, judge}
use Rattle.ecss.proofs.Frames.{frame-holds}
use Rattle.ecss.proofs.Pieces.{octets-take, octets-drop}
use Rattle.ecss.proofs.Rules.{strict-holds}
use Rattle.tc_header.specs.Form.{form_c, form_check}
use Rattle.tc_header.specs.Header.{pus_c, tc_of}
use Rattle.tc_read.specs.Read.{start_c, record_in}
use Rattle.tc_read.specs.declared.PusTcRecord.{PusTcRecord}
use Rattle.tc_strict.specs.Verdict.{strict_in, strict_of}
use Rattle.tc_strict.specs.Split.{packet, tail, Next, end, piece, step_of, continue, walk_by, walk_from, walk}
use Rattle.tc_strict.proofs.Pieces.{step_is}
use Rattle.report.specs.Report.{two_text, verdict_text, line_of, lines_of, body_text, report_text, room}
use Rattle.report.proofs.Lines.{none_left}

-- ---- numbers that are printed

-- a refusal's number is small, and of what is given P holds
abbrev Small : {A : Type 0} → (A → Type 0) → Answer A → Type 0
Small P a = Holds P (λ (e : Numbers). e.number < 100) a

abbrev Free : {A : Type 0} → Answer A → Type 0
Free {A} a = Small (λ (x : A). Unit {0}) a

free-if : {A : Type 0} (b : Bool) (e : Numbers) (k : Answer A) → e.number < 100 → Free k → Free (refuse_if b e k)
free-if b e k h s = holds-if _ _ b e k (λ _. h) (λ _. s)

small-then : {A B : Type 0} (P : B → Type 0) (a : Answer A) (f : A → Answer B) → Free a → ((x : A) → Small P (f x)) → Small P (a then f)
small-then P a f s k = holds_then _ _ a f s (λ x _. k x)

small-frame : (s : List ℕ) → Free (frame_of start_c s true)
small-frame s = holds_more _ _ _ (frame_of start_c s true) (λ e t. omega (arith, t)) (frame-holds start_c s true)

small-checked : (s : List ℕ) → Free (checked_of start_c s)
unfolding checked_of
small-checked s =
    small-then _ (frame_of start_c s true) _ (small-frame s) (λ n. small-then _ _ _ (free-if _ _ _ (omega arith) (free-if _ _ _ (omega arith) tt)) (λ _. tt))

small-rule : (h : SpacePacketHeader) (l : List ℕ) → Free (strict_rule pus_c h l)
small-rule h l = strict-holds pus_c h l _ (omega arith) (omega arith) (omega arith) (omega arith) (omega arith) (free-if _ _ _ (omega arith) tt)

small-judge : (s : List ℕ) → Free (judge pus_c s)
unfolding judge
small-judge s = small-then _ (checked_of start_c s) _ (small-checked s) (λ n. small-then _ _ _ (small-rule _ _) (λ _. tt))

abbrev service : PusTcRecord → ℕ
service r = r.sec_header.message_type_id.type_id

abbrev subtype : PusTcRecord → ℕ
subtype r = r.sec_header.message_type_id.subtype_id

-- a service type and a message subtype are octets
small-record : (s : List ℕ) (n : ℕ) → Octets s → (service (record_in form_c s true n) < 1000) × (subtype (record_in form_c s true n) < 1000)
unfolding record_in tc_of
small-record s n o =
    let q = octets-take pus_c.size (drop 6 s) (octets-drop 6 s o) in
    let x = q 1 in
    let y = q 2 in
    (omega arith, omega arith)

small-strict : (s : List ℕ) → Octets s → Small (λ (r : PusTcRecord). (service r < 1000) × (subtype r < 1000)) (strict_of s)
unfolding form_check strict_in
small-strict s o =
    small-then _ (form_check form_c) _ (free-if _ _ _ (omega arith) (free-if _ _ _ (omega arith) tt)) (λ _. small-then _ (judge pus_c s) _ (small-judge s) (λ _. small-record s (stated_of s) o))

-- ---- a line

two-length : (k j a b : ℕ) → a < 10 ^ suc k → b < 10 ^ suc j → length (two_text a b) ≤ k + j + 3
unfolding two_text
two-length k j a b h i =
    let x = decimal-length k a h in
    let y = decimal-length j b i in
    simp length-append (omega arith)

verdict-length : (v : Answer PusTcRecord) → Small (λ (r : PusTcRecord). (service r < 1000) × (subtype r < 1000)) v → length (verdict_text v) ≤ 15
unfolding verdict_text
verdict-length (gives r) h =
    let x = two-length 2 2 (service r) (subtype r) h.0 h.1 in simp length-append (omega arith)
verdict-length (refuses e) h = let x = decimal-length 1 e.number h in simp length-append (omega arith)

packet-length : (at n : ℕ) (v : Answer PusTcRecord) → at < 100000 → n < 100000 → length (verdict_text v) ≤ 15 → length (line_of (packet at n v)) ≤ 27
unfolding line_of
packet-length at n v h i k = let x = two-length 4 4 at n h i in simp length-append (omega arith)

tail-length : (at n : ℕ) → at < 100000 → n < 100000 → length (line_of (tail at n)) ≤ 17
unfolding line_of
tail-length at n h i = let x = two-length 4 4 at n h i in simp length-append (omega arith)

-- ---- the lines

-- four characters for each octet at most, and 13 more for a tail
lines-on : (turns : ℕ) (s : List ℕ) (at : ℕ) (x : Next) → Octets s → length s ≤ 65536 → step_of s at ≡ x
    → ((next : ℕ) → next ≤ length s → length (lines_of (walk_from turns s next)) ≤ 4 * (length s - next) + 13)
    → length (lines_of (continue x (walk_from turns s))) ≤ 4 * (length s - at) + 13
unfolding lines_of
lines-on turns s at end o h e on = omega arith
lines-on turns s at (piece (packet a n v) next) o h e on =
    let q = step_is strict_of s at (packet a n v) next e in
    let b : a ≡ at = q.0.begins in
    let i : at + n ≤ length s = q.0.inside in
    let m : next ≡ at + n = q.1 in
    let seven : n ≡ stated_of (drop a s) = q.0.judged.0 in
    let small = verdict-length v (subst (Small _) (sym q.0.judged.1) (small-strict (take n (drop a s)) (octets-take n (drop a s) (octets-drop a s o)))) in
    let line = packet-length a n v (omega arith) (omega arith) small in
    let rest = on next (omega arith) in
    simp length-append (omega arith)
lines-on turns s at (piece (tail a n) next) o h e on =
    let q = step_is strict_of s at (tail a n) next e in
    let b : a ≡ at = q.0.begins in
    let l : 0 < n = q.0.long in
    let i : at + n ≤ length s = q.0.inside in
    let m : next ≡ at + n = q.1 in
    let all : n ≡ length s - a = q.0.judged.0 in
    let line = tail-length a n (omega arith) (omega arith) in
    let none : length (lines_of (walk_from turns s next)) ≤ 0 = rw (none_left turns s next (omega arith)) (omega arith) in
    simp length-append (omega arith)

lines-length : (turns : ℕ) (s : List ℕ) (at : ℕ) → Octets s → length s ≤ 65536 → length (lines_of (walk_from turns s at)) ≤ 4 * (length s - at) + 13
unfolding walk_by lines_of
lines-length zero s at o h = omega arith
lines-length (suc turns) s at o h = lines-on turns s at (step_of s at) o h refl (λ next _. lines-length turns s next o h)

-- ---- the report

body-length : (s : List ℕ) (b : Bool) → Octets s → ltb 65536 (length s) ≡ b
    → length (pick b (ascii "too long\n") (lines_of (walk s) ++ ascii "end " ++ decimal (length s) ++ ascii "\n")) ≤ 262167
body-length s true o e = omega arith
body-length s false o e =
    let h : length s ≤ 65536 = ltb-false _ _ e in
    let x = lines-length (length s) s 0 o h in
    let y = decimal-length 4 (length s) (omega arith) in
    simp length-append (omega arith)

-- every report has room
pub report-length : (s : List ℕ) → Octets s → length (report_text s) ≤ room
unfolding report_text body_text
report-length s o = let x = body-length s (ltb 65536 (length s)) o refl in simp length-append (omega arith)
