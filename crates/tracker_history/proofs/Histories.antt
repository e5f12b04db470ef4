-- After any calls the tracker answers as the history does.
use Prim.Native.Nat.{ℕ, ◌≤◌, ◌<◌}
use mathlib.Core.Path.{◌≡◌, refl, sym, ap, ap₂, ◌∙◌}
use mathlib.Core.Bool.{Bool, true, false, true≢false, not, ◌&&◌, ◌||◌, and-eq-true_iff, and-false, or-false, or_assoc}
use mathlib.Core.List.{List, [], ◌∷◌, ◌++◌, append-nil}
use native.Mathlib.Omega.{arith}
use lib.Dec.{eqb}
use lib.Count.{ones}
use borrow.Author.Tests.{eq-eqb, ne_eqb, eqb-true, eqb-false}
use Rattle.space_packet.specs.Bits.{pick, lowest}
use Rattle.space_packet.specs.Answer.{Answer, Passed, Numbers, gives, refuses, set_if}
use Rattle.space_packet.proofs.Answers.{never}
use Rattle.tracker.specs.declared.Entry.{Entry}
use Rattle.tracker.specs.declared.Tracker.{Tracker}
use Rattle.tracker.specs.Reports.{request_of, asked_of, is_acceptance, is_start, is_progress, ends, counted, kinds_come, all_come, Report, report_in}
use Rattle.tracker.specs.Refusals.{among, send_check, report_check}
use Rattle.tracker.specs.Open.{left_by, entry_of, entries_of, open_of, holding, ids_of, noted, closes, left_of, left, opened, send_of, report_to, is_open}
use Rattle.tracker_history.specs.History.{Call, sent, reported, History, start, ◌▸◌, says_on, report_on, any_of, closed_by, passes, stays, open_since, open_after, open_in, answer_after}
use Rattle.tracker_history.specs.Answers.{run}
use Rattle.tracker.proofs.Entries.{entries-held, left-append, left_other}
use Rattle.tracker_history.proofs.Come.{kinds-fit}
use Rattle.tracker.proofs.Checks.{check-refused, check-closed, check-open}

-- ---- a list of calls

any_last : (test : Call → Bool) (l : List Call) (c : Call) → any_of test (l ++ (c ∷ [])) ≡ any_of test l || test c
unfolding any_of
any_last test [] c = or-false (test c)
any_last test (x ∷ l) c = ap (λ (b : Bool). test x || b) (any_last test l c) ∙ sym (or_assoc (test x) (any_of test l) (test c))

-- ---- kinds that have come are not more than were asked for

counted-more : (a x : Bool) (asked w : ℕ) → counted a asked w ≤ counted (a || x) asked w
counted-more true x asked w = omega arith
counted-more false x asked w = omega arith

counted-most : (a : Bool) (asked w : ℕ) → counted a asked w ≤ counted true asked w
counted-most true asked w = omega arith
counted-most false asked w = omega arith

-- what has closed a command stays so
all_more : (asked : ℕ) (a s p x y z : Bool) → asked < 16 → all_come asked a s p ≡ true → all_come asked (a || x) (s || y) (p || z) ≡ true
all_more asked a s p x y z h e =
    let q = (and-eq-true_iff (not (lowest asked)) _).0 e in
    let k : kinds_come asked a s p ≡ ones asked = eqb-true _ _ q.1 in
    let a1 = counted-more a x asked 8 in
    let s1 = counted-more s y asked 4 in
    let p1 = counted-more p z asked 2 in
    let a2 = counted-most (a || x) asked 8 in
    let s2 = counted-most (s || y) asked 4 in
    let p2 = counted-most (p || z) asked 2 in
    let m = kinds-fit asked h in
    let n : kinds_come asked (a || x) (s || y) (p || z) ≡ ones asked = omega arith in
    ap₂ ◌&&◌ q.0 (eq-eqb _ _ n)

-- ---- the entries by the history

-- the entry of a request, by the calls since its sending
abbrev entry_since : List Call → ℕ → ℕ → Entry
entry_since since id asked = record {
  id = id;
  asked = asked;
  acceptance = any_of (report_on id is_acceptance) since;
  start = any_of (report_on id is_start) since;
  progress = any_of (report_on id is_progress) since;
}

unfoldable entries_since : List Call → History → List Entry
entries_since since start = []
entries_since since (h ▸ reported t x) = entries_since (reported t x ∷ since) h
entries_since since (h ▸ sent s) =
    entries_since (sent s ∷ since) h
    ++ pick (stays (open_after h) since s) (entry_since since (request_of s) (asked_of s) ∷ []) []

pub ids-append : (a b : List Entry) → ids_of (a ++ b) ≡ ids_of a ++ ids_of b
unfolding ids_of
ids-append [] b = refl
ids-append (e ∷ a) b = ap (λ (l : List ℕ). e.id ∷ l) (ids-append a b)

ids-pick : (b : Bool) (e : Entry) → ids_of (pick b (e ∷ []) []) ≡ pick b (e.id ∷ []) []
unfolding ids_of
ids-pick true e = refl
ids-pick false e = refl

ids-since : (since : List Call) (h : History) → ids_of (entries_since since h) ≡ open_since since h
unfolding entries_since open_since ids_of
ids-since since start = refl
ids-since since (h ▸ reported t x) = ids-since (reported t x ∷ since) h
ids-since since (h ▸ sent s) =
    ids-append (entries_since (sent s ∷ since) h) _
    ∙ ap₂ ◌++◌ (ids-since (sent s ∷ since) h) (ids-pick (stays (open_after h) since s) (entry_since since (request_of s) (asked_of s)))

-- ---- one more call

-- what a call that comes last leaves of the entries opened before it
abbrev left_call : Call → List Entry → List Entry
left_call (sent s) l = l
left_call (reported t x) l = left_by (report_in t x) l

in-nil : (a : Answer Report) → left_by a [] ≡ []
unfolding left
in-nil (gives r) = refl
in-nil (refuses n) = refl

by-nil : (c : Call) → left_call c [] ≡ []
by-nil (sent s) = refl
by-nil (reported t x) = in-nil (report_in t x)

in-append : (y : Answer Report) (a b : List Entry) → left_by y (a ++ b) ≡ left_by y a ++ left_by y b
in-append (gives r) a b = left-append r.request r.subtype a b
in-append (refuses n) a b = refl

by_append : (c : Call) (a b : List Entry) → left_call c (a ++ b) ≡ left_call c a ++ left_call c b
by_append (sent s) a b = refl
by_append (reported t x) a b = in-append (report_in t x) a b

abbrev entry_from : ℕ → ℕ → Bool → Bool → Bool → Entry
entry_from id asked a s p = record { id = id; asked = asked; acceptance = a; start = s; progress = p }

-- the entry of a sending, by whether a report came that ends it, and by the kinds that have come
abbrev one_of : ℕ → ℕ → Bool → Bool → Bool → Bool → List Entry
one_of id asked e a s p = pick (not (e || all_come asked a s p)) (entry_from id asked a s p ∷ []) []

one_left : (e x n y : Bool) (next : Entry) → (x ≡ true → y ≡ true)
    → pick (not ((e || n) || y)) (next ∷ []) [] ≡ pick (not (e || x)) (pick (n || y) [] (next ∷ [])) []
one_left true x n y next k = refl
one_left false true true y next k = refl
one_left false true false y next k = ap (λ (b : Bool). pick (not b) (next ∷ []) []) (k refl)
one_left false false true y next k = refl
one_left false false false true next k = refl
one_left false false false false next k = refl

left-pick : (id sub : ℕ) (b : Bool) (e : Entry) → left id sub (pick b (e ∷ []) []) ≡ pick b (left_of id sub e) []
unfolding left
left-pick id sub true e = append-nil (left_of id sub e)
left-pick id sub false e = refl

one_same : (id asked : ℕ) (e a s p : Bool) → one_of id asked (e || false) (a || false) (s || false) (p || false) ≡ one_of id asked e a s p
one_same id asked e a s p = λ i. one_of id asked (or-false e i) (or-false a i) (or-false s i) (or-false p i)

by-match : (m : Bool) (id asked sub : ℕ) (e a s p : Bool) → asked < 16
    → one_of id asked (e || (m && ends sub)) (a || (m && is_acceptance sub)) (s || (m && is_start sub)) (p || (m && is_progress sub))
    ≡ pick (not (e || all_come asked a s p))
    (pick m (pick (closes sub (noted sub (entry_from id asked a s p))) [] (noted sub (entry_from id asked a s p) ∷ [])) (entry_from id asked a s p ∷ []))
    []
by-match false id asked sub e a s p h = one_same id asked e a s p
by-match true id asked sub e a s p h =
    one_left e (all_come asked a s p) (ends sub) (all_come asked (a || is_acceptance sub) (s || is_start sub) (p || is_progress sub))
    (noted sub (entry_from id asked a s p)) (all_more asked a s p (is_acceptance sub) (is_start sub) (is_progress sub) h)

by-report : (y : Answer Report) (id asked : ℕ) (e a s p : Bool) → asked < 16
    → one_of id asked (e || says_on id ends y) (a || says_on id is_acceptance y) (s || says_on id is_start y) (p || says_on id is_progress y)
    ≡ left_by y (one_of id asked e a s p)
by-report (refuses n) id asked e a s p h = one_same id asked e a s p
by-report (gives r) id asked e a s p h =
    by-match (eqb id r.request) id asked r.subtype e a s p h
    ∙ sym (left-pick r.request r.subtype (not (e || all_come asked a s p)) (entry_from id asked a s p))

by_call : (c : Call) (id asked : ℕ) (e a s p : Bool) → asked < 16
    → one_of id asked (e || report_on id ends c) (a || report_on id is_acceptance c) (s || report_on id is_start c) (p || report_on id is_progress c)
    ≡ left_call c (one_of id asked e a s p)
by_call (sent x) id asked e a s p h = one_same id asked e a s p
by_call (reported t x) id asked e a s p h = by-report (report_in t x) id asked e a s p h

one-call : (c : Call) (since : List Call) (id asked : ℕ) → asked < 16
    → pick (not (closed_by (since ++ (c ∷ [])) id asked)) (entry_since (since ++ (c ∷ [])) id asked ∷ []) []
    ≡ left_call c (pick (not (closed_by since id asked)) (entry_since since id asked ∷ []) [])
unfolding closed_by
one-call c since id asked h =
    (λ i. one_of id asked (any_last (report_on id ends) since c i) (any_last (report_on id is_acceptance) since c i) (any_last (report_on id is_start) since c i) (any_last (report_on id is_progress) since c i))
    ∙ by_call c id asked (any_of (report_on id ends) since) (any_of (report_on id is_acceptance) since) (any_of (report_on id is_start) since) (any_of (report_on id is_progress) since) h

-- a sending that was refused, or asked for nothing, has no entry
sent-call : (b q x y : Bool) (c : Call) (e n : Entry) → pick (not y) (n ∷ []) [] ≡ left_call c (pick (not x) (e ∷ []) [])
    → pick (b && (q && not y)) (n ∷ []) [] ≡ left_call c (pick (b && (q && not x)) (e ∷ []) [])
sent-call true true x y c e n k = k
sent-call true false x y c e n k = sym (by-nil c)
sent-call false q x y c e n k = sym (by-nil c)

-- the entries when one more call has come
entries-call : (c : Call) (since : List Call) (h : History) → entries_since (since ++ (c ∷ [])) h ≡ left_call c (entries_since since h)
unfolding entries_since
entries-call c since start = sym (by-nil c)
entries-call c since (h ▸ reported t x) = entries-call c (reported t x ∷ since) h
entries-call c since (h ▸ sent s) =
    let id = request_of s in
    let asked = asked_of s in
    let k : asked < 16 = omega arith in
    ap₂ ◌++◌ (entries-call c (sent s ∷ since) h)
    (sent-call (passes (send_check (open_after h) s)) (not (eqb (ones asked) 0)) (closed_by since id asked) (closed_by (since ++ (c ∷ [])) id asked) c
    (entry_since since id asked) (entry_since (since ++ (c ∷ [])) id asked) (one-call c since id asked k))
    ∙ sym (by_append c (entries_since (sent s ∷ since) h) _)

-- ---- the tracker holds the entries of the history

-- at first, a command that asks for something is not closed
not_yet : (id asked : ℕ) → eqb (ones asked) 0 ≡ false → closed_by [] id asked ≡ false
unfolding closed_by any_of
not_yet id asked h =
    ap (λ (b : Bool). not (lowest asked) && b) (ne_eqb 0 (ones asked) (λ e. eqb-false (ones asked) 0 h (sym e))) ∙ and-false (not (lowest asked))

pub or-none : (a b : Bool) → a || b ≡ false → (a ≡ false) × (b ≡ false)
or-none false b e = (refl, e)
or-none true b e = absurd (true≢false e)

-- a report on a request that is not open would leave all
left-none : (id sub : ℕ) (l : List Entry) → among id (ids_of l) ≡ false → left id sub l ≡ l
unfolding left among ids_of
left-none id sub [] h = refl
left-none id sub (e ∷ l) h =
    let q = or-none (eqb e.id id) (among id (ids_of l)) h in
    ap₂ ◌++◌ (left_other id sub e (eqb-false e.id id q.0)) (left-none id sub l q.1)

-- what a setter keeps, by whether it passed
kept_gives : (p : Passed) (old new : Tracker) → p ≡ gives tt → (set_if p old new).kept ≡ new
unfolding set_if
kept_gives p old new e = ap (λ (x : Passed). (set_if x old new).kept) e

kept-refuses : (p : Passed) (old new : Tracker) (n : Numbers) → p ≡ refuses n → (set_if p old new).kept ≡ old
unfolding set_if
kept-refuses p old new n e = ap (λ (x : Passed). (set_if x old new).kept) e

passed_is : (p : Passed) (old new : Tracker) → (set_if p old new).passed ≡ p
unfolding set_if
passed_is (gives u) old new = refl
passed_is (refuses n) old new = refl

-- one more sending
sent-case : (t : Tracker) (l : List Entry) (id asked : ℕ) (p : Passed) (b : Bool) → entries_of t ≡ l → eqb (ones asked) 0 ≡ b
    → entries_of (set_if p t (pick b t (holding t (entries_of t ++ (entry_of id asked ∷ []))))).kept
    ≡ l ++ pick (passes p && (not b && not (closed_by [] id asked))) (entry_since [] id asked ∷ []) []
unfolding set_if any_of
sent-case t l id asked (refuses n) b e h = e ∙ sym (append-nil l)
sent-case t l id asked (gives u) true e h = e ∙ sym (append-nil l)
sent-case t l id asked (gives u) false e h =
    entries-held t (entries_of t ++ (entry_of id asked ∷ []))
    ∙ ap (λ (x : List Entry). x ++ (entry_of id asked ∷ [])) e
    ∙ ap (λ (c : Bool). l ++ pick (not c) (entry_of id asked ∷ []) []) (sym (not_yet id asked h))

-- one more report
report-one : (t : Tracker) (l : List Entry) (r : Report) (m : Bool) → entries_of t ≡ l → among r.request (ids_of (entries_of t)) ≡ m
    → entries_of (report_to t (gives r)).kept ≡ left r.request r.subtype l
unfolding report_to
report-one t l r false e k =
    ap entries_of (kept-refuses _ t _ _ (check-closed (ids_of (entries_of t)) (gives r) r refl k))
    ∙ e ∙ sym (left-none r.request r.subtype l (ap (λ (x : List Entry). among r.request (ids_of x)) (sym e) ∙ k))
report-one t l r true e k =
    ap entries_of (kept_gives _ t _ (check-open (ids_of (entries_of t)) (gives r) r refl k))
    ∙ entries-held t (left r.request r.subtype (entries_of t)) ∙ ap (left r.request r.subtype) e

report-case : (t : Tracker) (l : List Entry) (a : Answer Report) → entries_of t ≡ l → entries_of (report_to t a).kept ≡ left_by a l
unfolding report_to
report-case t l (refuses n) e = ap entries_of (kept-refuses _ t _ n (check-refused (ids_of (entries_of t)) (refuses n) n refl)) ∙ e
report-case t l (gives r) e = report-one t l r (among r.request (ids_of (entries_of t))) e refl

held : (h : History) → entries_of (run h) ≡ entries_since [] h
unfolding run entries_since send_of opened
held start = refl
held (h ▸ sent s) =
    let ids : open_of (run h) ≡ open_after h = ap ids_of (held h) ∙ ids-since [] h in
    ap (λ (x : List ℕ). entries_of (set_if (send_check x s) (run h) (opened (run h) (request_of s) (asked_of s))).kept) ids
    ∙ sent-case (run h) (entries_since (sent s ∷ []) h) (request_of s) (asked_of s) (send_check (open_after h) s) (eqb (ones (asked_of s)) 0)
    (held h ∙ sym (entries-call (sent s) [] h)) refl
held (h ▸ reported t x) =
    report-case (run h) (entries_since [] h) (report_in t x) (held h) ∙ sym (entries-call (reported t x) [] h)

-- ---- the answers

-- the requests that the tracker holds are those open by the history
pub ids-held : (h : History) → open_of (run h) ≡ open_after h
ids-held h = ap ids_of (held h) ∙ ids-since [] h

-- after any calls the tracker answers as the history does: what is open,
pub open-as-history : (h : History) (id : ℕ) → is_open (run h) id ≡ open_in h id
open-as-history h id = ap (among id) (ids-held h)

-- whether a command is taken,
pub send-as-history : (h : History) (s : List ℕ) → (send_of (run h) s).passed ≡ answer_after h (sent s)
unfolding send_of
send-as-history h s = passed_is _ (run h) _ ∙ ap (λ (x : List ℕ). send_check x s) (ids-held h)

-- and whether a report is
pub report-as-history : (h : History) (t : ℕ) (s : List ℕ) → (report_to (run h) (report_in t s)).passed ≡ answer_after h (reported t s)
unfolding report_to
report-as-history h t s = passed_is _ (run h) _ ∙ ap (λ (x : List ℕ). report_check x (report_in t s)) (ids-held h)

-- a refusal changes nothing
unchanged : (p : Passed) (old new : Tracker) (e : Numbers) → (set_if p old new).passed ≡ refuses e → (set_if p old new).kept ≡ old
unfolding set_if
unchanged (refuses d) old new e q = refl
unchanged (gives u) old new e q = absurd (never u e (sym q))

pub send-unchanged : (t : Tracker) (s : List ℕ) (e : Numbers) → (send_of t s).passed ≡ refuses e → (send_of t s).kept ≡ t
unfolding send_of
send-unchanged t s e p = unchanged _ t _ e p

pub report-unchanged : (t : Tracker) (a : Answer Report) (e : Numbers) → (report_to t a).passed ≡ refuses e → (report_to t a).kept ≡ t
unfolding report_to
report-unchanged t a e p = unchanged _ t _ e p
