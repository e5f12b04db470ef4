-- No request is open twice, so that 32 entries are 32 requests.
use Prim.Native.Nat.{ℕ, ◌<◌}
use mathlib.Core.Path.{◌≡◌, refl, sym, ap, ap₂, ◌∙◌, subst}
use mathlib.Core.Bool.{Bool, true, false, ◌||◌}
use mathlib.Core.List.{List, [], ◌∷◌, ◌++◌}
use native.Mathlib.Omega.{arith}
use lib.ListN.{length, length-append}
use lib.Dec.{eqb, leb}
use lib.Count.{ones}
use borrow.Author.Tests.{eqb-false, ne_eqb, leb-false}
use Rattle.space_packet.specs.Bits.{pick}
use Rattle.space_packet.specs.Answer.{Answer, Passed, gives, refuses, refusal, refuse_if, set_if}
use Rattle.space_packet.proofs.Answers.{refuse-gives, then-gives}
use Rattle.tracker.specs.declared.Entry.{Entry}
use Rattle.tracker.specs.declared.Tracker.{Tracker}
use Rattle.tracker.specs.Reports.{request_of, asked_of, Report, report_in}
use Rattle.tracker.specs.Refusals.{among, open_check, send_check}
use Rattle.tracker.specs.Open.{left_by, entry_of, entries_of, open_of, holding, ids_of, noted, closes, left, opened, send_of, report_to}
use Rattle.tracker_history.specs.History.{sent, reported, History, start, ◌▸◌, open_after}
use Rattle.tracker_history.specs.Answers.{run, Distinct, Few}
use Rattle.tracker.proofs.Entries.{ids-length, entries-held, left-fits}
use Rattle.tracker_history.proofs.Histories.{ids-append, or-none, ids-held}

among-last : (x y : ℕ) (l : List ℕ) → among x l ≡ false → eqb y x ≡ false → among x (l ++ (y ∷ [])) ≡ false
unfolding among
among-last x y [] e h = ap (λ (b : Bool). b || false) h
among-last x y (z ∷ l) e h =
    let q = or-none (eqb z x) (among x l) e in ap₂ ◌||◌ q.0 (among-last x y l q.1 h)

distinct-last : (y : ℕ) (l : List ℕ) → Distinct l → among y l ≡ false → Distinct (l ++ (y ∷ []))
unfolding Distinct among
distinct-last y [] d e = (refl, tt)
distinct-last y (z ∷ l) d e =
    let q = or-none (eqb z y) (among y l) e in
    (among-last z y l d.0 (ne_eqb y z (λ k. eqb-false z y q.0 (sym k))), distinct-last y l d.1 q.1)

-- a report adds no request
among_one : (x : ℕ) (b c : Bool) (e n : Entry) (r : List Entry) → n.id ≡ e.id → eqb e.id x ≡ false → among x (ids_of r) ≡ false
    → among x (ids_of (pick b (pick c [] (n ∷ [])) (e ∷ []) ++ r)) ≡ false
unfolding among ids_of
among_one x true true e n r k h g = g
among_one x true false e n r k h g = ap₂ ◌||◌ (ap (λ (i : ℕ). eqb i x) k ∙ h) g
among_one x false c e n r k h g = ap₂ ◌||◌ h g

among-left : (x id sub : ℕ) (l : List Entry) → among x (ids_of l) ≡ false → among x (ids_of (left id sub l)) ≡ false
unfolding left among ids_of
among-left x id sub [] e = e
among-left x id sub (y ∷ l) e =
    let q = or-none (eqb y.id x) (among x (ids_of l)) e in
    among_one x (eqb y.id id) (closes sub (noted sub y)) y (noted sub y) (left id sub l) refl q.0 (among-left x id sub l q.1)

distinct-one : (b c : Bool) (e n : Entry) (r : List Entry) → n.id ≡ e.id → among e.id (ids_of r) ≡ false → Distinct (ids_of r)
    → Distinct (ids_of (pick b (pick c [] (n ∷ [])) (e ∷ []) ++ r))
unfolding Distinct ids_of
distinct-one true true e n r k h g = g
distinct-one true false e n r k h g = (ap (λ (i : ℕ). among i (ids_of r)) k ∙ h, g)
distinct-one false c e n r k h g = (h, g)

distinct-left : (id sub : ℕ) (l : List Entry) → Distinct (ids_of l) → Distinct (ids_of (left id sub l))
unfolding left Distinct ids_of
distinct-left id sub [] d = tt
distinct-left id sub (y ∷ l) d =
    distinct-one (eqb y.id id) (closes sub (noted sub y)) y (noted sub y) (left id sub l) refl (among-left y.id id sub l d.0) (distinct-left id sub l d.1)

few-left : (id sub : ℕ) (l : List Entry) → Few (ids_of l) → Few (ids_of (left id sub l))
few-left id sub l h =
    let f = h.few in
    let a = ids-length l in
    let b = ids-length (left id sub l) in
    let c = left-fits id sub l in record { few = omega arith; distinct = distinct-left id sub l h.distinct }

-- a sending that passes and asks for something has a new request, and a place
open-room : (ids : List ℕ) (id asked : ℕ) (b : Bool) → eqb (ones asked) 0 ≡ b → b ≡ false → open_check ids id asked ≡ gives tt → (among id ids ≡ false) × (length ids < 32)
unfolding open_check
open-room ids id asked b e k p =
    let c : refuse_if (among id ids) (refusal 17 []) (refuse_if (leb 32 (length ids)) (refusal 18 []) (gives tt)) ≡ gives tt =
    ap (λ (x : Bool). pick x (gives tt) (refuse_if (among id ids) (refusal 17 []) (refuse_if (leb 32 (length ids)) (refusal 18 []) (gives tt)))) (sym (e ∙ k)) ∙ p in
    let q = refuse-gives _ _ _ tt c in
    let r = refuse-gives _ _ _ tt q.1 in (q.0, leb-false 32 (length ids) r.0)

few-entry : (l : List Entry) (e : Entry) → Few (ids_of l) → among e.id (ids_of l) ≡ false → length (ids_of l) < 32 → Few (ids_of (l ++ (e ∷ [])))
unfolding ids_of
few-entry l e h a f =
    subst Few (sym (ids-append l (e ∷ [])))
    (record { few = omega (arith, length-append (ids_of l) (e.id ∷ [])); distinct = distinct-last e.id (ids_of l) h.distinct a })

few-opened : (t : Tracker) (id asked : ℕ) (b : Bool) → eqb (ones asked) 0 ≡ b → Few (open_of t) → open_check (open_of t) id asked ≡ gives tt
    → Few (ids_of (entries_of (pick b t (holding t (entries_of t ++ (entry_of id asked ∷ []))))))
few-opened t id asked true e h p = h
few-opened t id asked false e h p =
    let q = open-room (open_of t) id asked false e refl p in
    subst (λ (l : List Entry). Few (ids_of l)) (sym (entries-held t (entries_of t ++ (entry_of id asked ∷ []))))
    (few-entry (entries_of t) (entry_of id asked) h q.0 q.1)

few-sent : (t : Tracker) (s : List ℕ) (p : Passed) → send_check (open_of t) s ≡ p → Few (open_of t)
    → Few (ids_of (entries_of (set_if p t (opened t (request_of s) (asked_of s))).kept))
unfolding set_if send_check opened
few-sent t s (refuses n) e h = h
few-sent t s (gives tt) e h =
    let q = then-gives _ _ tt e in few-opened t (request_of s) (asked_of s) (eqb (ones (asked_of s)) 0) refl h q.2

few-in : (a : Answer Report) (l : List Entry) → Few (ids_of l) → Few (ids_of (left_by a l))
few-in (gives r) l h = few-left r.request r.subtype l h
few-in (refuses n) l h = h

few-reported : (t : Tracker) (a : Answer Report) (p : Passed) → Few (open_of t)
    → Few (ids_of (entries_of (set_if p t (holding t (left_by a (entries_of t)))).kept))
unfolding set_if
few-reported t a (refuses n) h = h
few-reported t a (gives u) h =
    subst (λ (l : List Entry). Few (ids_of l)) (sym (entries-held t (left_by a (entries_of t)))) (few-in a (entries_of t) h)

few-run : (h : History) → Few (open_of (run h))
unfolding run send_of report_to ids_of Distinct
few-run start = record { few = omega arith; distinct = tt }
few-run (h ▸ sent s) = few-sent (run h) s (send_check (open_of (run h)) s) refl (few-run h)
few-run (h ▸ reported t x) = few-reported (run h) (report_in t x) _ (few-run h)

-- and so by the history
pub open-few : (h : History) → Few (open_after h)
open-few h = subst Few (ids-held h) (few-run h)
