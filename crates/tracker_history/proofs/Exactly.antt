-- A request is open exactly if it was sent without refusal, asking for something, and not closed since.
use Prim.Native.Nat.{ℕ}
use mathlib.Core.Path.{◌≡◌, refl, sym, ap, ap₂, ◌∙◌}
use mathlib.Core.Logic.{◌↔◌, ◌⊎◌, inl, inr}
use mathlib.Core.Bool.{Bool, true, false, false≢true, not, ◌&&◌, ◌||◌, and-eq-true_iff, or-false, or_assoc}
use mathlib.Core.List.{List, [], ◌∷◌, ◌++◌, append_assoc, append-nil}
use lib.Dec.{eqb}
use lib.Count.{ones}
use borrow.Author.Tests.{eq-eqb, ne_eqb, eqb-true, eqb-false, not-true}
use Rattle.space_packet.specs.Bits.{pick}
use Rattle.space_packet.specs.Answer.{Passed, gives, refuses}
use Rattle.tracker.specs.Reports.{request_of, asked_of}
use Rattle.tracker.specs.Refusals.{among, send_check}
use Rattle.tracker.specs.Open.{is_open}
use Rattle.tracker_history.specs.History.{Call, sent, reported, History, start, ◌▸◌, extended, closed_by, passes, stays, open_since, open_after, open_in}
use Rattle.tracker_history.specs.Answers.{run, OpenBy}
use Rattle.tracker_history.proofs.Histories.{open-as-history}

-- ---- bools

or_cases : (a b : Bool) → a || b ≡ true → (a ≡ true) ⊎ (b ≡ true)
or_cases true b e = inl refl
or_cases false b e = inr e

or_left : (a b : Bool) → a ≡ true → a || b ≡ true
or_left a b e = ap (λ (x : Bool). x || b) e

or_right : (a b : Bool) → b ≡ true → a || b ≡ true
or_right true b e = refl
or_right false b e = e

passes-gives : (p : Passed) → passes p ≡ true → p ≡ gives tt
passes-gives (gives tt) e = refl
passes-gives (refuses n) e = absurd (false≢true e)

among-append : (id : ℕ) (a b : List ℕ) → among id (a ++ b) ≡ among id a || among id b
unfolding among
among-append id [] b = refl
among-append id (x ∷ a) b = ap (λ (y : Bool). eqb x id || y) (among-append id a b) ∙ sym (or_assoc (eqb x id) (among id a) (among id b))

-- ---- from the history's answer

extended-last : (h : History) (l : List Call) (c : Call) → extended h (l ++ (c ∷ [])) ≡ extended h l ▸ c
unfolding extended
extended-last h [] c = refl
extended-last h (x ∷ l) c = extended-last (h ▸ x) l c

-- the same where calls have followed the history
record Found (since : List Call) (h : History) (id : ℕ) : Type 0 where
  before : History
  command : List ℕ
  mid : List Call
  is : extended (before ▸ sent command) mid ≡ h
  request : request_of command ≡ id
  left_open : stays (open_after before) (mid ++ since) command ≡ true

-- one call later
found-later : (c : Call) (since : List Call) (h : History) (id : ℕ) → Found (c ∷ since) h id → Found since (h ▸ c) id
unfolding extended
found-later c since h id f = record {
  before = f.before;
  command = f.command;
  mid = f.mid ++ (c ∷ []);
  is = extended-last (f.before ▸ sent f.command) f.mid c ∙ ap (λ (x : History). x ▸ c) f.is;
  request = f.request;
  left_open = ap (λ (l : List Call). stays (open_after f.before) l f.command) (append_assoc f.mid (c ∷ []) since) ∙ f.left_open;
}

here : (since : List Call) (h : History) (s : List ℕ) (id : ℕ) (b : Bool) → stays (open_after h) since s ≡ b
    → among id (pick b (request_of s ∷ []) []) ≡ true → Found since (h ▸ sent s) id
unfolding extended among
here since h s id true e k = record {
  before = h;
  command = s;
  mid = [];
  is = refl;
  request = eqb-true (request_of s) id (sym (or-false (eqb (request_of s) id)) ∙ k);
  left_open = e;
}
here since h s id false e k = absurd (false≢true k)

found-sent : (since : List Call) (h : History) (s : List ℕ) (id : ℕ) → (among id (open_since (sent s ∷ since) h) ≡ true → Found (sent s ∷ since) h id)
    → (among id (open_since (sent s ∷ since) h) ≡ true) ⊎ (among id (pick (stays (open_after h) since s) (request_of s ∷ []) []) ≡ true) → Found since (h ▸ sent s) id
found-sent since h s id before (inl e) = found-later (sent s) since h id (before e)
found-sent since h s id before (inr e) = here since h s id (stays (open_after h) since s) refl e

found : (since : List Call) (h : History) (id : ℕ) → among id (open_since since h) ≡ true → Found since h id
unfolding open_since among
found since start id e = absurd (false≢true e)
found since (h ▸ reported t x) id e = found-later (reported t x) since h id (found (reported t x ∷ since) h id e)
found since (h ▸ sent s) id e =
    found-sent since h s id (found (sent s ∷ since) h id)
    (or_cases _ _ (sym (among-append id (open_since (sent s ∷ since) h) (pick (stays (open_after h) since s) (request_of s ∷ []) [])) ∙ e))

-- ---- and back

reach : (l since : List Call) (h : History) (id : ℕ) → among id (open_since (l ++ since) h) ≡ true → among id (open_since since (extended h l)) ≡ true
unfolding extended open_since
reach [] since h id e = e
reach (reported t x ∷ l) since h id e = reach l since (h ▸ reported t x) id e
reach (sent s ∷ l) since h id e =
    reach l since (h ▸ sent s) id
    (among-append id (open_since (sent s ∷ (l ++ since)) h) (pick (stays (open_after h) (l ++ since) s) (request_of s ∷ []) []) ∙ or_left _ _ e)

opens : (since : List Call) (h : History) (s : List ℕ) (id : ℕ) → stays (open_after h) since s ≡ true → request_of s ≡ id → among id (open_since since (h ▸ sent s)) ≡ true
unfolding open_since among
opens since h s id e k =
    among-append id (open_since (sent s ∷ since) h) (pick (stays (open_after h) since s) (request_of s ∷ []) [])
    ∙ or_right (among id (open_since (sent s ∷ since) h)) (among id (pick (stays (open_after h) since s) (request_of s ∷ []) [])) (ap (λ (b : Bool). among id (pick b (request_of s ∷ []) [])) e ∙ or-false (eqb (request_of s) id) ∙ eq-eqb (request_of s) id k)

-- ---- the sentence

closed_same : (k l : List Call) (i j asked : ℕ) → k ≡ l → i ≡ j → closed_by k i asked ≡ closed_by l j asked
closed_same k l i j asked e h = ap₂ (λ (x : List Call) (y : ℕ). closed_by x y asked) e h

exactly : (h : History) (id : ℕ) → open_in h id ≡ true → OpenBy h id
exactly h id e =
    let f = found [] h id e in
    let l : f.mid ++ [] ≡ f.mid = append-nil f.mid in
    let q = (and-eq-true_iff (passes (send_check (open_after f.before) f.command)) _).0 f.left_open in
    let r = (and-eq-true_iff (not (eqb (ones (asked_of f.command)) 0)) _).0 q.1 in
    record {
      before = f.before;
      command = f.command;
      since = f.mid;
      is = f.is;
      request = f.request;
      taken = passes-gives _ q.0;
      asks = eqb-false _ _ (not-true _ r.0);
      not-closed = closed_same f.mid (f.mid ++ []) id (request_of f.command) (asked_of f.command) (sym l) (sym f.request) ∙ not-true _ r.1;
    }

back : (h : History) (id : ℕ) → OpenBy h id → open_in h id ≡ true
back h id o =
    let l : o.since ≡ o.since ++ [] = sym (append-nil o.since) in
    let c = closed_same (o.since ++ []) o.since (request_of o.command) id (asked_of o.command) (sym l) o.request ∙ o.not-closed in
    let t : stays (open_after o.before) (o.since ++ []) o.command ≡ true =
    ap₂ (λ (p : Passed) (b : Bool). passes p && (not (eqb (ones (asked_of o.command)) 0) && not b)) o.taken c
    ∙ ap (λ (b : Bool). not b && true) (ne_eqb (ones (asked_of o.command)) 0 o.asks) in
    ap (λ (x : History). open_in x id) (sym o.is)
    ∙ reach o.since [] (o.before ▸ sent o.command) id (opens (o.since ++ []) o.before o.command id t o.request)

pub open-exactly : (h : History) (id : ℕ) → (is_open (run h) id ≡ true) ↔ OpenBy h id
open-exactly h id = ((λ e. exactly h id (sym (open-as-history h id) ∙ e)), (λ o. open-as-history h id ∙ back h id o))
