-- What the calls answer and leave, by their contracts, after any calls.
use Prim.Native.Nat.{ℕ}
use mathlib.Core.Path.{◌≡◌, sym, ap, ◌∙◌}
use mathlib.Core.Logic.{◌↔◌}
use mathlib.Core.Bool.{Bool, true}
use mathlib.Core.List.{List}
use Rattle.space_packet.specs.Answer.{Kept}
use Rattle.tracker.specs.Reports.{report_in}
use Rattle.tracker.specs.Open.{is_open, send_of, report_of}
use Rattle.tracker.specs.declared.Tracker.{Tracker}
use Rattle.tracker_history.specs.History.{sent, reported, History}
use Rattle.tracker_history.specs.Answers.{run, Follows, OpenBy}
use Rattle.tracker_history.proofs.Exactly.{open-exactly}
use Rattle.tracker_history.proofs.Histories.{send-as-history, report-as-history, send-unchanged, report-unchanged}

pub sent-follows : (t : Tracker) (s : List ℕ) (k : Kept Tracker) → k ≡ send_of t s → (h : History) → t ≡ run h → Follows h (sent s) k
unfolding run
sent-follows t s k e h q =
    let a = ap (λ (x : Kept Tracker). x.passed) e in
    let l = ap (λ (x : Kept Tracker). x.kept) e in
    record {
      answered = a ∙ ap (λ (x : Tracker). (send_of x s).passed) q ∙ send-as-history h s;
      runs = l ∙ ap (λ (x : Tracker). (send_of x s).kept) q;
      unchanged = λ n p. l ∙ send-unchanged t s n (sym a ∙ p) ∙ q;
    }

pub report-follows : (t : Tracker) (n : ℕ) (s : List ℕ) (k : Kept Tracker) → k ≡ report_of t n s → (h : History) → t ≡ run h → Follows h (reported n s) k
unfolding run
report-follows t n s k e h q =
    let a = ap (λ (x : Kept Tracker). x.passed) e in
    let l = ap (λ (x : Kept Tracker). x.kept) e in
    record {
      answered = a ∙ ap (λ (x : Tracker). (report_of x n s).passed) q ∙ report-as-history h n s;
      runs = l ∙ ap (λ (x : Tracker). (report_of x n s).kept) q;
      unchanged = λ d p. l ∙ report-unchanged t (report_in n s) d (sym a ∙ p) ∙ q;
    }

pub asked-exactly : (t : Tracker) (id : ℕ) (r : Bool) (h : History) → r ≡ is_open t id → t ≡ run h → (r ≡ true) ↔ OpenBy h id
asked-exactly t id r h e q =
    let o = open-exactly h id in
    let p : r ≡ is_open (run h) id = e ∙ ap (λ (x : Tracker). is_open x id) q in ((λ y. o.0 (sym p ∙ y)), (λ b. p ∙ o.1 b))
