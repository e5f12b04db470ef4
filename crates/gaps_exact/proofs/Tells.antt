-- The call tells of a capture what is asked of it.
use Prim.Native.Nat.{ℕ, ◌≤◌}
use mathlib.Core.Path.{◌≡◌, sym, ap, ◌∙◌}
use mathlib.Core.Logic.{inl, inr}
use mathlib.Core.List.{List, [], ◌++◌}
use lib.ListN.{length, drop}
use Rattle.space_packet.specs.Answer.{Numbers}
use Rattle.space_packet.proofs.Answers.{gives-inj}
use Rattle.tc_strict.specs.Split.{walk}
use Rattle.gaps.specs.Gaps.{Rows, Outcome, command_of, begin, gaps_of, Listed}
use Rattle.gaps.specs.declared.Listing.{Listing}
use Rattle.gaps_exact.specs.History.{commands_of, gaps_behind, new_behind, Reason, RefusedAt}
use Rattle.gaps_exact.specs.Tells.{Tells}
use Rattle.gaps_exact.proofs.Reasons.{unrefused-is, refused_why}
use Rattle.gaps_exact.proofs.Refusals.{refused-at, refused-31, refused-1}
use Rattle.gaps_exact.proofs.Sums.{sums}

-- a walk that is refused at a command for one of the two reasons lists the gaps of the commands before it
refused-rows : (places : ℕ) (s : List ℕ) (e : Numbers) (k : RefusedAt places begin (walk s) e) → new_behind [] (commands_of k.before) ≤ 64
    → length (gaps_behind [] (commands_of k.before)) ≤ places → Reason places (commands_of k.before) (command_of k.command) e
    → (gaps_of places s).rows ≡ gaps_behind [] (commands_of k.before)
refused-rows places s e k few room (inl why) =
    ap (λ (o : Outcome). o.rows) (refused-31 places s k.before k.at k.n k.command k.behind k.pieces why.1 room)
refused-rows places s e k few room (inr why) =
    ap (λ (o : Outcome). o.rows) (refused-1 places s k.before k.at k.n k.command k.behind k.pieces why.1 few)

pub tells : (s : List ℕ) (before : Rows) (r : Listing) (after : Rows) → Listed s before r after → Tells s before r after
tells s before r after k =
    let places = length before in
    record {
      unrefused = λ t e.
          let given = sym k.answered ∙ e in
          let u = unrefused-is places s t given in
          let rows = ap (λ (o : Outcome). o.rows) u.2 in
          record {
            apids = u.0;
            rows = u.1;
            counted = k.counted ∙ ap length rows;
            left = k.left ∙ ap (λ (x : Rows). x ++ drop (length x) before) rows;
            totals = gives-inj _ _ (sym given ∙ ap (λ (o : Outcome). o.answer) u.2);
            sums = sums places s t given;
          };
      refused = λ e h.
          let at = refused-at places s e (sym k.answered ∙ h) in
          let w = refused_why places s e at in
          let rows = refused-rows places s e at w.0 w.1 w.2 in
          record {
            at = at;
            apids = w.0;
            rows = w.1;
            reason = w.2;
            counted = k.counted ∙ ap length rows;
            left = k.left ∙ ap (λ (x : Rows). x ++ drop (length x) before) rows;
          };
    }
