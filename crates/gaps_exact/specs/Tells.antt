-- What the call tells of a capture, by the capture alone.
use Rattle.std.specs.Prelude.{ℕ, ◌+◌, ◌≤◌, ◌≡◌, List, [], ◌++◌, length, drop}
use Rattle.space_packet.specs.Answer.{answer_of, Numbers, gives, refuses}
use Rattle.tc_strict.specs.Split.{walk}
use Rattle.gaps.specs.Gaps.{Rows, command_of, begin}
use Rattle.gaps.specs.declared.Listing.{Listing}
use Rattle.gaps.specs.declared.Totals.{Totals}
use Rattle.gaps_exact.specs.History.{commands_of, totals_of, gaps_behind, new_behind, gaps_in, apids_in, Reason, RefusedAt}

-- where no refusal ends the walk: the list begins with the gaps of the capture and is as it was behind them, so many are listed, and the
-- totals are those of its pieces, which add up to its length
pub record ListsAll (capture : List ℕ) (before : Rows) (r : Listing) (after : Rows) (t : Totals) : Type 0 where
  pub apids : apids_in capture ≤ 64
  pub rows : length (gaps_in capture) ≤ length before
  pub counted : r.listed ≡ length (gaps_in capture)
  pub left : after ≡ gaps_in capture ++ drop (length (gaps_in capture)) before
  pub totals : t ≡ totals_of (walk capture)
  pub sums : t.accepted + t.refused + t.tail ≡ length capture

-- where one does, with e: at a command, for one of the two reasons, and no command before it has either; the list begins with the gaps of
-- the commands before it, so many are listed, and it is as it was behind them
pub record RefusedFor (capture : List ℕ) (before : Rows) (r : Listing) (after : Rows) (e : Numbers) : Type 0 where
  pub at : RefusedAt (length before) begin (walk capture) e
  pub apids : new_behind [] (commands_of at.before) ≤ 64
  pub rows : length (gaps_behind [] (commands_of at.before)) ≤ length before
  pub reason : Reason (length before) (commands_of at.before) (command_of at.command) e
  pub counted : r.listed ≡ length (gaps_behind [] (commands_of at.before))
  pub left : after ≡ gaps_behind [] (commands_of at.before) ++ drop (length (gaps_behind [] (commands_of at.before))) before

pub record Tells (capture : List ℕ) (before : Rows) (r : Listing) (after : Rows) : Type 0 where
  pub unrefused : (t : Totals) → answer_of r.result ≡ gives t → ListsAll capture before r after t
  pub refused : (e : Numbers) → answer_of r.result ≡ refuses e → RefusedFor capture before r after e
