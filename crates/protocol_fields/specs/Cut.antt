-- A text cut at its separators, one piece after the other.
use Rattle.std.specs.Prelude.{ℕ, ◌+◌, List, ltb, length, drop, Option, Some, None}
use Rattle.text.specs.Pieces.{pick, gap, piece_of}

-- the next piece of what is left: the first one, as `piece` of text cuts it
abbrev pub piece_in : ℕ → Option (List ℕ) → Option (List ℕ)
piece_in b None = None
piece_in b (Some l) = Some (piece_of b 0 l)

-- what is left behind it: what follows the separator, if there is one
abbrev pub behind_in : ℕ → Option (List ℕ) → Option (List ℕ)
behind_in b None = None
behind_in b (Some l) = pick (ltb (gap b l) (length l)) (Some (drop (gap b l + 1) l)) None
