-- A buffer that is filled from a place on.
use Rattle.std.specs.Prelude.{ℕ, ◌+◌, ◌/◌, List, [], ◌∷◌, ◌++◌, eqb, ltb, length, get_or, drop, set, Option, Some, None}
use Rattle.text.specs.Pieces.{pick}
use Rattle.text.specs.Digits.{are_pairs, pair_octets}

pub record Page : Type 0 where
  pub octets : List ℕ
  pub place : ℕ

abbrev pub page : List ℕ → ℕ → Page
page l n = record { octets = l; place = n }

-- one octet more; past the end it is dropped
unfoldable pub placed : Page → ℕ → Page
placed p b =
    pick (ltb p.place (length p.octets)) (page (set p.octets p.place b) (p.place + 1)) p

unfoldable pub laid : Page → List ℕ → Page
laid p [] = p
laid p (b ∷ l) = laid (placed p b) l

-- a text at the start of a buffer that has room for it; behind it what was there
abbrev pub at_start : List ℕ → List ℕ → Page
at_start before t = page (t ++ drop (length t) before) (length t)

-- ---- octets read into a buffer

-- how many were read, or that the text is none, and the buffer
pub record OctetsRead : Type 0 where
  pub value : Option ℕ
  pub left : List ℕ

abbrev pub read : Option ℕ → List ℕ → OctetsRead
read v l = record { value = v; left = l }

abbrev pub filled : Page → OctetsRead
filled p = read (Some p.place) p.octets

-- `-` for none, or one or more pairs of digits whose octets have room; any other text leaves the buffer as it was
unfoldable pub octets_of : List ℕ → List ℕ → OctetsRead
octets_of before l =
    pick (eqb (length l) 0) (read None before)
    (pick (eqb (length l) 1)
    (pick (eqb (get_or l 0 0) 45) (read (Some 0) before) (read None before))
    (pick (ltb (length before) (length l / 2)) (read None before)
    (pick (are_pairs l) (filled (at_start before (pair_octets l))) (read None before))))
