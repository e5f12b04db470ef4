-- A line cut at every separator.
use Rattle.std.specs.Prelude.{ℕ, zero, suc, ◌+◌, Bool, true, false, List, [], ◌∷◌, eqb, take, drop}

abbrev pub pick : {A : Type 0} → Bool → A → A → A
pick true a b = a
pick false a b = b

-- how many octets stand before the first b
unfoldable pub gap : ℕ → List ℕ → ℕ
gap b [] = 0
gap b (x ∷ l) = pick (eqb x b) 0 (suc (gap b l))

abbrev pub one : ℕ → ℕ → ℕ
one x y = pick (eqb x y) 1 0

-- how many b there are
unfoldable pub count_of : ℕ → List ℕ → ℕ
count_of b [] = 0
count_of b (x ∷ l) = one x b + count_of b l

-- the first piece ends before the first separator, and the others are the pieces of what follows it
unfoldable pub piece_of : ℕ → ℕ → List ℕ → List ℕ
piece_of b zero l = take (gap b l) l
piece_of b (suc k) l = piece_of b k (drop (gap b l + 1) l)
