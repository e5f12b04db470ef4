-- Words in hand, by their octets. Only private contracts cite this.
use Rattle.std.specs.Prelude.{List, ◌++◌, ℕ}
use Rattle.crc_fold.specs.Word.{octs, lows}
use Rattle.crc_fold.specs.declared.folded.Four.{Four}
use Rattle.crc_fold.specs.declared.folded.Sixteen.{Sixteen}

-- the octets of four words, the most significant of each first
unfoldable pub octs4 : Four → List ℕ
octs4 f = octs 8 f.a ++ octs 8 f.b ++ octs 8 f.c ++ octs 8 f.d

-- the least significant of each first
unfoldable pub lows4 : Four → List ℕ
lows4 f = lows f.a ++ lows f.b ++ lows f.c ++ lows f.d

unfoldable pub lows16 : Sixteen → List ℕ
lows16 f = lows4 f.a ++ lows4 f.b ++ lows4 f.c ++ lows4 f.d
