-- Words of 64 bits as bytes, one after another: eight to a word, the lowest first.
use Rattle.std.specs.Prelude.{ℕ, zero, suc, List, [], ◌∷◌, ◌++◌, take, drop}
use Rattle.word.specs.Word.{number, little_endian}

-- the bytes of words
unfoldable pub bytes_of : List ℕ → List ℕ
bytes_of [] = []
bytes_of (v ∷ w) = little_endian v ++ bytes_of w

-- the first n words of some bytes
unfoldable pub words_in : ℕ → List ℕ → List ℕ
words_in zero s = []
words_in (suc n) s = number (take 8 s) ∷ words_in n (drop 8 s)
