-- Byte strings written as texts.
use Rattle.std.specs.Prelude.{ℕ, zero, suc, List, [], ◌∷◌}
use Prim.Native.String.{String, len, char_at}
use Prim.Native.Char.{code}

-- n characters of an ASCII text from the place i on, each as its byte
abbrev pub ascii_from : ℕ → ℕ → String → List ℕ
ascii_from zero i s = []
ascii_from (suc n) i s = code (char_at s i) ∷ ascii_from n (suc i) s

-- the bytes of an ASCII text: `ascii "BGP"` is 66 ∷ 71 ∷ 80 ∷ []
abbrev pub ascii : String → List ℕ
ascii s = ascii_from (len s) 0 s
