-- States and elements as bytes (docs/LAYOUT.md): words, one after another.
use Rattle.std.specs.Prelude.{ℕ, List, Option}
use Rattle.elem.specs.declared.Element.{Element}
use Rattle.text_dump.specs.declared.State.{State}
use Rattle.little.specs.Little.{bytes_of, words_in}
use Rattle.codec.specs.Words.{state_words, element_words}
use Rattle.codec.specs.Spelling.{state_of}

-- 128 bytes, 176 bytes
unfoldable pub state_bytes : State → List ℕ
state_bytes σ = bytes_of (state_words σ)

unfoldable pub element_bytes : Element → List ℕ
element_bytes e = bytes_of (element_words e)

-- the state that the first 128 bytes spell, if they spell one
unfoldable pub state_in : List ℕ → Option State
state_in b = state_of (words_in 16 b)
