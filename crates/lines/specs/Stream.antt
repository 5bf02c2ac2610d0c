-- A text that comes as a stream, in whatever parts: what a reader has read of it, and when the answer is known whatever follows. Assumes
-- nothing.
use Rattle.std.specs.Prelude.{◌≡◌, Bool, true, false, List, [], ◌++◌, ℕ}
use Rattle.lines.specs.declared.Reader.{Reader}
use Rattle.lines.specs.Text.{read_text}
use Rattle.lines.specs.Meaning.{meaning}

-- the reader has read just this text: whatever follows, it answers for both
pub record HasRead (reader : Reader) (text : List ℕ) : Type 0 where
  pub says : (rest : List ℕ) → meaning reader rest ≡ read_text (text ++ rest)

-- no bytes that follow change what the text says
abbrev pub Settled : List ℕ → Type 0
Settled text = (rest : List ℕ) → read_text (text ++ rest) ≡ read_text text

-- a test is true exactly where something holds
pub record Tells (P : Type 0) (test : Bool) : Type 0 where
  pub yes : test ≡ true → P
  pub no : test ≡ false → P → ⊥

-- Of every reader, whether it has read a text or not: with these the contracts leave no reader's answer open

-- r answers as s does after these bytes more
pub record GoesOn (s : Reader) (bytes : List ℕ) (r : Reader) : Type 0 where
  pub says : (rest : List ℕ) → meaning r rest ≡ meaning s (bytes ++ rest)

-- no bytes that follow change the reader's answer
abbrev pub Stays : Reader → Type 0
Stays reader = (rest : List ℕ) → meaning reader rest ≡ meaning reader []
