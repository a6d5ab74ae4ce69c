-- What the output buffer keeps of a text.
use Rattle.std.specs.Prelude.{ℕ, ◌-◌, ◌*◌, ◌/◌, List, length, drop}

-- the size of the output buffer
abbrev pub SIZE : ℕ
SIZE = 65536

-- a whole buffer is written once more comes after it
unfoldable pub kept : List ℕ → List ℕ
kept text = drop (SIZE * ((length text - 1) / SIZE)) text
