-- What is proved about turning, each statement by itself; proofs/Turning.antt has the proofs.
use Rattle.std.specs.Prelude.{ℕ, ◌+◌, ◌*◌, ◌/◌, ◌≤◌, ◌<◌, ◌≡◌, List, length, get_or}
use Rattle.product_hooks.specs.Turned.{bit_of, turned}

abbrev pub Bytes : List ℕ → Type 0
Bytes l = (p : ℕ) → get_or l p 0 ≤ 255

-- "Turning twice gives the original bytes for every tile.", and for every list of bytes
unfoldable pub Twice : Type 0
Twice = (l : List ℕ) → Bytes l → turned (turned l) ≡ l

-- m is l turned, bit by bit
pub record Turns (l m : List ℕ) : Type 0 where
  pub size : length m ≡ length l
  -- "bit j of byte i becomes bit i of byte j", in tile k of the whole ones
  pub bits : (k i j : ℕ) → k < length l / 8 → i < 8 → j < 8 → bit_of (get_or m (8 * k + j) 0) i ≡ bit_of (get_or l (8 * k + i) 0) j
  pub small : (p : ℕ) → p < 8 * (length l / 8) → get_or m p 0 ≤ 255
  -- the last, incomplete tile is unturned
  pub rest : (p : ℕ) → 8 * (length l / 8) ≤ p → get_or m p 0 ≡ get_or l p 0

-- `turned` does that, and no other list does
unfoldable pub TurnedTurns : Type 0
TurnedTurns = (l : List ℕ) → Turns l (turned l)

unfoldable pub OnlyTurned : Type 0
OnlyTurned = (l m : List ℕ) → Turns l m → m ≡ turned l
