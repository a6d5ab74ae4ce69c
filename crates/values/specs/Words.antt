-- What words, and arrays and structs of them, mean in the rules: two words as a password or as a lockword, a top bit, a window.
use Rattle.std.specs.Prelude.{ℕ, true, false, List, [], ◌∷◌, leb, get_or}
use Rattle.std.specs.Int.Bits.{bit_xor}
use Rattle.rules.specs.Limit as Limit
use Rattle.rules.specs.Store.{Password, Lockword}
use Rattle.rules.specs.Store as Store
use Rattle.values.specs.declared.window.Window.{Window}

abbrev pub password_of : List ℕ → Password
password_of l = record { p1 = get_or l 0 0; p2 = get_or l 1 0 }

abbrev pub lockword_of : List ℕ → Lockword
lockword_of l = record { first = get_or l 0 0; second = get_or l 1 0 }

-- the two words of a, each XORed with that of b
abbrev pub xor_of : List ℕ → List ℕ → List ℕ
xor_of a b = bit_xor (get_or a 0 0) (get_or b 0 0) ∷ bit_xor (get_or a 1 0) (get_or b 1 0) ∷ []

-- a word's top bit: 1 for 2,147,483,648 or more, otherwise 0
unfoldable pub top_bit : ℕ → ℕ
top_bit n = elim (leb Limit.top n) [ true ↦ 1 | false ↦ 0 ]

abbrev pub window_of : Window → Store.Window
window_of w = record { start = w.start; end = w.end }
