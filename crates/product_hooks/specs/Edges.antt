-- Patterns and what they are turned, which the reference is held to as well.
use Rattle.std.specs.Prelude.{ℕ, List, [], ◌∷◌}
use Rattle.product_hooks.specs.Turned.{turned}

pub record Edge : Type 0 where
  pub pattern : List ℕ
  pub turns-to : List ℕ

unfoldable pub edge : List ℕ → List ℕ → Edge
edge pattern turns-to = record { pattern = pattern; turns-to = turns-to }

unfoldable pub edges : List Edge
edges =
    -- a full row becomes a column
    edge (255 ∷ 0 ∷ 0 ∷ 0 ∷ 0 ∷ 0 ∷ 0 ∷ 0 ∷ []) (1 ∷ 1 ∷ 1 ∷ 1 ∷ 1 ∷ 1 ∷ 1 ∷ 1 ∷ [])
    -- bit 7 of byte 0 becomes bit 0 of byte 7
    ∷ edge (128 ∷ 0 ∷ 0 ∷ 0 ∷ 0 ∷ 0 ∷ 0 ∷ 0 ∷ []) (0 ∷ 0 ∷ 0 ∷ 0 ∷ 0 ∷ 0 ∷ 0 ∷ 1 ∷ [])
    -- bit 2 of byte 1 and bit 4 of byte 6
    ∷ edge (0 ∷ 4 ∷ 0 ∷ 0 ∷ 0 ∷ 0 ∷ 16 ∷ 0 ∷ []) (0 ∷ 0 ∷ 2 ∷ 0 ∷ 64 ∷ 0 ∷ 0 ∷ 0 ∷ [])
    -- the diagonal stays, and so does a ninth byte
    ∷ edge (1 ∷ 2 ∷ 4 ∷ 8 ∷ 16 ∷ 32 ∷ 64 ∷ 128 ∷ 77 ∷ []) (1 ∷ 2 ∷ 4 ∷ 8 ∷ 16 ∷ 32 ∷ 64 ∷ 128 ∷ 77 ∷ [])
    -- seven bytes stay
    ∷ edge (1 ∷ 2 ∷ 3 ∷ 4 ∷ 5 ∷ 6 ∷ 7 ∷ []) (1 ∷ 2 ∷ 3 ∷ 4 ∷ 5 ∷ 6 ∷ 7 ∷ [])
    -- two tiles, each by itself
    ∷ edge (15 ∷ 15 ∷ 15 ∷ 15 ∷ 0 ∷ 0 ∷ 0 ∷ 0 ∷ 1 ∷ 2 ∷ 3 ∷ 4 ∷ 5 ∷ 6 ∷ 7 ∷ 8 ∷ [])
    (15 ∷ 15 ∷ 15 ∷ 15 ∷ 0 ∷ 0 ∷ 0 ∷ 0 ∷ 85 ∷ 102 ∷ 120 ∷ 128 ∷ 0 ∷ 0 ∷ 0 ∷ 0 ∷ [])
    -- none
    ∷ edge [] []
    ∷ []

unfoldable pub given : Edge → Edge
given e = edge e.pattern (turned e.pattern)

-- a theorem that computes with this file's definitions says `unfolding` and this name
unfoldable pub computes : Unit {0}
unfolding edge edges given
computes = tt
