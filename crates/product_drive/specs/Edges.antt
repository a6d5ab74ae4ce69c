-- The take-up on examples, which the reference is held to as well: a repeat and a place, whether they fit, and the step and the
-- place that a done pick hands back there; where they do not fit, no step, and the place that was given.
use Rattle.std.specs.Prelude.{ℕ, Bool, true, false, List, [], ◌∷◌}
use Rattle.product_drive.specs.declared.repeat.Repeat.{Repeat}
use Rattle.product_drive.specs.declared.repeat.Place.{Place}
use Rattle.product_drive.specs.Drive.{step_at, fits, place_after}

pub record Edge : Type 0 where
  pub repeat : Repeat
  pub place : Place
  pub fitting : Bool
  pub step : ℕ
  pub after : Place

-- N, C, W, next pick, steps so far; whether they fit, the step, the next pick, the steps so far
unfoldable pub edge : (n c w i steps : ℕ) → Bool → (step next steps' : ℕ) → Edge
edge n c w i steps fitting step next steps' = record {
  repeat = record { picks = n; counts = c; row = w };
  place = record { next = i; steps = steps };
  fitting = fitting;
  step = step;
  after = record { next = next; steps = steps' };
}

unfoldable pub edges : List Edge
edges =
    edge 1 0 1 1 0 true 0 1 0
    ∷ edge 1 16777215 64 1 0 true 16777215 1 0
    ∷ edge 3 10 8 1 0 true 3 2 3
    ∷ edge 3 10 8 2 3 true 3 3 6
    ∷ edge 3 10 8 3 6 true 4 1 0
    ∷ edge 10 0 8 7 0 true 0 8 0
    ∷ edge 10 3 8 4 0 true 1 5 1
    ∷ edge 5 20 8 4 12 true 4 5 16
    ∷ edge 1280 100003 6 1280 99924 true 79 1 0
    ∷ edge 65535 16777215 64 65534 16776702 true 256 65535 16776958
    ∷ edge 65535 16777215 64 65535 16776958 true 257 1 0
    ∷ edge 0 10 8 1 0 false 0 1 0
    ∷ edge 65536 10 8 1 0 false 0 1 0
    ∷ edge 3 16777216 8 1 0 false 0 1 0
    ∷ edge 3 10 0 1 0 false 0 1 0
    ∷ edge 3 10 65 1 0 false 0 1 0
    ∷ edge 3 10 8 0 0 false 0 0 0
    ∷ edge 3 10 8 4 10 false 0 4 10
    ∷ edge 3 10 8 2 2 false 0 2 2
    ∷ edge 3 10 8 2 4 false 0 2 4
    ∷ []

-- what the definitions give for the repeat and the place of an edge
unfoldable pub given : Edge → Edge
given e = record {
  repeat = e.repeat;
  place = e.place;
  fitting = fits e.repeat e.place;
  step = elim (fits e.repeat e.place) [ true ↦ step_at e.repeat e.place.next | false ↦ 0 ];
  after = elim (fits e.repeat e.place) [ true ↦ place_after e.repeat e.place | false ↦ e.place ];
}

-- a theorem that computes with this file's definitions says `unfolding` and this name
unfoldable pub computes : Unit {0}
unfolding edge edges given
computes = tt
