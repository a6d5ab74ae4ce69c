-- A name, a capability and a window in a row of 32-bit numbers: what stands from number i on.
use Rattle.std.specs.Prelude.{ℕ, ◌+◌, List, [], ◌∷◌, get_or}
use Rattle.values.specs.declared.window.Window.{Window}
use Rattle.call_steps.specs.declared.request.Name.{Name}
use Rattle.call_steps.specs.declared.request.Capability.{Capability}

unfoldable pub name_at : List ℕ → ℕ → Name
name_at l i = record { volume = get_or l i 0; serial = get_or l (i + 1) 0 }

unfoldable pub capability_at : List ℕ → ℕ → Capability
capability_at l i = record { name = name_at l i; password = get_or l (i + 2) 0 ∷ get_or l (i + 3) 0 ∷ [] }

unfoldable pub window_at : List ℕ → ℕ → Window
window_at l i = record { start = get_or l i 0; end = get_or l (i + 1) 0 }
