-- 02, CR 5: "A done read with the same rearrangement, starting at the same offset and of the same length, undoes a done write
-- if the object lives on and nothing wrote those bytes in between."
use Rattle.std.specs.Prelude.{◌≡◌, ◌≢◌, true, List, [], ◌∷◌, ◌++◌, take}
use Rattle.rules.specs.Store.{Name, Window, Apart, object_named}
use Rattle.rules.specs.Rights.{Op, read, write, op}
use Rattle.layout.specs.View.{view}
use Rattle.call_steps.specs.Request.{count_of}
use Rattle.product_hooks.specs.Theorems.{Bytes}
use Rattle.theorem_history.specs.History.{Store, by_hook, Event, call_at, Runs, is_done}

-- the object of which a capability is presented, and the range, counted from the object's start
abbrev pub target : Event → Name
target e = (call_at e).presented.name

abbrev pub range_of : Event → Window
range_of e = (call_at e).range

-- a call of this kind, made by hook, was done
pub record DoneByHook (o : Op) (e : Event) : Type 0 where
  pub by-hook : e.way ≡ by_hook
  pub kind : op e.request.number ≡ o
  pub done : is_done e ≡ true

-- an object of this name lives in the store
abbrev pub Lives : Name → Store → Type 0
Lives n s = object_named (view s.bytes s.links s.words) n ≢ 0

-- the call wrote no byte of range v of the object, plainly or by hook
abbrev pub Spares : Name → Window → Event → Type 0
Spares n v e = op e.request.number ≡ write → is_done e ≡ true → target e ≡ n → Apart v (range_of e)

-- after each of these calls the object lives, and none wrote those bytes
unfoldable pub Untouched : Name → Window → List Event → Type 0
Untouched n v [] = Unit {0}
Untouched n v (e ∷ es) = Lives n e.store × Spares n v e × Untouched n v es

-- w is the write, r the read, es the calls in between, of any kind, by any callers, done or refused
pub record Between (w : Event) (es : List Event) (r : Event) : Type 0 where
  pub writes : DoneByHook write w
  pub reads : DoneByHook read r
  pub object : target r ≡ target w
  pub range : range_of r ≡ range_of w
  pub untouched : Untouched (target w) (range_of w) es

-- the bytes that the read gives, at the front of its buffer, are those that were handed to the write
unfoldable pub Undoes : Type 0
Undoes =
    (s : Store) (w : Event) (es : List Event) (r : Event)
    → Runs s (w ∷ es ++ r ∷ [])
    → Between w es r
    → Bytes w.text
    → take (count_of r.reply) r.buffer-after ≡ w.text
