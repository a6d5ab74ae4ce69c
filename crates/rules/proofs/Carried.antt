-- Two states that differ in their slots alone: all that lives in one lives in the other, in a slot of its own there.
-- A device of proof; what it shows of two stores, with no slots in it, is in specs/Meaning.
use Prim.Native.Nat.{ℕ}
use mathlib.Core.Path.{◌≡◌}
use mathlib.Core.Bool.{true}
use Rattle.rules.specs.Store.{Object, Cap, State}
use Rattle.rules.specs.Valid.{Lives}
use Rattle.rules.specs.Call.{Outcome}

-- the slot there of the object, and of the capability, in a slot here; and back
pub record Maps : Type 0 where
  pub object : ℕ → ℕ
  pub cap : ℕ → ℕ
  pub object-back : ℕ → ℕ
  pub cap-back : ℕ → ℕ

-- an object lives in slot o
abbrev pub Alive : (ℕ → Object) → ℕ → Type 0
Alive object o = (object o).live ≡ true

-- what x holds at a slot of P, y holds at the slot that f takes it to
abbrev pub Along : {A : Type 0} → (ℕ → Type 0) → (ℕ → ℕ) → (ℕ → A) → (ℕ → A) → Type 0
Along P f x y = (i : ℕ) → P i → y (f i) ≡ x i

-- a capability as it is there: its object and its parent have other slots
abbrev pub carried : Maps → Cap → Cap
carried m x = record {
  object = m.object x.object;
  parent = m.cap x.parent;
  password = x.password;
  window = x.window;
  rights = x.rights;
  last_day = x.last_day;
}

-- the objects a are b there, the capabilities x are y there, each in a slot of its own; 0 is no slot here and there
pub record Moves (m : Maps) (a b : ℕ → Object) (x y : ℕ → Cap) : Type 0 where
  pub no-object : m.object 0 ≡ 0
  pub no-cap : m.cap 0 ≡ 0
  pub object : Along (Alive a) m.object a b
  pub cap : (i : ℕ) → Lives x i → y (m.cap i) ≡ carried m (x i)
  pub object-back : (q : ℕ) → Alive b q → Alive a (m.object-back q) × (m.object (m.object-back q) ≡ q)
  pub cap-back : (j : ℕ) → Lives y j → Lives x (m.cap-back j) × (m.cap (m.cap-back j) ≡ j)

-- t is s in the slots that m says
pub record CarriedBy (m : Maps) (s t : State) : Type 0 where
  pub moves : Moves m s.object t.object s.cap t.cap
  pub house : t.house ≡ s.house
  pub day : t.day ≡ s.day
  pub bytes : Along (Alive s.object) m.object s.bytes t.bytes
  pub lock : Along (Alive s.object) m.object s.lock t.lock
  pub cash : Along (Alive s.object) m.object s.cash t.cash
  pub marks : Along (Alive s.object) m.object s.marks t.marks
  pub box : Along (Alive s.object) m.object s.box t.box
  pub money : Along (Lives s.cap) m.cap s.money t.money

-- t is s in other slots
pub record Carries (s t : State) : Type 0 where
  pub maps : Maps
  pub by : CarriedBy maps s t

-- equal answers, and such states after it
pub record Alike (r q : Outcome) : Type 0 where
  pub answer : q.answer ≡ r.answer
  pub after : Carries r.after q.after
