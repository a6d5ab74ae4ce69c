-- 01, "Presenting a password".
use Rattle.std.specs.Prelude.{ℕ, true, false, ◌&&◌, leb}
use Rattle.std.specs.Int.Bits.{bit_xor}
use Rattle.rules.specs.Limit as Limit
use Rattle.rules.specs.Slots.{find}
use Rattle.rules.specs.Store.{Password, Lockword, State, same_name, same_password, cap_lives}
use Rattle.rules.specs.Call.{Capability}

-- if the presented p1 is 2,147,483,648 or more, both halves are XORed with the lockword
unfoldable pub unlock : Password → Lockword → Password
unlock p w = elim (leb Limit.top p.p1) [
  | true ↦ record { p1 = bit_xor p.p1 w.first; p2 = bit_xor p.p2 w.second }
  | false ↦ p
]

-- the slot of the capability presented by the process at slot me: of the object named, with the p1 and p2 that the
-- caller's lockword gives; 0 if there is none
unfoldable pub presented : State → ℕ → Capability → ℕ
presented s me x =
    let p : Password = unlock x.password (s.lock me) in
    find Limit.caps (λ i. cap_lives s i
    && same_name (s.object (s.cap i).object).name x.name
    && same_password (s.cap i).password p)

-- a theorem that computes with this file's definitions says `unfolding` and this name
unfoldable pub computes : Unit {0}
unfolding unlock presented
computes = tt
