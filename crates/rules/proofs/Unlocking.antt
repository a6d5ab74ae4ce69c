-- Unlocking by a lockword of a well-formed store: twice it is nothing, and it stays in the 2 to the power 64 passwords.
use Prim.Native.Nat.{◌<◌}
use mathlib.Core.Path.{◌≡◌, sym, ap, ap₂, ◌∙◌}
use mathlib.Core.Bool.{Bool, true, false}
use native.Mathlib.Omega.{arith}
use lib.Dec.{leb}
use lib.Bits.{bit_xor, xor_lt}
use borrow.Author.Tests.{leb-true, le-leb}
use Rattle.rules.specs.Limit as Limit
use Rattle.rules.specs.Store.{Password, same_password, Lockword}
use Rattle.rules.specs.Valid.{LockwordFits}
use Rattle.rules.specs.Password.{unlock}
use Rattle.rules.proofs.Tests.{by_bool, bool_same, pick_yes, pick-not, same-password, password-same}
use Rattle.rules.proofs.Bitwise.{xor-twice, xor-top}

-- both halves XORed
abbrev xored : Password → Lockword → Password
xored p w = record { p1 = bit_xor p.p1 w.first; p2 = bit_xor p.p2 w.second }

-- p1 is 2,147,483,648 or more
abbrev high : Password → Bool
high p = leb Limit.top p.p1

unlock-high : (p : Password) (w : Lockword) → high p ≡ true → unlock p w ≡ xored p w
unfolding unlock
unlock-high p w e = pick_yes (high p) (xored p w) p e

unlock-low : (p : Password) (w : Lockword) → high p ≡ false → unlock p w ≡ p
unfolding unlock
unlock-low p w e = pick-not (high p) (xored p w) p e

-- the top bit is kept
high-xored : (p : Password) (w : Lockword) → LockwordFits w → high p ≡ true → high (xored p w) ≡ true
high-xored p w f e =
    le-leb Limit.top (bit_xor p.p1 w.first)
    (omega (arith, leb-true Limit.top p.p1 e, xor-top p.p1 w.first f.first))

pub unlock-twice : (p : Password) (w : Lockword) → LockwordFits w → unlock (unlock p w) w ≡ p
unlock-twice p w f = by_bool (high p)
    (λ e.
    ap (λ q. unlock q w) (unlock-high p w e)
    ∙ unlock-high (xored p w) w (high-xored p w f e)
    ∙ ap₂ (λ x y. record { p1 = x; p2 = y }) (xor-twice p.p1 w.first) (xor-twice p.p2 w.second))
    (λ e. ap (λ q. unlock q w) (unlock-low p w e) ∙ unlock-low p w e)

-- so p is x unlocked where x is p unlocked
pub unlock-same : (p x : Password) (w : Lockword) → LockwordFits w
    → same_password p (unlock x w) ≡ same_password x (unlock p w)
unlock-same p x w f = bool_same (same_password p (unlock x w)) (same_password x (unlock p w))
    (λ e. password-same x (unlock p w) (turn p x (same-password p (unlock x w) e)))
    (λ e. password-same p (unlock x w) (turn x p (same-password x (unlock p w) e)))
  where
    turn : (a b : Password) → a ≡ unlock b w → b ≡ unlock a w
    turn a b e = sym (ap (λ q. unlock q w) e ∙ unlock-twice b w f)

-- a password: two halves below 2 to the power 32
pub record Halves (p : Password) : Type 0 where
  pub p1 : p.p1 < Limit.half
  pub p2 : p.p2 < Limit.half

pub unlock-halves : (p : Password) (w : Lockword) → LockwordFits w → Halves p → Halves (unlock p w)
unlock-halves p w f h = by_bool (high p)
    (λ e. rw (unlock-high p w e) (record {
      p1 = xor_lt 32 p.p1 w.first h.p1 (omega (arith, f.first));
      p2 = xor_lt 32 p.p2 w.second h.p2 (omega (arith, f.second));
    }))
    (λ e. rw (unlock-low p w e) h)
