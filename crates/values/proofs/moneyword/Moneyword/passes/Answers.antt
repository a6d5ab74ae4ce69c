-- A sum above what is left passes the limit, and no other.
use Prim.Native.Nat.{ℕ, ◌+◌, ◌-◌, ◌≤◌, ◌<◌}
use mathlib.Core.Path.{◌≡◌, refl, sym}
use mathlib.Core.Bool.{Bool, true, false}
use native.Mathlib.Omega.{arith}
use lib.Dec.{ltb}
use borrow.Author.Tests.{ltb-true, ltb-false, lt-ltb, le-ltb}
use Rattle.values.proofs.moneyword.Moneyword.passes.Goals as goal

above-left : (m n : ℕ) → m ≤ 4294967295 → (b : Bool) → ltb (4294967295 - m) n ≡ b → b ≡ ltb 4294967295 (m + n)
above-left m n h true e =
    let g : 4294967295 - m < n = ltb-true _ _ e in
    sym (lt-ltb 4294967295 (m + n) (omega arith))
above-left m n h false e =
    let g : n ≤ 4294967295 - m = ltb-false _ _ e in
    sym (le-ltb 4294967295 (m + n) (omega arith))

pub returns : goal.returns
returns c = above-left c.args.self.0 c.args.sum (omega arith) _ refl
