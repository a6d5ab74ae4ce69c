-- The store before line one: a program makes it fresh, whatever it holds.
use Prim.Native.Nat.{ℕ}
use mathlib.Core.List.{List}
use Rattle.rules.specs.Store.{Password}
use Rattle.layout.specs.WellFormed.{Sized, WellFormed}
use Rattle.kernel_fresh.specs.Fresh.{Fresh}

pub fresh-formed : {b l w b' l' w' : List ℕ} {supply r : ℕ} {p : Password} → Fresh supply p b l w b' l' w' r → Sized b l w
    → WellFormed b' l' w'
fresh-formed f sized =
    let m = f.made sized in
    rw (m.bytes, m.links, m.words) f.formed
