-- The ranges of the cells, where an object's record is written.
use Prim.Native.Nat.{ℕ, ◌≤◌}
use mathlib.Core.Path.{◌≡◌, sym, ap, ◌∙◌}
use mathlib.Core.Logic.{◌≢◌}
use mathlib.Core.Bool.{true, ◌&&◌}
use mathlib.Core.List.{List}
use native.Mathlib.Omega.{arith}
use Rattle.rules.proofs.Tests.{by-eq}
use Rattle.layout.specs.Rows.{flag_of, suspended_of, waiting_of, terminated_of, count_of, length_of, master_of}
use Rattle.layout.specs.View.{is_set, is_process}
use Rattle.layout.specs.WellFormed.{Cells}
use Rattle.call_grow.proofs.Making.{OneSlot}

process-same : (b l b' l' : List ℕ) (q : ℕ) → master_of l' q ≡ master_of l q → flag_of b' q ≡ flag_of b q
    → is_process (master_of l') (flag_of b') q ≡ is_process (master_of l) (flag_of b) q
unfolding is_process
process-same b l b' l' q m f = λ k. is_set (m k) && is_set (f k)

pub made_cells : (b l b' l' : List ℕ) (o i flag : ℕ) → Cells b l → flag ≤ 1
    → OneSlot (master_of l) (master_of l') o i → OneSlot (flag_of b) (flag_of b') o flag
    → OneSlot (suspended_of b) (suspended_of b') o 1 → OneSlot (waiting_of b) (waiting_of b') o 0
    → OneSlot (terminated_of b) (terminated_of b') o 0 → OneSlot (count_of b) (count_of b') o 0
    → length_of b' ≡ length_of b → Cells b' l'
made_cells b l b' l' o i flag C fits m f s a t n z =
    let same : (q : ℕ) → q ≢ o → is_process (master_of l') (flag_of b') q ≡ true
    → is_process (master_of l) (flag_of b) q ≡ true =
    λ q ne h. sym (process-same b l b' l' q (m.else q ne) (f.else q ne)) ∙ h in
    record {
      flag = λ q h. by-eq q o
          (λ x. rw (x, f.here) fits)
          (λ ne. rw (f.else q ne) (C.flag q (ap is_set (sym (m.else q ne)) ∙ h)));
      suspended = λ q h. by-eq q o
          (λ x. rw (x, s.here) (omega arith))
          (λ ne. rw (s.else q ne) (C.suspended q (same q ne h)));
      waiting = λ q h. by-eq q o
          (λ x. rw (x, a.here) (omega arith))
          (λ ne. rw (a.else q ne) (C.waiting q (same q ne h)));
      terminated = λ q h. by-eq q o
          (λ x. rw (x, t.here) (omega arith))
          (λ ne. rw (t.else q ne) (C.terminated q (same q ne h)));
      count = λ q h. by-eq q o
          (λ x. rw (x, n.here) (omega arith))
          (λ ne. rw (n.else q ne) (C.count q (same q ne h)));
      length = λ q j h p. by-eq q o
          (λ x. absurd (omega (arith, p, ap (count_of b') x, n.here)))
          (λ ne. rw z (C.length q j (same q ne h) (rw (n.else q ne) at p)));
    }
