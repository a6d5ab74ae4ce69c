-- A store that lines of a script leave, on the fresh store of the examples, is well formed.
use Prim.Native.Nat.{ℕ}
use mathlib.Core.Path.{◌≡◌}
use mathlib.Core.Bool.{Bool, true, ◌&&◌}
use mathlib.Core.List.{List, [], ◌∷◌}
use native.Mathlib.Omega.{arith}
use lib.Dec.{leb}
use borrow.Author.Tests.{leb-true}
use Rattle.rules.specs.Limit as Limit
use Rattle.rules.specs.Store.{State, fresh}
use Rattle.rules.specs.Valid.{Valid}
use Rattle.rules.specs.Call.{Call, Outcome}
use Rattle.rules.specs.Rights.{op}
use Rattle.rules.specs.Demand.{Words}
use Rattle.rules.specs.Theorems.{FreshValid, ValidKept, LastFree}
use Rattle.rules.specs.Script.{nth, line_fits, call_of, last_free, line_rule}
use Rattle.rules.specs.Edges.{after}
use Rattle.rules.proofs.Tests.{all2, pick-by}
use Rattle.rules.proofs.Theorems.{fresh-valid, valid-kept, last-free}

-- the call's words are 32-bit numbers
unfoldable pub words_fit : Call → Bool
words_fit c =
    leb c.presented.password.p1 Limit.word
    && (leb c.presented.password.p2 Limit.word
    && (leb c.drawn.p1 Limit.word
    && (leb c.drawn.p2 Limit.word
    && (leb c.range.start Limit.word
    && (leb c.range.end Limit.word
    && (leb c.sum Limit.word
    && (leb c.lock.first Limit.word && leb c.lock.second Limit.word)))))))

words_of : (c : Call) → words_fit c ≡ true → Words c
unfolding words_fit
words_of c h =
    let a = all2 (leb c.presented.password.p1 Limit.word) _ h in
    let b = all2 (leb c.presented.password.p2 Limit.word) _ a.1 in
    let d = all2 (leb c.drawn.p1 Limit.word) _ b.1 in
    let e = all2 (leb c.drawn.p2 Limit.word) _ d.1 in
    let f = all2 (leb c.range.start Limit.word) _ e.1 in
    let g = all2 (leb c.range.end Limit.word) _ f.1 in
    let i = all2 (leb c.sum Limit.word) _ g.1 in
    let j = all2 (leb c.lock.first Limit.word) _ i.1 in
    record {
      presented1 = leb-true _ _ a.0;
      presented2 = leb-true _ _ b.0;
      drawn1 = leb-true _ _ d.0;
      drawn2 = leb-true _ _ e.0;
      start = leb-true _ _ f.0;
      end = leb-true _ _ g.0;
      sum = leb-true _ _ i.0;
      lock1 = leb-true _ _ j.0;
      lock2 = leb-true _ _ j.1;
    }

abbrev pub call : List ℕ → Call
call l = call_of (op (nth l 0)) l

valid-line : (s : State) (l : List ℕ) → Valid s → words_fit (call l) ≡ true → Valid (line_rule s l).after
unfolding line_rule ValidKept LastFree
valid-line s l v h = pick-by (λ (o : Outcome). Valid o.after) (line_fits (op (nth l 0)) l) _ _
    (λ _. valid-kept s (call l) (last_free s (call l)) v (record {
      words = words_of (call l) h;
      choice = last-free s (call l) v;
    }))
    (λ _. v)

unfoldable pub all_fit : List (List ℕ) → Bool
all_fit [] = true
all_fit (l ∷ ls) = words_fit (call l) && all_fit ls

valid-lines : (s : State) (ls : List (List ℕ)) → Valid s → all_fit ls ≡ true → Valid (after s ls)
unfolding after all_fit
valid-lines s [] v h = v
valid-lines s (l ∷ ls) v h =
    let f = all2 (words_fit (call l)) (all_fit ls) h in
    valid-lines (line_rule s l).after ls (valid-line s l v f.0) f.1

-- from the fresh store of the examples
pub valid-after : (ls : List (List ℕ)) → all_fit ls ≡ true → Valid (after (fresh 1000 (record { p1 = 5; p2 = 9 })) ls)
unfolding FreshValid
valid-after ls h = valid-lines _ ls (fresh-valid 1000 (record { p1 = 5; p2 = 9 }) (record {
  amount = omega arith;
  p1 = omega arith;
  p2 = omega arith;
})) h

-- a theorem that computes whether lines fit says `unfolding` and this name
unfoldable pub computes : Unit {0}
unfolding words_fit all_fit
computes = tt
