-- `present` finds the capability that the rules find: p1 is unique in an object, and p2 decides.
use Prim.Native.Nat.{ℕ, ◌+◌, ◌≤◌}
use mathlib.Core.List.{[]}
use mathlib.Core.Path.{◌≡◌, sym, ap, ◌∙◌}
use native.Mathlib.Omega.{arith}
use lib.ListN.{get_or}
use Rattle.rules.specs.Slots.{find}
use Rattle.rules.specs.Password.{unlock, presented}
use Rattle.rules.proofs.Tests.{by-eq}
use Rattle.values.specs.Words.{password_of}
use Rattle.layout.specs.Layout as Layout
use Rattle.layout.specs.View.{view}
use Rattle.call_steps.specs.Request.{capability_of}
use Rattle.call_steps.specs.Tests.{taken, slot_found}
use Rattle.call_steps.proofs.Finding.{slot_of, slot_none, slot-some, found-le}
use Rattle.call_steps.proofs.Holding.{ByP2, present-none, present-by, lock-is}
use Rattle.call_steps.proofs.present.present.Goals as goal
use Rattle.call_steps.proofs.present.present.Goals.{After-find_cap, In_ok-k}

pub returns-in_err-o : goal.returns-in_err-o
returns-in_err-o c =
    let a = c.args in
    c.from_residual.ensures
    ∙ ap slot_found (sym (present-none a.bytes.now a.links.now a.words.now c.requires.plain a.me (capability_of a.x)
    (slot_none _ (c.in_err-o.ensures a.words.now))))

-- where k is the slot with the p1, or 0
by-p2 : (c : After-find_cap) (k : ℕ)
    → k ≡ find 512 (taken (view c.args.bytes.now c.args.links.now c.args.words.now) c.in_ok-o.o (password_of c.unlock-p.result).p1)
    → ByP2 c.args.words.now k (password_of c.unlock-p.result).p2
    (presented (view c.args.bytes.now c.args.links.now c.args.words.now) c.args.me (capability_of c.args.x))
by-p2 c k e =
    let a = c.args in
    let lock = lock-is a.bytes.now a.links.now a.words.now a.me c.requires.process in
    let o = slot_of _ _ (c.in_ok-o.ensures a.words.now) in
    present-by a.bytes.now a.links.now a.words.now c.requires.plain a.me (capability_of a.x)
    c.in_ok-o.o o.0 (λ z. omega (arith, o.1))
    (password_of c.unlock-p.result) (c.unlock-p.ensures ∙ ap (unlock (password_of a.x.password)) (sym lock)) k e

pub returns-in_err-k : goal.returns-in_err-k
returns-in_err-k c =
    let a = c.args in
    let p = by-p2 (goal.at.returns-in_err-k c).After-find_cap 0 (sym (slot_none _ (c.in_err-k.ensures a.bytes.now))) in
    c.from_residual-in_err-k.ensures
    ∙ ap slot_found (by-eq (get_or a.words.now (Layout.P2 + 0) 0) (password_of c.unlock-p.result).p2 p.here p.else)

-- the slot found
high : (c : In_ok-k) → c.in_ok-k.k ≤ 512
high c = found-le _ 512 _ (slot_of _ _ (c.in_ok-k.ensures [])).0

pub overflow_add-k : goal.overflow_add-k
overflow_add-k c = record { fits = omega (arith, high c) }

pub offset_bounds-words-k : goal.offset_bounds-words-k
offset_bounds-words-k c = record { fits = omega (arith, high c) }

pub bounds-words-k : goal.bounds-words-k
bounds-words-k c = omega (arith, high (goal.at.bounds-words-k c).In_ok-k, c.requires.plain.sized.words)

pub returns-then-words-k : goal.returns-then-words-k
returns-then-words-k c =
    let k = slot_of _ _ (c.in_ok-k.ensures c.args.bytes.now) in
    slot-some c.in_ok-k.k k.1 ∙ ap slot_found ((by-p2 (goal.at.returns-then-words-k c).After-find_cap c.in_ok-k.k k.0).here c.if-words-k.true)

pub returns-else-words-k : goal.returns-else-words-k
returns-else-words-k c =
    let k = slot_of _ _ (c.in_ok-k.ensures c.args.bytes.now) in
    ap slot_found ((by-p2 (goal.at.returns-else-words-k c).After-find_cap c.in_ok-k.k k.0).else c.if-words-k.false)
