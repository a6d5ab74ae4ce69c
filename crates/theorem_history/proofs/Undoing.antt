-- A read by hook gives what a write by hook was handed: the write leaves it turned in its range, each call in between keeps the
-- range, and the read turns it back.
use Prim.Native.Nat.{ℕ}
use mathlib.Core.Path.{◌≡◌, sym, ap, ◌∙◌, subst}
use mathlib.Core.Logic.{◌≢◌}
use mathlib.Core.Bool.{true}
use mathlib.Core.List.{List, [], ◌∷◌, ◌++◌, List-discrete}
use native.Mathlib.Omega.{arith}
use native.Mathlib.Decide.{ℕ_discrete}
use lib.ListN.{take, drop}
use lib.Seq.{take_at}
use borrow.Author.Tests.{eqb-true}
use Rattle.rules.specs.Code as Code
use Rattle.rules.specs.Store.{Name, Window, State, object_named}
use Rattle.rules.specs.Rights.{read, write}
use Rattle.rules.specs.Call.{Outcome}
use Rattle.rules.specs.Rule as Rule
use Rattle.rules.specs.Rule.{rule}
use Rattle.rules.specs.Valid as Valid
use Rattle.rules.proofs.Undoing as Rules
use Rattle.values.specs.Refusals.{code_of}
use Rattle.call_steps.specs.Request.{call_of, count_of}
use Rattle.call_steps.proofs.Replying.{answer-bytes, refused-code}
use Rattle.kernel_step.specs.Steps.{front}
use Rattle.kernel_call.proofs.Calling.{either_way}
use Rattle.product_hooks.specs.Turned.{turned, turned_front}
use Rattle.product_hooks.specs.Theorems.{Twice, Bytes}
use Rattle.product_hooks.proofs.Turning.{size-stays, turned-twice}
use Rattle.theorem_history.specs.History.{Store, Event, text_by, call_at, Happens, Runs, is_done}
use Rattle.theorem_history.specs.Undo.{target, range_of, DoneByHook, Lives, Spares, Untouched, Between, Undoes}
use Rattle.theorem_history.proofs.Events.{means, Formed, buffer_by, within, stepped, formed-next, allowed, outcome, done-is}

-- the range v of the object named n
abbrev bytes_at : Store → Name → Window → List ℕ
bytes_at s n v = Rules.range_of (means s) n v

-- ---- one call

-- a done call was made on a well-formed store
done-formed : (s : Store) (e : Event) → Happens s e → is_done e ≡ true → (Formed s → ⊥) → ⊥
done-formed s e h d bad =
    let refused = refused-code ((within s e h).call.unsound bad).reply in
    omega (arith, refused, eqb-true (code_of e.reply) Code.done d)

module _ (s : Store) (e : Event) (W : Formed s) (h : Happens s e) where
  abbrev result : Outcome
  result = rule (means s) (call_at e) (stepped s e W h).choice

  after_is : result.after ≡ means e.store
  after_is = ap (λ (o : Outcome). o.after) (outcome s e W h)

  rule-done : is_done e ≡ true → Rule.is_done result ≡ true
  rule-done d = done-is s e W h ∙ d

  abbrev valid : Valid.Formed (means s)
  valid = W.valid.formed

  -- the write
  written : DoneByHook write e → Lives (target e) e.store × (bytes_at e.store (target e) (range_of e) ≡ turned e.text)
  unfolding call_of
  written d =
      let w = Rules.write-leaves (means s) valid (call_at e) (stepped s e W h).choice d.kind (rule-done d.done) in (
        subst (λ (z : State). object_named z (target e) ≢ 0) after_is w.0,
        ap (λ (z : State). Rules.range_of z (target e) (range_of e)) (sym after_is) ∙ w.1 ∙ ap (λ k. text_by k e.text) d.by-hook,
      )

  -- a call in between
  kept : (n : Name) (v : Window) → Lives n s → Lives n e.store → Spares n v e → bytes_at e.store n v ≡ bytes_at s n v
  unfolding call_of
  kept n v lives lives-on spares =
      ap (λ (z : State). Rules.range_of z n v) (sym after_is)
      ∙ Rules.range-kept (means s) valid (call_at e) (stepped s e W h).choice (allowed s e W h) n v lives
      (subst (λ (z : State). object_named z n ≢ 0) (sym after_is) lives-on)
      (λ is d. spares is (sym (done-is s e W h) ∙ d))

  -- the read
  given : DoneByHook read e → take (count_of e.reply) e.buffer-after ≡ turned (bytes_at s (target e) (range_of e))
  unfolding call_of turned_front
  given d =
      let n : ℕ = count_of e.reply in
      let inner = within s e h in
      let read_is : front e.reply inner.leaves ≡ bytes_at s (target e) (range_of e) =
      sym (ap (λ (o : Outcome). o.answer.bytes) (outcome s e W h) ∙ answer-bytes e.reply (front e.reply inner.leaves))
      ∙ Rules.read-gives (means s) valid (call_at e) (stepped s e W h).choice d.kind (rule-done d.done) in
      ap (take n) (inner.buffer-is ∙ ap (λ k. buffer_by k n inner.leaves.buffer) d.by-hook)
      ∙ take_at (turned (take n inner.leaves.buffer)) (drop n inner.leaves.buffer) n
      (size-stays (take n inner.leaves.buffer) ∙ (stepped s e W h).count)
      ∙ ap turned read_is

-- ---- the calls in between

-- before the read r: what the write left
record Reached (n : Name) (v : Window) (xs : List ℕ) (r : Event) : Type 0 where
  at : Store
  formed : Formed at
  bytes : bytes_at at n v ≡ xs
  happens : Happens at r

reached : (n : Name) (v : Window) (xs : List ℕ) (r : Event) (s : Store) (es : List Event) → Formed s → Runs s (es ++ r ∷ [])
    → Lives n s → bytes_at s n v ≡ xs → Untouched n v es → Reached n v xs r
unfolding Runs Untouched
reached n v xs r s [] W h lives e on = record { at = s; formed = W; bytes = e; happens = h.0 }
reached n v xs r s (d ∷ es) W h lives e on =
    reached n v xs r d.store es (formed-next s d W h.0) h.1 on.0
    (kept s d W h.0 n v lives on.0 on.1 ∙ e) on.2

-- ---- the three together

undone : (s : Store) (w : Event) (es : List Event) (r : Event) → Formed s → Runs s (w ∷ es ++ r ∷ []) → Between w es r
    → Bytes w.text → take (count_of r.reply) r.buffer-after ≡ w.text
unfolding Runs Twice
undone s w es r W h b small =
    let x = written s w W h.0 b.writes in
    let z = reached (target w) (range_of w) (turned w.text) r w.store es (formed-next s w W h.0) h.1 x.0 x.1
    b.untouched in
    given z.at r z.formed z.happens b.reads
    ∙ ap (λ n. turned (bytes_at z.at n (range_of r))) b.object
    ∙ ap (λ v. turned (bytes_at z.at (target w) v)) b.range
    ∙ ap turned z.bytes
    ∙ turned-twice w.text small

pub undoes : Undoes
unfolding Undoes Runs
undoes s w es r h b small = either_way (List-discrete ℕ_discrete (take (count_of r.reply) r.buffer-after) w.text)
    (λ W. undone s w es r W h b small)
    (λ bad. absurd (done-formed s w h.0 b.writes.done bad))
