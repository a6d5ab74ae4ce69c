-- One call of a run, plain or by hook, is a step of the rules.
use Prim.Native.Nat.{ℕ}
use mathlib.Core.Path.{◌≡◌, refl, sym, ap, ◌∙◌, subst}
use mathlib.Core.List.{List}
use lib.Dec.{eqb}
use Rattle.rules.specs.Store.{State}
use Rattle.rules.specs.Call.{Outcome}
use Rattle.rules.specs.Rule as Rule
use Rattle.rules.specs.Rule.{rule}
use Rattle.rules.specs.Demand.{Allowed}
use Rattle.layout.specs.View.{view}
use Rattle.layout.specs.WellFormed.{WellFormed}
use Rattle.call_steps.specs.declared.request.Request.{Request}
use Rattle.call_steps.specs.Request.{Reply, answer_of, count_of}
use Rattle.call_steps.proofs.Replying.{answer-code}
use Rattle.kernel_step.specs.Slices.{Slices}
use Rattle.kernel_step.specs.Steps.{Steps, front}
use Rattle.kernel_call.specs.Calls.{Calls}
use Rattle.product_hooks.specs.Turned.{turned_front}
use Rattle.product_hooks.specs.Hooked.{handed_over}
use Rattle.theorem_history.specs.History.{Store, lent, Way, plain, by_hook, Event, text_by, call_at, Contract, Happens, is_done}

-- what the store means
abbrev pub means : Store → State
means s = view s.bytes s.links s.words

abbrev pub Formed : Store → Type 0
Formed s = WellFormed s.bytes s.links s.words

-- the store's slices
abbrev store_in : Slices → Store
store_in s = record { bytes = s.bytes; links = s.links; words = s.words }

-- ---- the plain call in it, which leaves the same store

-- the buffer where the plain call leaves this one, and counts n bytes
abbrev pub buffer_by : Way → ℕ → List ℕ → List ℕ
buffer_by plain n buffer = buffer
buffer_by by_hook n buffer = turned_front n buffer

pub record Inner (k : Way) (q : Request) (text : List ℕ) (r : Reply) (was : Slices) (z : Store) (buffer : List ℕ) : Type 0 where
  pub leaves : Slices
  pub call : Calls q (text_by k text) r was leaves
  pub store : z ≡ store_in leaves
  pub buffer-is : buffer ≡ buffer_by k (count_of r) leaves.buffer

inner : (k : Way) (scratch : List ℕ) {q : Request} {text : List ℕ} {r : Reply} {was : Slices} {z : Store} {buffer : List ℕ}
    → Contract k q text r was (lent z buffer scratch) → Inner k q text r was z buffer
unfolding handed_over
inner plain scratch {z = z} {buffer} h = record {
  leaves = lent z buffer scratch;
  call = h;
  store = refl;
  buffer-is = refl;
}
inner by_hook scratch h = record {
  leaves = h.plain;
  call = h.call;
  store = ap store_in h.leaves;
  buffer-is = ap (λ (x : Slices). x.buffer) h.leaves;
}

pub within : (s : Store) (e : Event) → Happens s e
    → Inner e.way e.request e.text e.reply (lent s e.buffer e.scratch) e.store e.buffer-after
within s e h = inner e.way e.scratch_after h

-- ---- the step

module _ (s : Store) (e : Event) (W : Formed s) (h : Happens s e) where
  abbrev pub stepped : Steps (call_at e) e.reply (lent s e.buffer e.scratch) (within s e h).leaves
  stepped = ((within s e h).call.steps W).rules

  pub formed-next : Formed e.store
  formed-next = subst Formed (sym (within s e h).store) stepped.formed

  pub allowed : Allowed (means s) (call_at e) stepped.choice
  allowed = stepped.allowed

  pub outcome : rule (means s) (call_at e) stepped.choice
      ≡ record { answer = answer_of e.reply (front e.reply (within s e h).leaves); after = means e.store }
  outcome = stepped.rules ∙ (λ d. record {
    answer = answer_of e.reply (front e.reply (within s e h).leaves);
    after = means (sym (within s e h).store d);
  })

  pub done-is : Rule.is_done (rule (means s) (call_at e) stepped.choice) ≡ is_done e
  unfolding Rule.is_done
  done-is =
      ap (λ (o : Outcome). eqb o.answer.code 0) outcome
      ∙ ap (λ (n : ℕ). eqb n 0) (answer-code e.reply (front e.reply (within s e h).leaves))
