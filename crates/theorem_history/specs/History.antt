-- Demand 3 about stores: the slices, as the contracts of `fresh`, of `call` and of the functions by hook leave them, call after
-- call. And that no process with mail waits.
use Rattle.std.specs.Prelude.{ℕ, ◌≡◌, Bool, true, List, [], ◌∷◌, ◌++◌, eqb, length}
use Rattle.rules.specs.Code as Code
use Rattle.rules.specs.Store.{Password}
use Rattle.rules.specs.Rights.{delete_cap, op}
use Rattle.rules.specs.Call.{Call}
use Rattle.rules.specs.Ledger.{Ledger, book, opening}
use Rattle.rules.specs.Demand.{FreshWords, Now, Claims, Ended}
use Rattle.rules.specs.Theorems.{Awake}
use Rattle.layout.specs.View.{view}
use Rattle.kernel_fresh.specs.Fresh.{Fresh}
use Rattle.values.specs.Refusals.{code_of}
use Rattle.call_steps.specs.declared.request.Request.{Request}
use Rattle.call_steps.specs.Request.{Reply, call_of}
use Rattle.kernel_step.specs.Slices.{Slices, slices}
use Rattle.kernel_call.specs.Calls.{Calls}
use Rattle.product_hooks.specs.Turned.{turned}
use Rattle.product_hooks.specs.Hooked.{Hooked}

-- a store: three slices
pub record Store : Type 0 where
  pub bytes : List ℕ
  pub links : List ℕ
  pub words : List ℕ

-- with an answer buffer and a scratch, the slices of a call
abbrev pub lent : Store → List ℕ → List ℕ → Slices
lent s buffer scratch = slices s.bytes s.links s.words buffer scratch

-- a call is made plainly, or by hook (02, CR 5: reads and writes are; what is said holds of any call)
pub data Way : Type 0 where
  plain by_hook : Way

-- one call of a run: how it is made, the request, the bytes that come with it, the buffer and the scratch that are lent; then
-- the reply, and the store, the buffer and the scratch that it leaves
pub record Event : Type 0 where
  pub way : Way
  pub request : Request
  pub text : List ℕ
  pub buffer : List ℕ
  pub scratch : List ℕ
  pub reply : Reply
  pub store : Store
  pub buffer-after : List ℕ
  pub scratch_after : List ℕ

-- the bytes that the call itself is given
abbrev pub text_by : Way → List ℕ → List ℕ
text_by plain text = text
text_by by_hook text = turned text

-- the call that it makes, with nothing of the store
abbrev pub call_at : Event → Call
call_at e = call_of e.request (text_by e.way e.text) (length e.buffer) (length e.scratch)

-- the contract of `call`, or that of the functions by hook
abbrev pub Contract : Way → Request → List ℕ → Reply → Slices → Slices → Type 0
Contract plain = Calls
Contract by_hook = Hooked

-- it is as the contract says
abbrev pub Happens : Store → Event → Type 0
Happens s e = Contract e.way e.request e.text e.reply (lent s e.buffer e.scratch)
    (lent e.store e.buffer-after e.scratch_after)

-- a run: each call is made on the store that the one before it left
unfoldable pub Runs : Store → List Event → Type 0
Runs s [] = Unit {0}
Runs s (e ∷ es) = Happens s e × Runs e.store es

-- the store that it leaves
unfoldable pub last_store : Store → List Event → Store
last_store s [] = s
last_store s (e ∷ es) = last_store e.store es

-- the call was done
abbrev pub is_done : Event → Bool
is_done e = eqb (code_of e.reply) Code.done

-- the ledger is fed each call and whether it was done, nothing of the store
unfoldable pub booked : Ledger → List Event → Ledger
booked l [] = l
booked l (e ∷ es) = booked (book l (call_at e) (is_done e)) es

-- what the store means and the ledger beside it, after these calls
abbrev pub after : Password → Store → List Event → Now
after p s es =
    let z : Store = last_store s es in
    record { store = view z.bytes z.links z.words; ledger = booked (opening p) es }

-- of a run from s: the claims hold at its end, and each done delete in it ended what it should
pub record Holds (p : Password) (s : Store) (es : List Event) : Type 0 where
  pub claims : Claims (after p s es)
  pub deletes : (front back : List Event) (e : Event)
      → es ≡ front ++ e ∷ back
      → op e.request.number ≡ delete_cap
      → is_done e ≡ true
      → Ended (after p s front) (call_at e) (after p s (front ++ e ∷ []))

-- Demand 3: after every list of calls from a fresh store, whatever stood in the slices before
unfoldable pub Demand3 : Type 0
Demand3 =
    (supply : ℕ) (p : Password) → FreshWords supply p
    → (old new : Store)
    → Fresh supply p old.bytes old.links old.words new.bytes new.links new.words Code.done
    → (es : List Event) → Runs new es
    → Holds p new es

-- 02, CR 2, "A process with mail should not sleep.": after every such list none does
unfoldable pub MailWakes : Type 0
MailWakes =
    (supply : ℕ) (p : Password) → FreshWords supply p
    → (old new : Store)
    → Fresh supply p old.bytes old.links old.words new.bytes new.links new.words Code.done
    → (es : List Event) → Runs new es
    → Awake (after p new es).store
