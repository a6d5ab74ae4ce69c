-- A run of stores is a run of the rules: each call's contract gives the step that the rules make, and so demand 3 about
-- the rules is demand 3 about stores.
use Prim.Native.Nat.{ℕ}
use mathlib.Core.Path.{◌≡◌, refl, sym, ap, ◌∙◌, subst}
use mathlib.Core.Bool.{true}
use mathlib.Core.List.{List, [], ◌∷◌, ◌++◌}
use native.Mathlib.Omega.{arith}
use native.Mathlib.Decide.{ℕ_discrete}
use lib.ListN.{length}
use Rattle.rules.specs.Store.{State, Password}
use Rattle.rules.specs.Rights.{delete_cap, op}
use Rattle.rules.specs.Ledger.{Ledger, book, opening}
use Rattle.rules.specs.Demand as Rules
use Rattle.rules.specs.Demand.{FreshWords, Allowed, Now, Step, Legal, Claims, Ended, start, done_at, next, run}
use Rattle.rules.specs.Theorems as Theorems
use Rattle.rules.specs.Theorems.{Awake}
use Rattle.rules.proofs.Theorems.{demand-3, mail-wakes}
use Rattle.layout.specs.Layout as Layout
use Rattle.layout.specs.WellFormed.{Sized}
use Rattle.kernel_fresh.specs.Fresh.{Fresh}
use Rattle.kernel_fresh.specs.Slices.{fresh_bytes, fresh_links, fresh_words}
use Rattle.call_steps.specs.Request.{call_of}
use Rattle.theorem_history.specs.History.{Store, Event, call_at, Happens, Runs, last_store, is_done, booked, after}
use Rattle.theorem_history.specs.History.{Demand3, MailWakes}
use Rattle.theorem_history.proofs.Events.{means, Formed, stepped, formed-next, allowed, outcome, done-is}

abbrev now : State → Ledger → Now
now s l = record { store = s; ledger = l }

-- ---- one call

module _ (s : Store) (e : Event) (W : Formed s) (h : Happens s e) where
  abbrev step_of : Step
  step_of = record { call = call_at e; choice = (stepped s e W h).choice }

  next-is : (l : Ledger) → next (now (means s) l) step_of ≡ now (means e.store) (book l (call_at e) (is_done e))
  unfolding next done_at
  next-is l = λ i. record {
    store = (outcome s e W h i).after;
    ledger = book l (call_at e) (done-is s e W h i);
  }

-- ---- a list of them

-- the steps of the rules that the calls make
steps_of : (s : Store) → Formed s → (es : List Event) → Runs s es → List Step
unfolding Runs
steps_of s W [] h = []
steps_of s W (e ∷ es) h = step_of s e W h.0 ∷ steps_of e.store (formed-next s e W h.0) es h.1

last-formed : (s : Store) → Formed s → (es : List Event) → Runs s es → Formed (last_store s es)
unfolding Runs last_store
last-formed s W [] h = W
last-formed s W (e ∷ es) h = last-formed e.store (formed-next s e W h.0) es h.1

run_is : (s : Store) (W : Formed s) (l : Ledger) (es : List Event) (h : Runs s es)
    → run (now (means s) l) (steps_of s W es h) ≡ now (means (last_store s es)) (booked l es)
unfolding Runs run last_store booked steps_of
run_is s W l [] h = refl
run_is s W l (e ∷ es) h =
    ap (λ n. run n (steps_of e.store (formed-next s e W h.0) es h.1)) (next-is s e W h.0 l)
    ∙ run_is e.store (formed-next s e W h.0) (book l (call_at e) (is_done e)) es h.1

legal : (s : Store) (W : Formed s) (l : Ledger) (es : List Event) (h : Runs s es)
    → Legal (now (means s) l) (steps_of s W es h)
unfolding Runs Legal steps_of
legal s W l [] h = tt
legal s W l (e ∷ es) h = (
  allowed s e W h.0,
  subst (λ n. Legal n (steps_of e.store (formed-next s e W h.0) es h.1)) (sym (next-is s e W h.0 l))
      (legal e.store (formed-next s e W h.0) (book l (call_at e) (is_done e)) es h.1),
)

-- ---- a list cut in two

runs-front : (s : Store) (f : List Event) (e : Event) (b : List Event) → Runs s (f ++ e ∷ b) → Runs s f
unfolding Runs
runs-front s [] e b h = tt
runs-front s (d ∷ f) e b h = (h.0, runs-front d.store f e b h.1)

runs-at : (s : Store) (f : List Event) (e : Event) (b : List Event) → Runs s (f ++ e ∷ b) → Happens (last_store s f) e
unfolding Runs last_store
runs-at s [] e b h = h.0
runs-at s (d ∷ f) e b h = runs-at d.store f e b h.1

last-with : (s : Store) (f : List Event) (e : Event) → last_store s (f ++ e ∷ []) ≡ e.store
unfolding last_store
last-with s [] e = refl
last-with s (d ∷ f) e = last-with d.store f e

booked-with : (l : Ledger) (f : List Event) (e : Event)
    → booked l (f ++ e ∷ []) ≡ book (booked l f) (call_at e) (is_done e)
unfolding booked
booked-with l [] e = refl
booked-with l (d ∷ f) e = booked-with (book l (call_at d) (is_done d)) f e

legal-with : (n : Now) (xs : List Step) (x : Step) → Legal n xs → Allowed (run n xs).store x.call x.choice
    → Legal n (xs ++ x ∷ [])
unfolding Legal run
legal-with n [] x h a = (a, tt)
legal-with n (y ∷ xs) x h a = (h.0, legal-with (next n y) xs x h.1 a)

-- ---- from the fresh store

sized : (b l w : List ℕ) → ((Sized b l w → ⊥) → ⊥) → Sized b l w
sized b l w f =
    go (ℕ_discrete (length b) Layout.BYTES) (ℕ_discrete (length l) Layout.LINKS) (ℕ_discrete (length w) Layout.WORDS)
  where
    go : Dec (length b ≡ Layout.BYTES) → Dec (length l ≡ Layout.LINKS) → Dec (length w ≡ Layout.WORDS) → Sized b l w
    go (yes p) (yes q) (yes r) = record { bytes = p; links = q; words = r }
    go (no n) q r = absurd (f (λ s. n s.bytes))
    go (yes p) (no n) r = absurd (f (λ s. n s.links))
    go (yes p) (yes q) (no n) = absurd (f (λ s. n s.words))

module _ (supply : ℕ) (p : Password) (words : FreshWords supply p) (old s : Store)
    (F : Fresh supply p old.bytes old.links old.words s.bytes s.links s.words 0) where
  made-sized : Sized old.bytes old.links old.words
  made-sized = sized old.bytes old.links old.words (λ n. omega (arith, (F.refused n).answer))

  abbrev fresh-store : Store
  fresh-store = record { bytes = fresh_bytes; links = fresh_links; words = fresh_words supply p }

  made : s ≡ fresh-store
  made = let m = F.made made-sized in
      λ i. record { bytes = m.bytes i; links = m.links i; words = m.words i }

  formed : Formed s
  formed = subst Formed (sym made) F.formed

  start_is : start supply p ≡ now (means s) (opening p)
  unfolding start
  start_is = λ i. now (((sym F.means) ∙ ap means (sym made)) i) (opening p)

  module _ (es : List Event) (h : Runs s es) where
    abbrev steps : List Step
    steps = steps_of s formed es h

    steps-legal : Legal (start supply p) steps
    steps-legal = subst (λ n. Legal n steps) (sym start_is) (legal s formed (opening p) es h)

    run-after : run (start supply p) steps ≡ after p s es
    run-after = ap (λ n. run n steps) start_is ∙ run_is s formed (opening p) es h

    claims-after : Claims (after p s es)
    unfolding Rules.Demand3
    claims-after = subst Claims run-after (demand-3 supply p words steps steps-legal).claims

  -- the call e on what the calls f leave
  module _ (f : List Event) (e : Event) (h : Runs s f) (g : Happens (last_store s f) e) where
    abbrev last_step : Step
    last_step = step_of (last_store s f) e (last-formed s formed f h) g

    next-after : next (run (start supply p) (steps f h)) last_step ≡ after p s (f ++ e ∷ [])
    next-after =
        ap (λ n. next n last_step) (run-after f h)
        ∙ next-is (last_store s f) e (last-formed s formed f h) g (booked (opening p) f)
        ∙ sym (λ i. now (means (last-with s f e i)) (booked-with (opening p) f e i))

    allowed-after : Allowed (run (start supply p) (steps f h)).store last_step.call last_step.choice
    allowed-after = subst (λ (n : Now). Allowed n.store last_step.call last_step.choice) (sym (run-after f h))
        (allowed (last_store s f) e (last-formed s formed f h) g)

    done-after : is_done e ≡ true → done_at (run (start supply p) (steps f h)) last_step ≡ true
    unfolding done_at
    done-after d = ap (λ n. done_at n last_step) (run-after f h) ∙ done-is (last_store s f) e (last-formed s formed f h) g ∙ d

    ended-after : op e.request.number ≡ delete_cap → is_done e ≡ true
        → Ended (after p s f) (call_at e) (after p s (f ++ e ∷ []))
    unfolding Rules.Demand3 call_of
    ended-after o d =
        let claim = (demand-3 supply p words (steps f h ++ last_step ∷ [])
        (legal-with (start supply p) (steps f h) last_step (steps-legal f h) allowed-after)).deletes
        (steps f h) [] last_step refl o (done-after d) in
        subst (λ n. Ended n (call_at e) (after p s (f ++ e ∷ []))) (run-after f h)
        (subst (λ n. Ended (run (start supply p) (steps f h)) (call_at e) n) next-after claim)

-- Demand 3, undivided
pub history : Demand3
unfolding Demand3
history supply p words old s F es h = record {
  claims = claims-after supply p words old s F es h;
  deletes = λ front back e is o d.
      let r : Runs s (front ++ e ∷ back) = subst (Runs s) is h in
      ended-after supply p words old s F front e (runs-front s front e back r) (runs-at s front e back r) o d;
}

-- none sleeps with mail
pub mail-wakes-after : MailWakes
unfolding MailWakes Theorems.MailWakes
mail-wakes-after supply p words old s F es h = subst (λ (n : Now). Awake n.store) (run-after supply p words old s F es h)
    (mail-wakes supply p (steps supply p words old s F es h))
