-- `admit` looks the capability up, then at its last day, then at its rights.
use Prim.Native.Nat.{ℕ}
use mathlib.Core.Path.{◌≡◌, sym, ap, ◌∙◌}
use native.Mathlib.Omega.{arith}
use mathlib.Core.Logic.{◌≢◌}
use Rattle.rules.specs.Rights.{has}
use Rattle.rules.specs.Password.{presented}
use Rattle.rules.specs.Refusals.{first, expired, showing}
use Rattle.layout.specs.View.{view}
use Rattle.call_steps.specs.Request.{capability_of}
use Rattle.call_steps.specs.Run.{Held}
use Rattle.call_steps.proofs.Admitting.{showing-none, showing-expired, showing-missing, showing-held}
use Rattle.call_steps.proofs.Finding.{slot_of, slot_none}
use Rattle.call_steps.proofs.Holding.{found-held}
use Rattle.call_steps.proofs.present.admit.Goals as goal
use Rattle.call_steps.proofs.present.admit.Goals.{After-expired, After-right_held, In-Some}

-- the slot is that of the rules, and not 0
found : (c : In-Some) → c.in-Some.k ≡ presented (view c.args.bytes.now c.args.links.now c.args.words.now) c.args.me (capability_of c.args.x)
found c = (slot_of _ _ c.in-Some.ensures).0

some : (c : In-Some) → c.in-Some.k ≢ 0
some c z = let h = slot_of _ _ c.in-Some.ensures in omega (arith, h.1)

-- the refusal at the slot found is that at the slot of the rules
shows : (c : In-Some) (n : ℕ)
    → first (showing (view c.args.bytes.now c.args.links.now c.args.words.now) c.in-Some.k c.args.right.0) ≡ n
    → n ≡ first (showing (view c.args.bytes.now c.args.links.now c.args.words.now)
    (presented (view c.args.bytes.now c.args.links.now c.args.words.now) c.args.me (capability_of c.args.x)) c.args.right.0)
shows c n h = sym h ∙ ap (λ k. first (showing (view c.args.bytes.now c.args.links.now c.args.words.now) k c.args.right.0)) (found c)

late : (c : After-expired) → expired (view c.args.bytes.now c.args.links.now c.args.words.now) c.in-Some.k ≡ c.expired.result
late c = sym (c.expired.ensures c.args.bytes.now c.args.words.now)

rights : (c : After-right_held) → has ((view c.args.bytes.now c.args.links.now c.args.words.now).cap c.in-Some.k).rights c.args.right.0 ≡ c.right_held.result
rights c = sym (c.right_held.ensures c.args.bytes.now c.args.words.now)

held : (c : In-Some) → Held c.args.links.now c.in-Some.k
held c = found-held c.args.bytes.now c.args.links.now c.args.words.now c.args.me (capability_of c.args.x) c.in-Some.k (found c) (some c)

pub returns-in_default : goal.returns-in_default
returns-in_default c =
    let none = slot_none _ c.in_default.ensures in
    record {
      slot = sym none;
      code = sym (showing-none (view c.args.bytes.now c.args.links.now c.args.words.now) _ c.args.right.0 none);
    }

pub expired-requires-clause-fact_2 : goal.expired-requires-clause-fact_2
expired-requires-clause-fact_2 c = held c

pub returns-then-expired : goal.returns-then-expired
returns-then-expired c =
    let at = (goal.at.returns-then-expired c).In-Some in
    record {
      slot = found at;
      code = shows at _ (showing-expired (view c.args.bytes.now c.args.links.now c.args.words.now) c.in-Some.k c.args.right.0 (some at)
          (late (goal.at.returns-then-expired c).After-expired ∙ c.if-expired.true));
    }

pub right_held-requires-clause-fact_2 : goal.right_held-requires-clause-fact_2
right_held-requires-clause-fact_2 c = held (goal.at.right_held-requires-clause-fact_2 c).In-Some

pub returns-then-right_held : goal.returns-then-right_held
returns-then-right_held c =
    let at = (goal.at.returns-then-right_held c).In-Some in
    record {
      slot = found at;
      code = shows at _ (showing-held (view c.args.bytes.now c.args.links.now c.args.words.now) c.in-Some.k c.args.right.0 (some at)
          (late (goal.at.returns-then-right_held c).After-expired ∙ c.if-expired.false) (rights (goal.at.returns-then-right_held c).After-right_held ∙ c.if-right_held.true));
    }

pub returns-else-right_held : goal.returns-else-right_held
returns-else-right_held c =
    let at = (goal.at.returns-else-right_held c).In-Some in
    record {
      slot = found at;
      code = shows at _ (showing-missing (view c.args.bytes.now c.args.links.now c.args.words.now) c.in-Some.k c.args.right.0 (some at)
          (late (goal.at.returns-else-right_held c).After-expired ∙ c.if-expired.false) (rights (goal.at.returns-else-right_held c).After-right_held ∙ c.if-right_held.false));
    }
