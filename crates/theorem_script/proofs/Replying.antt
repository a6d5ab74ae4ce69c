-- Every answer of the rules is that of some reply: of a done call with what it gives, or of a refusal that has its number.
use Prim.Native.Nat.{ℕ}
use mathlib.Core.Path.{◌≡◌, refl, sym, ◌∙◌, subst}
use mathlib.Core.Logic.{◌≢◌}
use mathlib.Core.List.{List, [], ◌∷◌, ◌++◌}
use lib.ListN.{length}
use Rattle.std.specs.Prelude.{Ok, Err}
use Rattle.rules.specs.Store.{State}
use Rattle.rules.specs.Rights.{Op, make_obj, read, write, cap_info, derive_cap, delete_cap, rename_obj, withdraw}
use Rattle.rules.specs.Rights.{deposit, suspend, resume, apply_lock, send, receive, wait, revive, unknown, op, asked, presents}
use Rattle.rules.specs.Call.{Call, Answer, Choice, code, done}
use Rattle.rules.specs.Refusals as Refusals
use Rattle.rules.specs.Refusals.{◌when◌, first, caller, early, showing, presenting}
use Rattle.rules.specs.Calls.{make_obj_refuses, transfer_refuses, derive_cap_refuses, rename_obj_refuses}
use Rattle.rules.specs.Calls.{withdraw_refuses, deposit_refuses, process_refuses, send_refuses, receive_refuses}
use Rattle.rules.specs.Calls.{revive_refuses, refuses}
use Rattle.rules.specs.Rule.{paid, late, day_refuses, rule}
use Rattle.rules.proofs.Tests.{by_bool, pick_yes, pick-not}
use Rattle.rules.proofs.Ready.{presenting-some, presenting-none, slot_of, early-fits}
use Rattle.rules.proofs.Outcomes.{rule-by, day-by}
use Rattle.rules.proofs.Answers.{does-done}
use Rattle.values.specs.declared.refusal.Refusal.{Refusal}
use Rattle.values.specs.declared.refusal.Refusal.TheVariants.{OutOfRange, NotRunning, CannotPay, NotFound, RightMissing, OutsideWindow, NotProcess, TooLittle, Overflows, NotMaster, Taken, NoSpace, BoxFull, BoxEmpty, NotRevivable, Expired, EarlierDay}
use Rattle.values.specs.Refusals.{number_of}
use Rattle.call_steps.specs.declared.request.Given.{Given}
use Rattle.call_steps.specs.Request.{answer_of}
use Rattle.script_play.specs.Plays.{Said}

-- ---- what a reply says

-- a done call's answer, field by field
given_of : Answer → Given
given_of a = record {
  count = length a.bytes;
  length = a.length;
  capability = record {
    name = record { volume = a.capability.name.volume; serial = a.capability.name.serial };
    password = a.capability.password.p1 ∷ a.capability.password.p2 ∷ [];
  };
  moneyword = a.moneyword;
  sum = a.sum;
}

done-said : (a : Answer) → a.code ≡ 0 → Said a
unfolding given_of answer_of
done-said a e = record {
  reply = Ok (given_of a);
  is = λ d. record {
    code = sym e d;
    capability = a.capability;
    length = a.length;
    moneyword = a.moneyword;
    sum = a.sum;
    bytes = a.bytes;
  };
  count = refl;
}

refusal-said : (r : Refusal) → Said (code (number_of r))
unfolding answer_of code
refusal-said r = record { reply = Err r; is = refl; count = refl }

-- ---- refusals in order

-- each number is a refusal's
Told : List Refusals.Refusal → Type 0
Told [] = Unit {0}
Told (r ∷ l) = Said (code r.number) × Told l

told-append : (a b : List Refusals.Refusal) → Told a → Told b → Told (a ++ b)
unfolding Told
told-append [] b h g = g
told-append (r ∷ a) b h g = (h.0, told-append a b h.1 g)

-- and so is that of the first that is met
first-said : (l : List Refusals.Refusal) → Told l → first l ≢ 0 → Said (code (first l))
unfolding Told first
first-said [] h n = absurd (n refl)
first-said (r ∷ l) h n = by_bool r.met
    (λ q. subst (λ (m : ℕ). Said (code m)) (sym (pick_yes r.met r.number (first l) q)) h.0)
    (λ q.
    let f = pick-not r.met r.number (first l) q in
    subst (λ (m : ℕ). Said (code m)) (sym f) (first-said l h.1 (λ z. n (f ∙ z))))

module _ (s : State) (c : Call) where
  day-said : first (day_refuses s c.day) ≢ 0 → Said (code (first (day_refuses s c.day)))
  unfolding Told day_refuses ◌when◌
  day-said = first-said _ (refusal-said OutOfRange, (refusal-said EarlierDay, tt))

  early-said : early s c ≢ 0 → Said (code (early s c))
  unfolding Told early ◌when◌
  early-said = first-said _ (refusal-said OutOfRange, (refusal-said NotRunning, (refusal-said CannotPay, tt)))

  showing-told : (k right : ℕ) → Told (showing s k right)
  unfolding Told showing ◌when◌
  showing-told k right = (refusal-said NotFound, (refusal-said Expired, (refusal-said RightMissing, tt)))

  presenting-told : (k : ℕ) (o : Op) → Told (presenting s k o)
  unfolding Told
  presenting-told k o = by_bool (presents o)
      (λ p. subst Told (sym (presenting-some s k o p)) (showing-told k (asked o)))
      (λ p. subst Told (sym (presenting-none s k o p)) tt)

  -- the call's own
  own-told : (me k : ℕ) (o : Op) → Told (refuses s c me k o)
  unfolding Told refuses ◌when◌ make_obj_refuses transfer_refuses derive_cap_refuses rename_obj_refuses withdraw_refuses deposit_refuses
      process_refuses send_refuses receive_refuses revive_refuses
  own-told me k make_obj = (refusal-said Taken, (refusal-said NoSpace, tt))
  own-told me k read = (refusal-said OutsideWindow, tt)
  own-told me k write = (refusal-said OutsideWindow, tt)
  own-told me k cap_info = tt
  own-told me k derive_cap = (refusal-said Taken, (refusal-said NoSpace, tt))
  own-told me k delete_cap = tt
  own-told me k rename_obj = (refusal-said NotMaster, (refusal-said Taken, tt))
  own-told me k withdraw = (refusal-said TooLittle, tt)
  own-told me k deposit = (refusal-said TooLittle, (refusal-said Overflows, tt))
  own-told me k suspend = (refusal-said NotProcess, tt)
  own-told me k resume = (refusal-said NotProcess, tt)
  own-told me k apply_lock = (refusal-said NotProcess, tt)
  own-told me k send = (refusal-said NotProcess, (refusal-said TooLittle, (refusal-said BoxFull, tt)))
  own-told me k receive = (refusal-said BoxEmpty, tt)
  own-told me k wait = tt
  own-told me k revive = (refusal-said NotProcess, (refusal-said NotRevivable, (refusal-said TooLittle, tt)))
  own-told me k unknown = tt

  late-said : (k : ℕ) → late s c k ≢ 0 → Said (code (late s c k))
  unfolding late
  late-said k =
      let o : Op = op c.number in
      first-said _ (told-append _ _ (presenting-told k o) (own-told (caller s c) k o))

-- ---- the rule

pub rule-said : (s : State) (c : Call) (h : Choice) → Said (rule s c h).answer
unfolding done code
rule-said s c h = rule-by s c h (λ r. Said r.answer)
    (λ _. day-by s c (λ r. Said r.answer) (day-said s c) (λ _. done-said _ refl))
    (λ _ n. early-said s c n)
    (λ _ _ n. late-said (paid s c) c (slot_of s c) n)
    (λ _ e _. done-said _ (does-done (paid s c) c (caller s c) (slot_of s c) h (op c.number) (early-fits s c e)))
