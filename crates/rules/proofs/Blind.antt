-- The theorems of specs/Blind: a call, what carried states mean, and lists of calls.
use Prim.Native.Nat.{ℕ}
use mathlib.Core.Path.{◌≡◌, refl, sym, ap, ◌∙◌, subst}
use mathlib.Core.Bool.{Bool, true, false}
use mathlib.Core.List.{List, [], ◌∷◌, map}
use native.Mathlib.Omega.{arith}
use lib.Dec.{eqb, ltb}
use lib.ListN.{length}
use borrow.Author.Tests.{eqb-true}
use Rattle.rules.specs.Limit as Limit
use Rattle.rules.specs.Code as Code
use Rattle.rules.specs.Store.{State, object_named}
use Rattle.rules.specs.Valid.{Formed, Valid}
use Rattle.rules.specs.Rights.{op, fee_of, day_number}
use Rattle.rules.specs.Call.{Call, Outcome, Choice, code, done}
use Rattle.rules.specs.Refusals.{◌when◌, first, caller, early}
use Rattle.rules.specs.Update.{with_house, with_cash}
use Rattle.rules.specs.Changes.{spend, to_house, set_terminated}
use Rattle.rules.specs.Rule.{stopped, paid, late, day_refuses, day_rule, rule, is_done}
use Rattle.rules.specs.Demand.{Open, Allowed, Now, Step, start, next, run, Legal}
use Rattle.rules.proofs.Tests.{by-eq}
use Rattle.rules.proofs.Presenting.{shown}
use Rattle.rules.proofs.Ready.{payer, stopper, slot_of, ready}
use Rattle.rules.proofs.Outcomes.{early-out, late-out, done-out, rule-host, rule-early, rule-late, rule-done}
use Rattle.rules.proofs.Outcomes.{day-refused, day-done}
use Rattle.rules.proofs.Answers.{is-done}
use Rattle.rules.proofs.Steps.{open-takes, keep-paid}
use Rattle.rules.proofs.Runs.{valid-step}
use Rattle.rules.proofs.Fresh.{valid-fresh}
use Rattle.rules.specs.Meaning.{SameMeaning}
use Rattle.rules.specs.Blind.{MeaningBlind, MoneyBlind, answers, ListsBlind}
use Rattle.rules.proofs.Carried.{Maps, Alive, CarriedBy, Carries, Alike}
use Rattle.rules.proofs.Moving.{f-once, presented-carried}
use Rattle.rules.proofs.Changing.{to-house, set-day, spent, terminated}
use Rattle.rules.proofs.Meaning.{same-meaning, cash-carried, masters-carried, boxes-carried}
use Rattle.rules.proofs.Meant.{meant-carries}
use Rattle.rules.proofs.Refusing.{caller-carried, early-carried, late-carried}
use Rattle.rules.proofs.Doing.{does-carried}

-- ---- one call

as-alike : {r r' q q' : Outcome} → r ≡ r' → q ≡ q' → Alike r' q' → Alike r q
as-alike {r} {q' = q'} a b T = subst (Alike r) (sym b) (subst (λ x. Alike x q') (sym a) T)

-- one of two states, by the same test
pick-carries : (b : Bool) (x y x' y' : State) → (b ≡ true → Carries x x') → Carries y y'
    → Carries (elim b [ true ↦ x | false ↦ y ]) (elim b [ true ↦ x' | false ↦ y' ])
pick-carries true x y x' y' f g = f refl
pick-carries false x y x' y' f g = g

module _ {m : Maps} (s t : State) (S : Formed s) (T : Formed t) (A : CarriedBy m s t) (c : Call) where
  abbrev me : ℕ
  me = caller s c

  abbrev me' : ℕ
  me' = caller t c

  me-is : caller t c ≡ m.object (caller s c)
  me-is = caller-carried s t S T A c

  early-is : early t c ≡ early s c
  early-is = early-carried s t S T A c

  -- ---- refused by 2 to 4

  stopped-carries : Carries (stopped s c (early s c)) (stopped t c (early s c))
  unfolding stopped
  stopped-carries = pick-carries (eqb (early s c) Code.cannot_pay) (set_terminated s me true) s (set_terminated t me' true) t
      (λ e. record {
        maps = m;
        by = terminated A (f-once s t S T A) me me' (stopper s c S.objects (eqb-true _ _ e)).live me-is true;
      })
      (record { maps = m; by = A })

  early-alike : Alike (early-out s c) (early-out t c)
  early-alike = record {
    answer = ap code early-is;
    after = subst (λ n. Carries (stopped s c (early s c)) (stopped t c n)) (sym early-is) stopped-carries;
  }

  -- ---- after the fee

  module _ (e : early s c ≡ 0) where
    live : Alive s.object (caller s c)
    live = (payer s c S.objects e).0.live

    S' : Formed (paid s c)
    S' = (keep-paid s S c e).formed

    T' : Formed (paid t c)
    T' = (keep-paid t T c (early-is ∙ e)).formed

    paid-carried : CarriedBy m (paid s c) (paid t c)
    unfolding paid
    paid-carried =
        let n : ℕ = fee_of c.number in
        to-house (spent A (f-once s t S T A) me me' live me-is n n refl) n n refl

    slot_is : slot_of t c ≡ m.cap (slot_of s c)
    unfolding paid to_house spend with_cash with_house
    slot_is = presented-carried (paid s c) (paid t c) S' T' paid-carried me me' live me-is c.presented

    late_is : late (paid t c) c (slot_of t c) ≡ late (paid s c) c (slot_of s c)
    unfolding late paid to_house spend with_cash with_house caller object_named
    late_is = late-carried (paid s c) (paid t c) S' T' paid-carried c me me' (slot_of s c) (slot_of t c) live me-is
        slot_is (λ n. (shown (paid s c) me c.presented n).lives) (op c.number)

    late-alike : Alike (late-out s c) (late-out t c)
    late-alike = record { answer = ap code late_is; after = record { maps = m; by = paid-carried } }

    done-alike : late (paid s c) c (slot_of s c) ≡ 0 → (h g : Choice) → Open s c h → Open t c g
        → Alike (done-out s c h) (done-out t c g)
    unfolding paid to_house spend with_cash with_house
    done-alike f h g p q = does-carried (paid s c) (paid t c) S' T' paid-carried c me me' (slot_of s c) (slot_of t c)
        live me-is slot_is h g (op c.number) (ready s c S.objects e f)
        (open-takes s c h p) (open-takes t c g q)

  -- ---- call 17

  day-is : first (day_refuses t c.day) ≡ first (day_refuses s c.day)
  unfolding day_refuses
  day-is = ap (λ d. first (Code.out_of_range when ltb Limit.day c.day ∷ Code.earlier_day when ltb c.day d ∷ [])) A.day

  day-alike : Alike (day_rule s c) (day_rule t c)
  unfolding done
  day-alike = by-eq (first (day_refuses s c.day)) Code.done
      (λ e. as-alike (day-done s c e) (day-done t c (day-is ∙ e)) (record {
        answer = refl;
        after = record { maps = m; by = set-day A c.day };
      }))
      (λ n. as-alike (day-refused s c n) (day-refused t c (λ z. n (sym day-is ∙ z))) (record {
        answer = ap code day-is;
        after = record { maps = m; by = A };
      }))

  -- ---- all outcomes

  rule-alike : (h g : Choice) → Allowed s c h → Allowed t c g → Alike (rule s c h) (rule t c g)
  rule-alike h g P Q = by-eq c.number day_number
      (λ z. as-alike (rule-host s c h z) (rule-host t c g z) day-alike)
      (λ p. by-eq (early s c) 0
      (λ e.
      let e' = early-is ∙ e in
      by-eq (late (paid s c) c (slot_of s c)) 0
      (λ f.
      let a = rule-done s c h p e f in
      let b = rule-done t c g p e' (late_is e ∙ f) in
      as-alike a b (done-alike e f h g
      (P.choice (ap is_done a ∙ is-done s c h e)) (Q.choice (ap is_done b ∙ is-done t c g e'))))
      (λ n. as-alike (rule-late s c h p e n) (rule-late t c g p e' (λ z. n (sym (late_is e) ∙ z))) (late-alike e)))
      (λ n. as-alike (rule-early s c h p n) (rule-early t c g p (λ z. n (sym early-is ∙ z))) early-alike))

-- two carried states, any call, any two allowed choices
pub rules-blind : (s t : State) (c : Call) (h g : Choice) → Valid s → Valid t → Carries s t → Allowed s c h → Allowed t c g
    → Alike (rule s c h) (rule t c g)
rules-blind s t c h g v w A P Q = rule-alike s t v.formed w.formed A.by c h g P Q

-- ---- what carried states mean

-- they mean the same
pub carried-means : (s t : State) → Valid s → Valid t → Carries s t → SameMeaning s t
carried-means s t v w A = same-meaning s t v.formed w.formed A.by

-- and states that mean the same are such: the meaning leaves out nothing but slots
pub means-carried : (s t : State) → Valid s → Valid t → SameMeaning s t → Carries s t
means-carried s t v w H = meant-carries s t v.formed w.formed H

pub meaning-blind : MeaningBlind
unfolding MeaningBlind
meaning-blind s t c h g v w H P Q =
    let A = meant-carries s t v.formed w.formed H in
    let R = rule-alike s t v.formed w.formed A.by c h g P Q in (
      R.answer,
      same-meaning _ _ (valid-step s c h v P).formed (valid-step t c g w Q).formed R.after.by,
    )

pub money-blind : MoneyBlind
unfolding MoneyBlind
money-blind s t v w H =
    let A = meant-carries s t v.formed w.formed H in
    (cash-carried s t v.formed w.formed A.by, masters-carried s t v.formed w.formed A.by, boxes-carried s t v.formed w.formed A.by)

-- ---- lists of calls

-- a state is itself in its own slots
pub carries-self : (s : State) → Carries s s
carries-self s = record {
  maps = record { object = λ o. o; cap = λ i. i; object-back = λ o. o; cap-back = λ i. i };
  by = record {
    moves = record {
      no-object = refl;
      no-cap = refl;
      object = λ o h. refl;
      cap = λ i h. refl;
      object-back = λ o h. (h, refl);
      cap-back = λ i h. (h, refl);
    };
    house = refl;
    day = refl;
    bytes = λ o h. refl;
    lock = λ o h. refl;
    cash = λ o h. refl;
    marks = λ o h. refl;
    box = λ o h. refl;
    money = λ i h. refl;
  };
}

abbrev calls : List Step → List Call
calls = map (λ (x : Step). x.call)

head_of : Call → List Call → Call
head_of d [] = d
head_of d (c ∷ l) = c

tail_of : List Call → List Call
tail_of [] = []
tail_of (c ∷ l) = l

-- what holds of two runs, n with l and k with r
record RunsAlike (n k : Now) (l r : List Step) : Type 0 where
  answered : answers k r ≡ answers n l
  stores : Carries (run n l).store (run k r).store
  here : Valid (run n l).store
  there : Valid (run k r).store

runs-alike : (n k : Now) → Valid n.store → Valid k.store → Carries n.store k.store
    → (l r : List Step) → calls r ≡ calls l → Legal n l → Legal k r → RunsAlike n k l r
unfolding answers run Legal next head_of tail_of
runs-alike n k v w A [] [] e p q = record { answered = refl; stores = A; here = v; there = w }
runs-alike n k v w A [] (y ∷ r) e p q = absurd (omega (arith, ap length e))
runs-alike n k v w A (x ∷ l) [] e p q = absurd (omega (arith, ap length e))
runs-alike n k v w A (x ∷ l) (y ∷ r) e p q =
    let s : State = n.store in
    let t : State = k.store in
    let d : y.call ≡ x.call = ap (head_of x.call) e in
    let Q = subst (λ c. Allowed t c y.choice) d q.0 in
    let T = rule-alike s t v.formed w.formed A.by x.call x.choice y.choice p.0 Q in
    let U = subst (λ c. Alike (rule s x.call x.choice) (rule t c y.choice)) (sym d) T in
    let R = runs-alike (next n x) (next k y) (valid-step s x.call x.choice v p.0)
    (valid-step t y.call y.choice w q.0) U.after l r (ap tail_of e) p.1 q.1 in
    let a = U.answer in
    let b = R.answered in
    record { answered = λ z. a z ∷ b z; stores = R.stores; here = R.here; there = R.there }

pub lists-blind : ListsBlind
unfolding ListsBlind start
lists-blind supply p W l r e P Q =
    let n : Now = start supply p in
    let v = valid-fresh supply p W in
    let R = runs-alike n n v v (carries-self n.store) l r e P Q in
    (R.answered, same-meaning _ _ R.here.formed R.there.formed R.stores.by)
