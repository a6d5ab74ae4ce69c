-- 02, CR 10: what "some derive_cap gives" comes to: the rights, the window, the last day and the moneywords compared. The call that
-- gives a wish is made of the wish's own numbers.
use Prim.Native.Nat.{ℕ, ◌≤◌, ◌<◌, min}
use mathlib.Core.Path.{◌≡◌, refl, sym, ap, ap₂, ◌∙◌, subst}
use mathlib.Core.Logic.{◌≢◌}
use mathlib.Core.Bool.{Bool, true, false, not, ◌&&◌}
use mathlib.Core.List.{List, [], ◌++◌}
use native.Mathlib.Omega.{arith}
use lib.Dec.{leb, ltb}
use lib.Bits.{bit_and, and_comm}
use borrow.Author.Tests.{leb-true, ltb-false, eqb-true, eqb-false, eq-eqb, le-leb, le-ltb}
use Rattle.rules.specs.Limit as Limit
use Rattle.rules.specs.Code as Code
use Rattle.rules.specs.Slots.{any}
use Rattle.rules.specs.Store.{Name, Window, Cap, State, path, descends, cap_lives, caps_live, object_named, no_name, no_password, no_lockword}
use Rattle.rules.specs.Valid.{Valid, Lives, LiesIn}
use Rattle.rules.specs.Rights.{DERIVE_CAP, has, both, op, derive_cap, derive_number, day_number, presents, asked}
use Rattle.rules.specs.Call.{Capability, Call, Choice, Outcome, code, hands_back}
use Rattle.rules.specs.Refusals.{◌when◌, first, name_fits, ordered, arguments_fit, in_range, caller, early, expired, showing}
use Rattle.rules.specs.Refusals.{Refusal, presenting}
use Rattle.rules.specs.Update.{with_house, with_cash, with_cap, with_money}
use Rattle.rules.specs.Changes.{spend, to_house, new_cap}
use Rattle.rules.specs.Calls.{lies_in, nearest, moved, p1_taken, child, derive_cap_refuses, derive_cap_does, refuses, does}
use Rattle.rules.specs.Password.{presented}
use Rattle.rules.specs.Rule.{paid, late, rule, is_done}
use Rattle.rules.specs.Questions.{shown_slot, Wish, Fulfils, Lends, wish_fits, lend_refuses, Lent, FirstOf, LendAsked}
use Rattle.rules.specs.Theorems.{lendable}
use Rattle.rules.proofs.Tests.{by-eq, both_true, all2, all3, not-is-true}
use Rattle.rules.proofs.Slots.{at_here}
use Rattle.rules.proofs.Climbs.{none_any, any_none, one-mem, mem-one}
use Rattle.rules.proofs.Forest.{descends-self}
use Rattle.rules.proofs.Presenting.{shown}
use Rattle.rules.proofs.Ready.{slot_of, numbers, none-met, first-front, first-append, early-none, early-fits}
use Rattle.rules.proofs.Outcomes.{host-not, done-out, rule-done, rule-by}
use Rattle.rules.proofs.Answers.{does-done}
use Rattle.rules.proofs.Deriving.{both-in, moved_in}

-- ---- what a derive_cap from slot k leaves in the slot that it takes

-- the child's fields and its moneyword are the wish's
pub record Made (s : State) (c : Call) (k : ℕ) (x : Wish) : Type 0 where
  pub rights : both (s.cap k).rights c.rights ≡ x.rights
  pub window : moved c.range (s.cap k).window ≡ x.window
  pub last_day : min c.last_day (s.cap k).last_day ≡ x.last_day
  pub money : min c.limit (s.money k) ≡ x.sum

module _ (s : State) (c : Call) (me k : ℕ) (x : Wish) (h : Choice) where
  left : (does s c me k h derive_cap).after.cap h.cap ≡ child s c me k
  unfolding does derive_cap_does hands_back new_cap with_money with_cap
  left = at_here s.cap h.cap (child s c me k)

  funded : (does s c me k h derive_cap).after.money h.cap ≡ min c.limit (s.money k)
  unfolding does derive_cap_does hands_back new_cap with_money with_cap
  funded = at_here s.money h.cap (min c.limit (s.money k))

  pub made : Fulfils (does s c me k h derive_cap).after h.cap x → Made s c k x
  unfolding child
  made f = record {
    rights = sym (ap (λ (z : Cap). z.rights) left) ∙ f.rights;
    window = sym (ap (λ (z : Cap). z.window) left) ∙ f.window;
    last_day = sym (ap (λ (z : Cap). z.last_day) left) ∙ f.last_day;
    money = sym funded ∙ f.money;
  }

  pub fulfils : Made s c k x → Fulfils (does s c me k h derive_cap).after h.cap x
  unfolding child
  fulfils m = record {
    rights = ap (λ (z : Cap). z.rights) left ∙ m.rights;
    window = ap (λ (z : Cap). z.window) left ∙ m.window;
    last_day = ap (λ (z : Cap). z.last_day) left ∙ m.last_day;
    money = funded ∙ m.money;
  }

-- ---- rights and windows

-- the rights hold what they have in common with others
holds-both : (p r q : ℕ) → both p r ≡ q → has p q ≡ true
unfolding has both
holds-both p r q e = eq-eqb _ _ (and_comm p q ∙ subst (λ z. bit_and z p ≡ z) e (both-in p r))

both-held : (p q : ℕ) → has p q ≡ true → both p q ≡ q
unfolding has both
both-held p q h = eqb-true _ _ h

lies-moved : (v w u : Window) → w.start ≤ w.end → moved v w ≡ u → lies_in u w ≡ true
unfolding lies_in
lies-moved v w u o e =
    let i : LiesIn u w = subst (λ z. LiesIn z w) e (moved_in v w o) in
    both_true (leb w.start u.start) (leb u.end w.end) (le-leb _ _ i.start) (le-leb _ _ i.end)

moved-held : (v w : Window) → ordered v ≡ true → lies_in v w ≡ true → moved v w ≡ v
unfolding moved nearest ordered lies_in
moved-held v w o h =
    let i = all2 (leb w.start v.start) (leb v.end w.end) h in
    let a : w.start ≤ v.start = leb-true _ _ i.0 in
    let b : v.end ≤ w.end = leb-true _ _ i.1 in
    let d : v.start ≤ v.end = leb-true _ _ o in
    ap₂ (λ p q. record { start = p; end = q }) (omega arith) (omega arith)

-- ---- the moneywords of a climb

module _ (s : State) (k n : ℕ) where
  enough-any : ((i : ℕ) → descends s k i ≡ true → n ≤ s.money i) → any (λ i. ltb (s.money i) n) (path s k) ≡ false
  unfolding descends
  enough-any f = none_any (λ i. ltb (s.money i) n) (path s k) (λ i o. le-ltb _ _ (f i (one-mem i (path s k) o)))

  any-enough : any (λ i. ltb (s.money i) n) (path s k) ≡ false → (i : ℕ) → descends s k i ≡ true → n ≤ s.money i
  unfolding descends
  any-enough e i d = ltb-false _ _ (any_none (λ j. ltb (s.money j) n) (path s k) e i (mem-one i (path s k) d))

-- ---- the decision

module _ (s : State) (G : Valid s) (caller : Name) (x : Wish) (e : Capability) where
  abbrev k : ℕ
  k = shown_slot s caller e

  abbrev Shows : Type 0
  Shows = first (showing s (shown_slot s caller e) DERIVE_CAP) ≡ Code.done

  -- 5 is not met
  found-lives : Shows → Lives s.cap (shown_slot s caller e)
  unfolding showing ◌when◌ numbers shown_slot
  found-lives z =
      let u = none-met (λ n. ltb 4 n) (showing s (shown_slot s caller e) DERIVE_CAP) refl refl z in
      (shown s (object_named s caller) e (eqb-false _ _ u.0)).lives

  pub lends-lendable : Lends s caller x e → lendable s k x ≡ true
  unfolding lendable
  lends-lendable L =
      let m = made s L.gives.call (object_named s caller) k x (record { object = 0; cap = 0 })
      (L.gives.fulfils (record { object = 0; cap = 0 })) in
      let o = (G.formed.caps.live k (found-lives L.shows)).ordered in
      let rights : has (s.cap k).rights x.rights ≡ true = holds-both _ _ _ m.rights in
      let window : lies_in x.window (s.cap k).window ≡ true = lies-moved _ _ _ o m.window in
      let last : leb x.last_day (s.cap k).last_day ≡ true = le-leb x.last_day (s.cap k).last_day (omega (arith, m.last_day)) in
      rw (rights, window, last, enough-any s k x.sum L.enough)

  -- a derive_cap with the wish's own numbers makes it
  module _ (z : Shows) (h : lendable s k x ≡ true) (straight : ordered x.window ≡ true) where
    abbrev short : Bool
    short = any (λ i. ltb (s.money i) x.sum) (path s k)

    compared : (has (s.cap k).rights x.rights ≡ true) × (lies_in x.window (s.cap k).window ≡ true)
        × (x.last_day ≤ (s.cap k).last_day) × (short ≡ false)
    unfolding lendable
    compared =
        let rights : Bool = has (s.cap k).rights x.rights in
        let window : Bool = lies_in x.window (s.cap k).window in
        let last : Bool = leb x.last_day (s.cap k).last_day in
        let p = all2 (rights && window && last) (not short) h in
        let q = all3 rights window last p.0 in
        (q.0, q.1, leb-true _ _ q.2, not-is-true short p.1)

    pub has-enough : (i : ℕ) → descends s k i ≡ true → x.sum ≤ s.money i
    has-enough = any-enough s k x.sum compared.3

    pub wish-made : (c : Call) → c.rights ≡ x.rights → c.range ≡ x.window → c.limit ≡ x.sum → c.last_day ≡ x.last_day
        → Made s c k x
    wish-made c r v m d =
        let own = has-enough k (descends-self s G.formed.caps k (found-lives z)) in
        let day = compared.2 in
        record {
          rights = ap (both (s.cap k).rights) r ∙ both-held _ _ compared.0;
          window = ap (λ u. moved u (s.cap k).window) v ∙ moved-held _ _ straight compared.1;
          last_day = omega (arith, own, day);
          money = omega (arith, own, day);
        }

  module _ (who : name_fits caller ≡ true) (named : name_fits e.name ≡ true) (fit : wish_fits x ≡ true) where
    abbrev wished : Call
    wished = record {
      number = derive_number;
      caller = caller;
      presented = e;
      name = no_name;
      size = 0;
      flag = 0;
      rights = x.rights;
      drawn = no_password;
      range = x.window;
      sum = 0;
      lock = no_lockword;
      text = [];
      buffer = 0;
      scratch = 0;
      limit = x.sum;
      last_day = x.last_day;
      day = 0;
    }

    wished-fits : in_range wished ≡ true
    unfolding in_range op presents asked arguments_fit wish_fits
    wished-fits = rw (who, named, fit)

    straight : ordered x.window ≡ true
    unfolding wish_fits
    straight = (all3 (leb x.rights Limit.rights) (ordered x.window) (leb x.last_day Limit.day) fit).1

    pub lendable-lends : Shows → lendable s k x ≡ true → Lends s caller x e
    unfolding op
    lendable-lends z h = record {
      shows = z;
      gives = record {
        call = wished;
        is = refl;
        by = refl;
        from = refl;
        fits = wished-fits;
        fulfils = λ g. fulfils s wished (object_named s caller) k x g (wish-made z h straight wished refl refl refl refl);
      };
      enough = has-enough z h straight;
    }

-- ---- a question has one answer

first-same : (n : ℕ) (P : ℕ → Type 0) (p q : ℕ) → FirstOf n P p → FirstOf n P q → p ≡ q
first-same n P p q f g =
    let a : p < q → ⊥ = λ l. g.before p f.some l f.holds in
    let b : q < p → ⊥ = λ l. f.before q g.some l g.holds in
    by-eq p q (λ z. z) (λ ne. absurd (split p q ne a b))
  where
    split : (i j : ℕ) → i ≢ j → (i < j → ⊥) → (j < i → ⊥) → ⊥
    split i j ne a b = omega arith

pub lend_same : (s : State) (caller : Name) (l : List ℕ) (x : Wish) (r q : Lent)
    → LendAsked s caller l x r → LendAsked s caller l x q → r ≡ q
lend_same s caller l x r q A B = by-eq (first (lend_refuses s caller l x)) Code.done
    (λ z. by-eq r.code Code.done
    (λ a. by-eq q.code Code.done
    (λ b. ap₂ (λ (c p : ℕ). record { code = c; place = p }) (a ∙ sym b) (first-same _ _ _ _ (A.found z a) (B.found z b)))
    (λ b. let f = A.found z a in absurd ((B.none z b).1 r.place f.some f.low f.holds)))
    (λ a. by-eq q.code Code.done
    (λ b. let f = B.found z b in absurd ((A.none z a).1 q.place f.some f.low f.holds))
    (λ b. (A.none z a).0 ∙ sym (B.none z b).0)))
    (λ nz. A.refused nz ∙ sym (B.refused nz))

-- ---- a derive_cap of the rules

module _ (s : State) (c : Call) (x : Wish) (is : op c.number ≡ derive_cap) where
  abbrev from : ℕ
  from = shown_slot s c.caller c.presented

  abbrev showings : List Refusal
  showings = showing s (shown_slot s c.caller c.presented) DERIVE_CAP

  abbrev owns : List Refusal
  owns = derive_cap_refuses s c (caller s c) (shown_slot s c.caller c.presented)

  -- the fee leaves capabilities and moneywords as they were
  late_is : late (paid s c) c (slot_of s c) ≡ first (showings ++ owns)
  unfolding late presenting presents asked refuses paid to_house spend with_cash with_house caller object_named presented shown_slot
      cap_lives showing expired derive_cap_refuses p1_taken caps_live
  late_is = rw is refl

  made-paid : Made s c from x → Made (paid s c) c (slot_of s c) x
  unfolding paid to_house spend with_cash with_house caller object_named presented shown_slot cap_lives
  made-paid m = record { rights = m.rights; window = m.window; last_day = m.last_day; money = m.money }

  paid-made : Made (paid s c) c (slot_of s c) x → Made s c from x
  unfolding paid to_house spend with_cash with_house caller object_named presented shown_slot cap_lives
  paid-made m = record { rights = m.rights; window = m.window; last_day = m.last_day; money = m.money }

  process : c.number ≢ day_number
  process e = host-not c.number e is refl

  out-is : (h : Choice) → done-out s c h ≡ does (paid s c) c (caller s c) (slot_of s c) h derive_cap
  out-is h = ap (does (paid s c) c (caller s c) (slot_of s c) h) is

  -- ---- what will do is lent

  pub lent-by-derive : (h : Choice) → Valid s → Lends s c.caller x c.presented
      → c.rights ≡ x.rights → c.range ≡ x.window → c.limit ≡ x.sum → c.last_day ≡ x.last_day
      → early s c ≡ Code.done → first owns ≡ Code.done
      → (is_done (rule s c h) ≡ true) × Fulfils (rule s c h).after h.cap x
  unfolding is_done showing ◌when◌ numbers arguments_fit
  lent-by-derive h G L r v m d early0 own0 =
      let shown0 = none-met (λ n. ltb 4 n) showings refl refl L.shows in
      let late0 = late_is ∙ first-append showings owns shown0 ∙ own0 in
      let fit : arguments_fit derive_cap c ≡ true = subst (λ o. arguments_fit o c ≡ true) is (early-fits s c early0) in
      let straight = (all3 (leb c.rights Limit.rights) (ordered c.range) (leb c.last_day Limit.day) fit).1 in
      let done : rule s c h ≡ does (paid s c) c (caller s c) (slot_of s c) h derive_cap = rule-done s c h process early0 late0 ∙ out-is h in
      let made = wish-made s G c.caller x c.presented L.shows (lends-lendable s G c.caller x c.presented L)
      (subst (λ u. ordered u ≡ true) v straight) c r v m d in (
        eq-eqb _ _ (ap (λ (o : Outcome). o.answer.code) done ∙ does-done (paid s c) c (caller s c) (slot_of s c) h derive_cap fit),
        subst (λ (o : Outcome). Fulfils o.after h.cap x) (sym done)
            (fulfils (paid s c) c (caller s c) (slot_of s c) x h (made-paid made)),
      )

  -- ---- what was lent would do

  pub lends-by-derive : (h : Choice) → is_done (rule s c h) ≡ true → Fulfils (rule s c h).after h.cap x
      → ((i : ℕ) → descends s from i ≡ true → x.sum ≤ s.money i)
      → Lends s c.caller x c.presented
  unfolding is_done code
  lends-by-derive h = rule-by s c h
      (λ o. is_done o ≡ true → Fulfils o.after h.cap x
      → ((i : ℕ) → descends s from i ≡ true → x.sum ≤ s.money i) → Lends s c.caller x c.presented)
      (λ e. absurd (process e))
      (λ _ nz z. absurd (nz (eqb-true _ _ z)))
      (λ _ _ nz z. absurd (nz (eqb-true _ _ z)))
      (λ _ early0 late0 _ f enough.
      let given = paid-made (made (paid s c) c (caller s c) (slot_of s c) x h
      (subst (λ (o : Outcome). Fulfils o.after h.cap x) (out-is h) f)) in
      record {
        shows = by-eq (first showings) 0 (λ z. z)
            (λ nz. absurd (nz (sym (first-front showings owns nz) ∙ sym late_is ∙ late0)));
        gives = record {
          call = c;
          is = is;
          by = refl;
          from = refl;
          fits = (early-none s c early0).0;
          fulfils = λ g. fulfils s c (object_named s c.caller) from x g given;
        };
        enough = enough;
      })
