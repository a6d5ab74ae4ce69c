-- withdraw and deposit: every moneyword on the climb from a capability to its master changes, and the ledger draws or
-- pays in at the capability's line.
use Prim.Native.Nat.{ℕ, ◌+◌, ◌-◌, ◌≤◌}
use mathlib.Core.Path.{◌≡◌, refl, sym, ap, ◌∙◌, subst}
use mathlib.Core.Logic.{◌≢◌}
use mathlib.Core.Bool.{Bool, true, false}
use native.Mathlib.Omega.{arith}
use lib.Dec.{ltb}
use borrow.Author.Tests.{ltb-false}
use Rattle.rules.specs.Slots.{at, any}
use Rattle.rules.specs.Store.{State, path, root_of, descends, all_cash, all_masters, all_boxes, money_in}
use Rattle.rules.specs.Valid.{Lives, Caps, Formed}
use Rattle.rules.specs.Rights.{withdraw, deposit, presents}
use Rattle.rules.specs.Call.{Call, done}
use Rattle.rules.specs.Refusals.{◌when◌}
use Rattle.rules.specs.Update.{with_cash, with_money}
use Rattle.rules.specs.Changes.{earn, spend, on_climb}
use Rattle.rules.specs.Calls.{withdraw_refuses, withdraw_does, deposit_refuses, deposit_does, refuses}
use Rattle.rules.specs.Ledger.{Ledger, leads_back, summed, draw, pay_in, entry}
use Rattle.rules.proofs.Tests.{by_bool, pick_yes, pick-not}
use Rattle.rules.proofs.Climbs.{any_none}
use Rattle.rules.proofs.Forest.{descends-one, descends-lives, master-above, master-top, master-lives}
use Rattle.rules.proofs.Forest.{master-only}
use Rattle.rules.proofs.Sound.{Sound, sound-of, formed-of, sound-money, Kept}
use Rattle.rules.proofs.Masters.{no-master, same, idle, masters-but}
use Rattle.rules.proofs.Lines.{share, share-yes, share-not, share-zero, summed_at}
use Rattle.rules.proofs.Link.{Linking, leads-descends}
use Rattle.rules.proofs.Ready.{Ready}
use Rattle.rules.proofs.Keeping.{sound-spend, total-spend, sound-earn, total-earn}

module _ (s : State) (G : Formed s) (k : ℕ) (h : Lives s.cap k) (f : ℕ → ℕ) where
  on-climb : (j : ℕ) → descends s k j ≡ true → (on_climb s k f).money j ≡ f (s.money j)
  unfolding on_climb with_money
  on-climb j e = pick_yes (descends s k j) (f (s.money j)) (s.money j) e

  off-climb : (j : ℕ) → descends s k j ≡ false → (on_climb s k f).money j ≡ s.money j
  unfolding on_climb with_money
  off-climb j e = pick-not (descends s k j) (f (s.money j)) (s.money j) e

  sound-climb : ((j : ℕ) → descends s k j ≡ true → f (s.money j) ≤ 4294967295) → Sound (on_climb s k f)
  unfolding on_climb with_money
  sound-climb w = sound-money (sound-of G) (on_climb s k f).money (record {
    fits = λ i. by_bool (descends s k i)
        (λ e. subst (λ x. x ≤ 4294967295) (sym (on-climb i e)) (w i e))
        (λ e. subst (λ x. x ≤ 4294967295) (sym (off-climb i e)) (G.money i));
    only = λ i z. by_bool (descends s k i)
        (λ e. absurd (descends-lives s G.caps k i h e z))
        (λ e. off-climb i e ∙ G.no-money i z);
  })

  -- of the masters' moneywords the climb changes that of the tree's master alone
  masters-climb : all_masters (on_climb s k f) + s.money (root_of s k) ≡ all_masters s + f (s.money (root_of s k))
  unfolding on_climb with_money
  masters-climb =
      let m : ℕ = root_of s k in
      let z = master-top s G.caps k h in
      let w = G.caps.live m (master-lives s G.caps k h) in
      masters-but s (on_climb s k f) m w.some w.low
      (λ j n. by_bool (descends s k j)
      (λ e.
      let c : (s.cap j).parent ≢ 0 = λ q. n (master-only s G.caps k j h e q) in
      idle (no-master c) (no-master c))
      (λ e. same refl (sym (off-climb j e)))) z z
      ∙ ap (λ x. all_masters s + x) (on-climb m (master-above s G.caps k h))

  total-climb : money_in (on_climb s k f) + s.money (root_of s k) ≡ money_in s + f (s.money (root_of s k))
  unfolding on_climb with_money money_in all_cash all_boxes
  total-climb = omega (arith, masters-climb)

-- a test that no slot of the climb passes
unmet-climb : (s : State) (C : Caps s.object s.cap) (k : ℕ) (t : ℕ → Bool) → any t (path s k) ≡ false
    → (j : ℕ) → descends s k j ≡ true → t j ≡ false
unmet-climb s C k t e j d = any_none t (path s k) e j (descends-one s C k j d)

-- ---- the store

module _ (s : State) (G : Formed s) (c : Call) (me k : ℕ) where
  -- each moneyword on the climb has the sum
  enough : Ready s c me k withdraw → (j : ℕ) → descends s k j ≡ true → c.sum ≤ s.money j
  unfolding refuses withdraw_refuses ◌when◌
  enough r j d = ltb-false _ _ (unmet-climb s G.caps k (λ i. ltb (s.money i) c.sum) r.none.0 j d)

  -- or has room for it
  room : Ready s c me k deposit → (j : ℕ) → descends s k j ≡ true → s.money j + c.sum ≤ 4294967295
  unfolding refuses deposit_refuses ◌when◌
  room r j d =
      ltb-false _ _ (unmet-climb s G.caps k (λ i. ltb 4294967295 (s.money i + c.sum)) r.none.1.0 j d)

  pub keep-withdraw : Ready s c me k withdraw → Kept s (withdraw_does s c me k).after
  unfolding withdraw_does done presents on_climb with_money earn with_cash
  keep-withdraw r =
      let h = (r.shown refl).lives in
      let f : ℕ → ℕ = λ m. m - c.sum in
      let S = sound-climb s G k h f (λ j e. omega (arith, G.money j)) in
      let b = enough r (root_of s k) (master-above s G.caps k h) in
      record {
        formed = formed-of (sound-earn S me r.who c.sum) G.master;
        total = omega (arith, total-earn S me r.who c.sum, total-climb s G k h f);
      }

  pub keep-deposit : Ready s c me k deposit → Kept s (deposit_does s c me k).after
  unfolding deposit_does done presents on_climb with_money spend with_cash refuses deposit_refuses ◌when◌
  keep-deposit r =
      let h = (r.shown refl).lives in
      let f : ℕ → ℕ = λ m. m + c.sum in
      let S = sound-climb s G k h f (room r) in
      record {
        formed = formed-of (sound-spend S me r.who c.sum) G.master;
        total = omega (arith, total-spend S me r.who c.sum (ltb-false _ _ r.none.0), total-climb s G k h f);
      }

  -- ---- the ledger

  module _ (l : Ledger) (K : Linking s l) where
    -- The sums that grow are those of the lines of the climb. Where u is paid in and v drawn at the line of k, and on
    -- the climb each moneyword m becomes f m with f m + v ≡ m + u, the purse equation stays.
    purse-climb : Lives s.cap k → (f : ℕ → ℕ) (u v : ℕ)
        → ((j : ℕ) → descends s k j ≡ true → f (s.money j) + v ≡ s.money j + u)
        → (i : ℕ) → Lives s.cap i
        → (l.line (K.num i)).first + (summed l l.paid_in (K.num i) + share (leads_back l (K.num k) (K.num i)) u)
        ≡ (on_climb s k f).money i + (summed l l.drawn (K.num i) + share (leads_back l (K.num k) (K.num i)) v)
    purse-climb h f u v w i g =
        let b : Bool = leads_back l (K.num k) (K.num i) in
        let d : b ≡ descends s k i = leads-descends s l G K k i h g in
        by_bool (descends s k i)
        (λ e. omega (
          arith,
          K.purse i g,
          share-yes b u (d ∙ e),
          share-yes b v (d ∙ e),
          on-climb s G k h f i e,
          w i e,
        ))
        (λ e. omega (
          arith,
          K.purse i g,
          share-not b u (d ∙ e),
          share-not b v (d ∙ e),
          off-climb s G k h f i e,
        ))

    -- what is drawn or paid in at the line of k
    grows : Lives s.cap k → (f : ℕ → ℕ) (i : ℕ)
        → summed l (at f (K.num k) (f (K.num k) + c.sum)) (K.num i)
        ≡ summed l f (K.num i) + share (leads_back l (K.num k) (K.num i)) c.sum
    grows h f i = let w = K.linked.fits k h in summed_at l f (K.num k) c.sum (K.num i) w.some w.low

    pub link-withdraw : Ready s c me k withdraw
        → Linking (withdraw_does s c me k).after (entry l c (K.num k) withdraw)
    unfolding withdraw_does done earn with_cash on_climb with_money entry draw summed leads_back presents
    link-withdraw r = record {
      num = K.num;
      slot = K.slot;
      linked = K.linked;
      purse = λ i g.
          let h = (r.shown refl).lives in
          let q = purse-climb h (λ m. m - c.sum) 0 c.sum (λ j e. omega (arith, enough r j e)) i g in
          omega (arith, q, grows h l.drawn i, share-zero (leads_back l (K.num k) (K.num i)));
      locked = K.locked;
    }

    pub link-deposit : Ready s c me k deposit → Linking (deposit_does s c me k).after (entry l c (K.num k) deposit)
    unfolding deposit_does done spend with_cash on_climb with_money entry pay_in summed leads_back presents
    link-deposit r = record {
      num = K.num;
      slot = K.slot;
      linked = K.linked;
      purse = λ i g.
          let h = (r.shown refl).lives in
          let q = purse-climb h (λ m. m + c.sum) c.sum 0 (λ j e. omega arith) i g in
          omega (arith, q, grows h l.paid_in i, share-zero (leads_back l (K.num k) (K.num i)));
      locked = K.locked;
    }
