-- The fresh store is well formed, and stands beside the ledger's opening.
use Prim.Native.Nat.{ℕ, ◌+◌}
use mathlib.Core.Path.{◌≡◌, refl, sym, ap, ◌∙◌, subst}
use mathlib.Core.Logic.{◌≢◌}
use mathlib.Core.Bool.{true, false, true≢false, false≢true}
use native.Mathlib.Omega.{arith}
use lib.Dec.{lit<, lit≤}
use borrow.Author.Tests.{eqb-true}
use Rattle.rules.specs.Limit as Limit
use Rattle.rules.specs.Slots.{at, sum_over}
use Rattle.rules.specs.Store.{Password, Object, Cap, State, no_window, no_lockword, no_object, no_cap, blocks}
use Rattle.rules.specs.Store.{sums_in, all_cash, all_boxes, money_in, fresh}
use Rattle.rules.specs.Valid.{LiveObject, Objects, Lives, Caps, IsMaster, Formed, Valid}
use Rattle.rules.specs.Ledger.{summed, opening}
use Rattle.rules.specs.Demand.{FreshWords}
use Rattle.rules.proofs.Tests.{by-eq}
use Rattle.rules.proofs.Slots.{at-by, at-else, at_both, sum-zero, sum-at}
use Rattle.rules.proofs.Sound.{Sound, parts, formed-of}
use Rattle.rules.proofs.Masters.{masters-none}
use Rattle.rules.proofs.Lines.{lines_of}
use Rattle.rules.proofs.Link.{Fits, Linking}
use Rattle.rules.proofs.Adding.{joins-first, caps-add}

no-caps : (object : ℕ → Object) → Caps object (λ i. no_cap)
unfolding no_cap
no-caps object = record {
  live = λ i h. absurd (h refl);
  free = λ i z. refl;
  passwords = λ i j h. absurd (h refl);
  masters = λ i j h. absurd (h refl);
  ends = λ i h. absurd (h refl);
  parent = λ i h. absurd (h refl);
  within = λ i h. absurd (h refl);
}

module _ (supply : ℕ) (p : Password) (W : FreshWords supply p) where
  abbrev s : State
  s = fresh supply p

  abbrev first-object : Object
  first-object = record { live = true; name = record { volume = 0; serial = 1 }; size = 0; process = true }

  abbrev first-cap : Cap
  first-cap = record {
    object = Limit.objects;
    parent = 0;
    password = p;
    window = no_window;
    rights = Limit.rights;
    last_day = Limit.day;
  }

  -- it has one object and one capability
  only-object : (o : ℕ) → ((fresh supply p).object o).live ≡ true → o ≡ Limit.objects
  unfolding fresh no_object
  only-object o e = by-eq o Limit.objects (λ q. q)
      (λ n. absurd (false≢true (sym (ap (λ (x : Object). x.live) (at-else (λ o. no_object) Limit.objects first-object o n)) ∙ e)))

  only-cap : (i : ℕ) → Lives (fresh supply p).cap i → i ≡ Limit.caps
  unfolding fresh no_cap
  only-cap i h = by-eq i Limit.caps (λ q. q)
      (λ n. absurd (h (ap (λ (x : Cap). x.object) (at-else (λ i. no_cap) Limit.caps first-cap i n))))

  objects : Objects (fresh supply p).object
  unfolding fresh no_object blocks sum_over at
  objects = record {
    live = at-by (λ o (x : Object). x.live ≡ true → LiveObject o x) (λ o. no_object) Limit.objects first-object
        (λ e. record { some = lit≤ tt; low = lit≤ tt; volume = omega arith; serial = lit≤ tt; size = omega arith })
        (λ j n e. absurd (false≢true e));
    free = at-by (λ o (x : Object). x.live ≡ false → x ≡ no_object) (λ o. no_object) Limit.objects first-object
        (λ e. absurd (true≢false e)) (λ o n e. refl);
    names = λ o q e f n. only-object o e ∙ sym (only-object q f);
    room = lit≤ tt;
  }

  caps : Caps (fresh supply p).object (fresh supply p).cap
  unfolding fresh no_cap no_window at
  caps =
      let alive : first-cap.object ≢ 0 = λ z. omega arith in
      caps-add (λ i. no_cap) Limit.caps first-cap refl alive s.object (no-caps s.object)
      (joins-first (λ i. no_cap) Limit.caps first-cap refl alive s.object (record {
        some = lit≤ tt;
        low = lit≤ tt;
        p1 = W.p1;
        p2 = W.p2;
        rights = omega arith;
        ordered = omega arith;
        owned = refl;
      }) refl (λ j h. absurd (h refl)))

  sound : Sound (fresh supply p)
  unfolding fresh no_object no_lockword
  sound = parts objects caps
      (at-by (λ o (x : Object). 0 ≡ x.size) (λ o. no_object) Limit.objects first-object refl (λ o n. refl))
      (record { fits = λ o. record { first = lit< tt; second = omega arith }; only = λ o e. refl })
      (at_both (λ o (x : Object) n. x.process ≡ false → n ≡ 0) (λ o. no_object) (λ o. 0) Limit.objects first-object supply
      (λ e. absurd (true≢false e)) (λ o n e. refl))
      (λ o e. refl)
      (record { fits = λ o. record { room = omega arith; short = tt }; only = λ o e. refl })
      (record { fits = λ i. omega arith; only = λ i z. refl })

  is-master : IsMaster Limit.objects ((fresh supply p).object Limit.objects).size ((fresh supply p).cap Limit.caps)
  unfolding fresh no_window at
  is-master = record { of = refl; parent = refl; start = refl; end = refl; last_day = refl }

  formed : Formed (fresh supply p)
  formed = formed-of sound (λ o e.
      (Limit.caps, subst (λ x. IsMaster x (s.object x).size (s.cap Limit.caps)) (sym (only-object o e)) is-master))

  total : money_in (fresh supply p) ≡ supply
  unfolding fresh money_in all_cash all_boxes sums_in
  total =
      let zeros : (n : ℕ) → sum_over n (λ o. 0) ≡ 0 = λ n. sum-zero n (λ o. 0) (λ i a b. refl) in
      omega (
        arith,
        sum-at Limit.objects (λ (n : ℕ). n) (λ o. 0) Limit.objects supply (lit≤ tt) (lit≤ tt),
        zeros Limit.objects,
        masters-none s (λ i. refl),
      )

  pub valid-fresh : Valid (fresh supply p)
  unfolding fresh
  valid-fresh = record { formed = formed; total = omega (arith, total, W.amount); day = omega arith }

  -- ---- the ledger: line 1 is of the master's slot

  abbrev line_of : ℕ → ℕ
  line_of = at (λ i. 0) Limit.caps 1

  line-none : line_of 0 ≡ 0
  unfolding at
  line-none = refl

  line-one : line_of Limit.caps ≡ 1
  unfolding at
  line-one = refl

  fits_one : Fits (fresh supply p).object (lines_of (opening p)) ((fresh supply p).cap Limit.caps) 1
  unfolding fresh opening at
  fits_one = record { some = omega arith; low = omega arith; living = refl; name = refl; password = refl }

  lives-one : Lives (fresh supply p).cap Limit.caps
  unfolding fresh at
  lives-one z = omega arith

  top_one : ((fresh supply p).cap Limit.caps).parent ≡ 0
  unfolding fresh at
  top_one = refl

  purse-one : (k : ℕ) → ((opening p).line k).first + summed (opening p) (opening p).paid_in k
      ≡ 0 + summed (opening p) (opening p).drawn k
  unfolding opening
  purse-one k = refl

  pub link-fresh : Linking (fresh supply p) (opening p)
  unfolding fresh opening
  link-fresh = record {
    num = line_of;
    slot = λ k. Limit.caps;
    linked = record {
      none = line-none;
      fits = λ i h. subst (λ x. Fits s.object (lines_of (opening p)) (s.cap x) (line_of x)) (sym (only-cap i h))
          (subst (Fits s.object (lines_of (opening p)) (s.cap Limit.caps)) (sym line-one) fits_one);
      back = λ k a b e. (lives-one, line-one ∙ sym (eqb-true k 1 e));
      above = λ i h. sym (ap line_of (subst (λ x. (s.cap x).parent ≡ 0) (sym (only-cap i h)) top_one) ∙ line-none);
      later = λ k a b. omega arith;
    };
    purse = λ i h. purse-one (line_of i);
    locked = λ o e. refl;
  }
