-- Each done call on two carried states: equal answers, and carried states after it, whatever it takes in each.
use Prim.Native.Nat.{ℕ, ◌+◌, ◌-◌, min}
use mathlib.Core.Path.{◌≡◌, refl, sym, ap, ◌∙◌, subst}
use mathlib.Core.Logic.{◌≢◌}
use mathlib.Core.Bool.{Bool, true, false, true≢false, false≢true}
use mathlib.Core.List.{List, [], ◌∷◌, ◌++◌}
use native.Mathlib.Omega.{arith}
use lib.Dec.{eqb}
use lib.ListN.{length, take, drop}
use lib.Bits.{bit_xor}
use borrow.Author.Tests.{eqb-true, eq-eqb}
use Rattle.rules.specs.Limit as Limit
use Rattle.rules.specs.Store.{Lockword, Message, Object, State, no_object, descends, sums_in}
use Rattle.rules.specs.Valid.{Lives, Formed}
use Rattle.rules.specs.Rights.{Op, make_obj, read, write, cap_info, derive_cap, delete_cap, rename_obj, withdraw}
use Rattle.rules.specs.Rights.{deposit, suspend, resume, apply_lock, send, receive, wait, revive, unknown, both}
use Rattle.rules.specs.Rights.{presents}
use Rattle.rules.specs.Call.{Call, Outcome, Choice, done, hands_back, hands_over, tells}
use Rattle.rules.specs.Update.{with_cash, with_box, with_cap, with_money}
use Rattle.rules.specs.Changes.{earn, spend, on_climb}
use Rattle.rules.specs.Changes.{end_where, new_object, end_object}
use Rattle.rules.specs.Calls.{moved, made_object, made_master, make_obj_does, read_does, written, write_does, cap_info_does}
use Rattle.rules.specs.Calls.{child, derive_cap_does, deleted, forfeit, delete_cap_does, emptied, new_master, rename_obj_does}
use Rattle.rules.specs.Calls.{withdraw_does, deposit_does, suspend_does, resume_does, apply_lock_does, message, send_does}
use Rattle.rules.specs.Calls.{box_empty, receive_does, wait_does, revive_does, does}
use Rattle.rules.specs.Demand.{FreeObject, FreeCap}
use Rattle.rules.proofs.Tests.{not-lives}
use Rattle.rules.proofs.Slots.{at_here}
use Rattle.rules.proofs.Forest.{master-above, master-unique}
use Rattle.rules.proofs.Sound.{sound-of}
use Rattle.rules.proofs.Ending.{end_by, sound-end}
use Rattle.rules.proofs.Ready.{Ready}
use Rattle.rules.proofs.Done.{Takes}
use Rattle.rules.proofs.Carried.{Maps, Alive, carried, CarriedBy, Alike}
use Rattle.rules.proofs.Moving.{f-lives, f-once, u-lives, descends-carried}
use Rattle.rules.proofs.Changing.{money-is, to-house, bytes-at, lock-at, box-at, earned, spent, suspended}
use Rattle.rules.proofs.Changing.{waiting, terminated, ends-carried, ends-goes, adds_carried, placed}
use Rattle.rules.proofs.Changing.{place-carried}
use Rattle.rules.proofs.Refusing.{box-me, cap-k, money-k, aim, aim-lives, aim-along, object-aim, top-same}
use Rattle.rules.proofs.Refusing.{of-same}

-- a done call that gives nothing
done-alike : {m : Maps} {s t : State} → CarriedBy m s t → Alike (done s) (done t)
unfolding done
done-alike {m} A = record { answer = refl; after = record { maps = m; by = A } }

-- one of two outcomes, by the same test
pick-alike : (a b : Bool) (x y x' y' : Outcome) → b ≡ a → (a ≡ true → Alike x x') → (a ≡ false → Alike y y')
    → Alike (elim a [ true ↦ x | false ↦ y ]) (elim b [ true ↦ x' | false ↦ y' ])
pick-alike true true x y x' y' e f g = f refl
pick-alike true false x y x' y' e f g = absurd (false≢true e)
pick-alike false true x y x' y' e f g = absurd (true≢false e)
pick-alike false false x y x' y' e f g = g refl

module _ {m : Maps} (s t : State) (S : Formed s) (T : Formed t) (A : CarriedBy m s t) (c : Call)
    (me me' k k' : ℕ) (who : Alive s.object me) (me-is : me' ≡ m.object me) (k-is : k' ≡ m.cap k) where
  abbrev o : ℕ
  o = (s.cap k).object

  abbrev o' : ℕ
  o' = (t.cap k').object

  once : (i j : ℕ) → Alive s.object i → Alive s.object j → m.object i ≡ m.object j → i ≡ j
  once = f-once s t S T A

  -- ---- the caller alone

  received : (l : List Message) → Alike (receive_does s c me k l) (receive_does t c me' k' l)
  unfolding receive_does hands_over earn with_cash with_box
  received [] = done-alike A
  received (x ∷ l) = record {
    answer = refl;
    after = record {
      maps = m;
      by = earned (box-at A once me me' who me-is l l refl) once me me' who me-is x.sum x.sum refl;
    };
  }

  receive-alike : Alike (receive_does s c me k (s.box me)) (receive_does t c me' k' (t.box me'))
  receive-alike = subst (λ l. Alike (receive_does s c me k (s.box me)) (receive_does t c me' k' l))
      (sym (box-me s t S T A c me me' k k' who me-is k-is)) (received (s.box me))

  wait-alike : Alike (wait_does s c me k) (wait_does t c me' k')
  unfolding wait_does
  wait-alike = pick-alike (box_empty s c me k) (box_empty t c me' k') _ _ _ _
      (ap (λ (l : List Message). eqb (length l) 0) (box-me s t S T A c me me' k k' who me-is k-is))
      (λ _. done-alike (waiting A once me me' who me-is true))
      (λ _. done-alike A)

  -- ---- make_obj: an object, then its master

  module _ (h g : Choice) (X : FreeObject s h.object) (Y : FreeObject t g.object)
      (F : FreeCap s h.cap) (G : FreeCap t g.cap) where
    slot-some : h.object ≢ 0
    unfolding FreeObject
    slot-some = omega (arith, X.0)

    not-here : (s.object h.object).live ≡ false
    unfolding FreeObject
    not-here = X.2

    not_there : (t.object g.object).live ≡ false
    unfolding FreeObject
    not_there = Y.2

    unowned : (i : ℕ) → Lives s.cap i → (s.cap i).object ≢ h.object
    unowned i l e = true≢false (sym (S.caps.live i l).owned ∙ ap (λ z. (s.object z).live) e ∙ not-here)

    new-there : (j : ℕ) → Alive s.object j → j ≢ h.object → m.object j ≢ g.object
    new-there j l n e = true≢false (sym (f-lives s t S T A j l) ∙ ap (λ z. (t.object z).live) e ∙ not_there)

    new-here : (j : ℕ) → Alive t.object j → j ≢ g.object → m.object-back j ≢ h.object
    new-here j l n e =
        true≢false (sym (A.moves.object-back j l).0 ∙ ap (λ z. (s.object z).live) e ∙ not-here)

    abbrev m₁ : Maps
    m₁ = placed m h.object g.object

    made : CarriedBy m₁ (new_object s h.object (made_object s c me k))
        (new_object t g.object (made_object t c me' k'))
    unfolding made_object
    made = place-carried A h.object g.object (made_object s c me k) slot-some unowned new-there new-here

    master-carried : made_master t c me' k' g.object ≡ carried m₁ (made_master s c me k h.object)
    unfolding made_master
    master-carried =
        let a = sym (at_here m.object h.object g.object) in
        let b = sym A.moves.no-cap in
        λ d. record {
          object = a d;
          parent = b d;
          password = c.drawn;
          window = record { start = 0; end = c.size };
          rights = c.rights;
          last_day = Limit.day;
        }

    make-alike : Alike (make_obj_does s c me k h) (make_obj_does t c me' k' g)
    unfolding make_obj_does hands_back new_object made_master FreeCap
    make-alike = record {
      answer = refl;
      after = record {
        maps = _;
        by = adds_carried made h.cap g.cap (made_master s c me k h.object) (made_master t c me' k' g.object)
            0 0 (omega (arith, F.0)) (not-lives s h.cap F.2) (not-lives t g.cap G.2)
            (u-lives s t S T A) S.caps.parent slot-some (λ n. absurd (n refl)) master-carried refl;
      };
    }

  -- ---- a capability is presented

  module _ (l : Lives s.cap k) where
    abbrev here : Alive s.object (s.cap k).object
    here = aim-lives s t S T A c me me' k k' who me-is k-is l

    abbrev there : (t.cap k').object ≡ m.object (s.cap k).object
    there = aim s t S T A c me me' k k' who me-is k-is l

    abbrev same-cap : t.cap k' ≡ carried m (s.cap k)
    same-cap = cap-k s t S T A c me me' k k' who me-is k-is l

    abbrev same-money : t.money k' ≡ s.money k
    same-money = money-k s t S T A c me me' k k' who me-is k-is l

    same_bytes : t.bytes (t.cap k').object ≡ s.bytes (s.cap k).object
    same_bytes = aim-along s t S T A c me me' k k' who me-is k-is l s.bytes t.bytes A.bytes

    same-box : t.box (t.cap k').object ≡ s.box (s.cap k).object
    same-box = aim-along s t S T A c me me' k k' who me-is k-is l s.box t.box A.box

    same-cash : t.cash (t.cap k').object ≡ s.cash (s.cap k).object
    same-cash = aim-along s t S T A c me me' k k' who me-is k-is l s.cash t.cash A.cash

    same-name : (t.object (t.cap k').object).name ≡ (s.object (s.cap k).object).name
    same-name = ap (λ (x : Object). x.name) (object-aim s t S T A c me me' k k' who me-is k-is l)

    -- ---- read, write, cap_info

    read_alike : Alike (read_does s c me k) (read_does t c me' k')
    unfolding read_does hands_over
    read_alike = record {
      answer =
          let b = same_bytes in
          λ d. (hands_over 0 (take (c.range.end - c.range.start) (drop c.range.start (b d))) s).answer;
      after = record { maps = m; by = A };
    }

    write-alike : Alike (write_does s c me k) (write_does t c me' k')
    unfolding write_does written
    write-alike = done-alike (bytes-at A once o o' here there _ _
        (ap (λ b. take c.range.start b ++ c.text ++ drop c.range.end b) same_bytes))

    info-alike : Alike (cap_info_does s c me k) (cap_info_does t c me' k')
    unfolding cap_info_does tells
    info-alike = record {
      answer =
          let x = same-cap in
          let w = same-money in
          λ d. (tells ((x d).window.end - (x d).window.start) (w d) s).answer;
      after = record { maps = m; by = A };
    }

    -- ---- derive_cap

    child-carried : child t c me' k' ≡ carried m (child s c me k)
    unfolding child
    child-carried =
        let x = same-cap in
        λ d. record {
          object = (x d).object;
          parent = k-is d;
          password = c.drawn;
          window = moved c.range (x d).window;
          rights = both (x d).rights c.rights;
          last_day = min c.last_day (x d).last_day;
        }

    derive-alike : (h g : Choice) → FreeCap s h.cap → FreeCap t g.cap
        → Alike (derive_cap_does s c me k h) (derive_cap_does t c me' k' g)
    unfolding derive_cap_does hands_back child FreeCap
    derive-alike h g F G = record {
      answer = let n = same-name in λ d. (hands_back (n d) c.drawn s).answer;
      after = record {
        maps = _;
        by = adds_carried A h.cap g.cap (child s c me k) (child t c me' k')
            (min c.limit (s.money k)) (min c.limit (t.money k')) (omega (arith, F.0)) (not-lives s h.cap F.2) (not-lives t g.cap G.2)
            (u-lives s t S T A) S.caps.parent l (λ n. l) child-carried (ap (min c.limit) same-money);
      };
    }

    -- ---- delete_cap

    ended : CarriedBy m (deleted s c me k) (deleted t c me' k')
    unfolding deleted
    ended = ends-carried A (λ i. descends s i k) (λ i. descends t i k')
        (λ i g. ap (descends t (m.cap i)) k-is ∙ descends-carried s t S T A i k g l)

    module _ (z : (s.cap k).parent ≡ 0) where
      -- every capability of the object ends
      alone : (i : ℕ) → Lives (deleted s c me k).cap i → ((deleted s c me k).cap i).object ≢ (s.cap k).object
      unfolding deleted
      alone = end_by s _ (λ i x. x.object ≢ (s.cap k).object) (λ i g e q.
          let w = master-unique s S.caps i k g l z q in
          true≢false (sym (subst (λ x. descends s i x ≡ true) w (master-above s S.caps i g)) ∙ e))

      gone : CarriedBy (placed m (s.cap k).object (t.cap k').object)
          (end_object (deleted s c me k) (s.cap k).object) (end_object (deleted t c me' k') (t.cap k').object)
      unfolding end_object deleted end_where with_money with_cap
      gone = place-carried ended o o' no_object l alone
          (λ j g n e. n (once j o g here (e ∙ there)))
          (λ j g n e. n (sym (A.moves.object-back j g).1 ∙ ap m.object e ∙ sym there))

    forfeit-same : forfeit t c me' k' ≡ forfeit s c me k
    unfolding forfeit
    forfeit-same =
        let a = same-money in
        let b = same-cash in
        let x = same-box in
        λ d. a d + b d + sums_in (x d)

    delete-alike : Alike (delete_cap_does s c me k) (delete_cap_does t c me' k')
    unfolding delete_cap_does
    delete-alike = pick-alike (eqb (s.cap k).parent 0) (eqb (t.cap k').parent 0) _ _ _ _
        (top-same s t S T A c me me' k k' who me-is k-is l)
        (λ e. done-alike
        (to-house (gone (eqb-true _ _ e)) (forfeit s c me k) (forfeit t c me' k') forfeit-same))
        (λ e. done-alike ended)

    -- ---- rename_obj: all end, then a new master

    abbrev of-o : ℕ → Bool
    of-o i = eqb (s.cap i).object (s.cap k).object

    abbrev of-o' : ℕ → Bool
    of-o' i = eqb (t.cap i).object (t.cap k').object

    same-owner : (i : ℕ) → Lives s.cap i → of-o' (m.cap i) ≡ of-o i
    same-owner = of-same s t S T A c me me' k k' who me-is k-is l

    cleared : CarriedBy m (emptied s c me k) (emptied t c me' k')
    unfolding emptied
    cleared = ends-carried A of-o of-o' same-owner

    cleared-goes : (i : ℕ) → Lives (emptied s c me k).cap i → Lives (emptied t c me' k').cap (m.cap i)
    unfolding emptied
    cleared-goes = ends-goes A of-o of-o' same-owner (u-lives s t S T A)

    cleared-above : (i : ℕ) → Lives (emptied s c me k).cap i → ((emptied s c me k).cap i).parent ≢ 0
        → Lives (emptied s c me k).cap ((emptied s c me k).cap i).parent
    unfolding emptied
    cleared-above = (sound-end s of-o (sound-of S)
        (λ i g n e. eq-eqb _ _ ((S.caps.within i g n).object ∙ eqb-true _ _ e))).caps.parent

    renamed-carried : new_master t c me' k' ≡ carried m (new_master s c me k)
    unfolding new_master
    renamed-carried =
        let x = same-cap in
        let b = sym A.moves.no-cap in
        λ d. record {
          object = (x d).object;
          parent = b d;
          password = c.drawn;
          window = (x d).window;
          rights = (x d).rights;
          last_day = Limit.day;
        }

    rename-alike : (h g : Choice) → FreeCap (emptied s c me k) h.cap → FreeCap (emptied t c me' k') g.cap
        → Alike (rename_obj_does s c me k h) (rename_obj_does t c me' k' g)
    unfolding rename_obj_does hands_back new_master FreeCap
    rename-alike h g F G = record {
      answer = let n = same-name in λ d. (hands_back (n d) c.drawn s).answer;
      after = record {
        maps = _;
        by = adds_carried cleared h.cap g.cap (new_master s c me k) (new_master t c me' k')
            (s.money k) (t.money k') (omega (arith, F.0))
            (not-lives (emptied s c me k) h.cap F.2) (not-lives (emptied t c me' k') g.cap G.2)
            cleared-goes cleared-above l (λ n. absurd (n refl)) renamed-carried same-money;
      };
    }

    -- ---- withdraw, deposit

    climbed : (f : ℕ → ℕ) → CarriedBy m (on_climb s k f) (on_climb t k' f)
    unfolding on_climb
    climbed f = money-is A _ _ (λ i a.
        let e = ap (λ x. descends t x (m.cap i)) k-is ∙ descends-carried s t S T A k i l a in
        let w = A.money i a in
        λ d. elim (e d) [ true ↦ f (w d) | false ↦ w d ])

    withdraw-alike : Alike (withdraw_does s c me k) (withdraw_does t c me' k')
    unfolding withdraw_does on_climb with_money
    withdraw-alike = done-alike (earned (climbed (λ x. x - c.sum)) once me me' who me-is c.sum c.sum refl)

    deposit-alike : Alike (deposit_does s c me k) (deposit_does t c me' k')
    unfolding deposit_does on_climb with_money
    deposit-alike = done-alike (spent (climbed (λ x. x + c.sum)) once me me' who me-is c.sum c.sum refl)

    -- ---- suspend, resume, apply_lock

    suspend-alike : Alike (suspend_does s c me k) (suspend_does t c me' k')
    unfolding suspend_does
    suspend-alike = done-alike (suspended A once o o' here there true)

    resume-alike : Alike (resume_does s c me k) (resume_does t c me' k')
    unfolding resume_does
    resume-alike = done-alike (suspended A once o o' here there false)

    lock-alike : Alike (apply_lock_does s c me k) (apply_lock_does t c me' k')
    unfolding apply_lock_does
    lock-alike = done-alike (lock-at A once o o' here there _ _ (ap
        (λ (w : Lockword). record {
          first = bit_xor w.first c.lock.first;
          second = bit_xor w.second c.lock.second;
        })
        (aim-along s t S T A c me me' k k' who me-is k-is l s.lock t.lock A.lock)))

    -- ---- send, revive

    send-alike : Alike (send_does s c me k) (send_does t c me' k')
    unfolding send_does message spend with_cash with_box
    send-alike =
        let a = spent A once me me' who me-is c.sum c.sum refl in
        let b = box-at a once o o' here there _ _
        (ap (λ (x : List Message). x ++ record { bytes = c.text; sum = c.sum } ∷ []) same-box) in
        done-alike (waiting b once o o' here there false)

    revive-alike : Alike (revive_does s c me k) (revive_does t c me' k')
    unfolding revive_does spend earn with_cash
    revive-alike =
        let a = spent A once me me' who me-is c.sum c.sum refl in
        let b = earned a once o o' here there c.sum c.sum refl in
        done-alike (terminated b once o o' here there false)

  -- ---- the table

  pub does-carried : (h g : Choice) (o : Op) → Ready s c me k o → Takes s c me k h o → Takes t c me' k' g o
      → Alike (does s c me k h o) (does t c me' k' g o)
  unfolding does presents
  does-carried h g make_obj r p q =
      make-alike h g (p.object refl) (q.object refl) (p.made refl) (q.made refl)
  does-carried h g read r p q = read_alike (r.shown refl).lives
  does-carried h g write r p q = write-alike (r.shown refl).lives
  does-carried h g cap_info r p q = info-alike (r.shown refl).lives
  does-carried h g derive_cap r p q = derive-alike (r.shown refl).lives h g (p.derived refl) (q.derived refl)
  does-carried h g delete_cap r p q = delete-alike (r.shown refl).lives
  does-carried h g rename_obj r p q = rename-alike (r.shown refl).lives h g (p.renamed refl) (q.renamed refl)
  does-carried h g withdraw r p q = withdraw-alike (r.shown refl).lives
  does-carried h g deposit r p q = deposit-alike (r.shown refl).lives
  does-carried h g suspend r p q = suspend-alike (r.shown refl).lives
  does-carried h g resume r p q = resume-alike (r.shown refl).lives
  does-carried h g apply_lock r p q = lock-alike (r.shown refl).lives
  does-carried h g send r p q = send-alike (r.shown refl).lives
  does-carried h g receive r p q = receive-alike
  does-carried h g wait r p q = wait-alike
  does-carried h g revive r p q = revive-alike (r.shown refl).lives
  does-carried h g unknown r p q = record { answer = refl; after = record { maps = m; by = A } }
