-- Two carried states refuse alike: 2 to 4, 5, 19 and 6, and each call's own.
use Prim.Native.Nat.{ℕ, ◌+◌}
use mathlib.Core.Path.{◌≡◌, refl, sym, ap, ap₂, ◌∙◌}
use mathlib.Core.Logic.{◌≢◌}
use mathlib.Core.Bool.{Bool, true, false, not, ◌&&◌, ◌||◌, true≢false}
use mathlib.Core.List.{List, [], ◌∷◌, ◌++◌}
use lib.Dec.{eqb, leb, ltb}
use lib.ListN.{length}
use borrow.Author.Tests.{eqb-true, eq-eqb}
use Rattle.rules.specs.Limit as Limit
use Rattle.rules.specs.Code as Code
use Rattle.rules.specs.Slots.{any}
use Rattle.rules.specs.Store.{Message, Object, Cap, State, object_named, path, blocks}
use Rattle.rules.specs.Valid.{Lives, Formed}
use Rattle.rules.specs.Rights.{has, Op, make_obj, read, write, cap_info, derive_cap, delete_cap, rename_obj, withdraw}
use Rattle.rules.specs.Rights.{deposit, suspend, resume, apply_lock, send, receive, wait, revive, unknown, fee_of}
use Rattle.rules.specs.Rights.{asked, presents}
use Rattle.rules.specs.Call.{Call}
use Rattle.rules.specs.Refusals.{Refusal, ◌when◌, first, in_range, caller, running, early, expired, presenting, showing}
use Rattle.rules.specs.Calls.{lies_in, p1_taken, make_obj_refuses, transfer_refuses, derive_cap_refuses, rename_obj_refuses}
use Rattle.rules.specs.Calls.{withdraw_refuses, deposit_refuses, process_refuses, send_refuses, receive_refuses}
use Rattle.rules.specs.Calls.{revive_refuses, refuses}
use Rattle.rules.proofs.Tests.{by-eq, by_bool, bool_same, all2, lives, does-live, pick_yes, pick-not}
use Rattle.rules.proofs.Forest.{path-lives}
use Rattle.rules.proofs.Carried.{Maps, Alive, Along, carried, CarriedBy}
use Rattle.rules.proofs.Onto.{some-onto, any-map}
use Rattle.rules.proofs.Moving.{named_live, f-some, f-once, owned, u-some, caps-onto, named-carried}
use Rattle.rules.proofs.Moving.{path-carried, objects-carried, caps-carried, blocks-carried}
use Rattle.rules.proofs.Meaning.{zero_same, named-along, object-zero, cash-zero, marks-zero, master-same}

eqb_same : (a b c d : ℕ) → (a ≡ b → c ≡ d) → (c ≡ d → a ≡ b) → eqb a b ≡ eqb c d
eqb_same a b c d f g = bool_same (eqb a b) (eqb c d)
    (λ e. eq-eqb c d (f (eqb-true a b e))) (λ e. eq-eqb a b (g (eqb-true c d e)))

-- 5 where none is found
five : (s : State) (k : ℕ) (o : Op) (l : List Refusal) → presents o ≡ true → k ≡ 0 → first (presenting s k o ++ l) ≡ Code.not_found
unfolding presenting showing first ◌when◌
five s k o l p z =
    ap (λ x. first (x ++ l)) (pick_yes (presents o) (showing s k (asked o)) [] p) ∙ pick_yes (eqb k 0) Code.not_found _ (eq-eqb k 0 z)

module _ {m : Maps} (s t : State) (S : Formed s) (T : Formed t) (A : CarriedBy m s t) (c : Call) where
  -- ---- 2 to 4

  pub caller-carried : caller t c ≡ m.object (caller s c)
  unfolding caller
  caller-carried = named-carried s t S T A c.caller

  pub early-carried : early t c ≡ early s c
  unfolding early running caller
  early-carried =
      let n = c.caller in
      let x = named-along s t S T A s.object t.object A.moves.object (object-zero s t S T A) n in
      let k = named-along s t S T A s.marks t.marks A.marks (marks-zero s t S T A) n in
      let y = named-along s t S T A s.cash t.cash A.cash (cash-zero s t S T A) n in
      λ d. first (Code.out_of_range when not (in_range c)
      ∷ Code.not_running when not ((x d).live && (x d).process && not ((k d).suspended || (k d).waiting || (k d).terminated))
      ∷ Code.cannot_pay when ltb (y d) (fee_of c.number)
      ∷ [])

  -- ---- the caller at slot me here and me' there, the capability presented at k and k'

  module _ (me me' k k' : ℕ) (who : Alive s.object me) (me-is : me' ≡ m.object me) (k-is : k' ≡ m.cap k) where
    pub cash-me : t.cash me' ≡ s.cash me
    cash-me = ap t.cash me-is ∙ A.cash me who

    pub box-me : t.box me' ≡ s.box me
    box-me = ap t.box me-is ∙ A.box me who

    -- where it lives
    module _ (h : Lives s.cap k) where
      pub cap-k : t.cap k' ≡ carried m (s.cap k)
      cap-k = ap t.cap k-is ∙ A.moves.cap k h

      pub money-k : t.money k' ≡ s.money k
      money-k = ap t.money k-is ∙ A.money k h

      pub aim : (t.cap k').object ≡ m.object (s.cap k).object
      aim = ap (λ (x : Cap). x.object) cap-k

      pub aim-lives : Alive s.object (s.cap k).object
      aim-lives = owned s t S T A k h

      -- what its object holds
      pub aim-along : {B : Type 0} (x y : ℕ → B) → Along (Alive s.object) m.object x y
          → y (t.cap k').object ≡ x (s.cap k).object
      aim-along x y g = ap y aim ∙ g (s.cap k).object aim-lives

      pub object-aim : t.object (t.cap k').object ≡ s.object (s.cap k).object
      object-aim = aim-along s.object t.object A.moves.object

      box-aim : t.box (t.cap k').object ≡ s.box (s.cap k).object
      box-aim = aim-along s.box t.box A.box

      pub top-same : eqb (t.cap k').parent 0 ≡ eqb (s.cap k).parent 0
      top-same = ap (λ j. eqb (t.cap j).parent 0) k-is ∙ master-same s t S T A k (λ n. h)

      -- a capability is of the same object as k
      pub of-same : (i : ℕ) → Lives s.cap i
          → eqb (t.cap (m.cap i)).object (t.cap k').object ≡ eqb (s.cap i).object (s.cap k).object
      of-same i g =
          let e = ap (λ (x : Cap). x.object) (A.moves.cap i g) in
          eqb_same _ _ _ _
          (λ d. f-once s t S T A (s.cap i).object (s.cap k).object (owned s t S T A i g) aim-lives
          (sym e ∙ d ∙ aim))
          (λ d. e ∙ ap m.object d ∙ sym aim)

      taken : p1_taken t c me' k' ≡ p1_taken s c me k
      unfolding p1_taken
      taken =
          let a : ℕ → Bool = λ i. eqb (s.cap i).object (s.cap k).object in
          let b : ℕ → Bool = λ i. eqb (s.cap i).password.p1 c.drawn.p1 in
          let a' : ℕ → Bool = λ i. eqb (t.cap i).object (t.cap k').object in
          let b' : ℕ → Bool = λ i. eqb (t.cap i).password.p1 c.drawn.p1 in
          let h' : Lives t.cap k' = λ z. f-some s t S T A (s.cap k).object aim-lives (sym aim ∙ z) in
          some-onto (caps-onto s t S T A) (λ i. a i && b i) (λ i. a' i && b' i)
          (λ i e. does-live s i (λ z. h (sym (eqb-true _ _ (all2 (a i) (b i) e).0) ∙ z)))
          (λ i e. does-live t i (λ z. h' (sym (eqb-true _ _ (all2 (a' i) (b' i) e).0) ∙ z)))
          (λ i e.
          let g = lives s i e in
          let x = of-same i g in
          let y = ap (λ (z : Cap). eqb z.password.p1 c.drawn.p1) (A.moves.cap i g) in
          λ d. x d && y d)

      -- a test of the moneywords on the climb
      climb-any : (g : ℕ → Bool) → any (λ i. g (t.money i)) (path t k') ≡ any (λ i. g (s.money i)) (path s k)
      climb-any g = ap (λ l. any (λ i. g (t.money i)) l) (ap (path t) k-is ∙ path-carried s t S T A k h)
          ∙ any-map m.cap (λ i. g (s.money i)) (λ i. g (t.money i)) (path s k)
          (λ i o. ap g (A.money i (path-lives s S.caps k i h o)))

      -- ---- 5, 19 and 6, and the calls' own

      presenting-same : (o : Op) → presenting t k' o ≡ presenting s k o
      unfolding presenting showing expired
      presenting-same o =
          let a : eqb k' 0 ≡ eqb k 0 = ap (λ x. eqb x 0) k-is ∙ zero_same m.cap A.moves.no-cap k some in
          let x = cap-k in
          let y = A.day in
          λ d. elim (presents o) [
            | true ↦ Code.not_found when a d
                ∷ Code.expired when ltb (x d).last_day (y d)
                ∷ Code.right_missing when not (has (x d).rights (asked o))
                ∷ []
            | false ↦ []
          ]
        where
          some : k ≢ 0 → m.cap k ≢ 0
          some n = u-some s t S T A k h

      transfer-refuses : transfer_refuses t c me' k' ≡ transfer_refuses s c me k
      unfolding transfer_refuses
      transfer-refuses = ap (λ (x : Cap). Code.outside_window when not (lies_in c.range x.window) ∷ []) cap-k

      derive-refuses : derive_cap_refuses t c me' k' ≡ derive_cap_refuses s c me k
      unfolding derive_cap_refuses
      derive-refuses =
          let a = taken in
          let b = caps-carried s t S T A in
          λ d. Code.taken when a d ∷ Code.no_space when leb Limit.caps (b d) ∷ []

      rename-refuses : rename_obj_refuses t c me' k' ≡ rename_obj_refuses s c me k
      unfolding rename_obj_refuses
      rename-refuses =
          let a = top-same in
          let b = taken in
          λ d. Code.not_master when not (a d) ∷ Code.taken when b d ∷ []

      withdraw-refuses : withdraw_refuses t c me' k' ≡ withdraw_refuses s c me k
      unfolding withdraw_refuses
      withdraw-refuses = ap (λ b. Code.too_little when b ∷ []) (climb-any (λ x. ltb x c.sum))

      deposit-refuses : deposit_refuses t c me' k' ≡ deposit_refuses s c me k
      unfolding deposit_refuses
      deposit-refuses =
          let a = cash-me in
          let b = climb-any (λ x. ltb Limit.word (x + c.sum)) in
          λ d. Code.too_little when ltb (a d) c.sum ∷ Code.overflows when b d ∷ []

      process-refuses : process_refuses t c me' k' ≡ process_refuses s c me k
      unfolding process_refuses
      process-refuses = ap (λ (x : Object). Code.not_process when not x.process ∷ []) object-aim

      send-refuses : send_refuses t c me' k' ≡ send_refuses s c me k
      unfolding send_refuses
      send-refuses =
          let a = object-aim in
          let b = cash-me in
          let x = box-aim in
          λ d. Code.not_process when not (a d).process ∷ Code.too_little when ltb (b d) c.sum ∷ Code.box_full when leb Limit.box (length (x d)) ∷ []

      revive-refuses : revive_refuses t c me' k' ≡ revive_refuses s c me k
      unfolding revive_refuses
      revive-refuses =
          let a = object-aim in
          let x = aim-along s.marks t.marks A.marks in
          let b = cash-me in
          λ d. Code.not_process when not (a d).process
          ∷ Code.not_revivable when (not (x d).terminated || eqb c.sum 0)
          ∷ Code.too_little when ltb (b d) c.sum
          ∷ []

    make-refuses : make_obj_refuses t c me' k' ≡ make_obj_refuses s c me k
    unfolding make_obj_refuses
    make-refuses =
        let n = c.name in
        let a : eqb (object_named t n) 0 ≡ eqb (object_named s n) 0 =
        ap (λ x. eqb x 0) (named-carried s t S T A n)
        ∙ zero_same m.object A.moves.no-object (object_named s n)
        (λ z. f-some s t S T A (object_named s n) (named_live s n z)) in
        let x = objects-carried s t S T A in
        let y = caps-carried s t S T A in
        let z = blocks-carried s t S T A in
        λ d. Code.taken when not (a d)
        ∷ Code.no_space when (leb Limit.objects (x d) || leb Limit.caps (y d) || ltb (z d) (blocks c.size))
        ∷ []

    receive-refuses : receive_refuses t c me' k' ≡ receive_refuses s c me k
    unfolding receive_refuses
    receive-refuses = ap (λ (l : List Message). Code.box_empty when eqb (length l) 0 ∷ []) box-me

    refuses-same : (o : Op) → (presents o ≡ true → Lives s.cap k) → refuses t c me' k' o ≡ refuses s c me k o
    unfolding refuses presents
    refuses-same make_obj h = make-refuses
    refuses-same read h = transfer-refuses (h refl)
    refuses-same write h = transfer-refuses (h refl)
    refuses-same cap_info h = refl
    refuses-same derive_cap h = derive-refuses (h refl)
    refuses-same delete_cap h = refl
    refuses-same rename_obj h = rename-refuses (h refl)
    refuses-same withdraw h = withdraw-refuses (h refl)
    refuses-same deposit h = deposit-refuses (h refl)
    refuses-same suspend h = process-refuses (h refl)
    refuses-same resume h = process-refuses (h refl)
    refuses-same apply_lock h = process-refuses (h refl)
    refuses-same send h = send-refuses (h refl)
    refuses-same receive h = receive-refuses
    refuses-same wait h = refl
    refuses-same revive h = revive-refuses (h refl)
    refuses-same unknown h = refl

    pub late-carried : (k ≢ 0 → Lives s.cap k) → (o : Op)
        → first (presenting t k' o ++ refuses t c me' k' o) ≡ first (presenting s k o ++ refuses s c me k o)
    unfolding presenting showing
    late-carried h o = by_bool (presents o)
        (λ p. by-eq k 0
        (λ z. five t k' o _ p (k-is ∙ ap m.cap z ∙ A.moves.no-cap) ∙ sym (five s k o _ p z))
        (λ n. ap₂ (λ a b. first (a ++ b)) (presenting-same (h n) o) (refuses-same o (λ q. h n))))
        (λ p. ap₂ (λ a b. first (a ++ b)) (pick-not (presents o) _ [] p ∙ sym (pick-not (presents o) _ [] p))
        (refuses-same o (λ q. absurd (true≢false (sym q ∙ p)))))
