-- What a call, done or refused, leaves of an object and of its bytes: an object that lives on is the same one, with the
-- bytes that it had, but for the range of a done write to it, which has the data; of one that is new, "New bytes are
-- zero."
use Prim.Native.Nat.{ℕ}
use mathlib.Core.Path.{◌≡◌, refl, sym, ap, ◌∙◌, subst}
use mathlib.Core.Logic.{◌≢◌}
use mathlib.Core.Bool.{Bool, true, false, true≢false}
use mathlib.Core.List.{List, [], ◌∷◌}
use lib.ListN.{replicate}
use Rattle.rules.specs.Slots.{at}
use Rattle.rules.specs.Store.{Object, Message, State, no_object}
use Rattle.rules.specs.Rights.{Op, make_obj, read, write, cap_info, derive_cap, delete_cap, rename_obj, withdraw}
use Rattle.rules.specs.Rights.{deposit, suspend, resume, apply_lock, send, receive, wait, revive, unknown, op}
use Rattle.rules.specs.Rights.{day_number}
use Rattle.rules.specs.Call.{Call, Choice, code, done, hands_back, hands_over, tells}
use Rattle.rules.specs.Refusals.{first, caller, early}
use Rattle.rules.specs.Update.{with_house, with_day, with_cash, with_marks, with_cap, with_money, with_box, with_lock, with_bytes}
use Rattle.rules.specs.Changes.{earn, spend, to_house, set_suspended, set_waiting, set_terminated, on_climb, new_cap}
use Rattle.rules.specs.Changes.{end_where, new_object, end_object}
use Rattle.rules.specs.Calls.{make_obj_does, made_object, read_does, write_does, written, cap_info_does, derive_cap_does}
use Rattle.rules.specs.Calls.{deleted, emptied, rename_obj_does, withdraw_does, deposit_does, suspend_does, resume_does}
use Rattle.rules.specs.Calls.{apply_lock_does, send_does, receive_does, revive_does, does}
use Rattle.rules.specs.Rule.{stopped, paid, late, day_refuses, day_rule, rule, is_done}
use Rattle.rules.specs.Demand.{FreeObject, Open}
use Rattle.rules.proofs.Tests.{by-eq}
use Rattle.rules.proofs.Slots.{at_here, at-else}
use Rattle.rules.proofs.Ready.{slot_of}
use Rattle.rules.proofs.Outcomes.{host-op, stopped_by, done-out, rule-by, day-by}
use Rattle.rules.proofs.Answers.{refused-not, is-done}
use Rattle.rules.proofs.Keeping.{wait_by}
use Rattle.rules.proofs.Deleting.{delete-by}

-- of slot q, from s to r
pub record Bytes (s : State) (q : ℕ) (was : List ℕ) (r : State) : Type 0 where
  -- an object that lives on is the same one, and has the bytes `was`
  pub object : (s.object q).live ≡ true → (r.object q).live ≡ true → r.object q ≡ s.object q
  pub kept : (s.object q).live ≡ true → (r.object q).live ≡ true → r.bytes q ≡ was
  -- a new one has zeros
  pub fresh : (s.object q).live ≡ false → (r.object q).live ≡ true → r.bytes q ≡ replicate (r.object q).size 0
  -- and where there is a new one, none ends
  pub others : (s.object q).live ≡ false → (r.object q).live ≡ true
      → (o : ℕ) → (s.object o).live ≡ true → r.object o ≡ s.object o

-- ---- a state that differs in other parts, or in slot o alone

same : (s : State) (q : ℕ) (r : State) → r.object ≡ s.object → r.bytes q ≡ s.bytes q → Bytes s q (s.bytes q) r
same s q r o e = record {
  object = λ a b. ap (λ (f : ℕ → Object). f q) o;
  kept = λ a b. e;
  fresh = λ a b. absurd (true≢false (sym b ∙ ap (λ (f : ℕ → Object). (f q).live) o ∙ a));
  others = λ a b i e. ap (λ (f : ℕ → Object). f i) o;
}

-- to an object x with bytes xs: it was free, or it is now; x has zeros
module _ (s : State) (q o : ℕ) (x : Object) (xs : List ℕ) (r : State) (objects : r.object ≡ at s.object o x)
    (bytes : r.bytes ≡ at s.bytes o xs) where
  object-here : q ≡ o → r.object q ≡ x
  object-here e = ap (λ (f : ℕ → Object). f q) objects ∙ ap (at s.object o x) e ∙ at_here s.object o x

  bytes-here : q ≡ o → r.bytes q ≡ xs
  bytes-here e = ap (λ (f : ℕ → List ℕ). f q) bytes ∙ ap (at s.bytes o xs) e ∙ at_here s.bytes o xs

  else-at : (i : ℕ) → i ≢ o → r.object i ≡ s.object i
  else-at i n = ap (λ (f : ℕ → Object). f i) objects ∙ at-else s.object o x i n

  bytes-else : q ≢ o → r.bytes q ≡ s.bytes q
  bytes-else n = ap (λ (f : ℕ → List ℕ). f q) bytes ∙ at-else s.bytes o xs q n

  changed : ((s.object o).live ≡ true → x.live ≡ true → ⊥) → (x.live ≡ true → xs ≡ replicate x.size 0)
      → Bytes s q (s.bytes q) r
  changed free zeros = by-eq q o
      (λ e.
      let was : (s.object q).live ≡ (s.object o).live = ap (λ i. (s.object i).live) e in
      let is : (r.object q).live ≡ x.live = ap (λ (y : Object). y.live) (object-here e) in
      record {
        object = λ a b. absurd (free (sym was ∙ a) (sym is ∙ b));
        kept = λ a b. absurd (free (sym was ∙ a) (sym is ∙ b));
        fresh = λ a b.
            bytes-here e ∙ zeros (sym is ∙ b) ∙ ap (λ (y : Object). replicate y.size 0) (sym (object-here e));
        others = λ a b i f. else-at i (λ z. true≢false (sym f ∙ ap (λ j. (s.object j).live) (z ∙ sym e) ∙ a));
      })
      (λ n.
      let is : (r.object q).live ≡ (s.object q).live = ap (λ (y : Object). y.live) (else-at q n) in
      record {
        object = λ a b. else-at q n;
        kept = λ a b. bytes-else n;
        fresh = λ a b. absurd (true≢false (sym b ∙ is ∙ a));
        others = λ a b. absurd (true≢false (sym b ∙ is ∙ a));
      })

-- ---- a done call

module _ (s : State) (c : Call) (me k : ℕ) (q : ℕ) where
  -- the bytes of slot q that it leaves, if q lives on
  unfoldable pub bytes_of : Op → List ℕ
  bytes_of make_obj = s.bytes q
  bytes_of read = s.bytes q
  bytes_of write = at s.bytes (s.cap k).object (written s c me k (s.bytes (s.cap k).object)) q
  bytes_of cap_info = s.bytes q
  bytes_of derive_cap = s.bytes q
  bytes_of delete_cap = s.bytes q
  bytes_of rename_obj = s.bytes q
  bytes_of withdraw = s.bytes q
  bytes_of deposit = s.bytes q
  bytes_of suspend = s.bytes q
  bytes_of resume = s.bytes q
  bytes_of apply_lock = s.bytes q
  bytes_of send = s.bytes q
  bytes_of receive = s.bytes q
  bytes_of wait = s.bytes q
  bytes_of revive = s.bytes q
  bytes_of unknown = s.bytes q

  -- a write's, or what they were
  pub bytes-by : (P : List ℕ → Type 0) (o : Op) → P (s.bytes q)
      → (o ≡ write → P (at s.bytes (s.cap k).object (written s c me k (s.bytes (s.cap k).object)) q))
      → P (bytes_of o)
  unfolding bytes_of
  bytes-by P make_obj a b = a
  bytes-by P read a b = a
  bytes-by P write a b = b refl
  bytes-by P cap_info a b = a
  bytes-by P derive_cap a b = a
  bytes-by P delete_cap a b = a
  bytes-by P rename_obj a b = a
  bytes-by P withdraw a b = a
  bytes-by P deposit a b = a
  bytes-by P suspend a b = a
  bytes-by P resume a b = a
  bytes-by P apply_lock a b = a
  bytes-by P send a b = a
  bytes-by P receive a b = a
  bytes-by P wait a b = a
  bytes-by P revive a b = a
  bytes-by P unknown a b = a

module _ (s : State) (c : Call) (me k : ℕ) (h : Choice) (q : ℕ) where
  delete-bytes : Bytes s q (s.bytes q) (does s c me k h delete_cap).after
  unfolding does done deleted end_where with_money with_cap to_house with_house end_object new_object no_object
  delete-bytes = delete-by s c me k (λ r. Bytes s q (s.bytes q) r.after)
      (λ z. changed s q (s.cap k).object no_object [] _ refl refl (λ a b. true≢false (sym b)) (λ b. refl))
      (λ n. same s q _ refl refl)

  receive-bytes : (l : List Message) → Bytes s q (s.bytes q) (receive_does s c me k l).after
  unfolding receive_does done hands_over earn with_cash with_box
  receive-bytes [] = same s q _ refl refl
  receive-bytes (m ∷ l) = same s q _ refl refl

  does-bytes : (o : Op) → (o ≡ make_obj → (s.object h.object).live ≡ false)
      → Bytes s q (bytes_of s c me k q o) (does s c me k h o).after
  unfolding does bytes_of make_obj_does read_does write_does cap_info_does derive_cap_does rename_obj_does withdraw_does deposit_does
      suspend_does resume_does apply_lock_does send_does revive_does done hands_back hands_over tells emptied end_where
      earn spend on_climb new_cap new_object with_cash with_money with_cap with_bytes with_lock with_box set_suspended set_waiting
      set_terminated with_marks
  does-bytes make_obj g =
      let x : Object = made_object s c me k in
      changed s q h.object x (replicate x.size 0) _ refl refl (λ a b. true≢false (sym a ∙ g refl)) (λ b. refl)
  does-bytes read g = same s q _ refl refl
  does-bytes write g =
      record {
        object = λ a b. refl;
        kept = λ a b. refl;
        fresh = λ a b. absurd (true≢false (sym b ∙ a));
        others = λ a b i e. refl;
      }
  does-bytes cap_info g = same s q _ refl refl
  does-bytes derive_cap g = same s q _ refl refl
  does-bytes delete_cap g = delete-bytes
  does-bytes rename_obj g = same s q _ refl refl
  does-bytes withdraw g = same s q _ refl refl
  does-bytes deposit g = same s q _ refl refl
  does-bytes suspend g = same s q _ refl refl
  does-bytes resume g = same s q _ refl refl
  does-bytes apply_lock g = same s q _ refl refl
  does-bytes send g = same s q _ refl refl
  does-bytes receive g = receive-bytes (s.box me)
  does-bytes wait g =
      wait_by s c me k (λ x. Bytes s q (s.bytes q) x.after) (λ _. same s q _ refl refl) (same s q _ refl refl)
  does-bytes revive g = same s q _ refl refl
  does-bytes unknown g = same s q _ refl refl

-- ---- any call

module _ (s : State) (c : Call) (q : ℕ) where
  -- the bytes of slot q that it leaves, if q lives on; d tells whether it was done
  unfoldable pub bytes_left : Bool → List ℕ
  bytes_left d = elim d [
    | true ↦ bytes_of (paid s c) c (caller s c) (slot_of s c) q (op c.number)
    | false ↦ s.bytes q
  ]

  stopped-bytes : Bytes s q (s.bytes q) (stopped s c (early s c))
  unfolding set_terminated with_marks
  stopped-bytes = stopped_by s c (Bytes s q (s.bytes q)) (λ _. same s q _ refl refl) (same s q _ refl refl)

  paid-bytes : Bytes s q (s.bytes q) (paid s c)
  unfolding paid to_house spend with_cash with_house
  paid-bytes = same s q (paid s c) refl refl

  day-bytes : c.number ≡ day_number → Bytes s q (bytes_left (is_done (day_rule s c))) (day_rule s c).after
  unfolding bytes_left bytes_of done code is_done with_day paid to_house spend with_cash with_house
  day-bytes z = day-by s c (λ r. Bytes s q (bytes_left (is_done r)) r.after)
      (λ n. subst (λ d. Bytes s q (bytes_left d) s) (sym (refused-not (first (day_refuses s c.day)) s n)) (same s q s refl refl))
      (λ _. subst (λ o. Bytes s q (bytes_of (paid s c) c (caller s c) (slot_of s c) q o) (with_day s c.day))
      (sym (host-op c.number z)) (same s q (with_day s c.day) refl refl))

  done-bytes : (h : Choice) → Open s c h
      → Bytes s q (bytes_of (paid s c) c (caller s c) (slot_of s c) q (op c.number)) (done-out s c h).after
  unfolding paid to_house spend with_cash with_house FreeObject
  done-bytes h g =
      let B = does-bytes (paid s c) c (caller s c) (slot_of s c) h q (op c.number) (λ e. (g.object e).2) in
      record { object = B.object; kept = B.kept; fresh = B.fresh; others = B.others }

  pub rule-bytes : (h : Choice) → (is_done (rule s c h) ≡ true → Open s c h)
      → Bytes s q (bytes_left (is_done (rule s c h))) (rule s c h).after
  unfolding bytes_left
  rule-bytes h = rule-by s c h (λ r. (is_done r ≡ true → Open s c h) → Bytes s q (bytes_left (is_done r)) r.after)
      (λ z g. day-bytes z)
      (λ _ n g. subst (λ d. Bytes s q (bytes_left d) (stopped s c (early s c)))
      (sym (refused-not (early s c) (stopped s c (early s c)) n)) stopped-bytes)
      (λ _ e n g. subst (λ d. Bytes s q (bytes_left d) (paid s c))
      (sym (refused-not (late (paid s c) c (slot_of s c)) (paid s c) n)) paid-bytes)
      (λ _ e f g. subst (λ d. Bytes s q (bytes_left d) (done-out s c h).after) (sym (is-done s c h e))
      (done-bytes h (g (is-done s c h e))))
