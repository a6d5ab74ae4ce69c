-- The calls that keep the tree of capabilities and their moneywords: what each leaves is well formed, and the money
-- total is the same.
use Prim.Native.Nat.{ℕ, ◌+◌, ◌-◌, ◌≤◌, ◌<◌}
use mathlib.Core.Path.{◌≡◌, refl, sym, ap, ◌∙◌, subst}
use mathlib.Core.Bool.{true, false, not, true≢false}
use mathlib.Core.List.{List, [], ◌∷◌, ◌++◌}
use native.Mathlib.Omega.{arith}
use lib.Dec.{eqb, leb}
use lib.ListN.{length, length-append}
use borrow.Author.Tests.{eqb-true, leb-true, leb-false, ltb-false}
use Rattle.rules.specs.Slots.{at}
use Rattle.rules.specs.Store.{Window, Marks, Message, Object, State, no_marks, sums_in, all_cash, all_masters}
use Rattle.rules.specs.Store.{all_boxes, money_in}
use Rattle.rules.specs.Valid.{LiveObject, Lives, ProcessOnly, Short, BoxFits, Formed}
use Rattle.rules.specs.Rights.{write, suspend, resume, send, receive, wait, revive, presents}
use Rattle.rules.specs.Call.{Call, Outcome, done, hands_over}
use Rattle.rules.specs.Refusals.{◌when◌, ordered, transfer_fits, arguments_fit}
use Rattle.rules.specs.Update.{with_house, with_bytes, with_cash, with_marks, with_box}
use Rattle.rules.specs.Changes.{earn, spend, to_house, set_suspended, set_waiting, set_terminated}
use Rattle.rules.specs.Calls.{lies_in, transfer_refuses, written, write_does, process_refuses, suspend_does}
use Rattle.rules.specs.Calls.{resume_does, send_refuses, message, send_does, box_empty, receive_does, wait_does}
use Rattle.rules.specs.Calls.{revive_refuses, revive_does, refuses}
use Rattle.rules.proofs.Parts.{written_is, replaced-length}
use Rattle.rules.proofs.Tests.{all2, all3, not-is-false, pick-by}
use Rattle.rules.proofs.Slots.{at-by, at_all, sum-at}
use Rattle.rules.proofs.Forest.{master-in, master-unique}
use Rattle.rules.proofs.Sound.{Sound, sound-of, formed-of, sound-house, sound-bytes, sound-cash, sound-marks}
use Rattle.rules.proofs.Sound.{sound-box, Kept, kept_same}
use Rattle.rules.proofs.Presenting.{Process, Shown}
use Rattle.rules.proofs.Ready.{Ready}

-- what only a process has, changed at a process
pub only_at : {A : Type 0} (object : ℕ → Object) (f : ℕ → A) (z : A) (i : ℕ) (v : A)
    → ProcessOnly object f z → (object i).process ≡ true → ProcessOnly object (at f i v) z
only_at object f z i v h p = at-by (λ o x. (object o).process ≡ false → x ≡ z) f i v
    (λ e. absurd (true≢false (sym p ∙ e))) (λ j n. h j)

-- ---- the changes, each by itself

module _ {s : State} (S : Sound s) (i : ℕ) (p : Process s.object i) where
  abbrev O : LiveObject i (s.object i)
  O = S.objects.live i p.live

  -- cash v at the process
  sound-cash-at : (v : ℕ) → Sound (with_cash s (at s.cash i v))
  sound-cash-at v = sound-cash S (at s.cash i v) (only_at s.object s.cash 0 i v S.cash p.process)

  total-cash-at : (v : ℕ) → money_in (with_cash s (at s.cash i v)) + s.cash i ≡ money_in s + v
  unfolding with_cash money_in all_cash all_masters all_boxes
  total-cash-at v = omega (arith, sum-at 64 (λ (m : ℕ). m) s.cash i v O.some O.low)

  pub sound-spend : (n : ℕ) → Sound (spend s i n)
  unfolding spend
  sound-spend n = sound-cash-at (s.cash i - n)

  pub total-spend : (n : ℕ) → n ≤ s.cash i → money_in (spend s i n) + n ≡ money_in s
  unfolding spend
  total-spend n h = omega (arith, total-cash-at (s.cash i - n))

  pub sound-earn : (n : ℕ) → Sound (earn s i n)
  unfolding earn
  sound-earn n = sound-cash-at (s.cash i + n)

  pub total-earn : (n : ℕ) → money_in (earn s i n) ≡ money_in s + n
  unfolding earn
  total-earn n = omega (arith, total-cash-at (s.cash i + n))

  sound-mark : (m : Marks) → Sound (with_marks s (at s.marks i m))
  sound-mark m = sound-marks S (at s.marks i m) (only_at s.object s.marks no_marks i m S.marks p.process)

  sound-messages : (l : List Message) → BoxFits l → Sound (with_box s (at s.box i l))
  sound-messages l b = sound-box S (at s.box i l) (record {
    fits = at_all BoxFits s.box i l S.box.fits b;
    only = only_at s.object s.box [] i l S.box.only p.process;
  })

  total-messages : (l : List Message)
      → money_in (with_box s (at s.box i l)) + sums_in (s.box i) ≡ money_in s + sums_in l
  unfolding with_box money_in all_cash all_masters all_boxes
  total-messages l = omega (arith, sum-at 64 sums_in s.box i l O.some O.low)

total-marks : (s : State) (f : ℕ → Marks) → money_in (with_marks s f) ≡ money_in s
unfolding with_marks money_in all_cash all_masters all_boxes
total-marks s f = refl

pub total-house : (s : State) (n : ℕ) → money_in (to_house s n) ≡ money_in s + n
unfolding to_house with_house money_in all_cash all_masters all_boxes
total-house s n = omega arith

-- ---- the fee, and the mark of refusal 4

module _ (s : State) (G : Formed s) (i : ℕ) (p : Process s.object i) where
  pub keep-fee : (n : ℕ) → n ≤ s.cash i → Kept s (to_house (spend s i n) n)
  unfolding to_house spend with_cash with_house
  keep-fee n h = record {
    formed = formed-of (sound-house (sound-spend (sound-of G) i p n) (s.house + n)) G.master;
    total = total-house (spend s i n) n ∙ total-spend (sound-of G) i p n h;
  }

  pub keep-mark : (m : Marks) → Kept s (with_marks s (at s.marks i m))
  unfolding with_marks
  keep-mark m = record { formed = formed-of (sound-mark (sound-of G) i p m) G.master; total = total-marks s _ }

-- ---- wait sets the caller's mark, with an empty box, or nothing

empty-is : (l : List Message) → length l ≡ 0 → l ≡ []
empty-is [] e = refl
empty-is (m ∷ l) e = absurd (omega arith)

pub wait_by : (s : State) (c : Call) (me k : ℕ) (P : Outcome → Type 0)
    → (s.box me ≡ [] → P (done (set_waiting s me true))) → P (done s) → P (wait_does s c me k)
unfolding wait_does
wait_by s c me k P marked same =
    pick-by P (box_empty s c me k) _ _ (λ e. marked (empty-is (s.box me) (eqb-true _ _ e))) (λ _. same)

-- ---- messages

sums-append : (l : List Message) (m : Message) → sums_in (l ++ m ∷ []) ≡ sums_in l + m.sum
unfolding sums_in
sums-append [] m = omega arith
sums-append (x ∷ l) m = omega (arith, sums-append l m)

short-append : (l : List Message) (m : Message) → Short l → length m.bytes ≤ 16 → Short (l ++ m ∷ [])
short-append [] m h g = (g, tt)
short-append (x ∷ l) m h g = (h.0, short-append l m h.1 g)

-- ---- the calls

-- the text of a write fits its range, and the range the object
pub record WriteFits (s : State) (c : Call) (k : ℕ) : Type 0 where
  pub end_is : c.range.start + length c.text ≡ c.range.end
  pub inside : c.range.start + length c.text ≤ length (s.bytes (s.cap k).object)

-- a capability's window ends within its object
pub end-size : (s : State) (G : Formed s) (k : ℕ) → Lives s.cap k
    → (s.cap k).window.end ≤ (s.object (s.cap k).object).size
end-size s G k h =
    let m = G.master (s.cap k).object (G.caps.live k h).owned in
    let M = m.1 in
    let e = master-unique s G.caps k m.0 h (λ z. h (sym M.of ∙ z)) M.parent (sym M.of) in
    omega (arith, (master-in s G.caps k h).window.end, ap (λ x. (s.cap x).window.end) e, M.end)

module _ (s : State) (G : Formed s) (c : Call) (me k : ℕ) where
  abbrev o : ℕ
  o = (s.cap k).object

  -- the target of a capability presented, where 8 is not met
  pub aimed : Shown s me c.presented k → not (s.object (s.cap k).object).process ≡ false
      → Process s.object (s.cap k).object
  aimed S e = record { live = (G.caps.live k S.lives).owned; process = not-is-false (s.object o).process e }

  pub write-fits : Ready s c me k write → WriteFits s c k
  unfolding arguments_fit transfer_fits ordered refuses transfer_refuses ◌when◌ lies_in presents
  write-fits r =
      let u : Window = c.range in
      let w : Window = (s.cap k).window in
      let n : ℕ = u.end - u.start in
      let a = all3 (leb u.start u.end) (leb n 256) (eqb (length c.text) n) r.fits in
      let b = all2 (leb w.start u.start) (leb u.end w.end) (not-is-false (lies_in u w) r.none.0) in
      let f : u.start ≤ u.end = leb-true u.start u.end a.0 in
      let g : length c.text ≡ n = eqb-true (length c.text) n a.2 in
      let d : u.end ≤ w.end = leb-true u.end w.end b.1 in
      record {
        end_is = omega (arith, f, g);
        inside = omega (arith, end-size s G k (r.shown refl).lives, f, g, d, G.bytes o);
      }

  pub keep-write : Ready s c me k write → Kept s (write_does s c me k).after
  unfolding write_does done with_bytes money_in all_cash all_masters all_boxes
  keep-write r =
      let f = write-fits r in
      let v : List ℕ = written s c me k (s.bytes o) in
      record {
        formed = formed-of (sound-bytes (sound-of G) (at s.bytes o v)
            (at-by (λ x y. length y ≡ (s.object x).size) s.bytes o v
            (ap length (sym (written_is s c me k f.end_is (s.bytes o)))
            ∙ replaced-length c.range.start c.text (s.bytes o) f.inside ∙ G.bytes o)
            (λ j n. G.bytes j)))
            G.master;
        total = refl;
      }

  pub keep-suspend : Ready s c me k suspend → Kept s (suspend_does s c me k).after
  unfolding suspend_does set_suspended done refuses process_refuses ◌when◌ presents
  keep-suspend r = keep-mark s G o (aimed (r.shown refl) r.none.0) _

  pub keep-resume : Ready s c me k resume → Kept s (resume_does s c me k).after
  unfolding resume_does set_suspended done refuses process_refuses ◌when◌ presents
  keep-resume r = keep-mark s G o (aimed (r.shown refl) r.none.0) _

  pub keep-send : Ready s c me k send → Kept s (send_does s c me k).after
  unfolding send_does done message spend with_cash with_box set_waiting with_marks arguments_fit refuses send_refuses ◌when◌
      presents
  keep-send r =
      let m : Message = record { bytes = c.text; sum = c.sum } in
      let v : List Message = s.box o ++ m ∷ [] in
      let p = aimed (r.shown refl) r.none.0 in
      let S = sound-spend (sound-of G) me r.who c.sum in
      let d : length (s.box o) < 4 = leb-false _ _ r.none.1.1.0 in
      let b : BoxFits v = record {
        room = simp length-append (omega arith);
        short = short-append (s.box o) m (G.box o).short (leb-true _ _ r.fits);
      } in
      record {
        formed = formed-of (sound-mark (sound-messages S o p v b) o p _) G.master;
        total = total-marks (with_box (spend s me c.sum) (at s.box o v)) _ ∙ omega (
          arith,
          total-messages S o p v,
          sums-append (s.box o) m,
          total-spend (sound-of G) me r.who c.sum (ltb-false _ _ r.none.1.0),
        );
      }

  received : (l : List Message) → s.box me ≡ l → Process s.object me → Kept s (receive_does s c me k l).after
  unfolding receive_does hands_over done earn with_cash with_box sums_in
  received [] e p = kept_same G
  received (m ∷ l) e p =
      let w : BoxFits (m ∷ l) = subst BoxFits e (G.box me) in
      let S = sound-messages (sound-of G) me p l (record { room = omega (arith, w.room); short = w.short.1 }) in
      let q : sums_in (s.box me) ≡ m.sum + sums_in l = ap sums_in e in
      record {
        formed = formed-of (sound-earn S me p m.sum) G.master;
        total = total-earn S me p m.sum ∙ omega (arith, total-messages (sound-of G) me p l);
      }

  pub keep-receive : Ready s c me k receive → Kept s (receive_does s c me k (s.box me)).after
  keep-receive r = received (s.box me) refl r.who

  pub keep-wait : Ready s c me k wait → Kept s (wait_does s c me k).after
  unfolding set_waiting done
  keep-wait r = wait_by s c me k (λ x. Kept s x.after) (λ _. keep-mark s G me r.who _) (kept_same G)

  pub keep-revive : Ready s c me k revive → Kept s (revive_does s c me k).after
  unfolding revive_does done spend earn with_cash set_terminated with_marks refuses revive_refuses ◌when◌ presents
  keep-revive r =
      let p = aimed (r.shown refl) r.none.0 in
      let S = sound-spend (sound-of G) me r.who c.sum in
      record {
        formed = formed-of (sound-mark (sound-earn S o p c.sum) o p _) G.master;
        total = total-marks (earn (spend s me c.sum) o c.sum) _
            ∙ total-earn S o p c.sum
            ∙ total-spend (sound-of G) me r.who c.sum (ltb-false _ _ r.none.1.1.0);
      }
