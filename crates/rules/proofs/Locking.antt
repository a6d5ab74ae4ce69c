-- Lockwords: apply_lock in the store and in the ledger, and the ledger's lockword of a name that make_obj takes.
use Prim.Native.Nat.{ℕ, ◌≤◌, ◌<◌}
use mathlib.Core.Path.{◌≡◌, refl, sym, ap, ◌∙◌}
use mathlib.Core.Logic.{◌≢◌}
use mathlib.Core.Bool.{true}
use native.Mathlib.Omega.{arith}
use lib.Bits.{bit_xor, xor_lt}
use borrow.Author.Tests.{ltb-true}
use Rattle.rules.specs.Slots.{at}
use Rattle.rules.specs.Store.{Name, same_name, Lockword, State, no_lockword, all_cash, all_masters, all_boxes}
use Rattle.rules.specs.Store.{money_in}
use Rattle.rules.specs.Valid.{LockwordFits, Formed}
use Rattle.rules.specs.Rights.{apply_lock, presents}
use Rattle.rules.specs.Call.{Call, done}
use Rattle.rules.specs.Refusals.{◌when◌, arguments_fit}
use Rattle.rules.specs.Update.{with_lock}
use Rattle.rules.specs.Calls.{process_refuses, apply_lock_does, refuses}
use Rattle.rules.specs.Ledger.{Ledger, leads_back, summed, set_lock, entry}
use Rattle.rules.proofs.Tests.{refuted, pick_yes, pick-not, same-name, name-same}
use Rattle.rules.proofs.Slots.{at-by, at_all}
use Rattle.rules.proofs.Sound.{sound-of, formed-of, sound-lock, Kept}
use Rattle.rules.proofs.Link.{Locked, Linking}
use Rattle.rules.proofs.Ready.{Ready}
use Rattle.rules.proofs.Keeping.{only_at, aimed}

-- ---- the ledger's lockwords

module _ (l : Ledger) (n : Name) (w : Lockword) where
  pub lock-here : (set_lock l n w).lock n ≡ w
  unfolding set_lock
  lock-here = pick_yes (same_name n n) w (l.lock n) (name-same n n refl)

  lock-else : (m : Name) → m ≢ n → (set_lock l n w).lock m ≡ l.lock m
  unfolding set_lock
  lock-else m d = pick-not (same_name m n) w (l.lock m) (refuted (same_name m n) (λ e. d (same-name m n e)))

-- lockwords changed on both sides
link-locks : (s : State) (l : Ledger) (n : Name) (w : Lockword) (f : ℕ → Lockword) → Linking s l
    → Locked s.object f (set_lock l n w).lock → Linking (with_lock s f) (set_lock l n w)
unfolding with_lock set_lock summed leads_back
link-locks s l n w f K h = record {
  num = K.num;
  slot = K.slot;
  linked = K.linked;
  purse = K.purse;
  locked = h;
}

-- a name that no living object has
pub link-relock : (s : State) (l : Ledger) (n : Name) (w : Lockword) → Linking s l
    → ((o : ℕ) → (s.object o).live ≡ true → (s.object o).name ≢ n) → Linking s (set_lock l n w)
unfolding with_lock
link-relock s l n w K h =
    link-locks s l n w s.lock K (λ o e. lock-else l n w (s.object o).name (h o e) ∙ K.locked o e)

-- ---- apply_lock

-- a lockword XORed with another
abbrev xored : Lockword → Lockword → Lockword
xored w v = record { first = bit_xor w.first v.first; second = bit_xor w.second v.second }

xored-fits : (w v : Lockword) → LockwordFits w → v.first < 2147483648 → v.second ≤ 4294967295
    → LockwordFits (xored w v)
xored-fits w v f a b =
    let x = xor_lt 31 w.first v.first f.first a in
    let y : bit_xor w.second v.second < 4294967296 =
    xor_lt 32 w.second v.second (omega (arith, f.second)) (omega arith) in
    record { first = x; second = omega arith }

module _ (s : State) (G : Formed s) (c : Call) (me k : ℕ) (r : Ready s c me k apply_lock) where
  abbrev o : ℕ
  o = (s.cap k).object

  -- the target's lockword is XORed in the store
  abbrev v : Lockword
  v = xored (s.lock o) c.lock

  pub keep-apply-lock : c.lock.second ≤ 4294967295 → Kept s (apply_lock_does s c me k).after
  unfolding apply_lock_does done with_lock arguments_fit refuses process_refuses ◌when◌ presents
      money_in all_cash all_masters all_boxes
  keep-apply-lock b =
      let p = aimed s G c me k (r.shown refl) r.none.0 in
      record {
        formed = formed-of (sound-lock (sound-of G) (at s.lock o v) (record {
          fits = at_all LockwordFits s.lock o v G.lock
              (xored-fits (s.lock o) c.lock (G.lock o) (ltb-true _ _ r.fits) b);
          only = only_at s.object s.lock no_lockword o v G.no-lock p.process;
        })) G.master;
        total = refl;
      }

  -- and the lockword of the found line's name in the ledger
  pub link-apply-lock : (l : Ledger) (K : Linking s l)
      → Linking (apply_lock_does s c me k).after (entry l c (K.num k) apply_lock)
  unfolding apply_lock_does done entry presents
  link-apply-lock l K =
      let n : Name = (l.line (K.num k)).name in
      let u : Lockword = xored (l.lock n) c.lock in
      let h = (r.shown refl).lives in
      let e : (s.object o).name ≡ n = (K.linked.fits k h).name in
      let live = (G.caps.live k h).owned in
      link-locks s l n u (at s.lock o v) K
      (at-by (λ j w. (s.object j).live ≡ true → (set_lock l n u).lock (s.object j).name ≡ w) s.lock o v
      (λ a.
      ap (set_lock l n u).lock e
      ∙ lock-here l n u
      ∙ ap (λ w. xored w c.lock) (ap l.lock (sym e) ∙ K.locked o live))
      (λ j d a.
      lock-else l n u (s.object j).name (λ q. d (G.objects.names j o a live (q ∙ sym e))) ∙ K.locked j a))
