-- derive_cap: the second generic edit, with a child.
use Prim.Native.Nat.{ℕ, ◌≤◌, min}
use mathlib.Core.Path.{◌≡◌, refl, sym, ap, ◌∙◌}
use mathlib.Core.Logic.{◌≢◌}
use mathlib.Core.Bool.{Bool, false, ◌&&◌, true≢false}
use native.Mathlib.Omega.{arith}
use lib.Dec.{eqb, leb}
use lib.Bits.{bit_and, and_self, and_comm, and_le_l}
use borrow.Author.Tests.{leb-true, eq-eqb}
use Rattle.rules.specs.Limit as Limit
use Rattle.rules.specs.Store.{Window, Cap, State}
use Rattle.rules.specs.Valid.{Lives, LiesIn, Caps, Formed}
use Rattle.rules.specs.Rights.{both, derive_cap, presents}
use Rattle.rules.specs.Call.{Call, Choice, hands_back}
use Rattle.rules.specs.Refusals.{◌when◌, ordered, arguments_fit}
use Rattle.rules.specs.Update.{with_cap, with_money}
use Rattle.rules.specs.Changes.{new_cap}
use Rattle.rules.specs.Calls.{nearest, moved, p1_taken, derive_cap_refuses, child, derive_cap_does, refuses}
use Rattle.rules.specs.Ledger.{Ledger, balance, new_line, entry}
use Rattle.rules.specs.Demand.{Words, FreeCap}
use Rattle.rules.proofs.Tests.{both_true, all3, not-lives}
use Rattle.rules.proofs.Bitwise.{and_assoc}
use Rattle.rules.proofs.Slots.{some-none}
use Rattle.rules.proofs.Forest.{not-zero}
use Rattle.rules.proofs.Sound.{sound-of, formed-of, object-some, Kept}
use Rattle.rules.proofs.Link.{Linking, balance-money}
use Rattle.rules.proofs.Adding.{add-master, Joins, sound-add, total-add-child, link-add}
use Rattle.rules.proofs.Ready.{Ready}

-- no capability of the object has the p1 drawn
not_taken : (s : State) (c : Call) (me k : ℕ) → Caps s.object s.cap → p1_taken s c me k ≡ false
    → (j : ℕ) → Lives s.cap j → (s.cap j).object ≡ (s.cap k).object → (s.cap j).password.p1 ≢ c.drawn.p1
unfolding p1_taken
not_taken s c me k C e j h p q =
    let w = C.live j h in
    let a : ℕ → Bool = λ i. eqb (s.cap i).object (s.cap k).object in
    let b : ℕ → Bool = λ i. eqb (s.cap i).password.p1 c.drawn.p1 in
    true≢false
    (sym (both_true (a j) (b j) (eq-eqb _ _ p) (eq-eqb _ _ q)) ∙ some-none 512 (λ i. a i && b i) e j w.some w.low)

-- the rights in both sets lie in the first
pub both-in : (p r : ℕ) → bit_and (both p r) p ≡ both p r
unfolding both
both-in p r = and_comm (bit_and p r) p ∙ sym (and_assoc p p r) ∙ ap (λ z. bit_and z r) (and_self p)

-- a range moved into a window lies in it
pub moved_in : (v w : Window) → w.start ≤ w.end → LiesIn (moved v w) w
unfolding moved nearest
moved_in v w h = record { start = omega arith; end = omega arith }

moved-ordered : (v w : Window) → v.start ≤ v.end → (moved v w).start ≤ (moved v w).end
unfolding moved nearest
moved-ordered v w h = omega arith

module _ (s : State) (G : Formed s) (c : Call) (me k : ℕ) (W : Words c) (r : Ready s c me k derive_cap)
    (h : Choice) (F : FreeCap s h.cap) where
  abbrev i₀ : ℕ
  i₀ = h.cap

  abbrev x : Cap
  x = child s c me k

  giver : Lives s.cap k
  unfolding presents
  giver = (r.shown refl).lives

  free : (s.cap h.cap).object ≡ 0
  unfolding FreeCap
  free = not-lives s i₀ F.2

  alive : (child s c me k).object ≢ 0
  unfolding child
  alive = giver

  up : (child s c me k).parent ≢ 0
  unfolding child
  up = not-zero s G.caps k giver

  -- the child's moneyword
  abbrev m : ℕ
  m = min c.limit (s.money k)

  joins : Joins s.cap h.cap (child s c me k) free alive s.object
  unfolding child FreeCap arguments_fit ordered refuses derive_cap_refuses ◌when◌ both
  joins =
      let w = G.caps.live k giver in
      let a = all3 (leb c.rights Limit.rights) (leb c.range.start c.range.end) (leb c.last_day Limit.day) r.fits in
      record {
        fits = record {
          some = F.0;
          low = F.1;
          p1 = W.drawn1;
          p2 = W.drawn2;
          rights = omega (arith, w.rights, and_le_l (s.cap k).rights c.rights);
          ordered = moved-ordered c.range (s.cap k).window (leb-true _ _ a.1);
          owned = w.owned;
        };
        above = λ n. giver;
        within = λ n. record {
          object = refl;
          rights = both-in (s.cap k).rights c.rights;
          window = moved_in c.range (s.cap k).window w.ordered;
          last_day = omega arith;
        };
        fresh = not_taken s c me k G.caps r.none.0;
        only = λ z. absurd (up z);
      }

  pub keep-derive : Kept s (derive_cap_does s c me k h).after
  unfolding derive_cap_does hands_back new_cap with_money with_cap
  keep-derive = record {
    formed = formed-of (sound-add s (sound-of G) i₀ x m free alive joins (omega (arith, G.money k)))
        (λ j e. add-master s.cap i₀ x free alive (object-some G.objects j e) (G.master j e));
    total = total-add-child s (sound-of G) i₀ x m free alive joins up;
  }

  pub link-derive : (l : Ledger) (K : Linking s l)
      → Linking (derive_cap_does s c me k h).after (entry l c (K.num k) derive_cap)
  unfolding derive_cap_does hands_back entry new_line child
  link-derive l K =
      let f = K.linked.fits k giver in
      link-add s (sound-of G) i₀ x m free alive joins l K
      (new_line l c (K.num k) (l.line (K.num k)).name (K.num k) (min c.limit (balance l (K.num k))))
      f.name refl refl f.low (ap (min c.limit) (balance-money s l G K k giver))
