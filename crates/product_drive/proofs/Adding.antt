-- Through a list of picks: the steps so far are the steps of the done picks, and the whole part.
use Prim.Native.Nat.{ℕ, ◌+◌, ◌-◌}
use mathlib.Core.Path.{◌≡◌, refl, sym, ap, ◌∙◌, subst}
use mathlib.Core.Bool.{true, false, false≢true}
use mathlib.Core.List.{List, [], ◌∷◌, ◌++◌}
use native.Mathlib.Omega.{arith}
use borrow.Author.Tests.{eq-eqb, ne_eqb}
use Rattle.rules.proofs.Tests.{by-eq}
use Rattle.product_drive.specs.declared.repeat.Repeat.{Repeat}
use Rattle.product_drive.specs.declared.repeat.Place.{Place}
use Rattle.product_drive.specs.Drive.{up_to, start}
use Rattle.product_drive.specs.Picks.{refused_pick}
use Rattle.product_drive.specs.Theorems.{Event, Happens, Follow, last_place, is_done, steps_with, steps_since, TakesUp}
use Rattle.product_drive.proofs.TakeUp.{up-zero, up-below, up_above, up-all, up-with-step}
use Rattle.product_drive.proofs.Ranges.{ranges, placed}
use Rattle.product_drive.proofs.Outcomes.{Done, after_last, after-other, picks_by}

-- at place d, with n steps since next pick 1 was last handed back
pub record Stands (p : Repeat) (d : Place) (n : ℕ) : Type 0 where
  pub steps : d.steps ≡ n
  pub whole : n ≡ up_to p (d.next - 1)

pub stands-start : (p : Repeat) → Stands p start 0
unfolding start
stands-start p = record { steps = refl; whole = sym (up-zero p) }

-- ---- one pick

module _ (p : Repeat) (d : Place) (n : ℕ) (e : Event) where
  with-refused : is_done e ≡ false → steps_with n e ≡ n
  unfolding steps_with
  with-refused h = rw (h, steps_with)

  with-last : is_done e ≡ true → e.picked.place.next ≡ 1 → steps_with n e ≡ 0
  unfolding steps_with start
  with-last h z = rw (h, eq-eqb e.picked.place.next 1 z, steps_with)

  with-other : is_done e ≡ true → (e.picked.place.next ≡ 1 → ⊥) → steps_with n e ≡ n + e.picked.step
  unfolding steps_with start
  with-other h nz = rw (h, ne_eqb e.picked.place.next 1 nz, steps_with)

  module _ (s : Stands p d n) where
    -- the steps up to pick i
    up-to-it : Done p d e.picked → n + e.picked.step ≡ up_to p d.next
    up-to-it D = rw (s.whole, D.step) (up-with-step p (ranges p d D.range).some d.next)

    stands-done : is_done e ≡ true → Done p d e.picked → Stands p e.picked.place (steps_with n e)
    unfolding start
    stands-done h D = by-eq d.next p.picks
        (λ last.
        let q = D.place ∙ after_last p d last in
        subst (λ x. Stands p x (steps_with n e)) (sym q) (subst (Stands p start)
        (sym (with-last h (ap (λ (x : Place). x.next) q))) (stands-start p)))
        (λ other.
        let q = D.place ∙ after-other p d other in
        let next : e.picked.place.next ≡ d.next + 1 = ap (λ (x : Place). x.next) q in
        let sum : steps_with n e ≡ up_to p d.next =
        with-other h (λ z. omega (arith, z, next, (placed p d D.range).low)) ∙ up-to-it D in
        record {
          steps = ap (λ (x : Place). x.steps) q ∙ sym sum;
          whole = sum ∙ ap (up_to p) (omega (arith, next));
        })

    pub stands_after : Happens p d e → Stands p e.picked.place (steps_with n e)
    unfolding refused_pick
    stands_after = picks_by
        (λ h r. rw (with-refused h) (subst (λ x. Stands p x n) (sym (ap (λ x. x.place) r)) s))
        stands-done

    pub takes-up : is_done e ≡ true → Happens p d e → TakesUp p d.next (n + e.picked.step) e.picked.place
    takes-up h = picks_by (λ no r. absurd (false≢true (sym no ∙ h))) (λ yes D.
        let some = (ranges p d D.range).some in
        let sum = up-to-it D in
        record {
          low = (placed p d D.range).low;
          high = (placed p d D.range).high;
          at_most = rw sum (up-below p some d.next);
          less-than-one = rw sum (up_above p some d.next);
          total = λ last. sum ∙ ap (up_to p) last ∙ up-all p some;
          anew = λ last. D.place ∙ after_last p d last;
          onward = λ other. D.place ∙ after-other p d (λ z. omega arith) ∙ ap (λ k. record { next = d.next + 1; steps = k }) (sym sum);
        })

  pub handed-back : is_done e ≡ false → Happens p d e → e.picked ≡ refused_pick e.picked.code d
  handed-back h = picks_by (λ no r. r) (λ yes D. absurd (false≢true (sym h ∙ yes)))

-- ---- a list

pub stands-last : (p : Repeat) (d : Place) (n : ℕ) (es : List Event) → Stands p d n → Follow p d es
    → Stands p (last_place d es) (steps_since n es)
unfolding Follow last_place steps_since
stands-last p d n [] s f = s
stands-last p d n (e ∷ es) s f =
    stands-last p e.picked.place (steps_with n e) es (stands_after p d n e s f.0) f.1

-- the picks before one of them, and that one
pub split : (p : Repeat) (d : Place) (front back : List Event) (e : Event) → Follow p d (front ++ e ∷ back)
    → Follow p d front × Happens p (last_place d front) e
unfolding Follow last_place
split p d [] back e f = (tt, f.0)
split p d (x ∷ front) back e f =
    let r = split p x.picked.place front back e f.1 in
    ((f.0, r.0), r.1)
