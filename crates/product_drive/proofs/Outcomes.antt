-- A pick is done, or is refused and hands back what it was given.
use Prim.Native.Nat.{ℕ, ◌+◌}
use mathlib.Core.Path.{◌≡◌, sym, ap, ◌∙◌}
use mathlib.Core.Logic.{◌≢◌}
use mathlib.Core.Bool.{true, false}
use native.Mathlib.Omega.{arith}
use lib.Dec.{eqb}
use borrow.Author.Tests.{eq-eqb, ne_eqb}
use Rattle.rules.specs.Code as Code
use Rattle.rules.proofs.Tests.{by_bool, by-eq}
use Rattle.call_steps.specs.declared.request.Name.{Name}
use Rattle.call_steps.specs.declared.request.Capability.{Capability}
use Rattle.call_steps.specs.Request.{Reply}
use Rattle.kernel_step.specs.Slices.{Slices}
use Rattle.product_drive.specs.declared.repeat.Repeat.{Repeat}
use Rattle.product_drive.specs.declared.repeat.Place.{Place}
use Rattle.product_drive.specs.declared.picked.Picked.{Picked}
use Rattle.product_drive.specs.Drive.{up_to, step_at, fits, start, place_after}
use Rattle.product_drive.specs.Picks.{refused_pick, picked_by, unread, Picks}
use Rattle.values.specs.Refusals.{code_of}
use Rattle.call_steps.specs.Request.{count_of}

-- ---- the place after a done pick

pub after_last : (p : Repeat) (d : Place) → d.next ≡ p.picks → place_after p d ≡ start
unfolding place_after
after_last p d h = rw (eq-eqb d.next p.picks h, place_after)

pub after-other : (p : Repeat) (d : Place) → d.next ≢ p.picks
    → place_after p d ≡ record { next = d.next + 1; steps = up_to p d.next }
unfolding place_after
after-other p d h = rw (ne_eqb d.next p.picks h, place_after)

-- ---- what is handed back

-- a done pick
pub record Done (p : Repeat) (d : Place) (r : Picked) : Type 0 where
  pub range : fits p d ≡ true
  pub step : r.step ≡ step_at p d.next
  pub place : r.place ≡ place_after p d

pub picked-done : (p : Repeat) (d : Place) (r : Reply) → code_of r ≡ Code.done
    → picked_by p d r ≡ record { code = Code.done; step = step_at p d.next; place = place_after p d; count = count_of r }
unfolding picked_by
picked-done p d r z = rw (eq-eqb (code_of r) Code.done z, picked_by)

pub picked-refused : (p : Repeat) (d : Place) (r : Reply) → code_of r ≢ Code.done → picked_by p d r ≡ refused_pick (code_of r) d
unfolding picked_by
picked-refused p d r nz = rw (ne_eqb (code_of r) Code.done nz, picked_by)

module _ {A : Type 0} {p : Repeat} {d : Place} {r : Picked}
    (refused : eqb r.code Code.done ≡ false → r ≡ refused_pick r.code d → A)
    (done : eqb r.code Code.done ≡ true → Done p d r → A) where
  by-refusal : (n : ℕ) → n ≢ Code.done → r ≡ refused_pick n d → A
  unfolding refused_pick
  by-refusal n nz e =
      let code : r.code ≡ n = ap (λ (x : Picked). x.code) e in
      refused (ne_eqb r.code Code.done (λ z. nz (sym code ∙ z))) (e ∙ ap (λ m. refused_pick m d) (sym code))

  by-reply : fits p d ≡ true → (y : Reply) → r ≡ picked_by p d y → A
  by-reply f y e = by-eq (code_of y) Code.done
      (λ z.
      let q = e ∙ picked-done p d y z in
      done (eq-eqb r.code Code.done (ap (λ (x : Picked). x.code) q)) (record {
        range = f;
        step = ap (λ (x : Picked). x.step) q;
        place = ap (λ (x : Picked). x.place) q;
      }))
      (λ nz. by-refusal (code_of y) nz (e ∙ picked-refused p d y nz))

  pub picks_by : {caller : Name} {x : Capability} {was is : Slices} → Picks caller x p d r was is → A
  picks_by h = by_bool (fits p d)
      (λ f. let a = h.asked f in by-eq (unread p a.question) Code.done
      (λ z. let y = a.reads z in by-reply f y.reply y.picked)
      (λ nz. by-refusal (unread p a.question) nz (a.refused nz).picked))
      (λ f. by-refusal Code.out_of_range (λ z. omega arith) (h.bad f).picked)
