-- The three ways that a pick goes: refused by the drive's own 2, by the question or 17, or by what its read comes to.
use Prim.Native.Nat.{ℕ}
use mathlib.Core.Path.{◌≡◌, refl, sym, ap, ◌∙◌, subst}
use mathlib.Core.Logic.{◌≢◌}
use mathlib.Core.Bool.{true, false, true≢false}
use mathlib.Core.List.{List, []}
use lib.ListN.{length}
use Rattle.rules.specs.Code as Code
use Rattle.call_steps.specs.declared.request.Name.{Name}
use Rattle.call_steps.specs.declared.request.Capability.{Capability}
use Rattle.call_steps.specs.declared.request.Request.{Request}
use Rattle.call_steps.specs.Request.{Reply}
use Rattle.call_steps.specs.Request.{read_request}
use Rattle.kernel_step.specs.Slices.{Slices, slices}
use Rattle.kernel_call.specs.Calls.{Calls}
use Rattle.kernel_call.proofs.Calling.{no_cells}
use Rattle.values.specs.declared.refusal.Refusal.{Refusal}
use Rattle.std.specs.Prelude.{Result}
use Rattle.question_window.specs.Asks.{Asks}
use Rattle.product_drive.specs.declared.repeat.Repeat.{Repeat}
use Rattle.product_drive.specs.declared.repeat.Place.{Place}
use Rattle.product_drive.specs.declared.picked.Picked.{Picked}
use Rattle.product_drive.specs.Drive.{fits, row_of}
use Rattle.product_drive.specs.Picks.{refused_pick, picked_by, unread, Picks}
use Rattle.product_drive.specs.Picks.{told}
use Rattle.values.specs.declared.window.Window.{Window}

module _ (caller : Name) (x : Capability) (p : Repeat) (d : Place) (r : Picked) where
  pub pick-bad : (s : Slices) → fits p d ≡ false → r ≡ refused_pick Code.out_of_range d → Picks caller x p d r s s
  pick-bad s f e = record {
    bad = λ _. record { picked = e; slices-are = refl };
    asked = λ t. absurd (true≢false (sym t ∙ f));
  }

  -- a is the question's answer, and n says why no read is tried
  module _ (f : fits p d ≡ true) (a : Result Window Refusal) (n : ℕ) (why : n ≡ unread p a) where
    pub pick-unread : (s : Slices) → Asks s.bytes s.links s.words caller x a → n ≢ Code.done
        → r ≡ refused_pick n d → Picks caller x p d r s s
    pick-unread s asks nz e = record {
      bad = λ t. absurd (true≢false (sym f ∙ t));
      asked = λ _. record {
        question = a;
        asks = asks;
        refused = λ _. record { picked = e ∙ ap (λ m. refused_pick m d) why; slices-are = refl };
        reads = λ z. absurd (nz (why ∙ z));
      };
    }

    -- the read is tried, with no scratch lent
    pub pick-read : (b l w buffer b' l' w' buffer' scratch' : List ℕ) → Asks b l w caller x a → n ≡ Code.done
        → (q : Request) → q ≡ read_request caller x (row_of (told a) p d.next)
        → (y : Reply) → Calls q [] y (slices b l w buffer []) (slices b' l' w' buffer' scratch') → length scratch' ≡ 0
        → r ≡ picked_by p d y
        → Picks caller x p d r (slices b l w buffer []) (slices b' l' w' buffer' [])
    pick-read b l w buffer b' l' w' buffer' scratch' asks z q e y call none picked = record {
      bad = λ t. absurd (true≢false (sym f ∙ t));
      asked = λ _. record {
        question = a;
        asks = asks;
        refused = λ nz. absurd (nz (sym why ∙ z));
        reads = λ _. record {
          reply = y;
          call = subst (λ k. Calls k [] y (slices b l w buffer []) (slices b' l' w' buffer' [])) e
              (subst (λ t. Calls q [] y (slices b l w buffer []) (slices b' l' w' buffer' t)) (no_cells scratch' none) call);
          picked = picked;
        };
      };
    }
