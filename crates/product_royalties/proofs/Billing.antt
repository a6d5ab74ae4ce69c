-- A bill is refused by 18, or is what its withdraw comes to: done, or refused with the count that it was passed.
use Prim.Native.Nat.{ℕ, ◌+◌, ◌≤◌, ◌<◌}
use mathlib.Core.Path.{◌≡◌, refl, sym, ap, ◌∙◌}
use mathlib.Core.Logic.{◌≢◌}
use mathlib.Core.List.{List, []}
use native.Mathlib.Omega.{arith}
use lib.Dec.{leb}
use lib.ListN.{length}
use borrow.Author.Tests.{eq-eqb, ne_eqb, leb-true, leb-false}
use Rattle.rules.proofs.Tests.{by_bool, by-eq}
use Rattle.rules.specs.Code as Code
use Rattle.call_steps.specs.declared.request.Name.{Name}
use Rattle.call_steps.specs.declared.request.Capability.{Capability}
use Rattle.call_steps.specs.declared.request.Request.{Request}
use Rattle.values.specs.Refusals.{code_of}
use Rattle.call_steps.specs.Request.{Reply, withdraw_request}
use Rattle.kernel_step.specs.Slices.{Slices, slices}
use Rattle.kernel_call.specs.Calls.{Calls}
use Rattle.kernel_call.proofs.Calling.{no_cells}
use Rattle.product_royalties.specs.declared.billed.Billed.{Billed}
use Rattle.product_royalties.specs.Charge.{max_count, bill_for}
use Rattle.product_royalties.specs.Bills.{done_bill, refused_bill, billed_by, Bills}

-- ---- what is handed back

module _ (p total sum : ℕ) (y : Reply) where
  pub billed-done : code_of y ≡ Code.done → billed_by p total sum y ≡ done_bill total sum
  unfolding billed_by
  billed-done z = rw (eq-eqb (code_of y) Code.done z, billed_by)

  pub billed-refused : code_of y ≢ Code.done → billed_by p total sum y ≡ refused_bill (code_of y) p
  unfolding billed_by
  billed-refused nz = rw (ne_eqb (code_of y) Code.done nz, billed_by)

-- ---- the two ways that it goes

module _ (caller : Name) (x : Capability) {p n : ℕ} {r : Billed} where
  pub bill-passes : (s : Slices) → max_count < p + n → r ≡ refused_bill Code.count_passes p → Bills caller x p n r s s
  bill-passes s over e = record {
    passes = λ _. record { billed = e; slices-are = refl };
    withdraws = λ h. absurd (omega (arith, over, h));
  }

  -- the withdraw is tried, with no buffer and no scratch lent
  pub bill-withdraws : {sum : ℕ} {q : Request} {y : Reply} {b l w b' l' w' buffer scratch : List ℕ} → p + n ≤ max_count
      → sum ≡ bill_for p n → q ≡ withdraw_request caller x sum
      → Calls q [] y (slices b l w [] []) (slices b' l' w' buffer scratch) → length buffer ≡ 0 → length scratch ≡ 0
      → r ≡ billed_by p (p + n) sum y
      → Bills caller x p n r (slices b l w [] []) (slices b' l' w' [] [])
  bill-withdraws {y = y} {buffer = buffer} {scratch = scratch} within s e call nb ns billed = record {
    passes = λ over. absurd (omega (arith, over, within));
    withdraws = λ _. record {
      reply = y;
      call = rw s at (rw e at (rw (no_cells buffer nb) at (rw (no_cells scratch ns) at call)));
      billed = rw s at billed;
    };
  }

-- ---- read off the promise

module _ {A : Type 0} (p n : ℕ) (r : Billed) (done : r ≡ done_bill (p + n) (bill_for p n) → A) (refused : r.code ≢ Code.done → r.count ≡ p → A) where
  by-refusal : (code : ℕ) → code ≢ Code.done → r ≡ refused_bill code p → A
  unfolding refused_bill
  by-refusal code nz e = refused (λ z. nz (sym (ap (λ (b : Billed). b.code) e) ∙ z)) (ap (λ (b : Billed). b.count) e)

  pub bills-by : {caller : Name} {x : Capability} {was is : Slices} → Bills caller x p n r was is → A
  bills-by h = by_bool (leb (p + n) max_count)
      (λ t. let w = h.withdraws (leb-true (p + n) max_count t) in by-eq (code_of w.reply) Code.done
      (λ z. done (w.billed ∙ billed-done p (p + n) (bill_for p n) w.reply z))
      (λ nz. by-refusal (code_of w.reply) nz (w.billed ∙ billed-refused p (p + n) (bill_for p n) w.reply nz)))
      (λ t. by-refusal Code.count_passes (λ z. omega arith) (h.passes (leb-false (p + n) max_count t)).billed)
