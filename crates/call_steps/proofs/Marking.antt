-- The mark of refusal 4, from the slices to the rules: what it leaves is the rules' state, as sound as before.
use Prim.Native.Nat.{ℕ, suc, ◌≤◌}
use mathlib.Core.Path.{◌≡◌, refl, sym, ap, ◌∙◌, subst}
use mathlib.Core.Bool.{true}
use mathlib.Core.List.{List, [], ◌∷◌}
use native.Mathlib.Omega.{arith}
use Rattle.rules.specs.Slots.{at}
use Rattle.rules.specs.Store.{Marks}
use Rattle.rules.specs.Valid.{Valid}
use Rattle.rules.specs.Call.{Call}
use Rattle.rules.specs.Code as Code
use Rattle.rules.specs.Refusals.{caller, early}
use Rattle.rules.specs.Update.{with_marks}
use Rattle.rules.specs.Changes.{set_terminated}
use Rattle.rules.specs.Rule.{stopped}
use Rattle.rules.proofs.Slots.{at-by}
use Rattle.rules.proofs.Keeping.{keep-mark}
use Rattle.layout.specs.Layout as Layout
use Rattle.layout.specs.Rows.{field, region, master_of, flag_of, suspended_of, waiting_of, terminated_of, count_of}
use Rattle.layout.specs.View.{is_set, is_process, view}
use Rattle.layout.specs.WellFormed.{Sized, Cells, Plain}
use Rattle.rules.proofs.Slots.{at_here, at-else}
use Rattle.layout.proofs.Field.{at-is}
use Rattle.layout.proofs.Puts.{Put, put, puts, Within, beside, length-puts, field_puts, field-kept, region-kept}
use Rattle.layout.proofs.Shown.{marks-here}
use Rattle.layout.proofs.Frame.{state-is, object-same, bytes_same, lock-same, cash-same, box-same, marks-same-at}
use Rattle.call_steps.specs.Run.{Process}
use Rattle.call_steps.specs.Paying.{terminated_bytes}
use Rattle.call_steps.proofs.Process.{is-process}
use Rattle.call_steps.proofs.Entering.{process-shown, stopper-process}

-- terminated, and its other marks as they are
abbrev ended : Marks → Marks
ended m = record { suspended = m.suspended; waiting = m.waiting; terminated = true }

module _ (b l w : List ℕ) (me : ℕ) (P : Process b l me) (Z : Sized b l w) where
  abbrev stores : List Put
  stores = put 64 Layout.TERMINATED me 1 ∷ []

  abbrev after : List ℕ
  after = puts stores b

  within : Within stores
  within = (P.high, tt)

  kept : (n off : ℕ) → beside (suc n) off stores ≡ true → field n off after ≡ field n off b
  kept n off t = field-kept n off b stores t within

  region-same : (n off : ℕ) → beside n off stores ≡ true → region n off after ≡ region n off b
  region-same n off t = region-kept n off b stores t within

  flags : flag_of after ≡ flag_of b
  flags = kept 64 Layout.FLAG refl

  suspends : suspended_of after ≡ suspended_of b
  suspends = kept 64 Layout.SUSPENDED refl

  waits : waiting_of after ≡ waiting_of b
  waits = kept 64 Layout.WAITING refl

  counts : count_of after ≡ count_of b
  counts = kept 64 Layout.COUNT refl

  ends : terminated_of after ≡ at (terminated_of b) me 1
  ends = field_puts 64 Layout.TERMINATED b (omega (arith, Z.bytes)) stores refl within (P.low, tt)

  process : is_process (master_of l) (flag_of b) me ≡ true
  process = is-process P

  marks-me : (view after l w).marks me ≡ ended ((view b l w).marks me)
  unfolding is_set
  marks-me = marks-here after l w me (rw flags process)
      ∙ (λ k. record {
        suspended = is_set (suspends k me);
        waiting = is_set (waits k me);
        terminated = is_set (((λ i. ends i me) ∙ at_here (terminated_of b) me 1) k);
      })
      ∙ ap ended (sym (marks-here b l w me process))

  marks-ended : (view after l w).marks ≡ at (view b l w).marks me (ended ((view b l w).marks me))
  marks-ended = at-is (view b l w).marks (view after l w).marks me (ended ((view b l w).marks me)) marks-me
      (λ j ne. marks-same-at b l w after l w j refl (λ k. flags k j) (λ k. suspends k j) (λ k. waits k j)
      ((λ k. ends k j) ∙ at-else (terminated_of b) me 1 j ne))

  pub mark-view : view (terminated_bytes b me) l w ≡ set_terminated (view b l w) me true
  unfolding terminated_bytes set_terminated with_marks view
  mark-view = state-is (view after l w) (set_terminated (view b l w) me true)
      refl
      refl
      (object-same b l w after l w refl (kept 64 Layout.VOLUME refl) refl refl flags)
      (bytes_same b l w after l w refl refl refl refl (region-same 32832 Layout.DATA refl))
      (lock-same b l w after l w refl flags refl refl)
      (cash-same b l w after l w refl flags refl)
      marks-ended
      (box-same b l w after l w refl flags counts (kept 259 Layout.LENGTH refl) refl
      (region-same 4160 Layout.TEXT refl))
      refl
      refl

  mark-cells : Cells b l → Cells (terminated_bytes b me) l
  unfolding terminated_bytes
  mark-cells c = record {
    flag = λ o h. rw flags (c.flag o h);
    suspended = λ o h. rw suspends (c.suspended o (rw flags at h));
    waiting = λ o h. rw waits (c.waiting o (rw flags at h));
    terminated = λ o h. rw ends (at-by (λ i x. is_process (master_of l) (flag_of b) i ≡ true → x ≤ 1) (terminated_of b) me 1
        (λ _. omega arith) (λ i _. c.terminated i) o (rw flags at h));
    count = λ o h. rw counts (c.count o (rw flags at h));
    length = λ o i h p. rw (kept 259 Layout.LENGTH refl) (c.length o i (rw flags at h) (rw counts at p));
  }

  mark-sized : Sized (terminated_bytes b me) l w
  unfolding terminated_bytes
  mark-sized = record { bytes = length-puts stores b ∙ Z.bytes; links = Z.links; words = Z.words }

pub mark-plain : (b l w : List ℕ) → Plain b l w → (me : ℕ) → Process b l me → Plain (terminated_bytes b me) l w
unfolding set_terminated with_marks
mark-plain b l w W me P =
    let K = keep-mark (view b l w) W.valid.formed me (process-shown b l w me P) (ended ((view b l w).marks me)) in
    record {
      sized = mark-sized b l w me P W.sized;
      cells = mark-cells b l w me P W.sized W.cells;
      blocks = W.blocks;
      valid = subst Valid (sym (mark-view b l w me P W.sized))
          (record { formed = K.formed; total = omega (arith, K.total, W.valid.total); day = W.valid.day });
    }

-- ---- of a call that 4 refuses

module _ (b l w : List ℕ) (W : Plain b l w) (c : Call) (e : early (view b l w) c ≡ Code.cannot_pay) where
  abbrev who : ℕ
  who = caller (view b l w) c

  pub stopped-view : view (terminated_bytes b who) l w ≡ stopped (view b l w) c (early (view b l w) c)
  unfolding stopped
  stopped-view = rw (e, stopped) (mark-view b l w who (stopper-process b l w W c e) W.sized)

  pub stopped-plain : Plain (terminated_bytes b who) l w
  stopped-plain = mark-plain b l w W who (stopper-process b l w W c e)
