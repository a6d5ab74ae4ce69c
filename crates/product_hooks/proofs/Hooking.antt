-- The promise of a call by hook from the call that it makes. Of a text longer than any write's the bytes make no difference.
use Prim.Native.Nat.{ℕ, zero, suc, ◌-◌, ◌<◌}
use mathlib.Core.Path.{◌≡◌, refl, sym, ap, ◌∙◌, subst}
use mathlib.Core.Bool.{false}
use mathlib.Core.List.{List, [], ◌++◌}
use native.Mathlib.Omega.{arith}
use lib.Dec.{eqb}
use lib.ListN.{length, take, drop}
use lib.Seq.{take_at}
use borrow.Author.Tests.{eqb-true}
use Rattle.rules.specs.Code as Code
use Rattle.rules.specs.Limit as Limit
use Rattle.rules.specs.Rights.{op, write}
use Rattle.rules.specs.Refusals.{transfer_fits, arguments_fit, in_range}
use Rattle.rules.proofs.Tests.{by_bool, all2}
use Rattle.rules.proofs.Outcomes.{host-not}
use Rattle.call_steps.specs.declared.request.Request.{Request}
use Rattle.call_steps.specs.Request.{Reply, call_of, count_of}
use Rattle.call_steps.specs.Run.{over}
use Rattle.call_enter.proofs.Stepping.{two_run}
use Rattle.kernel_step.specs.Slices.{Slices, slices, call_on}
use Rattle.kernel_step.specs.Own.{own_run}
use Rattle.kernel_step.specs.Run.{step_run}
use Rattle.kernel_step.specs.Ends.{Ends, StepEnds}
use Rattle.kernel_step.proofs.Asked.{fits, short}
use Rattle.kernel_step.proofs.Choosing.{step-process}
use Rattle.kernel_step.proofs.Promising.{stepped}
use Rattle.kernel_call.specs.Calls.{Calls}
use Rattle.kernel_call.proofs.Calling.{no_cells}
use Rattle.product_hooks.specs.Turned.{turned, turned_tiles, turned_front}
use Rattle.product_hooks.specs.Hooked.{handed_over, Hooked}
use Rattle.product_hooks.proofs.Turning.{size-stays}

-- ---- a text that is too long

module _ (q : Request) (is-write : op q.number ≡ write) (was : Slices) where
  out : (text : List ℕ) → Limit.transfer < length text → in_range (call_on q text was) ≡ false
  unfolding arguments_fit call_of
  out text long = by_bool (in_range (call_on q text was))
      (λ e. let c = call_on q text was in
      let f = all2 (transfer_fits c.range) (eqb (length text) (c.range.end - c.range.start)) (fits c write is-write e) in
      absurd (omega (arith, short c.range f.0, eqb-true (length text) (c.range.end - c.range.start) f.1)))
      (λ e. e)

  refused-run : (text : List ℕ) → in_range (call_on q text was) ≡ false → over Code.out_of_range was.bytes was.links was.words
      ≡ step_run was.bytes was.links was.words (call_on q text was)
  unfolding call_of
  refused-run text h =
      two_run own_run was.links (call_on q text was) was.bytes was.words h
      ∙ sym (step-process was.bytes was.links was.words (call_on q text was) (λ e. host-not q.number e is-write refl))

  module _ (text other : List ℕ) (long : Limit.transfer < length text) (size : length other ≡ length text) where
    run-same : step_run was.bytes was.links was.words (call_on q text was)
        ≡ step_run was.bytes was.links was.words (call_on q other was)
    run-same = sym (refused-run text (out text long)) ∙ refused-run other (out other (omega (arith, size, long)))

    ends_same : {r : Reply} {is : Slices} → StepEnds q text r was is → StepEnds q other r was is
    unfolding call_of
    ends_same {r} {is} E = subst (λ x. Ends (call_on q other was) x r was is) run-same
        (record { replies = E.replies; store = E.store; scratch = E.scratch })

    -- what is said of the one text holds of the other
    too_long : {r : Reply} {is : Slices} → Calls q text r was is → Calls q other r was is
    unfolding call_of
    too_long C = record {
      unsound = C.unsound;
      steps = λ W.
          let S = C.steps W in
          let w = S.rules.allowed.words in
          stepped W (record {
            presented1 = w.presented1;
            presented2 = w.presented2;
            drawn1 = w.drawn1;
            drawn2 = w.drawn2;
            start = w.start;
            end = w.end;
            sum = w.sum;
            lock1 = w.lock1;
            lock2 = w.lock2;
          }) (ends_same S.exact);
    }

-- ---- what the functions leave

-- no bytes, turned
front-none : (n : ℕ) → turned_front n [] ≡ []
unfolding turned_front turned turned_tiles
front-none zero = refl
front-none (suc n) = refl

-- of a refusal no byte is turned
pub front-unread : (l : List ℕ) → l ≡ turned_front 0 l
unfolding turned_front turned turned_tiles
front-unread l = refl

-- n bytes of text copied to the front of an array, and turned there
front-copied : (n : ℕ) (text front rest now : List ℕ) → n ≡ length text
    → front ≡ text → now ≡ turned_front n (front ++ rest) → take n now ≡ turned text
unfolding turned_front
front-copied n text front rest now m e f =
    let copied = front ++ rest in
    let text-is : take n copied ≡ text = ap (λ l. take n (l ++ rest)) e ∙ take_at text rest n (sym m) in
    ap (take n) f
    ∙ take_at (turned (take n copied)) (drop n copied) n (size-stays (take n copied) ∙ ap length text-is ∙ sym m)
    ∙ ap turned text-is

module _ {p q : Request} (asks : p ≡ q) {r : Reply} {b l w b' l' w' : List ℕ} where
  -- of a call that was lent no buffer and no scratch
  hooked-in : {text buffer scratch : List ℕ} → length buffer ≡ 0 → length scratch ≡ 0
      → Calls p (turned text) r (slices b l w [] []) (slices b' l' w' buffer scratch)
      → Hooked q text r (slices b l w [] []) (slices b' l' w' [] [])
  unfolding handed_over
  hooked-in {text} {buffer} {scratch} nb ns c = record {
    plain = slices b' l' w' [] [];
    call = subst (λ x. Calls x (turned text) r (slices b l w [] []) (slices b' l' w' [] [])) asks
        (subst (λ x. Calls p (turned text) r (slices b l w [] []) (slices b' l' w' x [])) (no_cells buffer nb)
        (subst (λ x. Calls p (turned text) r (slices b l w [] []) (slices b' l' w' buffer x)) (no_cells scratch ns) c));
    leaves = λ i. slices b' l' w' (sym (front-none (count_of r)) i) [];
  }

  pub hooked-short : (rest : List ℕ) {n : ℕ} {text front now buffer scratch : List ℕ} → n ≡ length text
      → front ≡ text → now ≡ turned_front n (front ++ rest)
      → length buffer ≡ 0 → length scratch ≡ 0
      → Calls p (take n now) r (slices b l w [] []) (slices b' l' w' buffer scratch)
      → Hooked q text r (slices b l w [] []) (slices b' l' w' [] [])
  hooked-short rest {n} {text} {front} {now} {buffer} {scratch} m e f nb ns c = hooked-in nb ns
      (subst (λ x. Calls p x r (slices b l w [] []) (slices b' l' w' buffer scratch)) (front-copied n text front rest now m e f) c)

  pub hooked-long : {text buffer scratch : List ℕ} → op q.number ≡ write → Limit.transfer < length text
      → length buffer ≡ 0 → length scratch ≡ 0
      → Calls p text r (slices b l w [] []) (slices b' l' w' buffer scratch)
      → Hooked q text r (slices b l w [] []) (slices b' l' w' [] [])
  hooked-long {text} is-write long nb ns c = hooked-in nb ns
      (too_long p (ap (λ (x : Request). op x.number) asks ∙ is-write) (slices b l w [] []) text (turned text) long (size-stays text) c)

  -- of a call without a text, whose buffer was turned after it
  pub hooked-out : {buffer buffer' buffer'' scratch : List ℕ} → length scratch ≡ 0
      → Calls p [] r (slices b l w buffer []) (slices b' l' w' buffer' scratch)
      → buffer'' ≡ turned_front (count_of r) buffer'
      → Hooked q [] r (slices b l w buffer []) (slices b' l' w' buffer'' [])
  unfolding handed_over turned turned_tiles
  hooked-out {buffer} {buffer'} {buffer''} {scratch} ns c e = record {
    plain = slices b' l' w' buffer' [];
    call = subst (λ x. Calls x [] r (slices b l w buffer []) (slices b' l' w' buffer' [])) asks
        (subst (λ x. Calls p [] r (slices b l w buffer []) (slices b' l' w' buffer' x)) (no_cells scratch ns) c);
    leaves = λ i. slices b' l' w' (e i) [];
  }
