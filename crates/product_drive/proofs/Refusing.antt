-- A refused pick is not paid for: after the question a read of a row is refused by none but 2, 3 and 4.
use Prim.Native.Nat.{ℕ, ◌+◌, ◌-◌, ◌*◌, ◌≤◌}
use mathlib.Core.Path.{◌≡◌, refl, sym, ap, ◌∙◌, subst}
use mathlib.Core.Logic.{◌≢◌}
use mathlib.Core.Bool.{true}
use mathlib.Core.List.{[]}
use native.Mathlib.Omega.{arith}
use lib.Dec.{leb}
use borrow.Author.Tests.{le-leb, ne_eqb}
use Rattle.rules.specs.Code as Code
use Rattle.rules.specs.Store.{no_window}
use Rattle.rules.specs.Rights.{op}
use Rattle.rules.specs.Call.{Call, Answer, Outcome, code}
use Rattle.rules.specs.Refusals as Refusals
use Rattle.rules.specs.Calls.{lies_in}
use Rattle.rules.specs.Rule.{rule, is_done}
use Rattle.rules.specs.Questions as Questions
use Rattle.rules.specs.Questions.{window_asked}
use Rattle.rules.proofs.Tests.{by_bool, by-eq, both_true}
use Rattle.rules.proofs.Asking.{asked-free, read-inside}
use Rattle.rules.proofs.Answers.{refused-rule}
use Rattle.values.specs.Words.{window_of}
use Rattle.values.specs.declared.window.Window.{Window}
use Rattle.call_steps.specs.declared.request.Name.{Name}
use Rattle.call_steps.specs.declared.request.Capability.{Capability}
use Rattle.call_steps.specs.Request.{Reply}
use Rattle.call_steps.specs.Request.{name_of, capability_of, presenting_request, read_request, call_of, answer_of}
use Rattle.call_steps.specs.Run.{overlay}
use Rattle.kernel_step.specs.Slices.{Slices, state_of, call_on}
use Rattle.kernel_step.specs.Steps.{front, Steps}
use Rattle.values.specs.declared.refusal.Refusal.{Refusal}
use Rattle.std.specs.Prelude.{Ok, Err, Result}
use Rattle.question_window.specs.Asks.{windowed_of, Asks}
use Rattle.product_drive.specs.declared.repeat.Repeat.{Repeat}
use Rattle.product_drive.specs.declared.repeat.Place.{Place}
use Rattle.product_drive.specs.declared.picked.Picked.{Picked}
use Rattle.product_drive.specs.Drive.{fits, holds_repeat, row_of}
use Rattle.product_drive.specs.Picks.{refused_pick, unread, Unmade, Picks}
use Rattle.product_drive.specs.Theorems.{Unpaid}
use Rattle.product_drive.proofs.Ranges.{ranges, placed}
use Rattle.product_drive.proofs.Rows.{one-row-more, rows-within, unread-asked, unread-length, unread-none, read_asked, read-holds}
use Rattle.product_drive.proofs.Outcomes.{picked-done, picked-refused}
use Rattle.values.specs.Refusals.{code_of}
use Rattle.product_drive.specs.Picks.{told}
use Rattle.call_steps.proofs.Replying.{answer-code, answer-bytes}

-- ---- no call is made

unmade : {caller : Name} {n : ℕ} {d : Place} {r : Picked} {was is : Slices} → n ≢ Code.cannot_pay → Unmade n d r was is
    → Unpaid caller r.code was is
unfolding refused_pick
unmade nz u =
    let code : _ ≡ _ = ap (λ (x : Picked). x.code) u.picked in
    record {
      nothing = λ _. record {
        bytes = ap (λ s. s.bytes) u.slices-are;
        links = ap (λ s. s.links) u.slices-are;
        words = ap (λ s. s.words) u.slices-are;
      };
      marks = λ four. absurd (nz (sym code ∙ four));
      buffer-is = ap (λ s. s.buffer) u.slices-are;
    }

-- ---- the question

-- an answer as the rules', field by field
windowed-code : (a : Result Window Refusal) → (windowed_of a).code ≡ code_of a
unfolding Questions.unwindowed no_window
windowed-code (Ok window) = refl
windowed-code (Err r) = refl

windowed-window : (a : Result Window Refusal) → (windowed_of a).window ≡ window_of (told a)
unfolding Questions.unwindowed no_window
windowed-window (Ok window) = refl
windowed-window (Err r) = refl

module _ (was : Slices) (caller : Name) (x : Capability) (a : Result Window Refusal)
    (h : Asks was.bytes was.links was.words caller x a) where
  answered : code_of a ≢ Code.ill_formed → windowed_of a ≡ window_asked (state_of was) (name_of caller) (capability_of x)
  answered nz = h.asks (h.sound nz)

  never-four : code_of a ≢ Code.cannot_pay
  never-four four =
      asked-free (state_of was) (name_of caller) (capability_of x)
      (sym (ap (λ (w : Questions.Windowed). w.code) (answered (λ one. omega arith))) ∙ windowed-code a ∙ four)

  unread-free : (p : Repeat) → unread p a ≢ Code.cannot_pay
  unread-free p four = by-eq (code_of a) Code.done
      (λ z. by_bool (holds_repeat (told a) p)
      (λ y. omega (arith, four, unread-none p a z y))
      (λ n. omega (arith, four, unread-length p a z n)))
      (λ nz. never-four (sym (unread-asked p a nz) ∙ four))

-- ---- the read

-- a row lies in the window
row_inside : (v : Window) (p : Repeat) (d : Place) → fits p d ≡ true → holds_repeat v p ≡ true
    → lies_in (window_of (row_of v p d.next)) (window_of v) ≡ true
unfolding lies_in row_of
row_inside v p d f h =
    let more = one-row-more d.next p.row (placed p d f).low in
    let within = rows-within v p d f h in
    both_true (leb v.start (v.start + (d.next - 1) * p.row)) (leb (v.start + d.next * p.row) v.end)
    (le-leb v.start (v.start + (d.next - 1) * p.row) (omega arith))
    (le-leb (v.start + d.next * p.row) v.end (omega (arith, within, more, (ranges p d f).row_low)))

-- it is tried, and refused
module _ (was is : Slices) (caller : Name) (x : Capability) (p : Repeat) (d : Place) (a : Result Window Refusal) (f : fits p d ≡ true)
    (q : Asks was.bytes was.links was.words caller x a) (z : unread p a ≡ Code.done) (y : Reply)
    (S : Steps (call_on (read_request caller x (row_of (told a) p d.next)) [] was) y was is) (nz : code_of y ≢ Code.done) where
  abbrev c : Call
  c = call_on (read_request caller x (row_of (told a) p d.next)) [] was

  asked : window_asked (state_of was) (name_of caller) (capability_of x) ≡ windowed_of a
  asked = sym (answered was caller x a q (λ one. omega (arith, one, read_asked p a z)))

  -- by none but 2, 3 and 4
  low : code_of y ≤ Code.cannot_pay
  unfolding call_of presenting_request answer_of op
  low =
      let code_is : (rule (state_of was) c S.choice).answer.code ≡ code_of y = ap (λ (o : Outcome). o.answer.code) S.rules ∙ answer-code y _ in
      subst (λ n. n ≤ Code.cannot_pay) code_is
      (read-inside (state_of was) c refl (ap (λ (w : Questions.Windowed). w.code) asked ∙ windowed-code a ∙ read_asked p a z)
      (ap (λ (w : Questions.Windowed). lies_in (window_of (row_of (told a) p d.next)) w.window) asked
      ∙ ap (lies_in (window_of (row_of (told a) p d.next))) (windowed-window a)
      ∙ row_inside (told a) p d f (read-holds p a z))
      S.choice (λ e. nz (sym code_is ∙ e)))

  no_bytes : front y is ≡ []
  unfolding answer_of code is_done
  no_bytes =
      let answer : (rule (state_of was) c S.choice).answer ≡ answer_of y (front y is) = ap (λ (o : Outcome). o.answer) S.rules in
      let refused = refused-rule (state_of was) c S.choice (ne_eqb _ Code.done
      (λ e. nz (sym (answer-code y _) ∙ sym (ap (λ (n : Answer). n.code) answer) ∙ e))) in
      sym (answer-bytes y _) ∙ ap (λ (n : Answer). n.bytes) (sym answer ∙ refused.others)

  unpaid : Unpaid caller (code_of y) was is
  unfolding overlay call_of presenting_request Refusals.caller
  unpaid = record {
    nothing = λ four. S.refused.nothing (omega arith) (omega (arith, low, four));
    marks = λ four. S.refused.marks four;
    buffer-is = S.buffer-is ∙ ap (λ v. overlay v was.buffer) no_bytes;
  }

-- ---- any pick

pub refused-pick : {caller : Name} {x : Capability} {p : Repeat} {d : Place} {r : Picked} {was is : Slices}
    → Picks caller x p d r was is → r.code ≢ Code.done → Unpaid caller r.code was is
unfolding refused_pick
refused-pick {caller} {x} {p} {d} {r} {was} {is} h nz = by_bool (fits p d)
    (λ f.
    let a = h.asked f in
    by-eq (unread p a.question) Code.done
    (λ z.
    let y = a.reads z in
    by-eq (code_of y.reply) Code.done
    (λ done. absurd (nz (ap (λ (v : Picked). v.code) (y.picked ∙ picked-done p d y.reply done))))
    (λ no. subst (λ n. Unpaid caller n was is)
    (sym (ap (λ (v : Picked). v.code) (y.picked ∙ picked-refused p d y.reply no)))
    (unpaid was is caller x p d a.question f a.asks z y.reply
    (y.call.steps (a.asks.sound (λ one. omega (arith, one, read_asked p a.question z)))).rules no)))
    (λ no. unmade (unread-free was caller x a.question a.asks p) (a.refused no)))
    (λ f. unmade (λ four. omega arith) (h.bad f))
