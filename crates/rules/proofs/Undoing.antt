-- A range of the bytes of an object, by the object's name: what a done write leaves there, what a done read gives, and that any
-- other call keeps it while the object lives on.
use Prim.Native.Nat.{ℕ, ◌-◌}
use mathlib.Core.Path.{◌≡◌, refl, sym, ap, ◌∙◌, subst}
use mathlib.Core.Logic.{◌≢◌}
use mathlib.Core.Bool.{Bool, true, false}
use mathlib.Core.List.{List}
use native.Mathlib.Omega.{arith}
use lib.ListN.{length, take, drop}
use Rattle.rules.specs.Slots.{at}
use Rattle.rules.specs.Store.{Name, Window, Apart, Object, State, object_named}
use Rattle.rules.specs.Valid.{Formed}
use Rattle.rules.specs.Rights.{Op, read, write, op, presents, day_number}
use Rattle.rules.specs.Call.{Call, Choice, Outcome, done, hands_over}
use Rattle.rules.specs.Refusals.{caller}
use Rattle.rules.specs.Update.{with_house, with_cash, with_bytes}
use Rattle.rules.specs.Changes.{spend, to_house}
use Rattle.rules.specs.Calls.{read_does, written, write_does, does}
use Rattle.rules.specs.Rule.{paid, rule, is_done}
use Rattle.rules.specs.Demand.{Allowed}
use Rattle.rules.proofs.Tests.{by-eq, by_bool}
use Rattle.rules.proofs.Slots.{at_here, at-else}
use Rattle.rules.proofs.Sound.{object-some}
use Rattle.rules.proofs.Presenting.{Shown, named, named-is, found-live}
use Rattle.rules.proofs.Ready.{Ready, slot_of, ready}
use Rattle.rules.proofs.Outcomes.{of_process, host-not}
use Rattle.rules.proofs.Answers.{done-by}
use Rattle.rules.proofs.Keeping.{WriteFits, write-fits}
use Rattle.rules.proofs.Steps.{keep-paid, keep-step}
use Rattle.rules.proofs.Bytes.{Bytes, bytes_left, bytes-by, rule-bytes}
use Rattle.rules.proofs.Parts.{replaced, written_is, part_of, part_in, part_apart}

-- the range v of the object named n
abbrev pub range_of : State → Name → Window → List ℕ
range_of s n v = part_of v (s.bytes (object_named s n))

-- ---- where a read or a write is done; s is what the fee left

module _ (s : State) (G : Formed s) (c : Call) (me k : ℕ) where
  -- the slot of the object
  abbrev o : ℕ
  o = (s.cap k).object

  target-named : Shown s me c.presented k → object_named s c.presented.name ≡ o
  target-named x = named-is s c.presented.name G.objects o (G.caps.live k x.lives).owned x.name

  module _ (r : Ready s c me k write) where
    abbrev fits : WriteFits s c k
    fits = write-fits s G c me k r

    laid : (xs : List ℕ) → replaced c.range.start c.text xs ≡ written s c me k xs
    laid xs = written_is s c me k fits.end_is xs

    -- in its own range, the text
    written_in : part_of c.range (written s c me k (s.bytes o)) ≡ c.text
    written_in =
        let n : c.range.end - c.range.start ≡ length c.text = omega (arith, fits.end_is) in
        ap (part_of c.range) (sym (laid (s.bytes o)))
        ∙ ap (λ m. take m (drop c.range.start (replaced c.range.start c.text (s.bytes o)))) n
        ∙ part_in c.range.start c.text (s.bytes o) fits.inside

    -- in a range without a byte of it, what was there
    written_apart : (v : Window) → Apart v c.range → part_of v (written s c me k (s.bytes o)) ≡ part_of v (s.bytes o)
    unfolding Apart
    written_apart v a =
        ap (part_of v) (sym (laid (s.bytes o)))
        ∙ part_apart c.range.start c.text (s.bytes o) fits.inside v
        (λ p h g i j. a p (h, g) (i, omega (arith, j, fits.end_is)))

-- ---- a call

module _ (s : State) (G : Formed s) (c : Call) (h : Choice) where
  abbrev n : Name
  n = c.presented.name

  abbrev me : ℕ
  me = caller s c

  abbrev k : ℕ
  k = slot_of s c

  -- where it is done, and of this kind
  module _ (o : Op) (is : op c.number ≡ o) (of : of_process o ≡ true) (done : is_done (rule s c h) ≡ true) where
    process : c.number ≢ day_number
    process e = host-not c.number e is of

    is-ready : Ready (paid s c) c me k o
    is-ready = subst (Ready (paid s c) c me k) is (done-by s c h (λ _. Ready (paid s c) c me k (op c.number)) process (λ e f. ready s c G.objects e f) done)

    outcome : rule s c h ≡ does (paid s c) c me k h o
    outcome = done-by s c h (λ r. r ≡ does (paid s c) c me k h o) process (λ e f. ap (does (paid s c) c me k h) is) done

    paid-formed : Formed (paid s c)
    paid-formed = done-by s c h (λ _. Formed (paid s c)) process (λ e f. (keep-paid s G c e).formed) done

  -- a done write leaves its text in its range
  pub write-leaves : op c.number ≡ write → is_done (rule s c h) ≡ true
      → (object_named (rule s c h).after n ≢ 0) × (range_of (rule s c h).after n c.range ≡ c.text)
  unfolding does write_does done with_bytes object_named presents
  write-leaves is done =
      let t : State = paid s c in
      let F = paid-formed write is refl done in
      let R = is-ready write is refl done in
      let o : ℕ = (t.cap k).object in
      let found = target-named t F c me k (R.shown refl) in
      subst (λ (r : Outcome). (object_named r.after n ≢ 0) × (range_of r.after n c.range ≡ c.text))
      (sym (outcome write is refl done)) (
        λ z. object-some F.objects o (F.caps.live k (R.shown refl).lives).owned (sym found ∙ z),
        ap (λ i. part_of c.range (at t.bytes o (written t c me k (t.bytes o)) i)) found
            ∙ ap (part_of c.range) (at_here t.bytes o (written t c me k (t.bytes o)))
            ∙ written_in t F c me k R,
      )

  -- a done read gives the bytes of its range
  pub read-gives : op c.number ≡ read → is_done (rule s c h) ≡ true
      → (rule s c h).answer.bytes ≡ range_of s n c.range
  unfolding does read_does hands_over presents paid to_house spend with_cash with_house object_named
  read-gives is done =
      let t : State = paid s c in
      ap (λ (r : Outcome). r.answer.bytes) (outcome read is refl done)
      ∙ ap (λ i. part_of c.range (s.bytes i))
      (sym (target-named t (paid-formed read is refl done) c me k ((is-ready read is refl done).shown refl)))

  -- any call keeps a range of an object that lives on, unless it is a done write of some byte of it
  module _ (A : Allowed s c h) (m : Name) (v : Window)
      (lives : object_named s m ≢ 0) (lives-on : object_named (rule s c h).after m ≢ 0)
      (spares : op c.number ≡ write → is_done (rule s c h) ≡ true → n ≡ m → Apart v c.range) where
    abbrev r : State
    r = (rule s c h).after

    abbrev q : ℕ
    q = object_named s m

    left : (i : ℕ) → Bytes s i (bytes_left s c i (is_done (rule s c h))) r
    left i = rule-bytes s c i h A.choice

    -- it is the same object
    same-slot : object_named r m ≡ q
    same-slot =
        let q' : ℕ = object_named r m in
        let live = found-live s m lives in
        let live' = found-live r m lives-on in
        by_bool (s.object q').live
        (λ e. G.objects.names q' q e live
        (ap (λ (x : Object). x.name) (sym ((left q').object e live')) ∙ named r m lives-on ∙ sym (named s m lives)))
        (λ e. let as_it_was : r.object q ≡ s.object q = (left q').others e live' q live in
        (keep-step s G c h A).formed.objects.names q' q live' (ap (λ (x : Object). x.live) as_it_was ∙ live)
        (named r m lives-on ∙ sym (named s m lives) ∙ ap (λ (x : Object). x.name) (sym as_it_was)))

    written-part : op c.number ≡ write → is_done (rule s c h) ≡ true
        → part_of v (at s.bytes (s.cap k).object (written (paid s c) c me k (s.bytes (s.cap k).object)) q)
        ≡ part_of v (s.bytes q)
    unfolding paid to_house spend with_cash with_house presents
    written-part is done =
        let o : ℕ = (s.cap k).object in
        let R = is-ready write is refl done in
        let xs : List ℕ = written (paid s c) c me k (s.bytes o) in
        by-eq q o
        (λ e. ap (λ i. part_of v (at s.bytes o xs i)) e
        ∙ ap (part_of v) (at_here s.bytes o xs)
        ∙ written_apart (paid s c) (paid-formed write is refl done) c me k R v
        (spares is done (sym (R.shown refl).name ∙ ap (λ i. (s.object i).name) (sym e) ∙ named s m lives))
        ∙ ap (λ i. part_of v (s.bytes i)) (sym e))
        (λ ne. ap (part_of v) (at-else s.bytes o xs q ne))

    left-part : (d : Bool) → is_done (rule s c h) ≡ d → part_of v (bytes_left s c q d) ≡ part_of v (s.bytes q)
    unfolding bytes_left paid to_house spend with_cash with_house
    left-part true e = bytes-by (paid s c) c me k q (λ xs. part_of v xs ≡ part_of v (s.bytes q)) (op c.number) refl
        (λ is. written-part is e)
    left-part false e = refl

    pub range-kept : range_of r m v ≡ range_of s m v
    range-kept =
        ap (λ i. part_of v (r.bytes i)) same-slot
        ∙ ap (part_of v) ((left q).kept (found-live s m lives)
        (ap (λ i. (r.object i).live) (sym same-slot) ∙ found-live r m lives-on))
        ∙ left-part (is_done (rule s c h)) refl
