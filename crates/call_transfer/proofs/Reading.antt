-- What the code copied is the object's bytes start to end, laid over the buffer.
use Prim.Native.Nat.{ℕ, ◌+◌, ◌-◌, ◌≤◌, ◌<◌}
use mathlib.Core.Path.{◌≡◌, sym, ap, ◌∙◌, subst}
use mathlib.Core.Bool.{true, false}
use mathlib.Core.List.{List, ◌++◌}
use native.Mathlib.Omega.{arith}
use native.Mathlib.Decide.{dec_le}
use lib.ListN.{get_or, drop, length, length-append, length-drop, get_or-append}
use lib.Seq.{get_or-drop, get_or-append-add, ext_get_or}
use Rattle.rules.specs.Calls.{lies_in}
use Rattle.layout.specs.Rows.{size_of, first_block_of, owner_of}
use Rattle.call_steps.specs.Request.{Reply}
use Rattle.call_steps.specs.Run.{over, handed_over, overlay, window_in}
use Rattle.call_steps.specs.Replies.{HandsOver, Fills}
use Rattle.call_steps.proofs.Meeting.{stopped, goes_on}
use Rattle.call_steps.proofs.Replying.{fills-done}
use Rattle.call_steps.specs.Copies.{laid}
use Rattle.call_transfer.specs.Runs.{cell_of, copied_out, range, part, read_run, ReadAsks}
use Rattle.call_steps.proofs.Laid.{laid-length, laid-other, laid-at}
use Rattle.call_transfer.proofs.Places.{part_length, part_at}
use Rattle.call_transfer.proofs.Stops.{inside-no, inside-yes, ends-in}

-- n stores to the front, of the bytes xs
module _ (value : ℕ → ℕ) (xs buffer : List ℕ) (n : ℕ) (long : length xs ≡ n) (room : n ≤ length buffer)
    (same : (i : ℕ) → i < n → get_or xs i 0 ≡ value i) where
  front : (i : ℕ) → i < n → get_or (overlay xs buffer) i 0 ≡ value i
  unfolding overlay
  front i h = get_or-append xs (drop (length xs) buffer) 0 i (omega arith) ∙ same i h

  rest : (i : ℕ) → n ≤ i → get_or (overlay xs buffer) i 0 ≡ get_or buffer i 0
  unfolding overlay
  rest i h =
      let q : length xs + (i - n) ≡ i = omega arith in
      ap (λ x. get_or (xs ++ drop (length xs) buffer) x 0) (sym q)
      ∙ get_or-append-add xs (drop (length xs) buffer) (i - n) 0 ∙ get_or-drop (length xs) buffer (i - n) 0
      ∙ ap (λ x. get_or buffer x 0) q

  overlay-length : length (overlay xs buffer) ≡ length buffer
  unfolding overlay
  overlay-length = rw (length-append, length-drop) (omega arith)

  pub laid-over : laid (λ i. i) value n buffer ≡ overlay xs buffer
  laid-over = ext_get_or 0 (laid (λ i. i) value n buffer) (overlay xs buffer)
      (now-length ∙ sym overlay-length) (λ i p. go i (omega (arith, p, now-length)) (dec_le n i))
    where
      now-length : length (laid (λ i. i) value n buffer) ≡ length buffer
      now-length = laid-length (λ i. i) value buffer n

      go : (i : ℕ) → i < length buffer → Dec (n ≤ i)
          → get_or (laid (λ i. i) value n buffer) i 0 ≡ get_or (overlay xs buffer) i 0
      go i p (yes h) = laid-other (λ i. i) value buffer n i (λ j q. omega arith) ∙ sym (rest i h)
      go i p (no h) = laid-at (λ i. i) value buffer n i (omega arith) (λ j a b. omega arith) p
          ∙ sym (front i (omega arith))

-- ---- the run

module _ {b l w buffer : List ℕ} {k start end : ℕ} (a : ReadAsks b l w buffer k start end) where
  pub reads-met : lies_in (range start end) (window_in w k) ≡ false → over 7 b l w ≡ read_run b l w k start end
  unfolding read_run
  reads-met e = stopped b l w _ 7 (inside-no w k start end e) (omega arith)

  -- the bytes that were copied
  pub reads-done : (head : ℕ) → head ≡ first_block_of l (owner_of l k)
      → lies_in (range start end) (window_in w k) ≡ true
      → (after : List ℕ) → after ≡ copied_out b l head start (end - start) buffer
      → {r : Reply} → HandsOver 0 (end - start) r → Fills r b l w buffer after (read_run b l w k start end)
  unfolding read_run
  reads-done head h e after c {r} H =
      let o : ℕ = owner_of l k in
      let t = a.target in
      let fits : end ≤ size_of l o = omega (arith, ends-in w k start end e, t.fits) in
      let long : length (part b l o start end) ≡ end - start =
      part_length b l o a.sized.bytes t.chain.0 t.chain.1 t.chain.2 start end a.ordered fits in
      fills-done buffer (part b l o start end) after (subst (λ n. HandsOver 0 n r) (sym long) H)
      (c ∙ ap (λ x. copied_out b l x start (end - start) buffer) h
      ∙ laid-over (λ i. get_or b (cell_of l (first_block_of l o) (start + i)) 0) (part b l o start end) buffer (end - start)
      long (omega (arith, a.short, a.room))
      (part_at b l o a.sized.bytes t.chain.0 t.chain.1 t.chain.2 start end a.ordered fits))
      (goes_on b l w (handed_over 0 (part b l o start end) b l w) (inside-yes w k start end e))
