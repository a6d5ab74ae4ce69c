-- What a store means after a write: the object's bytes from start on are the data, and all else is as it was.
use Prim.Native.Nat.{ℕ, ◌+◌, ◌*◌, ◌-◌, ◌≤◌, ◌<◌}
use mathlib.Core.Path.{◌≡◌, refl, sym, ap, ◌∙◌}
use mathlib.Core.Logic.{◌≢◌}
use mathlib.Core.List.{List}
use native.Mathlib.Omega.{arith}
use native.Mathlib.Decide.{dec_le}
use lib.ListN.{get_or, take, drop, length}
use lib.Seq.{ext_get_or}
use Rattle.rules.specs.Slots.{at}
use Rattle.rules.specs.Update.{with_bytes}
use Rattle.rules.proofs.Tests.{by-eq}
use Rattle.rules.proofs.Parts.{replaced, replaced-length, replaced-front, replaced-in, replaced-back}
use Rattle.layout.specs.Layout as Layout
use Rattle.layout.specs.Rows.{field, region, flag_of, master_of, size_of, first_block_of, next_block_of, text_in, data_in}
use Rattle.layout.specs.View.{view}
use Rattle.layout.specs.Shape.{times, Blocks}
use Rattle.layout.specs.WellFormed.{Cells}
use Rattle.layout.proofs.Field.{at-is, field-cells, region-cells, region-at, region-length}
use Rattle.layout.proofs.Shown.{bytes-here, bytes-none}
use Rattle.layout.proofs.Frame.{state-is, house-same, day-same, object-same, lock-same, cash-same, marks-same, box-same}
use Rattle.layout.proofs.Frame.{cap-same, money-same, bytes-same-at}
use Rattle.layout.proofs.Kept.{cells-kept}
use Rattle.layout.proofs.Linking.{chain-high}
use Rattle.call_transfer.specs.Runs.{cell_of, copied_in, bytes_in}
use Rattle.call_steps.proofs.Laid.{laid-length, laid-other, laid-at}
use Rattle.call_transfer.proofs.Places.{bytes-in-length, byte_at}
use Rattle.call_transfer.proofs.Apart.{low, high, chain-is, chain-long, cell-high, cells-apart, other_block}

-- ---- the cells after a write to the living object o

module _ (b l : List ℕ) (long : length b ≡ Layout.BYTES) (B : Blocks l) (o : ℕ) (alive : master_of l o ≢ 0)
    (start : ℕ) (text : List ℕ) (fits : start + length text ≤ size_of l o) where
  abbrev head : ℕ
  head = first_block_of l o

  abbrev after : List ℕ
  after = copied_in l head start text (length text) b

  pub after-length : length after ≡ Layout.BYTES
  after-length = laid-length (λ i. cell_of l head (start + i)) (λ i. get_or text i 0) b (length text) ∙ long

  -- a cell that no byte written stands in
  untouched : (c : ℕ) → ((i : ℕ) → i < length text → c ≢ cell_of l head (start + i)) → get_or after c 0 ≡ get_or b c 0
  untouched c h = laid-other (λ i. cell_of l head (start + i)) (λ i. get_or text i 0) b (length text) c h

  byte-kept : (p : ℕ) → p < size_of l o → ((i : ℕ) → i < length text → p ≢ start + i)
      → get_or after (cell_of l head p) 0 ≡ get_or b (cell_of l head p) 0
  byte-kept p h ne = untouched (cell_of l head p)
      (λ i q e. ne i q (cells-apart l B o alive p (start + i) h (omega arith) e))

  byte-written : (i : ℕ) → i < length text → get_or after (cell_of l head (start + i)) 0 ≡ get_or text i 0
  byte-written i h =
      let fit : cell_of l head (start + i) < length b = omega (arith, cell-high l B o alive (start + i) (omega arith)) in
      laid-at (λ i. cell_of l head (start + i)) (λ i. get_or text i 0) b (length text) i h
      (λ j p q e.
      let same : start + i ≡ start + j =
      cells-apart l B o alive (start + i) (start + j) (omega arith) (omega arith) e in
      omega arith) fit

  -- the rows and the texts stand below the data
  low-kept : (c : ℕ) → c < Layout.DATA → get_or after c 0 ≡ get_or b c 0
  unfolding cell_of
  low-kept c h = untouched c (λ i p. omega arith)

  row_kept : (n off : ℕ) → off + n < Layout.DATA → field n off after ≡ field n off b
  row_kept n off h = field-cells n off after b (λ i p q. low-kept (off + i) (omega arith))

  text-kept : text_in after ≡ text_in b
  text-kept = region-cells 4160 Layout.TEXT after b (after-length ∙ sym long)
      (λ i p. low-kept (Layout.TEXT + i) (omega arith))

  -- ---- the object's bytes

  abbrev was : List ℕ
  was = bytes_in b l o

  was-length : length was ≡ size_of l o
  was-length = bytes-in-length b l o long (B.chain o) (chain-is l B o alive) (chain-long l B o alive)

  now-at : (p : ℕ) → p < size_of l o → get_or (bytes_in after l o) p 0 ≡ get_or after (cell_of l head p) 0
  now-at = byte_at after l o after-length (B.chain o) (chain-is l B o alive) (chain-long l B o alive)

  was-at : (p : ℕ) → p < size_of l o → get_or was p 0 ≡ get_or b (cell_of l head p) 0
  was-at = byte_at b l o long (B.chain o) (chain-is l B o alive) (chain-long l B o alive)

  room : start + length text ≤ length was
  room = omega (arith, was-length)

  object-written : bytes_in after l o ≡ replaced start text was
  object-written = ext_get_or 0 (bytes_in after l o) (replaced start text was)
      (now-length ∙ sym (replaced-length start text was room ∙ was-length))
      (λ p h. go p (omega (arith, now-length)) (dec_le start p) (dec_le (start + length text) p))
    where
      now-length : length (bytes_in after l o) ≡ size_of l o
      now-length = bytes-in-length after l o after-length (B.chain o) (chain-is l B o alive) (chain-long l B o alive)

      go : (p : ℕ) → p < size_of l o → Dec (start ≤ p) → Dec (start + length text ≤ p)
          → get_or (bytes_in after l o) p 0 ≡ get_or (replaced start text was) p 0
      go p h (no f) d = now-at p h ∙ byte-kept p h (λ i q. omega arith) ∙ sym (was-at p h)
          ∙ sym (replaced-front start text was room p (omega arith))
      go p h (yes f) (yes g) = now-at p h ∙ byte-kept p h (λ i q. omega arith) ∙ sym (was-at p h)
          ∙ sym (replaced-back start text was room p g)
      go p h (yes f) (no g) =
          let e : start + (p - start) ≡ p = omega arith in
          rw e at (now-at (start + (p - start)) (omega arith) ∙ byte-written (p - start) (omega arith)
          ∙ sym (replaced-in start text was room (p - start) (omega arith)))

  -- ---- the other objects' bytes

  block-kept : (q : ℕ) → master_of l q ≢ 0 → q ≢ o → (k : ℕ) → 1 ≤ times k (B.chain q)
      → take 64 (drop (k * 64) (data_in after)) ≡ take 64 (drop (k * 64) (data_in b))
  unfolding region
  block-kept q lives ne k h =
      let block = chain-high 512 (next_block_of l) (first_block_of l q) (B.chain q) k (chain-is l B q lives) h in
      region-cells 64 (k * 64) (data_in after) (data_in b)
      (region-length 32832 Layout.DATA after (omega (arith, after-length))
      ∙ sym (region-length 32832 Layout.DATA b (omega (arith, long))))
      (λ i p.
      region-at 32832 Layout.DATA after (k * 64 + i) (omega (arith, block))
      ∙ untouched (Layout.DATA + (k * 64 + i))
      (λ j r. other_block l B o alive q lives ne k h (start + j) (omega arith) i p)
      ∙ sym (region-at 32832 Layout.DATA b (k * 64 + i) (omega (arith, block))))

  other-kept : (w : List ℕ) (q : ℕ) → q ≢ o → (view after l w).bytes q ≡ (view b l w).bytes q
  other-kept w q ne = by-eq (master_of l q) 0
      (λ z. bytes-none after l w q z ∙ sym (bytes-none b l w q z))
      (λ lives. bytes-same-at b l w after l w q (B.chain q) (B.chains q (low l B q lives) (high l B q lives))
      refl refl refl (λ j p. refl) (block-kept q lives ne))

  -- ---- the view

  here : (w : List ℕ) → (view after l w).bytes o ≡ replaced start text ((view b l w).bytes o)
  unfolding bytes_in
  here w = bytes-here after l w o alive ∙ object-written ∙ ap (replaced start text) (sym (bytes-here b l w o alive))

  pub write-stored : (w : List ℕ) → view after l w
      ≡ with_bytes (view b l w) (at (view b l w).bytes o (replaced start text ((view b l w).bytes o)))
  unfolding with_bytes
  write-stored w =
      let flag : flag_of after ≡ flag_of b = row_kept 64 Layout.FLAG (omega arith) in
      state-is (view after l w)
      (with_bytes (view b l w) (at (view b l w).bytes o (replaced start text ((view b l w).bytes o))))
      (house-same b l w after l w refl)
      (day-same b l w after l w refl)
      (object-same b l w after l w refl (row_kept 64 Layout.VOLUME (omega arith)) refl refl flag)
      (at-is (view b l w).bytes (view after l w).bytes o _ (here w) (other-kept w))
      (lock-same b l w after l w refl flag refl refl)
      (cash-same b l w after l w refl flag refl)
      (marks-same b l w after l w refl flag (row_kept 64 Layout.SUSPENDED (omega arith))
      (row_kept 64 Layout.WAITING (omega arith)) (row_kept 64 Layout.TERMINATED (omega arith)))
      (box-same b l w after l w refl flag (row_kept 64 Layout.COUNT (omega arith))
      (row_kept 259 Layout.LENGTH (omega arith)) refl text-kept)
      (cap-same b l w after l w refl refl refl refl refl refl refl refl)
      (money-same b l w after l w refl refl)

  pub write-cells : Cells b l → Cells after l
  write-cells = cells-kept b l after l refl (row_kept 64 Layout.FLAG (omega arith))
      (row_kept 64 Layout.SUSPENDED (omega arith)) (row_kept 64 Layout.WAITING (omega arith))
      (row_kept 64 Layout.TERMINATED (omega arith)) (row_kept 64 Layout.COUNT (omega arith))
      (row_kept 259 Layout.LENGTH (omega arith))
