-- What the slices mean once the record of the new object is written and its blocks are taken: the rules' new object.
use Prim.Native.Nat.{ℕ, ◌+◌, ◌*◌, ◌≤◌, ◌<◌}
use mathlib.Core.Path.{◌≡◌, refl, sym, ap, ◌∙◌}
use mathlib.Core.Logic.{◌≢◌}
use mathlib.Core.Bool.{Bool, true, false}
use mathlib.Core.List.{List, []}
use native.Mathlib.Omega.{arith}
use lib.Dec.{eqb}
use lib.ListN.{length, take, drop, replicate}
use Rattle.rules.specs.Slots.{at}
use Rattle.rules.specs.Store.{Name, Object, Marks, no_lockword, no_marks, blocks}
use Rattle.rules.specs.Changes.{new_object}
use Rattle.rules.proofs.Tests.{by_bool, by-eq}
use Rattle.layout.specs.Layout as Layout
use Rattle.layout.specs.Rows.{field, volume_of, flag_of, suspended_of, waiting_of, terminated_of, count_of, length_of}
use Rattle.layout.specs.Rows.{text_in, data_in, master_of, serial_of, size_of, first_block_of, next_block_of}
use Rattle.layout.specs.Rows.{cash_of, lock1_of, lock2_of, sum_of}
use Rattle.layout.specs.View.{is_set, is_process, gather, messages, view}
use Rattle.layout.specs.Shape.{times, Blocks}
use Rattle.layout.specs.WellFormed.{Sized, Cells}
use Rattle.layout.proofs.Field.{within, at-is, field_out}
use Rattle.layout.proofs.Linking.{chain-high}
use Rattle.layout.proofs.Shown.{object-here, bytes-here, bytes-none, process-is}
use Rattle.layout.proofs.Shown.{lock-here, lock-none, cash-here, cash-none}
use Rattle.layout.proofs.Shown.{marks-here, marks-none, box-here, box-none}
use Rattle.layout.proofs.Frame.{state-is, house-same, day-same, object-same-at, bytes-same-at, lock-same-at, cash-same-at}
use Rattle.layout.proofs.Frame.{marks-same-at, box-same-at, cap-same, money-same}
use Rattle.call_steps.specs.Tests.{ObjectSlot}
use Rattle.call_blocks.specs.Taking.{free_head, cleared_bytes, taken_links, Enough}
use Rattle.call_blocks.proofs.Splitting.{Split}
use Rattle.call_blocks.proofs.Taken.{taken-first, taken-split, last-enough}
use Rattle.call_blocks.proofs.Shaping.{not_taken, block-high}
use Rattle.call_blocks.proofs.Cleared.{block-cleared, block-kept, clear-length, clear-row, clear-text, bytes-zero}
use Rattle.call_grow.specs.Made.{free_cap}
use Rattle.call_grow.proofs.Making.{OneSlot, one-slot}
use Rattle.call_make.specs.Runs.{record_bytes, record_words, object_links}
use Rattle.call_make.proofs.Rows.{bytes-long, bytes-row, bytes-region}
use Rattle.call_make.proofs.Rows.{volume-row, flag-row, suspended-row, waiting-row}
use Rattle.call_make.proofs.Rows.{terminated-row, count-row, words_row, words-head, cash-row, lock1-row, lock2-row}
use Rattle.call_make.proofs.Rows.{Recorded, recorded}
use Rattle.call_make.proofs.Ranged.{made_cells}

-- the rules' flag
flag_is : (flag : ℕ) → flag ≤ 1 → is_set flag ≡ eqb flag 1
unfolding is_set
flag_is flag h = by-eq flag 0 (λ z. rw z) (λ nz. let e : flag ≡ 1 = omega arith in rw e)

-- no message
no-messages : (n : ℕ) (len sum : ℕ → ℕ) (text : List ℕ) (i : ℕ) → n ≡ 0 → messages n len sum text i ≡ []
unfolding messages
no-messages n len sum text i z = rw z

-- the slices b', l' and w' show the object in slot o; its cells are in their ranges with the links of its master, too
pub record ObjectMade (b l w b' l' w' : List ℕ) (o : ℕ) (object : Object) : Type 0 where
  pub long : length b' ≡ Layout.BYTES
  pub shows : view b' l' w' ≡ new_object (view b l w) o object
  pub cells : (m : List ℕ) → OneSlot (master_of l) (master_of m) o (free_cap l) → Cells b l → Cells b' m

module _ (b l w : List ℕ) (Z : Sized b l w) (B : Blocks l) (o : ℕ) (S : ObjectSlot o) (dead : master_of l o ≡ 0)
    (some : free_cap l ≢ 0) (name : Name) (size flag : ℕ) (flag-fits : flag ≤ 1) (room : blocks size ≤ length B.free)
  where
    -- what the rules' object is
    abbrev object : Object
    object = record { live = true; name = name; size = size; process = eqb flag 1 }

    enough : Enough l (blocks size)
    enough = record { links = Z.links; chain = (B.free, B.free-chain, room) }

    abbrev l₁ : List ℕ
    l₁ = taken_links l o (blocks size)

    abbrev l' : List ℕ
    l' = object_links l o (blocks size) name.serial size (free_cap l)

    abbrev b₁ : List ℕ
    b₁ = cleared_bytes b l (blocks size)

    abbrev b' : List ℕ
    b' = record_bytes b₁ o name.volume flag

    abbrev w' : List ℕ
    w' = record_words w o

    D : Recorded l l₁ l' o name.serial size (free_cap l)
    D = recorded l o name.serial size (free_cap l) S (blocks size) enough

    abbrev C : Split (next_block_of l) (next_block_of l₁) (free_head l) (first_block_of l₁ o) (free_head l₁) (blocks size)
        B.free
    C = taken-split l Z.links o S.low S.high B (blocks size) room

    long : length b₁ ≡ Layout.BYTES
    long = clear-length b Z.bytes C

    -- ---- rows

    byte_at : (off v : ℕ) → off + 64 < Layout.DATA → field 64 off b' ≡ at (field 64 off b₁) o v
        → OneSlot (field 64 off b) (field 64 off b') o v
    byte_at off v h e = one-slot (e ∙ ap (λ f. at f o v) (clear-row b Z.bytes C 64 off h))

    volumes : OneSlot (volume_of b) (volume_of b') o name.volume
    volumes = byte_at Layout.VOLUME name.volume (omega arith) (volume-row b₁ o name.volume flag S long)

    flags : OneSlot (flag_of b) (flag_of b') o flag
    flags = byte_at Layout.FLAG flag (omega arith) (flag-row b₁ o name.volume flag S long)

    suspends : OneSlot (suspended_of b) (suspended_of b') o 1
    suspends = byte_at Layout.SUSPENDED 1 (omega arith) (suspended-row b₁ o name.volume flag S long)

    waits : OneSlot (waiting_of b) (waiting_of b') o 0
    waits = byte_at Layout.WAITING 0 (omega arith) (waiting-row b₁ o name.volume flag S long)

    terminates : OneSlot (terminated_of b) (terminated_of b') o 0
    terminates = byte_at Layout.TERMINATED 0 (omega arith) (terminated-row b₁ o name.volume flag S long)

    counts : OneSlot (count_of b) (count_of b') o 0
    counts = byte_at Layout.COUNT 0 (omega arith) (count-row b₁ o name.volume flag S long)

    lengths : length_of b' ≡ length_of b
    lengths = bytes-row b₁ o name.volume flag S 259 Layout.LENGTH refl
        ∙ clear-row b Z.bytes C 259 Layout.LENGTH (omega arith)

    texts : text_in b' ≡ text_in b
    texts = bytes-region b₁ o name.volume flag S 4160 Layout.TEXT refl ∙ clear-text b Z.bytes C

    stores : data_in b' ≡ data_in b₁
    stores = bytes-region b₁ o name.volume flag S 32832 Layout.DATA refl

    masters : OneSlot (master_of l) (master_of l') o (free_cap l)
    masters = one-slot D.master-is

    serials : OneSlot (serial_of l) (serial_of l') o name.serial
    serials = one-slot D.serial-is

    sizes : OneSlot (size_of l) (size_of l') o size
    sizes = one-slot D.size_is

    alive : master_of l' o ≢ 0
    alive z = some (sym masters.here ∙ z)

    -- ---- the object

    object-made : (view b' l' w').object o ≡ object
    object-made = object-here b' l' w' o alive
        ∙ (λ k. record {
          live = true;
          name = record { volume = volumes.here k; serial = serials.here k };
          size = sizes.here k;
          process = (ap is_set flags.here ∙ flag_is flag flag-fits) k;
        })

    objects : (view b' l' w').object ≡ at (view b l w).object o object
    objects = at-is (view b l w).object (view b' l' w').object o object object-made
        (λ q ne. object-same-at b l w b' l' w' q (masters.else q ne) (volumes.else q ne) (serials.else q ne)
        (sizes.else q ne) (flags.else q ne))

    process : is_process (master_of l') (flag_of b') o ≡ eqb flag 1
    process = sym (process-is b' l' w' o) ∙ ap (λ (x : Object). x.process) object-made

    -- ---- its bytes

    bytes-made : (view b' l' w').bytes o ≡ replicate size 0
    bytes-made = bytes-here b' l' w' o alive
        ∙ (λ k. take (sizes.here k)
        (gather (blocks (sizes.here k)) (D.next-block-is k) (stores k) (D.first-block-is k o)))
        ∙ bytes-zero (next_block_of l₁) (data_in b₁) size (first_block_of l₁ o) C.front C.front-chain C.size
        (λ k p. block-cleared b Z.bytes C k
        (chain-high 512 (next_block_of l₁) (first_block_of l₁ o) C.front k C.front-chain p) p)

    bytes-in : (q : ℕ) → 1 ≤ q → q ≤ 64 → q ≢ o → (view b' l' w').bytes q ≡ (view b l w).bytes q
    bytes-in q p r ne =
        let out : (k : ℕ) → 1 ≤ times k (B.chain q) → times k C.front ≡ 0 =
        not_taken l Z.links o S.low S.high B dead (blocks size) room q p r in
        bytes-same-at b l w b' l' w' q (B.chain q) (B.chains q p r) (masters.else q ne) (sizes.else q ne)
        ((λ k. D.first-block-is k q)
        ∙ taken-first l Z.links o S.low S.high (blocks size)
        (last-enough l Z.links o S.low S.high (blocks size) enough) q ne)
        (λ k h. (λ j. D.next-block-is j k) ∙ C.other k (out k h))
        (λ k h. ap (λ y. take 64 (drop (k * 64) y)) stores
        ∙ block-kept b Z.bytes C k (block-high l B q p r k h) (out k h))

    bytes-else : (q : ℕ) → q ≢ o → (view b' l' w').bytes q ≡ (view b l w).bytes q
    bytes-else q ne = within 64 q ((view b' l' w').bytes q ≡ (view b l w).bytes q)
        (λ p r. bytes-in q p r ne)
        (λ out. bytes-none b' l' w' q (field_out 64 Layout.MASTER l' q out)
        ∙ sym (bytes-none b l w q (field_out 64 Layout.MASTER l q out)))

    -- ---- a process

    locks : (view b' l' w').lock ≡ at (view b l w).lock o no_lockword
    unfolding no_lockword
    locks =
        let x : OneSlot (lock1_of w) (lock1_of w') o 0 = one-slot (lock1-row w o S Z.words) in
        let y : OneSlot (lock2_of w) (lock2_of w') o 0 = one-slot (lock2-row w o S Z.words) in
        at-is (view b l w).lock (view b' l' w').lock o no_lockword
        (by_bool (is_process (master_of l') (flag_of b') o)
        (λ h. lock-here b' l' w' o h ∙ (λ k. record { first = x.here k; second = y.here k }))
        (λ h. lock-none b' l' w' o h))
        (λ q ne. lock-same-at b l w b' l' w' q (masters.else q ne) (flags.else q ne) (x.else q ne) (y.else q ne))

    amounts : (view b' l' w').cash ≡ at (view b l w).cash o 0
    amounts =
        let x : OneSlot (cash_of w) (cash_of w') o 0 = one-slot (cash-row w o S Z.words) in
        at-is (view b l w).cash (view b' l' w').cash o 0
        (by_bool (is_process (master_of l') (flag_of b') o)
        (λ h. cash-here b' l' w' o h ∙ x.here)
        (λ h. cash-none b' l' w' o h))
        (λ q ne. cash-same-at b l w b' l' w' q (masters.else q ne) (flags.else q ne) (x.else q ne))

    -- suspended, not waiting, not terminated
    abbrev fresh : Bool → Marks
    fresh p = record { suspended = p; waiting = false; terminated = false }

    marked : (view b' l' w').marks ≡ at (view b l w).marks o (fresh (eqb flag 1))
    unfolding is_set no_marks
    marked = at-is (view b l w).marks (view b' l' w').marks o (fresh (eqb flag 1))
        (by_bool (is_process (master_of l') (flag_of b') o)
        (λ h. marks-here b' l' w' o h
        ∙ (λ k. record {
          suspended = is_set (suspends.here k);
          waiting = is_set (waits.here k);
          terminated = is_set (terminates.here k);
        })
        ∙ ap fresh (sym h ∙ process))
        (λ h. marks-none b' l' w' o h ∙ ap fresh (sym h ∙ process)))
        (λ q ne. marks-same-at b l w b' l' w' q (masters.else q ne) (flags.else q ne) (suspends.else q ne)
        (waits.else q ne) (terminates.else q ne))

    boxes : (view b' l' w').box ≡ at (view b l w).box o []
    boxes = at-is (view b l w).box (view b' l' w').box o []
        (by_bool (is_process (master_of l') (flag_of b') o)
        (λ h. box-here b' l' w' o h
        ∙ no-messages (count_of b' o) (length_of b') (sum_of w') (text_in b') (o * 4) counts.here)
        (λ h. box-none b' l' w' o h))
        (λ q ne. box-same-at b l w b' l' w' q (masters.else q ne) (flags.else q ne) (counts.else q ne)
        (λ j _ _. (λ k. lengths k j)) (λ j _ _. (λ k. words_row w o S 259 Layout.SUM refl k j))
        (λ j _ _. ap (λ t. take (length_of b j) (drop (j * 16) t)) texts))

    -- ---- the state

    object-shows : view b' l' w' ≡ new_object (view b l w) o object
    unfolding new_object
    object-shows = state-is (view b' l' w') (new_object (view b l w) o object)
        (house-same b l w b' l' w' (words-head w o S Layout.HOUSE refl))
        (day-same b l w b' l' w' D.day-same)
        objects
        (at-is (view b l w).bytes (view b' l' w').bytes o (replicate size 0) bytes-made bytes-else)
        locks
        amounts
        marked
        boxes
        (cap-same b l w b' l' w' D.owner-same D.parent-same (words_row w o S 512 Layout.P1 refl)
        (words_row w o S 512 Layout.P2 refl) (words_row w o S 512 Layout.START refl)
        (words_row w o S 512 Layout.END refl) D.rights-same D.last-day-same)
        (money-same b l w b' l' w' D.owner-same (words_row w o S 512 Layout.MONEY refl))

    pub object-made-is : ObjectMade b l w b' l' w' o object
    object-made-is = record {
      long = bytes-long b₁ o name.volume flag S ∙ long;
      shows = object-shows;
      cells = λ m M K. made_cells b l b' m o (free_cap l) flag K flag-fits M flags suspends waits terminates counts
          lengths;
    }
