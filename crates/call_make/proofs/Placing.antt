-- The steps of the code, put together: the blocks, the record and the master of a new object, and the reply.
use Prim.Native.Nat.{ℕ, zero, suc}
use Rattle.std.specs.Prelude.{is_some}
use mathlib.Core.Path.{◌≡◌, refl, sym, ap, ◌∙◌, subst}
use mathlib.Core.Logic.{◌≢◌}
use mathlib.Core.Bool.{true, false, false≢true, true≢false}
use mathlib.Core.List.{List}
use native.Mathlib.Omega.{arith}
use lib.ListN.{length}
use Rattle.rules.specs.Code as Code
use Rattle.rules.specs.Store.{Name, Password, Cap, blocks, object_named}
use Rattle.rules.specs.Call.{hands_back}
use Rattle.layout.specs.View.{view}
use Rattle.call_steps.specs.Refuses.{Refuses}
use Rattle.call_steps.specs.Replies.{Gives, Replies}
use Rattle.call_steps.specs.Request.{Reply}
use Rattle.call_steps.specs.Tests.{slot_found}
use Rattle.call_steps.proofs.Replying.{replies-stopped, replies-done}
use Rattle.call_blocks.specs.Taking.{cleared_bytes, taken_links, Enough}
use Rattle.call_blocks.proofs.Taken.{enough-of}
use Rattle.call_grow.specs.Made.{free_cap, new_links, new_words, Makes}
use Rattle.call_grow.specs.Made as Grow
use Rattle.call_make.specs.Runs.{free_object, no_space, make_stop}
use Rattle.call_make.specs.Runs.{record_bytes, record_links, master_cap, made_bytes, object_links}
use Rattle.call_make.specs.Runs.{made_links, made_words, made, make_run, HoldAsks, TakesBlocks, Records}
use Rattle.call_make.specs.Runs.{PlaceAsks, Places, MakeAsks}
use Rattle.call_make.proofs.Rows.{words_long, recorded}
use Rattle.call_make.proofs.Stops.{space-is, stop-name, stop-space, stop-none}

-- ---- the name

pub some-named : (n : ℕ) → is_some (slot_found n) ≡ true → n ≢ 0
some-named zero e = absurd (false≢true e)
some-named (suc n) e = omega arith

pub none-named : (n : ℕ) → is_some (slot_found n) ≡ false → n ≡ 0
none-named zero e = refl
none-named (suc n) e = absurd (true≢false e)

-- ---- the blocks

pub hold-enough : {b l : List ℕ} {o size : ℕ} → HoldAsks b l o size → (n : ℕ) → n ≡ blocks size → Enough l n
hold-enough {b} {l} a n e = subst (Enough l) (sym e) a.enough

pub holds-is : (b l : List ℕ) (o size n : ℕ) → n ≡ blocks size → (b' l' : List ℕ) → b' ≡ cleared_bytes b l n
    → l' ≡ taken_links l o n → TakesBlocks b l o size b' l'
holds-is b l o size n e b' l' p q = record {
  bytes = p ∙ ap (cleared_bytes b l) e;
  links = q ∙ ap (taken_links l o) e;
}

-- ---- the record, and the master

module _ {b l w : List ℕ} {o : ℕ} {name : Name} {size flag rights : ℕ} (a : PlaceAsks b l w o name size flag rights)
    {b₁ l₁ : List ℕ} (H : TakesBlocks b l o size b₁ l₁)
    {b₂ l₂ w₂ : List ℕ} (R : Records b₁ l₁ w o name size flag (free_cap l) b₂ l₂ w₂) where
  links-are : l₂ ≡ object_links l o (blocks size) name.serial size (free_cap l)
  unfolding object_links
  links-are = R.links ∙ ap (λ x. record_links x o name.serial size (free_cap l)) H.links

  pub cap-asks : Grow.MakeAsks l₂ w₂
  cap-asks =
      let D = recorded l o name.serial size (free_cap l) a.slot (blocks size) a.enough in
      let head : free_cap l₂ ≡ free_cap l = ap free_cap links-are ∙ D.free-caps-head in
      record {
        links = ap length links-are ∙ D.long ∙ a.sized.links;
        words = ap length R.words ∙ words_long w o a.slot ∙ a.sized.words;
        low = rw head a.cap.low;
        high = rw head a.cap.high;
      }

  pub places_is : {x : Cap} {next r : ℕ} {drawn : Password} {l₃ w₃ : List ℕ} → x ≡ master_cap o size rights drawn
      → next ≡ 0 → Makes l₂ w₂ x next 0 r l₃ w₃ → Places b l w o name size flag rights drawn b₂ l₃ w₃
  unfolding made_bytes made_links made_words
  places_is {x} {next} {r} {drawn} {l₃} {w₃} e z M =
      let D = recorded l o name.serial size (free_cap l) a.slot (blocks size) a.enough in
      let head : free_cap l₂ ≡ free_cap l = ap free_cap links-are ∙ D.free-caps-head in
      record {
        bytes = R.bytes ∙ ap (λ y. record_bytes y o name.volume flag) H.bytes;
        links = M.links ∙ (λ k. new_links (links-are k) (head k) (e k) (z k));
        words = M.words ∙ (λ k. new_words (R.words k) (head k) (e k) 0);
      }

-- ---- the call

module _ {b l w : List ℕ} {name : Name} {size flag rights : ℕ} (a : MakeAsks b l w name size flag rights) where
  pub place-asks : (o : ℕ) → o ≡ free_object l → no_space l (blocks size) ≡ false
      → PlaceAsks b l w o name size flag rights
  place-asks o e h =
      let s = space-is l (blocks size) h in
      record {
        sized = a.sized;
        slot = rw e (record { low = omega (arith, s.object); high = a.object-high });
        cap = record { low = omega (arith, s.cap); high = a.cap-high };
        enough = enough-of (blocks size) a.free s.few;
        arguments = a.arguments;
      }

  refused-is : (drawn : Password) {r : Reply} (n : ℕ) → n ≢ 0 → make_stop b l w name size ≡ n → Refuses n r
      → Replies r b l w (make_run b l w name size flag rights drawn)
  unfolding make_run
  refused-is drawn n nz e R = replies-stopped _ n e nz R

  pub name-refused : (drawn : Password) {r : Reply} → object_named (view b l w) name ≢ 0 → Refuses Code.taken r
      → Replies r b l w (make_run b l w name size flag rights drawn)
  name-refused drawn h R = refused-is drawn Code.taken (omega arith) (stop-name b l w name size h) R

  pub space-refused : (drawn : Password) {r : Reply} → object_named (view b l w) name ≡ 0
      → no_space l (blocks size) ≡ true → Refuses Code.no_space r
      → Replies r b l w (make_run b l w name size flag rights drawn)
  space-refused drawn z h R = refused-is drawn Code.no_space (omega arith) (stop-space b l w name size z h) R

  pub made-is : {drawn : Password} {r : Reply} (o : ℕ) → o ≡ free_object l → object_named (view b l w) name ≡ 0
      → no_space l (blocks size) ≡ false → {b' l' w' : List ℕ}
      → Places b l w o name size flag rights drawn b' l' w' → Gives (hands_back name drawn) r
      → Replies r b' l' w' (make_run b l w name size flag rights drawn)
  unfolding make_run made master_cap
  made-is {drawn} {r} o e z h {b'} {l'} {w'} P R =
      replies-done b l w _ (stop-none b l w name size z h) (record {
        none = R.none;
        answer = R.answer (view b l w);
        bytes = P.bytes ∙ ap (λ i. made_bytes b l i (blocks size) name.volume flag) e;
        links = P.links ∙ ap (λ i. made_links l i (blocks size) name.serial size (master_cap i size rights drawn)) e;
        words = P.words ∙ ap (λ i. made_words l w i (master_cap i size rights drawn)) e;
      })
