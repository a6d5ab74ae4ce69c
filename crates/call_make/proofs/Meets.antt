-- make_obj's run is what the rules give of its own part: 01, "make_obj" of "What each call refuses, in order"; and what
-- its code asks follows from well-formedness and the ranges of the arguments.
use Prim.Native.Nat.{ℕ, ◌≤◌}
use mathlib.Core.Path.{◌≡◌, refl, sym, ap, ◌∙◌, subst}
use mathlib.Core.Bool.{true, false, not, ◌&&◌, ◌||◌}
use mathlib.Core.List.{List, [], ◌∷◌}
use native.Mathlib.Omega.{arith}
use lib.Dec.{eqb, leb, ltb}
use lib.ListN.{length}
use borrow.Author.Tests.{leb-true}
use Rattle.rules.specs.Store.{Cap, Object, State, blocks, object_named, objects_live, caps_live, free_blocks}
use Rattle.rules.specs.Rights.{make_obj, op, asked, presents}
use Rattle.rules.specs.Call.{Call, Choice, hands_back}
use Rattle.rules.specs.Refusals.{◌when◌, first, name_fits, arguments_fit, in_range}
use Rattle.rules.specs.Changes.{new_cap, new_object}
use Rattle.rules.specs.Calls.{make_obj_refuses, made_object, made_master, make_obj_does, refuses, does}
use Rattle.rules.specs.Demand.{FreeObject, FreeCap, Open}
use Rattle.rules.proofs.Tests.{by_bool, by-eq, all2, all3}
use Rattle.layout.specs.Layout as Layout
use Rattle.layout.specs.Rows.{master_of}
use Rattle.layout.specs.View.{view}
use Rattle.layout.specs.WellFormed.{WellFormed}
use Rattle.layout.proofs.Free.{objects-full, object-first, object-open}
use Rattle.layout.proofs.FreeCaps.{FirstFree, first-free, caps-full, first-open}
use Rattle.call_steps.specs.Run.{Meets, Ran, outcome, over}
use Rattle.call_steps.specs.Tests.{ObjectSlot}
use Rattle.call_steps.proofs.Meeting.{stopped, goes_on, Takes, meets-taken}
use Rattle.call_steps.proofs.Replying.{hands-back-is}
use Rattle.call_blocks.proofs.Taken.{few-is, few-enough}
use Rattle.call_grow.specs.Made.{free_cap}
use Rattle.call_grow.proofs.Making.{made-words}
use Rattle.call_grow.proofs.Showing.{new-shows}
use Rattle.call_make.specs.Runs.{free_object, no_space, make_stop, master_cap, made_bytes, object_links, record_words}
use Rattle.call_make.specs.Runs.{made_links, made_words, made, make_run, WereFree, NewWereFree, Arguments, MakeAsks}
use Rattle.call_make.proofs.Rows.{words_long}
use Rattle.call_make.proofs.Stops.{Space, space-is}
use Rattle.call_make.proofs.Showing.{ObjectMade, object-made-is}
use Rattle.call_make.proofs.Shapes.{LinksMade, links-made}

-- a call that is make_obj takes both slots
open_made : (s : State) (c : Call) (h : Choice) → op c.number ≡ make_obj → FreeObject s h.object
    → FreeCap s h.cap → Open s c h
unfolding asked
open_made s c h e F G = record {
  object = λ _. F;
  made = λ _. G;
  derived = λ q. absurd (omega (arith, ap asked (sym e ∙ q)));
  renamed = λ q. absurd (omega (arith, ap asked (sym e ∙ q)));
}

module _ {b l w : List ℕ} (f : WellFormed b l w) (c : Call) (me k : ℕ)
    (A : Arguments c.name c.size c.flag c.rights) where
  abbrev s : State
  s = view b l w

  abbrev o : ℕ
  o = free_object l

  abbrev i : ℕ
  i = free_cap l

  abbrev n : ℕ
  n = blocks c.size

  abbrev x : Cap
  x = master_cap o c.size c.rights c.drawn

  abbrev taking : Choice
  taking = record { object = o; cap = i }

  -- ---- the refusals

  space-same : no_space l n ≡ (leb 64 (objects_live s) || leb 512 (caps_live s) || ltb (free_blocks s) n)
  unfolding no_space
  space-same =
      let p = sym (objects-full b l w f.shape.objects) in
      let q = caps-full b l w f.shape.caps in
      let r = few-is b l w f.shape.blocks n in
      λ t. p t || q t || r t

  stop_is : make_stop b l w c.name c.size ≡ first (refuses s c me k make_obj)
  unfolding make_stop refuses make_obj_refuses
  stop_is = ap (λ t. first (12 when not (eqb (object_named s c.name) 0) ∷ 13 when t ∷ [])) space-same

  spacious : make_stop b l w c.name c.size ≡ 0 → no_space l n ≡ false
  unfolding make_stop first ◌when◌
  spacious z = by_bool (eqb (object_named s c.name) 0)
      (λ u. by_bool (no_space l n) (λ t. absurd (let q : 13 ≡ 0 = rw (u, t) at z in omega (arith, q))) (λ t. t))
      (λ u. absurd (let q : 12 ≡ 0 = rw u at z in omega (arith, q)))

  -- ---- what it does

  module _ (P : Space l n) where
    F : FirstFree l f.shape.caps i
    F = first-free l f.shape.caps P.cap

    free : FreeObject s o
    free = object-open b l w f.shape.objects P.object

    slot : ObjectSlot o
    unfolding FreeObject
    slot = record { low = free.0; high = free.1 }

    dead : master_of l o ≡ 0
    dead = object-first b l w f.shape.objects P.object

    room : n ≤ length f.shape.blocks.free
    room = few-enough l f.shape.blocks n P.few

    abbrev b' : List ℕ
    b' = made_bytes b l o n c.name.volume c.flag

    abbrev l' : List ℕ
    l' = made_links l o n c.name.serial c.size x

    abbrev w' : List ℕ
    w' = made_words l w o x

    x-object : x.object ≡ o
    unfolding master_cap
    x-object = refl

    x-parent : x.parent ≡ 0
    unfolding master_cap
    x-parent = refl

    abbrev made-object : Object
    made-object = record { live = true; name = c.name; size = c.size; process = eqb c.flag 1 }

    L : LinksMade l (object_links l o n c.name.serial c.size i) l' o i
    unfolding made_links
    L = links-made l f.sized.links f.shape slot dead P.cap c.name.serial c.size room x x-object
        x-parent

    O : ObjectMade b l w b' (object_links l o n c.name.serial c.size i) (record_words w o) o made-object
    unfolding made_bytes
    O = object-made-is b l w f.sized f.shape.blocks o slot dead P.cap c.name c.size c.flag
        A.flag-fits room

    words : length (record_words w o) ≡ Layout.WORDS
    words = words_long w o slot ∙ f.sized.words

    shows : view b' l' w' ≡ new_cap (new_object s o made-object) i x 0
    unfolding made_links made_words
    shows =
        new-shows b' (object_links l o n c.name.serial c.size i) (record_words w o) i x 0 0 L.object-long words
        F.low F.high (λ z. omega (arith, slot.low, x-object, z))
        ∙ ap (λ r. new_cap r i x 0) O.shows

    rules-is : does s c me k taking make_obj ≡ outcome (made b l w o c.name c.size c.flag x)
    unfolding does make_obj_does made_object made_master made master_cap
    rules-is =
        hands-back-is c.name c.drawn (new_cap (new_object s o made-object) i x 0) s
        ∙ ap (λ r. record { answer = (hands_back c.name c.drawn s).answer; after = r }) (sym shows)

    takes : op c.number ≡ make_obj
        → Takes s c me k make_obj taking (made b l w o c.name c.size c.flag x)
    unfolding made made_words FreeCap
    takes e = record {
      free = open_made s c taking e free (F.low, F.high, first-open b l w f.shape.caps F);
      rules = rules-is;
      sized = record {
        bytes = O.long;
        links = L.long;
        words = (made-words (record_words w o) i x 0 words F.low F.high).long ∙ words;
      };
      cells = O.cells l' L.master f.cells;
      links = L.shape;
    }

  pub make_meets : op c.number ≡ make_obj
      → Meets s c me k make_obj (make_run b l w c.name c.size c.flag c.rights c.drawn)
  unfolding make_run
  make_meets e = meets-taken b l w c me k make_obj taking f (make_stop b l w c.name c.size)
      (made b l w o c.name c.size c.flag x) stop_is
      (λ z. takes (space-is l n (spacious z)) e)

  -- ---- the blocks that it takes were free

  new-free : Space l n → NewWereFree l (made b l w o c.name c.size c.flag x).links
  unfolding made
  new-free P q z nz = by-eq q o
      (λ e. subst (WereFree l (l' P)) (sym e) (L P).free)
      (λ ne. absurd (nz ((L P).master.else q ne ∙ z)))

  pub make-free : NewWereFree l (make_run b l w c.name c.size c.flag c.rights c.drawn).links
  unfolding make_run over
  make-free =
      let m : ℕ = make_stop b l w c.name c.size in
      let run : Ran = made b l w o c.name c.size c.flag x in
      let Free : Ran → Type 0 = λ r. NewWereFree l r.links in
      by-eq m 0
      (λ z. subst Free (goes_on b l w run z) (new-free (space-is l n (spacious z))))
      (λ ne. subst Free (stopped b l w run m refl ne) (λ q z nz. absurd (nz z)))

-- ---- what the code asks

-- the ranges of its arguments, of a call that 2 does not refuse
pub arguments-of : (c : Call) → op c.number ≡ make_obj → in_range c ≡ true
    → Arguments c.name c.size c.flag c.rights
unfolding in_range arguments_fit name_fits
arguments-of c e h =
    let a = (all3 (name_fits c.caller) (not (presents (op c.number)) || name_fits c.presented.name)
    (arguments_fit (op c.number) c) h).2 in
    let d : arguments_fit make_obj c ≡ true = sym (ap (λ x. arguments_fit x c) e) ∙ a in
    let g = all2 (name_fits c.name && leb c.size 8192 && leb c.flag 1) (leb c.rights 8191) d in
    let m = all3 (name_fits c.name) (leb c.size 8192) (leb c.flag 1) g.0 in
    let v = all2 (leb c.name.volume 3) (leb c.name.serial 65535) m.0 in
    record {
      volume = leb-true c.name.volume 3 v.0;
      serial = leb-true c.name.serial 65535 v.1;
      size_fits = leb-true c.size 8192 m.1;
      flag-fits = leb-true c.flag 1 m.2;
      rights-fit = leb-true c.rights 8191 g.1;
    }

pub make-asks : {b l w : List ℕ} → WellFormed b l w → (c : Call) → op c.number ≡ make_obj → in_range c ≡ true
    → MakeAsks b l w c.name c.size c.flag c.rights
unfolding FreeObject
make-asks {b} {l} {w} f c e h = record {
  sized = f.sized;
  object-high = by-eq (free_object l) 0 (λ z. omega arith)
      (λ nz. (object-open b l w f.shape.objects nz).1);
  cap-high = by-eq (free_cap l) 0 (λ z. omega arith) (λ nz. (first-free l f.shape.caps nz).high);
  free = record { links = f.sized.links; chain = (f.shape.blocks.free, f.shape.blocks.free-chain) };
  arguments = arguments-of c e h;
}
