-- From a run to `Meets`: the same refusal is met first in the rules and in the cells, and where none is, what the call
-- does is what its stores mean. `meets-taken` is of the calls that take free slots, `meets-done` of delete_cap, which
-- takes none, `plain_done` and `plain-settled` of those that write no link.
use Prim.Native.Nat.{ℕ}
use mathlib.Core.Path.{◌≡◌, refl, sym, ap, ◌∙◌, subst}
use mathlib.Core.Logic.{◌≢◌}
use mathlib.Core.Bool.{Bool, true, false, true≢false}
use mathlib.Core.List.{List}
use lib.Dec.{eqb}
use borrow.Author.Tests.{eq-eqb, ne_eqb}
use Rattle.rules.specs.Store.{State}
use Rattle.rules.specs.Rights.{Op, make_obj, read, write, cap_info, derive_cap, delete_cap, rename_obj, withdraw, op}
use Rattle.rules.specs.Rights.{deposit, suspend, resume, apply_lock, send, receive, wait, revive, unknown}
use Rattle.rules.specs.Call.{Call, Outcome, Choice, code}
use Rattle.rules.specs.Refusals.{first}
use Rattle.rules.specs.Calls.{refuses, does}
use Rattle.rules.specs.Demand.{Open}
use Rattle.rules.proofs.Tests.{by-eq, pick_yes, pick-not}
use Rattle.layout.specs.View.{view}
use Rattle.layout.specs.Shape.{Shape}
use Rattle.layout.specs.WellFormed.{Sized, Cells, WellFormed, Plain}
use Rattle.call_steps.specs.Run.{Ran, over, settled, outcome, own, MeetsWith, Meets, MeetsPlain}

-- ---- a settled run

module _ (b l w : List ℕ) (x : Ran) {n : ℕ} where
  pub stopped : (m : ℕ) → n ≡ m → m ≢ 0 → over m b l w ≡ settled n b l w x
  unfolding settled
  stopped m e ne =
      ap (λ i. over i b l w) (sym e) ∙ sym (pick-not (eqb n 0) x (over n b l w) (ne_eqb n 0 (λ z. ne (sym e ∙ z))))

  pub goes_on : n ≡ 0 → x ≡ settled n b l w x
  unfolding settled
  goes_on z = sym (pick_yes (eqb n 0) x (over n b l w) (eq-eqb n 0 z))

-- ---- no slot taken

abbrev pub none : Choice
none = record { object = 0; cap = 0 }

-- the call takes a free slot
unfoldable pub takes : Op → Bool
takes make_obj = true
takes read = false
takes write = false
takes cap_info = false
takes derive_cap = true
takes delete_cap = false
takes rename_obj = true
takes withdraw = false
takes deposit = false
takes suspend = false
takes resume = false
takes apply_lock = false
takes send = false
takes receive = false
takes wait = false
takes revive = false
takes unknown = false

pub open_none : (s : State) (c : Call) → takes (op c.number) ≡ false → Open s c none
unfolding takes
open_none s c h =
    let never : (o : Op) → takes o ≡ true → op c.number ≡ o → ⊥ =
    λ o t e. true≢false (sym t ∙ sym (ap takes e) ∙ h) in
    record {
      object = λ e. absurd (never make_obj refl e);
      made = λ e. absurd (never make_obj refl e);
      derived = λ e. absurd (never derive_cap refl e);
      renamed = λ e. absurd (never rename_obj refl e);
    }

-- ---- with free slots h taken

abbrev refusal : State → ℕ → Outcome
refusal s n = record { answer = code n; after = s }

-- what call o does with the free slots h is the run x, whose lengths and cells are those of a well-formed store, and P
-- holds of its links
pub record TakesWith (P : List ℕ → Type 0) (s : State) (c : Call) (me k : ℕ) (o : Op) (h : Choice) (x : Ran) : Type 0
  where
    pub free : Open s c h
    pub rules : does s c me k h o ≡ outcome x
    pub sized : Sized x.bytes x.links x.words
    pub cells : Cells x.bytes x.links
    pub links : P x.links

abbrev pub Takes : State → Call → ℕ → ℕ → Op → Choice → Ran → Type 0
Takes s c me k o h x = TakesWith Shape s c me k o h x

module _ (P : List ℕ → Type 0) (b l w : List ℕ) (c : Call) (me k : ℕ) (o : Op) (h : Choice) where
  taken-done : {x : Ran} → first (refuses (view b l w) c me k o) ≡ 0 → TakesWith P (view b l w) c me k o h x
      → MeetsWith P (view b l w) c me k o x
  unfolding own
  taken-done {x} z d = record {
    choice = h;
    free = λ e. d.free;
    rules = pick_yes (eqb (first (refuses (view b l w) c me k o)) 0) _ _ (eq-eqb _ 0 z) ∙ d.rules;
    sized = d.sized;
    cells = d.cells;
    links = d.links;
  }

  module _ (sized : Sized b l w) (cells : Cells b l) (links : P l) where
    taken-stopped : (n : ℕ) → n ≡ first (refuses (view b l w) c me k o) → n ≢ 0
        → MeetsWith P (view b l w) c me k o (over n b l w)
    unfolding own over code
    taken-stopped n e nz = record {
      choice = h;
      free = λ z. absurd (nz z);
      rules = pick-not (eqb (first (refuses (view b l w) c me k o)) 0) _ _ (ne_eqb _ 0 (λ z. nz (e ∙ z)))
          ∙ ap (refusal (view b l w)) (sym e);
      sized = sized;
      cells = cells;
      links = links;
    }

    taken-settled : (n : ℕ) (x : Ran) → n ≡ first (refuses (view b l w) c me k o)
        → (n ≡ 0 → TakesWith P (view b l w) c me k o h x) → MeetsWith P (view b l w) c me k o (settled n b l w x)
    taken-settled n x e d = by-eq n 0
        (λ z. subst (MeetsWith P (view b l w) c me k o) (goes_on b l w x z) (taken-done (sym e ∙ z) (d z)))
        (λ nz. subst (MeetsWith P (view b l w) c me k o) (stopped b l w x n refl nz) (taken-stopped n e nz))

pub meets-taken : (b l w : List ℕ) (c : Call) (me k : ℕ) (o : Op) (h : Choice) → WellFormed b l w
    → (n : ℕ) (x : Ran) → n ≡ first (refuses (view b l w) c me k o)
    → (n ≡ 0 → Takes (view b l w) c me k o h x) → Meets (view b l w) c me k o (settled n b l w x)
meets-taken b l w c me k o h f = taken-settled Shape b l w c me k o h f.sized f.cells f.shape

-- ---- with none

-- what call o does is the run x, whose lengths and cells are those of a well-formed store, and P holds of its links
pub record DoesWith (P : List ℕ → Type 0) (s : State) (c : Call) (me k : ℕ) (o : Op) (x : Ran) : Type 0 where
  pub rules : does s c me k none o ≡ outcome x
  pub sized : Sized x.bytes x.links x.words
  pub cells : Cells x.bytes x.links
  pub links : P x.links

abbrev pub Does : State → Call → ℕ → ℕ → Op → Ran → Type 0
Does s c me k o x = DoesWith Shape s c me k o x

-- the links stay l
abbrev pub DoesPlain : List ℕ → State → Call → ℕ → ℕ → Op → Ran → Type 0
DoesPlain l s c me k o x = DoesWith (λ (m : List ℕ). m ≡ l) s c me k o x

module _ (b l w : List ℕ) (c : Call) (me k : ℕ) (o : Op) (free : takes (op c.number) ≡ false) where
  takes_none : (P : List ℕ → Type 0) {x : Ran} → DoesWith P (view b l w) c me k o x
      → TakesWith P (view b l w) c me k o none x
  takes_none P d = record {
    free = open_none (view b l w) c free;
    rules = d.rules;
    sized = d.sized;
    cells = d.cells;
    links = d.links;
  }

  pub meets-done : {x : Ran} → first (refuses (view b l w) c me k o) ≡ 0 → Does (view b l w) c me k o x
      → Meets (view b l w) c me k o x
  meets-done z d = taken-done Shape b l w c me k o none z (takes_none Shape d)

  abbrev Stay : List ℕ → Type 0
  Stay m = m ≡ l

  pub plain_done : {x : Ran} → first (refuses (view b l w) c me k o) ≡ 0 → DoesPlain l (view b l w) c me k o x
      → MeetsPlain l (view b l w) c me k o x
  plain_done z d = taken-done Stay b l w c me k o none z (takes_none Stay d)

  pub plain-settled : Plain b l w → (n : ℕ) (x : Ran) → n ≡ first (refuses (view b l w) c me k o)
      → (n ≡ 0 → DoesPlain l (view b l w) c me k o x) → MeetsPlain l (view b l w) c me k o (settled n b l w x)
  plain-settled f n x e d =
      taken-settled Stay b l w c me k o none f.sized f.cells refl n x e (λ z. takes_none Stay (d z))
