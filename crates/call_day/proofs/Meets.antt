-- The run of call 17 is what the rules give: the cell of the day is in no row, and no link.
use Prim.Native.Nat.{ℕ, ◌+◌, ◌<◌}
use mathlib.Core.Path.{◌≡◌, refl, sym, ap, ◌∙◌, subst}
use mathlib.Core.List.{List}
use native.Mathlib.Omega.{arith}
use lib.Dec.{lit<}
use lib.ListN.{length, get_or, set, length-set}
use lib.Seq.{get_or-set_other, get_or-set_same}
use Rattle.rules.specs.Limit as Limit
use Rattle.rules.specs.Code as Code
use Rattle.rules.specs.Store.{State}
use Rattle.rules.specs.Rights.{day_number}
use Rattle.rules.specs.Call.{Call, code, done}
use Rattle.rules.specs.Refusals.{first}
use Rattle.rules.specs.Update.{with_day}
use Rattle.rules.specs.Rule.{day_refuses}
use Rattle.rules.specs.Demand.{Words}
use Rattle.rules.proofs.Tests.{by-eq}
use Rattle.rules.proofs.Outcomes.{rule-host, host-open, day-refused, day-done}
use Rattle.layout.specs.Layout as Layout
use Rattle.layout.specs.Rows.{field, master_of, size_of, first_block_of, next_block_of, owner_of, parent_of}
use Rattle.layout.specs.View.{view}
use Rattle.layout.specs.Shape.{Shape}
use Rattle.layout.specs.WellFormed.{WellFormed}
use Rattle.layout.proofs.Field.{field-other}
use Rattle.layout.proofs.Frame.{state-is, object-same, bytes_same, lock-same, cash-same, marks-same, box-same, cap-same, money-same}
use Rattle.layout.proofs.Kept.{objects-kept, caps-kept, blocks-kept, cells-kept}
use Rattle.call_steps.specs.Run.{over}
use Rattle.call_steps.proofs.Meeting.{none, stopped, goes_on}
use Rattle.call_enter.proofs.Meeting.{MeetsRule, met-rule}
use Rattle.call_day.specs.Runs.{day_run}

-- ---- the day stored

module _ (b l w : List ℕ) (day : ℕ) where
  abbrev l' : List ℕ
  l' = set l Layout.DAY day

  -- every row ends before the cell of the day
  row : (n off : ℕ) → off + n < Layout.DAY → field n off (set l Layout.DAY day) ≡ field n off l
  row n off h = field-other n off l Layout.DAY day (λ i p q e. omega arith)

  head : (h : ℕ) → h < Layout.DAY → get_or (set l Layout.DAY day) h 0 ≡ get_or l h 0
  head h low = get_or-set_other l Layout.DAY h day 0 (λ e. omega arith)

  masters : master_of (set l Layout.DAY day) ≡ master_of l
  masters = row Limit.objects Layout.MASTER (lit< tt)

  sizes : size_of (set l Layout.DAY day) ≡ size_of l
  sizes = row Limit.objects Layout.SIZE (lit< tt)

  firsts : first_block_of (set l Layout.DAY day) ≡ first_block_of l
  firsts = row Limit.objects Layout.FIRST_BLOCK (lit< tt)

  nexts : next_block_of (set l Layout.DAY day) ≡ next_block_of l
  nexts = row Limit.blocks Layout.NEXT_BLOCK (lit< tt)

  owners : owner_of (set l Layout.DAY day) ≡ owner_of l
  owners = row Limit.caps Layout.OWNER (lit< tt)

  parents : parent_of (set l Layout.DAY day) ≡ parent_of l
  parents = row Limit.caps Layout.PARENT (lit< tt)

  day-view : length l ≡ Layout.LINKS → view b (set l Layout.DAY day) w ≡ with_day (view b l w) day
  unfolding with_day view
  day-view long = state-is (view b l' w) (with_day (view b l w) day)
      refl
      (get_or-set_same l Layout.DAY day 0 (omega (arith, long)))
      (object-same b l w b l' w masters refl (row Limit.objects Layout.SERIAL (lit< tt)) sizes refl)
      (bytes_same b l w b l' w masters sizes firsts nexts refl)
      (lock-same b l w b l' w masters refl refl refl)
      (cash-same b l w b l' w masters refl refl)
      (marks-same b l w b l' w masters refl refl refl refl)
      (box-same b l w b l' w masters refl refl refl refl refl)
      (cap-same b l w b l' w owners parents refl refl refl refl (row Limit.caps Layout.RIGHTS (lit< tt))
      (row Limit.caps Layout.LAST_DAY (lit< tt)))
      (money-same b l w b l' w owners refl)

  day-shape : Shape l → Shape (set l Layout.DAY day)
  day-shape s = record {
    objects = objects-kept l l' masters (row Limit.objects Layout.NEXT_OBJECT (lit< tt)) (head Layout.OBJECTS (lit< tt))
        (head Layout.FREE_OBJECTS (lit< tt)) s.objects;
    caps = caps-kept l l' masters owners parents (row Limit.caps Layout.FIRST_CHILD (lit< tt))
        (row Limit.caps Layout.NEXT_CAP (lit< tt)) (row Limit.caps Layout.PREV_CAP (lit< tt))
        (head Layout.FREE_CAPS (lit< tt)) s.caps;
    blocks = blocks-kept l l' masters sizes firsts nexts (head Layout.FREE_BLOCKS (lit< tt)) s.blocks;
  }

-- ---- the call

module _ {b l w : List ℕ} (W : WellFormed b l w) (c : Call) (words : Words c) (host : c.number ≡ day_number) where
  abbrev s : State
  s = view b l w

  -- a refusal, and nothing changed; or the day
  pub day-meets : MeetsRule Shape (view b l w) c (day_run b l w c.day)
  unfolding day_run over done code
  day-meets = by-eq (first (day_refuses s c.day)) Code.done
      (λ e. subst (MeetsRule Shape s c) (goes_on b l w (over Code.done b (set l Layout.DAY c.day) w) e)
      (met-rule Shape W.valid words (over Code.done b (set l Layout.DAY c.day) w) none (λ _. host-open s c none host)
      (rule-host s c none host ∙ day-done s c e
      ∙ ap (λ t. record { answer = code Code.done; after = t }) (sym (day-view b l w c.day W.sized.links)))
      (record {
        bytes = W.sized.bytes;
        links = length-set l Layout.DAY c.day ∙ W.sized.links;
        words = W.sized.words;
      })
      (cells-kept b l b (set l Layout.DAY c.day) (masters b l w c.day) refl refl refl refl refl refl W.cells)
      (day-shape b l w c.day W.shape)))
      (λ n. subst (MeetsRule Shape s c) (stopped b l w (over Code.done b (set l Layout.DAY c.day) w) _ refl n)
      (met-rule Shape W.valid words (over (first (day_refuses s c.day)) b l w) none (λ z. absurd (n z))
      (rule-host s c none host ∙ day-refused s c n) W.sized W.cells W.shape))
