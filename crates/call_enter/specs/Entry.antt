-- 01, "What each call refuses, in order", up to 6, on the slices; and a whole call: what comes before its own part, then that.
use Rattle.std.specs.Prelude.{ℕ, true, false, List, eqb}
use Rattle.rules.specs.Store.{State}
use Rattle.rules.specs.Rights.{Op, op, fee_of, presents}
use Rattle.rules.specs.Call.{Call, Capability}
use Rattle.rules.specs.Code as Code
use Rattle.rules.specs.Password.{presented}
use Rattle.rules.specs.Refusals.{first, caller, early, presenting}
use Rattle.layout.specs.View.{view}
use Rattle.call_steps.specs.Paying.{paid_words, terminated_bytes}
use Rattle.call_steps.specs.Run.{Ran, settled}

-- a call that was entered: 0 or the refusal, the caller's slot, that of the capability presented, and the bytes and words
-- left; the links are as they were
pub record Entry : Type 0 where
  pub code : ℕ
  pub me : ℕ
  pub slot : ℕ
  pub bytes : List ℕ
  pub words : List ℕ

-- 2, 3 or 4: no slot is told
unfoldable pub refused : ℕ → List ℕ → List ℕ → Entry
refused n b w = record { code = n; me = 0; slot = 0; bytes = b; words = w }

-- the slot of the capability presented, 0 where the call presents none
unfoldable pub shown_slot : State → ℕ → Capability → Op → ℕ
shown_slot s me x o = elim (presents o) [ true ↦ presented s me x | false ↦ 0 ]

-- after the fee: 5, 19 and 6 where a capability is presented
unfoldable pub shown : List ℕ → List ℕ → List ℕ → ℕ → Capability → Op → Entry
shown b l w me x o = record {
  code = first (presenting (view b l w) (shown_slot (view b l w) me x o) o);
  me = me;
  slot = shown_slot (view b l w) me x o;
  bytes = b;
  words = w;
}

-- 4 marks the caller terminated, 2 and 3 change nothing
unfoldable pub stopped_bytes : ℕ → List ℕ → ℕ → List ℕ
stopped_bytes n b me = elim (eqb n Code.cannot_pay) [ true ↦ terminated_bytes b me | false ↦ b ]

-- n is what 2, 3 and 4 come to, me the caller's slot
unfoldable pub entered : ℕ → ℕ → List ℕ → List ℕ → List ℕ → Call → Entry
entered n me b l w c = elim (eqb n Code.done) [
  | true ↦ shown b l (paid_words w me (fee_of c.number)) me c.presented (op c.number)
  | false ↦ refused n (stopped_bytes n b me) w
]

unfoldable pub entry : List ℕ → List ℕ → List ℕ → Call → Entry
entry b l w c = entered (early (view b l w) c) (caller (view b l w) c) b l w c

-- ---- the whole call

-- a call's own part: of the slices that the fee left, the call, the caller's slot, that of the capability presented
abbrev pub OwnPart : Type 0
OwnPart = List ℕ → List ℕ → List ℕ → Call → ℕ → ℕ → Op → Ran

-- the refusal, and nothing more changed; where there is none, the own part
unfoldable pub goes_on_with : OwnPart → List ℕ → Call → Entry → Ran
goes_on_with own l c e = settled e.code e.bytes l e.words
    (own e.bytes l e.words c e.me e.slot (op c.number))

unfoldable pub step_with : OwnPart → List ℕ → List ℕ → List ℕ → Call → Ran
step_with own b l w c = goes_on_with own l c (entry b l w c)
