-- The slices of a call: the store's three, the answer buffer and the scratch; and the call that a request makes.
use Rattle.std.specs.Prelude.{ℕ, ◌≡◌, List, length}
use Rattle.rules.specs.Store.{State}
use Rattle.rules.specs.Call.{Call}
use Rattle.layout.specs.View.{view}
use Rattle.call_steps.specs.declared.request.Request.{Request}
use Rattle.call_steps.specs.Request.{call_of}

pub record Slices : Type 0 where
  pub bytes : List ℕ
  pub links : List ℕ
  pub words : List ℕ
  pub buffer : List ℕ
  pub scratch : List ℕ

abbrev pub slices : List ℕ → List ℕ → List ℕ → List ℕ → List ℕ → Slices
slices b l w buffer scratch = record { bytes = b; links = l; words = w; buffer = buffer; scratch = scratch }

-- the store that they hold
abbrev pub state_of : Slices → State
state_of s = view s.bytes s.links s.words

-- the request, with the bytes that come with it, where these slices are lent
abbrev pub call_on : Request → List ℕ → Slices → Call
call_on r text s = call_of r text (length s.buffer) (length s.scratch)

-- the store's three are these
pub record Store (s : Slices) (b l w : List ℕ) : Type 0 where
  pub bytes : s.bytes ≡ b
  pub links : s.links ≡ l
  pub words : s.words ≡ w
