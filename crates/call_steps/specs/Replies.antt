-- What a reply gives, by the rules' answers, and a reply with the slices left as the run of a call.
use Rattle.std.specs.Prelude.{ℕ, ◌≡◌, List, [], length, take}
use Rattle.rules.specs.Store.{State}
use Rattle.rules.specs.Call.{Answer, Outcome, hands_over}
use Rattle.call_steps.specs.Request.{Reply, answer_of, count_of}
use Rattle.call_steps.specs.Run.{Ran, overlay}

-- ---- a reply

-- a done call's reply, with no bytes: the rules' `done`, `hands_back` or `tells`, whatever state is left
pub record Gives (o : State → Outcome) (r : Reply) : Type 0 where
  pub answer : (s : State) → answer_of r [] ≡ (o s).answer
  pub none : count_of r ≡ 0

-- a done call's reply, of a sum and as many bytes
pub record HandsOver (sum count : ℕ) (r : Reply) : Type 0 where
  pub answer : (bytes : List ℕ) (s : State) → answer_of r bytes ≡ (hands_over sum bytes s).answer
  pub counted : count_of r ≡ count

-- the reply and the buffer are this answer: "writes its bytes at the buffer's front and changes no later byte"
pub record Answers (a : Answer) (r : Reply) (buffer buffer' : List ℕ) : Type 0 where
  pub answer : answer_of r (take (count_of r) buffer') ≡ a
  pub count : count_of r ≡ length a.bytes
  pub buffer-is : buffer' ≡ overlay a.bytes buffer

-- ---- a call's own part

-- the reply r, which brings no bytes, and the slices b, l and w are the run x
pub record Replies (r : Reply) (b l w : List ℕ) (x : Ran) : Type 0 where
  pub none : count_of r ≡ 0
  pub answer : answer_of r [] ≡ x.answer
  pub bytes : b ≡ x.bytes
  pub links : l ≡ x.links
  pub words : w ≡ x.words

-- the reply r, whose bytes are in the buffer, and the slices b, l and w are the run x
pub record Fills (r : Reply) (b l w buffer buffer' : List ℕ) (x : Ran) : Type 0 where
  pub answers : Answers x.answer r buffer buffer'
  pub bytes : b ≡ x.bytes
  pub links : l ≡ x.links
  pub words : w ≡ x.words
