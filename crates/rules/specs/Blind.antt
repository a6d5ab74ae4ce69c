-- 01: "Left open are which free one is taken". The rules do not see which: each statement by itself; proofs/Blind.antt has
-- the proofs.
use Rattle.std.specs.Prelude.{ℕ, ◌≡◌, List, [], ◌∷◌, map}
use Rattle.rules.specs.Store.{Password, State, all_cash, all_masters, all_boxes}
use Rattle.rules.specs.Valid.{Valid}
use Rattle.rules.specs.Call.{Call, Answer, Choice}
use Rattle.rules.specs.Rule.{rule}
use Rattle.rules.specs.Demand.{FreshWords, Allowed, Now, Step, start, next, run, Legal}
use Rattle.rules.specs.Meaning.{SameMeaning}

-- ---- one call: any, done or refused, whatever it takes of what is free in each store

-- stores that mean the same give equal answers and still mean the same
unfoldable pub MeaningBlind : Type 0
MeaningBlind = (s t : State) (c : Call) (h g : Choice) → Valid s → Valid t → SameMeaning s t
    → Allowed s c h → Allowed t c g
    → ((rule t c g).answer ≡ (rule s c h).answer) × SameMeaning (rule s c h).after (rule t c g).after

-- such stores have the same money in each place
unfoldable pub MoneyBlind : Type 0
MoneyBlind = (s t : State) → Valid s → Valid t → SameMeaning s t
    → (all_cash t ≡ all_cash s) × (all_masters t ≡ all_masters s) × (all_boxes t ≡ all_boxes s)

-- ---- lists of calls

-- the answers of a run, one for each call
unfoldable pub answers : Now → List Step → List Answer
answers n [] = []
answers n (x ∷ l) = (rule n.store x.call x.choice).answer ∷ answers (next n x) l

-- two runs of the same calls from a fresh store, each with choices of its own: the answers are equal, call by call, and
-- the stores at the end mean the same. (A front of a legal list is legal, so the stores do so after each call.)
unfoldable pub ListsBlind : Type 0
ListsBlind = (supply : ℕ) (p : Password) → FreshWords supply p → (l m : List Step)
    → map (λ (x : Step). x.call) m ≡ map (λ (x : Step). x.call) l
    → Legal (start supply p) l → Legal (start supply p) m
    → (answers (start supply p) m ≡ answers (start supply p) l)
    × SameMeaning (run (start supply p) l).store (run (start supply p) m).store
