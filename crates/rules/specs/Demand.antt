-- Demand 3: a single claim about a list of calls, of the 16, of call 17 (02, CR 9) and of unknown numbers, done or refused.
use Rattle.std.specs.Prelude.{ℕ, ◌+◌, ◌≤◌, ◌≡◌, ◌↔◌, Bool, true, false, not, List, [], ◌∷◌, ◌++◌}
use Rattle.std.specs.Int.Bits.{bit_and}
use Rattle.rules.specs.Limit as Limit
use Rattle.rules.specs.Store.{Password, State, cap_lives, root_of, fresh}
use Rattle.rules.specs.Valid.{LiesIn}
use Rattle.rules.specs.Rights.{make_obj, derive_cap, delete_cap, rename_obj, op}
use Rattle.rules.specs.Call.{Call, Choice}
use Rattle.rules.specs.Password.{presented}
use Rattle.rules.specs.Refusals.{caller}
use Rattle.rules.specs.Calls.{emptied}
use Rattle.rules.specs.Rule.{rule, is_done}
use Rattle.rules.specs.Ledger.{Ledger, leads_back, summed, found, book, opening}

-- ---- what a call brings

-- its numbers are 32-bit
pub record Words (c : Call) : Type 0 where
  pub presented1 : c.presented.password.p1 ≤ Limit.word
  pub presented2 : c.presented.password.p2 ≤ Limit.word
  pub drawn1 : c.drawn.p1 ≤ Limit.word
  pub drawn2 : c.drawn.p2 ≤ Limit.word
  pub start : c.range.start ≤ Limit.word
  pub end : c.range.end ≤ Limit.word
  pub sum : c.sum ≤ Limit.word
  pub lock1 : c.lock.first ≤ Limit.word
  pub lock2 : c.lock.second ≤ Limit.word

-- and so are a fresh store's
pub record FreshWords (supply : ℕ) (p : Password) : Type 0 where
  pub amount : supply ≤ Limit.word
  pub p1 : p.p1 ≤ Limit.word
  pub p2 : p.p2 ≤ Limit.word

unfoldable pub FreeObject : State → ℕ → Type 0
FreeObject s o = (1 ≤ o) × (o ≤ Limit.objects) × ((s.object o).live ≡ false)

unfoldable pub FreeCap : State → ℕ → Type 0
FreeCap s i = (1 ≤ i) × (i ≤ Limit.caps) × (cap_lives s i ≡ false)

-- the slots that the call takes were free; rename_obj frees its object's own before it takes one
pub record Open (s : State) (c : Call) (h : Choice) : Type 0 where
  pub object : op c.number ≡ make_obj → FreeObject s h.object
  pub made : op c.number ≡ make_obj → FreeCap s h.cap
  pub derived : op c.number ≡ derive_cap → FreeCap s h.cap
  pub renamed : op c.number ≡ rename_obj
      → FreeCap (emptied s c (caller s c) (presented s (caller s c) c.presented)) h.cap

-- its numbers are 32-bit, and what it takes if it is done was free
pub record Allowed (s : State) (c : Call) (h : Choice) : Type 0 where
  pub words : Words c
  pub choice : is_done (rule s c h) ≡ true → Open s c h

-- ---- a run: the store and the ledger beside it

pub record Now : Type 0 where
  pub store : State
  pub ledger : Ledger

-- a call, and what was taken where 01 leaves it open
pub record Step : Type 0 where
  pub call : Call
  pub choice : Choice

unfoldable pub start : ℕ → Password → Now
start supply p = record { store = fresh supply p; ledger = opening p }

-- the step's call is done
unfoldable pub done_at : Now → Step → Bool
done_at n x = is_done (rule n.store x.call x.choice)

unfoldable pub next : Now → Step → Now
next n x = record {
  store = (rule n.store x.call x.choice).after;
  ledger = book n.ledger x.call (done_at n x);
}

unfoldable pub run : Now → List Step → Now
run n [] = n
run n (x ∷ l) = run (next n x) l

-- each step is allowed where it is made
unfoldable pub Legal : Now → List Step → Type 0
Legal n [] = Unit {0}
Legal n (x ∷ l) = Allowed n.store x.call x.choice × Legal (next n x) l

-- ---- what is claimed of the store and the ledger

-- there is exactly one
unfoldable pub Only : (ℕ → Type 0) → Type 0
Only P = (x : ℕ) × P x × ((y : ℕ) → P y → y ≡ x)

-- line k is there and living
pub record Living (l : Ledger) (k : ℕ) : Type 0 where
  pub some : 1 ≤ k
  pub low : k ≤ l.count
  pub living : l.living k ≡ true

-- the capability at slot i and line k match: living, of one name, p1 and p2
pub record Match (n : Now) (i k : ℕ) : Type 0 where
  pub lives : cap_lives n.store i ≡ true
  pub living : Living n.ledger k
  pub name : (n.store.object (n.store.cap i).object).name ≡ (n.ledger.line k).name
  pub password : (n.store.cap i).password ≡ (n.ledger.line k).password

-- the holder's capability at j lies in the giver's at i: one object, one tree and so one purse, rights, window and
-- last day
pub record Within (s : State) (j i : ℕ) : Type 0 where
  pub object : (s.cap j).object ≡ (s.cap i).object
  pub tree : root_of s j ≡ root_of s i
  pub rights : bit_and (s.cap j).rights (s.cap i).rights ≡ (s.cap j).rights
  pub window : LiesIn (s.cap j).window (s.cap i).window
  pub last_day : (s.cap j).last_day ≤ (s.cap i).last_day

-- slot m holds the master of the capability at i
pub record Rooted (s : State) (i m : ℕ) : Type 0 where
  pub lives : cap_lives s m ≡ true
  pub parent : (s.cap m).parent ≡ 0
  pub object : (s.cap m).object ≡ (s.cap i).object

pub record Claims (n : Now) : Type 0 where
  -- the store's capabilities match the living lines by name, p1 and p2, each once
  pub every-cap : (i : ℕ) → cap_lives n.store i ≡ true → Only (λ k. Match n i k)
  pub every-line : (k : ℕ) → Living n.ledger k → Only (λ i. Match n i k)
  -- holder within giver: where the holder's line h leads back to the giver's line g
  pub holder : (i j g h : ℕ) → Match n i g → Match n j h → leads_back n.ledger h g ≡ true → Within n.store j i
  -- every climb by parents ends at the object's master
  pub rooted : (i : ℕ) → cap_lives n.store i ≡ true → Rooted n.store i (root_of n.store i)
  -- a tree, a master with all whose climb ends at it, matches a line from none with all that lead back to it
  pub tree : (i m k r : ℕ) → Match n i k → Match n m r
      → (root_of n.store i ≡ m) ↔ (((n.ledger.line r).from ≡ 0) × (leads_back n.ledger k r ≡ true))
  -- the purse equation: first moneyword and paid in are the present moneyword and drawn
  pub purse : (i k : ℕ) → Match n i k
      → (n.ledger.line k).first + summed n.ledger n.ledger.paid_in k
      ≡ n.store.money i + summed n.ledger n.ledger.drawn k

-- a done delete c from n to m ended the capability presented and those derived from it, and no other
pub record Ended (n : Now) (c : Call) (m : Now) : Type 0 where
  -- the line found is the capability that the store looks up
  pub same : Match n (presented n.store (caller n.store c) c.presented) (found n.ledger c.caller c.presented)
  -- what lived and matched line k lives on unless k leads back to the line found
  pub exactly : (i k : ℕ) → Match n i k
      → cap_lives m.store i ≡ not (leads_back n.ledger k (found n.ledger c.caller c.presented))
  -- what lives after it lived before, and is as it was
  pub others : (i : ℕ) → cap_lives m.store i ≡ true
      → (m.store.cap i ≡ n.store.cap i) × (m.store.money i ≡ n.store.money i)

-- of a list of calls: the claims hold at its end, and each done delete in it ended what it should
pub record Holds (n : Now) (l : List Step) : Type 0 where
  pub claims : Claims (run n l)
  pub deletes : (before after : List Step) (x : Step)
      → l ≡ before ++ x ∷ after
      → op x.call.number ≡ delete_cap
      → done_at (run n before) x ≡ true
      → Ended (run n before) x.call (next (run n before) x)

-- Demand 3: after every list of calls from a fresh store
unfoldable pub Demand3 : Type 0
Demand3 =
    (supply : ℕ) (p : Password) → FreshWords supply p
    → (l : List Step) → Legal (start supply p) l
    → Holds (start supply p) l
