-- 01, "At the edges": the cases marked P, in one table.
use Rattle.std.specs.Prelude.{ℕ, List, [], ◌∷◌, ◌++◌, length}
use Rattle.rules.specs.Store.{Name, State, object_named, fresh}
use Rattle.rules.specs.Rights.{op}
use Rattle.rules.specs.Call.{Outcome}
use Rattle.rules.specs.Password.{presented}
use Rattle.rules.specs.Script.{nth, line_rule, answer_of}

-- lines run on a fresh store with this supply, whose process is 0 1 with the password 5 9; then a line, the numbers of
-- its answer, and what is seen of the store after it
pub record Edge : Type 0 where
  pub supply : ℕ
  pub before : List (List ℕ)
  pub line : List ℕ
  pub answer : List ℕ
  pub look : State → List ℕ
  pub seen : List ℕ

-- ---- what is looked at

unfoldable pub nothing : State → List ℕ
nothing s = []

unfoldable pub process : Name
process = record { volume = 0; serial = 1 }

-- the cash of the process
unfoldable pub cash : State → List ℕ
cash s = s.cash (object_named s process) ∷ []

-- how many messages are in its box
unfoldable pub messages : State → List ℕ
messages s = length (s.box (object_named s process)) ∷ []

-- the window of the capability 2 7 p1 13
unfoldable pub window : ℕ → State → List ℕ
window p1 s =
    let k : ℕ = presented s (object_named s process) (record {
      name = record { volume = 2; serial = 7 };
      password = record { p1 = p1; p2 = 13 };
    }) in
    (s.cap k).window.start ∷ (s.cap k).window.end ∷ []

-- ---- the lines; every password's second half is 13, but the process's own

-- the object 2 7 with the master 11
unfoldable pub makes : ℕ → List ℕ
makes size = 1 ∷ 0 ∷ 1 ∷ 2 ∷ size ∷ 0 ∷ 8191 ∷ 7 ∷ 11 ∷ 13 ∷ []

unfoldable pub derives : ℕ → ℕ → ℕ → ℕ → ℕ → List ℕ
derives from mask start end p1 = 5 ∷ 0 ∷ 1 ∷ 2 ∷ 7 ∷ from ∷ 13 ∷ mask ∷ start ∷ end ∷ p1 ∷ 13 ∷ []

unfoldable pub reads : ℕ → ℕ → ℕ → List ℕ
reads p1 start end = 2 ∷ 0 ∷ 1 ∷ 2 ∷ 7 ∷ p1 ∷ 13 ∷ start ∷ end ∷ []

unfoldable pub waits : List ℕ
waits = 15 ∷ 0 ∷ 1 ∷ []

-- to the process itself
unfoldable pub locks : ℕ → List ℕ
locks word = 12 ∷ 0 ∷ 1 ∷ 0 ∷ 1 ∷ 5 ∷ 9 ∷ word ∷ 0 ∷ []

unfoldable pub sends : List ℕ
sends = 13 ∷ 0 ∷ 1 ∷ 0 ∷ 1 ∷ 5 ∷ 9 ∷ 1 ∷ 65 ∷ []

-- the window 64 to 128 is 21's; 31 is derived under it with the range 200 to 300
unfoldable pub narrow : List (List ℕ)
narrow = makes 128 ∷ derives 11 8191 64 128 21 ∷ []

unfoldable pub empty : List (List ℕ)
empty = narrow ++ derives 21 8191 200 300 31 ∷ []

-- ---- the table

unfoldable pub edge : ℕ → List (List ℕ) → List ℕ → List ℕ → Edge
edge supply before line answer =
    record { supply = supply; before = before; line = line; answer = answer; look = nothing; seen = [] }

unfoldable pub edge_seen : ℕ → List (List ℕ) → List ℕ → List ℕ → (State → List ℕ) → List ℕ → Edge
edge_seen supply before line answer look seen =
    record { supply = supply; before = before; line = line; answer = answer; look = look; seen = seen }

unfoldable pub edges : List Edge
edges =
    -- size 8,192 done, 8,193 is 2
    edge 1000 [] (makes 8192) (0 ∷ 2 ∷ 7 ∷ 11 ∷ 13 ∷ [])
    ∷ edge 1000 [] (makes 8193) (2 ∷ [])
    -- mask 8191 done, 8192 is 2
    ∷ edge 1000 (makes 128 ∷ []) (derives 11 8191 0 9 21) (0 ∷ 2 ∷ 7 ∷ 21 ∷ 13 ∷ [])
    ∷ edge 1000 (makes 128 ∷ []) (derives 11 8192 0 9 21) (2 ∷ [])
    -- cash equal to the fee pays and leaves 0, one less is 4
    ∷ edge_seen 20 [] (makes 128) (0 ∷ 2 ∷ 7 ∷ 11 ∷ 13 ∷ []) cash (0 ∷ [])
    ∷ edge_seen 19 [] (makes 128) (4 ∷ []) cash (19 ∷ [])
    -- wait with cash 0 is done
    ∷ edge 0 [] waits (0 ∷ [])
    -- range 200 to 300 under window 64 to 128 derives 128 to 128
    ∷ edge_seen 1000 narrow (derives 21 8191 200 300 31) (0 ∷ 2 ∷ 7 ∷ 31 ∷ 13 ∷ []) (window 31) (128 ∷ 128 ∷ [])
    -- reading 128 to 128 there is done with no bytes, 128 to 129 is 7
    ∷ edge 1000 empty (reads 31 128 128) (0 ∷ [])
    ∷ edge 1000 empty (reads 31 128 129) (7 ∷ [])
    -- lock word 2,147,483,647 done, 2,147,483,648 is 2
    ∷ edge 1000 [] (locks 2147483647) (0 ∷ [])
    ∷ edge 1000 [] (locks 2147483648) (2 ∷ [])
    -- the fourth message is stored, the fifth is 14
    ∷ edge_seen 1000 (sends ∷ sends ∷ sends ∷ []) sends (0 ∷ []) messages (4 ∷ [])
    ∷ edge_seen 1000 (sends ∷ sends ∷ sends ∷ sends ∷ []) sends (14 ∷ []) messages (4 ∷ [])
    ∷ []

-- ---- what the rules give there, and what 01 says

unfoldable pub after : State → List (List ℕ) → State
after s [] = s
after s (l ∷ ls) = after (line_rule s l).after ls

unfoldable pub given : Edge → List ℕ
given e =
    let r : Outcome = line_rule (after (fresh e.supply (record { p1 = 5; p2 = 9 })) e.before) e.line in
    answer_of (op (nth e.line 0)) r.answer ++ e.look r.after

unfoldable pub expected : Edge → List ℕ
expected e = e.answer ++ e.seen

-- a theorem that computes with this table says `unfolding` and this name
unfoldable pub computes : Unit {0}
unfolding nothing process cash messages window makes derives reads waits locks sends narrow empty edge edge_seen edges
    after given expected
computes = tt
