-- The lending question on examples, in one store: who asks, the wish, the list, and the answer's code and place, which the reference
-- is held to as well.
use Rattle.std.specs.Prelude.{ℕ, zero, suc, List, [], ◌∷◌, ◌++◌}
use Rattle.rules.specs.Store.{Name, State, fresh}
use Rattle.rules.specs.Questions.{Wish, Lent, LendAsked}
use Rattle.rules.specs.Edges.{makes, locks, after}

-- ---- the store

-- lines on a fresh store, whose process is 0 1
unfoldable pub lines : List (List ℕ)
lines =
    -- the object 2 7, its master 11 with all rights
    makes 128
    -- 500 for the master
    ∷ (9 ∷ 0 ∷ 1 ∷ 2 ∷ 7 ∷ 11 ∷ 13 ∷ 500 ∷ [])
    -- its child 21: READ, WRITE, CAP_INFO, DERIVE_CAP, WITHDRAW; 16 to 112; 300; until day 100
    ∷ (5 ∷ 0 ∷ 1 ∷ 2 ∷ 7 ∷ 11 ∷ 13 ∷ 79 ∷ 16 ∷ 112 ∷ 300 ∷ 100 ∷ 21 ∷ 13 ∷ [])
    -- from that, with a p1 that has its top bit: all of them but WRITE; 32 to 96; 200; until day 60
    ∷ (5 ∷ 0 ∷ 1 ∷ 2 ∷ 7 ∷ 21 ∷ 13 ∷ 77 ∷ 32 ∷ 96 ∷ 200 ∷ 60 ∷ 2147483658 ∷ 13 ∷ [])
    -- from that 61: READ, DERIVE_CAP; 40 to 80; 150; until day 50
    ∷ (5 ∷ 0 ∷ 1 ∷ 2 ∷ 7 ∷ 2147483658 ∷ 13 ∷ 9 ∷ 40 ∷ 80 ∷ 150 ∷ 50 ∷ 61 ∷ 13 ∷ [])
    -- from the master: all rights but DERIVE_CAP; 500
    ∷ (5 ∷ 0 ∷ 1 ∷ 2 ∷ 7 ∷ 11 ∷ 13 ∷ 8183 ∷ 0 ∷ 128 ∷ 500 ∷ 65535 ∷ 31 ∷ 13 ∷ [])
    -- all rights, 500, until day 3
    ∷ (5 ∷ 0 ∷ 1 ∷ 2 ∷ 7 ∷ 11 ∷ 13 ∷ 8191 ∷ 0 ∷ 128 ∷ 500 ∷ 3 ∷ 41 ∷ 13 ∷ [])
    -- and until day 4, which it will be
    ∷ (5 ∷ 0 ∷ 1 ∷ 2 ∷ 7 ∷ 11 ∷ 13 ∷ 8191 ∷ 0 ∷ 128 ∷ 500 ∷ 4 ∷ 51 ∷ 13 ∷ [])
    -- 180 are drawn from 21: 120 are left there, and 320 at the master
    ∷ (8 ∷ 0 ∷ 1 ∷ 2 ∷ 7 ∷ 21 ∷ 13 ∷ 180 ∷ [])
    -- the process 3 8, which runs, with no lockword and no cash
    ∷ (1 ∷ 0 ∷ 1 ∷ 3 ∷ 0 ∷ 1 ∷ 8191 ∷ 8 ∷ 71 ∷ 13 ∷ [])
    ∷ (11 ∷ 0 ∷ 1 ∷ 3 ∷ 8 ∷ 71 ∷ 13 ∷ [])
    -- the process 3 9, which is suspended
    ∷ (1 ∷ 0 ∷ 1 ∷ 3 ∷ 0 ∷ 1 ∷ 8191 ∷ 9 ∷ 81 ∷ 13 ∷ [])
    -- the lockword of 0 1 is 6 and 0
    ∷ locks 6
    -- day 4
    ∷ (17 ∷ 4 ∷ [])
    ∷ []

unfoldable pub hall : State
hall = after (fresh 1000 (record { p1 = 5; p2 = 9 })) lines

-- ---- entries of a list

unfoldable pub master : List ℕ
master = 2 ∷ 7 ∷ 11 ∷ 13 ∷ []

unfoldable pub child : List ℕ
child = 2 ∷ 7 ∷ 21 ∷ 13 ∷ []

-- as 0 1 has to present it, and as it stands in the store
unfoldable pub grandchild : List ℕ
grandchild = 2 ∷ 7 ∷ 2147483660 ∷ 13 ∷ []

unfoldable pub unlocked : List ℕ
unlocked = 2 ∷ 7 ∷ 2147483658 ∷ 13 ∷ []

unfoldable pub lowest : List ℕ
lowest = 2 ∷ 7 ∷ 61 ∷ 13 ∷ []

-- without DERIVE_CAP
unfoldable pub bare : List ℕ
bare = 2 ∷ 7 ∷ 31 ∷ 13 ∷ []

unfoldable pub expired : List ℕ
expired = 2 ∷ 7 ∷ 41 ∷ 13 ∷ []

-- on its last day
unfoldable pub today : List ℕ
today = 2 ∷ 7 ∷ 51 ∷ 13 ∷ []

-- of the process 0 1 itself
unfoldable pub own : List ℕ
own = 0 ∷ 1 ∷ 5 ∷ 9 ∷ []

-- another p2
unfoldable pub wrong : List ℕ
wrong = 2 ∷ 7 ∷ 11 ∷ 12 ∷ []

-- of an absent object
unfoldable pub absent : List ℕ
absent = 2 ∷ 8 ∷ 11 ∷ 13 ∷ []

-- of a volume that there is not
unfoldable pub far : List ℕ
far = 4 ∷ 7 ∷ 11 ∷ 13 ∷ []

unfoldable pub times : ℕ → List ℕ → List ℕ
times zero l = []
times (suc n) l = l ++ times n l

-- ---- who asks, for what, from which list, and the answer

pub record Edge : Type 0 where
  pub caller : Name
  pub wish : Wish
  pub list : List ℕ
  pub answer : Lent

-- the caller's volume and serial; rights, start, end, sum, last day; the code and the place; the list
unfoldable pub edge : (volume serial rights start end sum last code place : ℕ) → List ℕ → Edge
edge volume serial rights start end sum last code place list = record {
  caller = record { volume = volume; serial = serial };
  wish = record { rights = rights; window = record { start = start; end = end }; sum = sum; last_day = last };
  list = list;
  answer = record { code = code; place = place };
}

unfoldable pub edges : List Edge
edges =
    -- just what the child has
    edge 0 1 79 16 112 120 100 0 1 child
    -- a right more than it has
    ∷ edge 0 1 95 16 112 120 100 21 0 child
    -- a start before its window
    ∷ edge 0 1 79 15 112 120 100 21 0 child
    -- an end after its window
    ∷ edge 0 1 79 16 113 120 100 21 0 child
    -- a sum above its moneyword
    ∷ edge 0 1 79 16 112 121 100 21 0 child
    -- a last day after its own
    ∷ edge 0 1 79 16 112 120 101 21 0 child
    -- nothing, at the window's end, for a day that is over
    ∷ edge 0 1 0 112 112 0 0 0 1 child
    -- an empty window after its own
    ∷ edge 0 1 1 113 113 0 4 21 0 child
    -- as much as its parent has left
    ∷ edge 0 1 77 32 96 120 60 0 1 grandchild
    -- more than its parent has left, in the middle of the climb
    ∷ edge 0 1 77 32 96 121 60 21 0 grandchild
    -- its password as it stands in the store
    ∷ edge 0 1 77 32 96 120 60 21 0 unlocked
    -- by a process without lockword and without cash
    ∷ edge 3 8 77 32 96 120 60 0 1 unlocked
    -- on its last day, as much as the master has left
    ∷ edge 0 1 8191 0 128 320 4 0 1 today
    -- the master alone has too little
    ∷ edge 0 1 8191 0 128 321 4 21 0 today
    -- an expired one
    ∷ edge 0 1 8191 0 128 320 3 21 0 expired
    -- one without DERIVE_CAP
    ∷ edge 0 1 8183 0 128 320 4 21 0 bare
    -- another p2
    ∷ edge 0 1 8191 0 128 320 65535 21 0 wrong
    -- an absent object
    ∷ edge 0 1 8191 0 128 320 65535 21 0 absent
    -- the master alone will do
    ∷ edge 0 1 8191 0 128 320 65535 0 8 (wrong ++ absent ++ expired ++ bare ++ grandchild ++ child ++ today ++ master)
    -- the first that will do, and not a later one
    ∷ edge 0 1 1 40 80 121 4 0 4 (lowest ++ grandchild ++ child ++ today ++ master)
    -- of another object
    ∷ edge 0 1 8191 0 0 0 65535 0 2 (child ++ own)
    -- an empty list
    ∷ edge 0 1 0 0 0 0 0 21 0 []
    -- the last of 32
    ∷ edge 0 1 1 0 128 0 4 0 32 (times 31 wrong ++ master)
    -- 33
    ∷ edge 0 1 1 0 128 0 4 2 0 (times 32 wrong ++ master)
    -- a volume out of range, after one that will do
    ∷ edge 0 1 1 0 128 0 4 2 0 (master ++ far)
    -- rights out of range
    ∷ edge 0 1 8192 0 128 0 4 2 0 master
    -- a start after the end
    ∷ edge 0 1 1 17 16 0 4 2 0 master
    -- a last day out of range
    ∷ edge 0 1 1 0 128 0 65536 2 0 master
    -- a caller out of range
    ∷ edge 4 1 1 0 128 0 4 2 0 master
    -- an absent caller
    ∷ edge 2 8 1 0 128 0 4 3 0 master
    -- a data object as the caller
    ∷ edge 2 7 1 0 128 0 4 3 0 master
    -- a suspended caller, and an empty list
    ∷ edge 3 9 1 0 128 0 4 3 0 []
    -- an entry that is cut off
    ∷ edge 0 1 1 0 128 0 4 2 0 (master ++ 2 ∷ 7 ∷ 11 ∷ [])
    ∷ []

-- the rules' answer is the one in the table
abbrev pub Holds : Edge → Type 0
Holds e = LendAsked hall e.caller e.list e.wish e.answer

unfoldable pub AllHold : List Edge → Type 0
AllHold [] = Unit {0}
AllHold (e ∷ l) = Holds e × AllHold l

-- a theorem that computes with this file's definitions says `unfolding` and this name
unfoldable pub computes : Unit {0}
unfolding lines hall master child grandchild unlocked lowest bare expired today own wrong absent far times edge edges
computes = tt
