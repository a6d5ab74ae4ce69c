-- The count of passwords on examples, in one store: who would present them, for which object and which right, and the answer's
-- code and number, which the reference is held to as well; and which passwords open.
use Rattle.std.specs.Prelude.{ℕ, Bool, true, false, List, [], ◌∷◌}
use Rattle.rules.specs.Store.{Name, State, object_named, fresh}
use Rattle.rules.specs.Rights.{READ}
use Rattle.rules.specs.Questions.{Counted, opens, passwords_asked}
use Rattle.rules.specs.Edges.{process, makes, derives, locks, after}

-- ---- the store

unfoldable pub name : (volume serial : ℕ) → Name
name volume serial = record { volume = volume; serial = serial }

-- lines on a fresh store, whose process is 0 1
unfoldable pub lines : List (List ℕ)
lines =
    -- the object 2 7, its master 11 with all rights
    makes 128
    -- all rights, and a p1 with its top bit
    ∷ derives 11 8191 0 128 2147483658
    -- READ and DERIVE_CAP
    ∷ derives 11 9 0 64 21
    -- READ and WRITE, from the second
    ∷ derives 2147483658 3 0 64 2147483649
    -- all but READ
    ∷ derives 11 8190 0 128 41
    -- no right: WRITE is asked, which its parent has not
    ∷ derives 21 2 0 64 51
    -- the process 3 8, which is suspended
    ∷ (1 ∷ 0 ∷ 1 ∷ 3 ∷ 0 ∷ 1 ∷ 8191 ∷ 8 ∷ 61 ∷ 13 ∷ [])
    -- the lockword of 0 1 is 6 and 0
    ∷ locks 6
    -- all rights until day 3, and until day 4, which it is
    ∷ (5 ∷ 0 ∷ 1 ∷ 2 ∷ 7 ∷ 11 ∷ 13 ∷ 8191 ∷ 0 ∷ 128 ∷ 0 ∷ 3 ∷ 71 ∷ 13 ∷ [])
    ∷ (5 ∷ 0 ∷ 1 ∷ 2 ∷ 7 ∷ 11 ∷ 13 ∷ 8191 ∷ 0 ∷ 128 ∷ 0 ∷ 4 ∷ 81 ∷ 13 ∷ [])
    ∷ (17 ∷ 4 ∷ [])
    ∷ []

unfoldable pub hall : State
hall = after (fresh 1000 (record { p1 = 5; p2 = 9 })) lines

-- ---- who asks, for which object and right, and the answer

pub record Edge : Type 0 where
  pub caller : Name
  pub object : Name
  pub right : ℕ
  pub answer : Counted

-- the caller's volume and serial, the object's, the right, the code, the number
unfoldable pub edge : (v s w t right code count : ℕ) → Edge
edge v s w t right code count = record {
  caller = name v s;
  object = name w t;
  right = right;
  answer = record { code = code; count = count };
}

unfoldable pub edges : List Edge
edges =
    -- the object 2 7: READ, WRITE, CAP_INFO, REVIVE
    edge 0 1 2 7 1 0 5
    ∷ edge 0 1 2 7 2 0 5
    ∷ edge 0 1 2 7 4 0 4
    ∷ edge 0 1 2 7 4096 0 4
    -- by another lockword there are as many; marks are not looked at
    ∷ edge 3 8 2 7 1 0 5
    ∷ edge 3 8 2 7 4096 0 4
    -- the processes' own masters
    ∷ edge 0 1 0 1 1 0 1
    ∷ edge 3 8 0 1 4096 0 1
    ∷ edge 0 1 3 8 64 0 1
    -- an absent object
    ∷ edge 0 1 2 8 1 0 0
    ∷ edge 3 8 3 65535 4096 0 0
    -- a data object as the caller, an absent process, also for an absent object
    ∷ edge 2 7 2 7 1 3 0
    ∷ edge 2 8 2 7 1 3 0
    ∷ edge 3 7 2 8 1 3 0
    -- no right, two rights, all of them, more than there are
    ∷ edge 0 1 2 7 0 2 0
    ∷ edge 0 1 2 7 3 2 0
    ∷ edge 0 1 2 7 8191 2 0
    ∷ edge 0 1 2 7 8192 2 0
    ∷ edge 2 8 2 8 4097 2 0
    -- a name out of range
    ∷ edge 4 1 2 7 1 2 0
    ∷ edge 0 65536 2 7 1 2 0
    ∷ edge 0 1 4 7 1 2 0
    ∷ edge 0 1 2 65536 1 2 0
    ∷ edge 2 7 4 7 1 2 0
    ∷ []

unfoldable pub given : Edge → Counted
given e = passwords_asked hall e.caller e.object e.right

unfoldable pub expected : Edge → Counted
expected e = e.answer

-- ---- which passwords open 2 7 for READ, presented by 0 1

pub record Try : Type 0 where
  pub p1 : ℕ
  pub p2 : ℕ
  pub opening : Bool

unfoldable pub try : (p1 p2 : ℕ) → Bool → Try
try p1 p2 opening = record { p1 = p1; p2 = p2; opening = opening }

unfoldable pub tries : List Try
tries =
    -- the four; where p1 has its top bit, the password that unlocks to the stored one, and not that one
    try 11 13 true
    ∷ try 2147483660 13 true
    ∷ try 2147483658 13 false
    ∷ try 21 13 true
    ∷ try 2147483655 13 true
    ∷ try 2147483649 13 false
    -- no top bit: nothing is unlocked
    ∷ try 13 13 false
    -- without the right, and with another p2
    ∷ try 41 13 false
    ∷ try 51 13 false
    ∷ try 11 12 false
    ∷ try 71 13 false
    ∷ try 81 13 true
    ∷ []

unfoldable pub tried : Try → Bool
tried t = opens hall (object_named hall process) (name 2 7) READ t.p1 t.p2

-- a theorem that computes with this file's definitions says `unfolding` and this name
unfoldable pub computes : Unit {0}
unfolding name lines hall edge edges given expected try tries tried
computes = tt
