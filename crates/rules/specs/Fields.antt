-- 01, "A script and its output": the numbers of a call's line, by a table. Everything that is said of a line follows from
-- it: how many numbers it has, what each says, and where its bytes start.
use Rattle.std.specs.Prelude.{ℕ, suc, true, false, List, [], ◌∷◌, eqb}
use Rattle.rules.specs.Rights.{Op, make_obj, read, write, cap_info, derive_cap, delete_cap, rename_obj, withdraw}
use Rattle.rules.specs.Rights.{deposit, suspend, resume, apply_lock, send, receive, wait, revive, unknown}

-- what a number of a line says; `text`, the bytes of write and send, all from its place on
pub data Field : Type 0 where
  call_number caller_volume caller_serial : Field
  cap_volume cap_serial cap_p1 cap_p2 : Field
  volume size flag rights serial p1 p2 start end sum word1 word2 text limit last_day day : Field

-- a call holds derive's mask where it holds make_obj's rights
abbrev pub mask : Field
mask = rights

-- ---- the table

-- "call number, caller's volume and serial"
unfoldable pub calling : List Field → List Field
calling arguments = call_number ∷ caller_volume ∷ caller_serial ∷ arguments

-- "the capability (volume, serial, p1, p2) where one is presented"
unfoldable pub presenting : List Field → List Field
presenting arguments = calling (cap_volume ∷ cap_serial ∷ cap_p1 ∷ cap_p2 ∷ arguments)

-- "then arguments"; 02, CR 1: derive_cap's limit stands "after the range's end"; CR 9: its last day "after the limit"
unfoldable pub fields : Op → List Field
fields make_obj = calling (volume ∷ size ∷ flag ∷ rights ∷ serial ∷ p1 ∷ p2 ∷ [])
fields read = presenting (start ∷ end ∷ [])
fields write = presenting (start ∷ end ∷ text ∷ [])
fields cap_info = presenting []
fields derive_cap = presenting (mask ∷ start ∷ end ∷ limit ∷ last_day ∷ p1 ∷ p2 ∷ [])
fields delete_cap = presenting []
fields rename_obj = presenting (p1 ∷ p2 ∷ [])
fields withdraw = presenting (sum ∷ [])
fields deposit = presenting (sum ∷ [])
fields suspend = presenting []
fields resume = presenting []
fields apply_lock = presenting (word1 ∷ word2 ∷ [])
fields send = presenting (sum ∷ text ∷ [])
fields receive = calling []
fields wait = calling []
fields revive = presenting (sum ∷ [])
-- 02, CR 9: "the script line is `17` and the day"; no other number has a line
fields unknown = call_number ∷ day ∷ []

-- ---- places, counted from 0

-- the fields numbered, to tell one from another
unfoldable pub index : Field → ℕ
index call_number = 0
index caller_volume = 1
index caller_serial = 2
index cap_volume = 3
index cap_serial = 4
index cap_p1 = 5
index cap_p2 = 6
index volume = 7
index size = 8
index flag = 9
index rights = 10
index serial = 11
index p1 = 12
index p2 = 13
index start = 14
index end = 15
index sum = 16
index word1 = 17
index word2 = 18
index text = 19
index limit = 20
index last_day = 21
index day = 22

-- the place of a field where the first of these has place k
unfoldable pub place_from : ℕ → List Field → Field → ℕ
place_from k [] f = 0
place_from k (g ∷ fs) f = elim (eqb (index f) (index g)) [ true ↦ k | false ↦ place_from (suc k) fs f ]

-- its place in the call's line; 0, the place of the call number, says that the line does not have it
unfoldable pub place : Op → Field → ℕ
place o f = place_from 0 (fields o) f

-- a theorem that computes with this table says `unfolding` and this name
unfoldable pub computes : Unit {0}
unfolding calling presenting fields index place_from place
computes = tt
