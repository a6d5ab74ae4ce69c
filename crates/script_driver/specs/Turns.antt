-- A script in turns: what a window of the input and room for output come to, exactly; the end of the input; and every list
-- of turns.
use Rattle.std.specs.Prelude.{ℕ, suc, ◌-◌, ◌≤◌, ◌<◌, ◌≡◌, ◌≢◌, List, [], ◌∷◌, ◌++◌, length, take, drop}
use Rattle.rules.specs.Code as Code
use Rattle.script_text.specs.Numeral.{line_of}
use Rattle.script_text.specs.Lines.{lines_of}
use Rattle.script_text.specs.Scan.{Means}
use Rattle.script_answers.specs.Room as Room
use Rattle.script_driver.specs.Machine.{Machine}

-- ---- where a script stands

pub data Stage (S : Type 0) : Type 0 where
  -- line one has not been played
  opening : Stage S
  -- line one was bad
  closed : Stage S
  -- the next line has this number, and is played on this store
  playing : ℕ → S → Stage S

abbrev pub At : Machine → Type 0
At M = Stage M.Store

-- ---- a line

-- a line of these numbers: what it writes, and where the script stands then
pub data Goes (M : Machine) : At M → List ℕ → List ℕ → At M → Type 0 where
  -- "Line one is supply, p1, p2"
  good : {ns : List ℕ} {s : M.Store} → length ns ≡ 3 → M.Begins ns s → Goes M opening ns [] (playing 1 s)
  bad : {ns : List ℕ} → length ns ≢ 3 → Goes M opening ns [] closed
  -- "if bad .., `0 2` is all it writes"
  unplayed : {ns : List ℕ} → Goes M closed ns [] closed
  -- "Output for each line after line one: its number, counted from 1 .."
  later : {k : ℕ} {s s' : M.Store} {ns out : List ℕ} → M.Plays k s ns out s' → Goes M (playing k s) ns out (playing (suc k) s')

-- the same of a line as it is written, without its end
pub record Line (M : Machine) (g : At M) (line out : List ℕ) (g' : At M) : Type 0 where
  pub numbers : List ℕ
  pub means : Means line numbers
  pub goes : Goes M g numbers out g'

-- the last line: "if bad or absent, `0 2` is all it writes", else the totals
pub data Closes (M : Machine) : At M → List ℕ → Type 0 where
  absent : {out : List ℕ} → out ≡ line_of (0 ∷ Code.out_of_range ∷ []) → Closes M opening out
  refused : {out : List ℕ} → out ≡ line_of (0 ∷ Code.out_of_range ∷ []) → Closes M closed out
  totals : {k : ℕ} {s : M.Store} {out : List ℕ} → M.Totals s out → Closes M (playing k s) out

-- these lines, from here on, write the text
pub data Lines (M : Machine) : At M → List (List ℕ) → List ℕ → Type 0 where
  over : {g : At M} {out : List ℕ} → Closes M g out → Lines M g [] out
  line : {g m : At M} {l out text : List ℕ} {ls : List (List ℕ)} → Line M g l out m → Lines M m ls text
      → Lines M g (l ∷ ls) (out ++ text)

-- the script writes the text
abbrev pub WritesOn : Machine → List ℕ → List ℕ → Type 0
WritesOn M script text = Lines M opening (lines_of script) text

-- ---- byte by byte

-- of a line that has not ended so many bytes are held at most: one more than a line may have, and as much too long as any more
abbrev pub HELD : ℕ
HELD = 2049

unfoldable pub cut : List ℕ → List ℕ
cut l = take HELD l

-- room for any answer
abbrev pub ANSWER : ℕ
ANSWER = Room.ANSWER

-- from stage g, where the bytes l are held, with this room for output and this window of input: so many bytes of the window are taken,
-- these are written, and the script stands at g' and holds l'. As long as there is room for an answer, bytes are taken.
pub data Feeds (M : Machine) : ℕ → At M → List ℕ → List ℕ → ℕ → List ℕ → At M → List ℕ → Type 0 where
  -- all of the window is taken
  all : {room : ℕ} {g : At M} {l : List ℕ} → Feeds M room g l [] 0 [] g l
  -- no room
  full : {room : ℕ} {g : At M} {l window : List ℕ} → room < ANSWER → Feeds M room g l window 0 [] g l
  -- a byte of a line
  held : {room b n : ℕ} {g g' : At M} {l l' window out : List ℕ} → ANSWER ≤ room → b ≢ 10
      → Feeds M room g (cut (l ++ b ∷ [])) window n out g' l'
      → Feeds M room g l (b ∷ window) (suc n) out g' l'
  -- a line's end
  ended : {room n : ℕ} {g m g' : At M} {l l' window out text : List ℕ} → ANSWER ≤ room
      → Line M g l out m → Feeds M (room - length out) m [] window n text g' l'
      → Feeds M room g l (10 ∷ window) (suc n) (out ++ text) g' l'

-- the end of the input. "The last line may lack its end; nothing after a last byte 10 is no line."
pub data Ends (M : Machine) : At M → List ℕ → List ℕ → Type 0 where
  none : {g : At M} {out : List ℕ} → Closes M g out → Ends M g [] out
  last : {g m : At M} {b : ℕ} {l out text : List ℕ} → Line M g (b ∷ l) out m → Closes M m text
      → Ends M g (b ∷ l) (out ++ text)

-- ---- every list of turns

-- `rest` came in and was not taken yet. In a turn `more` comes in after it, or nothing; the window is a front of what is there, any
-- front; and there is room, any room. The end of the input is told when nothing is left. Turns from here on: `input` is what
-- comes in, in all, and `text` what is written, in all.
pub data Turns (M : Machine) : At M → List ℕ → List ℕ → List ℕ → List ℕ → Type 0 where
  end : {g : At M} {l text : List ℕ} → Ends M g l text → Turns M g l [] [] text
  turn : (more behind : List ℕ) {g g' : At M} {l l' rest window out input text : List ℕ} {room n : ℕ}
      → rest ++ more ≡ window ++ behind
      → Feeds M room g l window n out g' l'
      → Turns M g' l' (drop n window ++ behind) input text
      → Turns M g l rest (more ++ input) (out ++ text)

-- from the beginning
abbrev pub Script : Machine → List ℕ → List ℕ → Type 0
Script M input text = Turns M opening [] [] input text
