-- What is proved of every script, each statement by itself; proofs/Theorems.antt has the proofs.
use Rattle.std.specs.Prelude.{ℕ, ◌+◌, ◌≤◌, ◌<◌, ◌≡◌, List, [], ◌∷◌, length}
use Rattle.script_text.specs.Lines.{lines_of}
use Rattle.script_answers.specs.Output.{MeanAll, Writes}
use Rattle.script_driver.specs.Machine.{Machine}
use Rattle.script_driver.specs.Turns.{At, ANSWER, Feeds, Ends, Script, WritesOn}
use Rattle.script_driver.specs.Stores.{Store, stores}
use Rattle.script_driver.specs.Contract.{begun, Program}
use Rattle.theorem_script.specs.Rules.{rules_free}
use Rattle.theorem_script.specs.Events.{RanCalls}

-- ---- every list of turns, whatever the windows' cuts and the room

-- the outputs, one after another, are what the inputs, one after another, write
unfoldable pub ScriptWrites : Type 0
ScriptWrites = (input text : List ℕ) → Script stores input text → Writes input text

-- a program that reads, feeds and writes, by the contracts, whatever stood in the slices and the buffer before
unfoldable pub ProgramWrites : Type 0
ProgramWrites = (s : Store) (held input text : List ℕ) → Program s held begun [] input text → Writes input text

-- ---- what a script writes

-- every script writes a text, and one text alone
unfoldable pub EveryScript : Type 0
EveryScript = (script : List ℕ) → (text : List ℕ) × Writes script text

unfoldable pub OneText : Type 0
OneText = (script t u : List ℕ) → Writes script t → Writes script u → t ≡ u

-- whatever free slots the calls take: "Left open are which free one is taken"
unfoldable pub AnySlots : Type 0
AnySlots = (script text : List ℕ) → WritesOn rules_free script text → Writes script text

-- ---- what a script does after a good line one is a run of `call` from what `fresh` gives, and demand 3 holds of it

unfoldable pub ScriptRuns : Type 0
ScriptRuns = (input text first : List ℕ) (numbers : List (List ℕ)) → Script stores input text
    → MeanAll (lines_of input) (first ∷ numbers) → length first ≡ 3 → RanCalls first numbers text

-- ---- a turn is a function of what comes in

-- the bytes taken, the bytes written, where the script stands, and what is held
unfoldable pub TurnExact : Type 0
TurnExact = (room n n' : ℕ) (g h h' : At stores) (l i i' window out out' : List ℕ)
    → Feeds stores room g l window n out h i → Feeds stores room g l window n' out' h' i'
    → (n ≡ n') × (out ≡ out') × (h ≡ h') × (i ≡ i')

unfoldable pub EndExact : Type 0
EndExact = (g : At stores) (l out out' : List ℕ) → Ends stores g l out → Ends stores g l out' → out ≡ out'

-- where there is room for an answer a byte at least is taken, and it stops before the window's end for lack of room alone
unfoldable pub TurnGoes : Type 1
TurnGoes = (M : Machine) (room n b : ℕ) (g h : At M) (l i window out : List ℕ) → Feeds M room g l (b ∷ window) n out h i
    → (ANSWER ≤ room → 1 ≤ n) × (n < length (b ∷ window) → room < length out + ANSWER)
