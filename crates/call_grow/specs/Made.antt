-- A capability record made, exactly: the slices with the first free record out of its chain and written whole.
use Rattle.std.specs.Prelude.{ℕ, ◌+◌, ◌≤◌, ◌≡◌, List, length, get_or, set}
use Rattle.rules.specs.Limit as Limit
use Rattle.rules.specs.Store.{Cap}
use Rattle.values.specs.Words.{password_of, window_of}
use Rattle.layout.specs.Layout as Layout
use Rattle.layout.specs.Rows.{next_cap_of}
use Rattle.call_grow.specs.declared.cap.NewCap.{NewCap}

-- the rules' capability
abbrev pub cap_of : NewCap → Cap
cap_of x = record {
  object = x.object;
  parent = x.parent;
  password = password_of x.password;
  window = window_of x.window;
  rights = x.rights.0;
  last_day = x.last_day;
}

-- the first free record, 0 if there is none
abbrev pub free_cap : List ℕ → ℕ
free_cap l = get_or l Layout.FREE_CAPS 0

-- the links with capability x in slot i, the first free one: it has no child, no previous sibling, and the next sibling
-- given
unfoldable pub new_links : List ℕ → ℕ → Cap → ℕ → List ℕ
new_links l i x next =
    let popped : List ℕ = set l Layout.FREE_CAPS (next_cap_of l i) in
    let above : List ℕ = set (set popped (Layout.OWNER + i) x.object) (Layout.PARENT + i) x.parent in
    let beside : List ℕ = set (set above (Layout.FIRST_CHILD + i) 0) (Layout.NEXT_CAP + i) next in
    let alone : List ℕ = set beside (Layout.PREV_CAP + i) 0 in
    set (set alone (Layout.RIGHTS + i) x.rights) (Layout.LAST_DAY + i) x.last_day

-- the words with capability x and its moneyword in slot i
unfoldable pub new_words : List ℕ → ℕ → Cap → ℕ → List ℕ
new_words w i x moneyword =
    let named : List ℕ = set (set w (Layout.P1 + i) x.password.p1) (Layout.P2 + i) x.password.p2 in
    let ranged : List ℕ = set (set named (Layout.START + i) x.window.start) (Layout.END + i) x.window.end in
    set ranged (Layout.MONEY + i) moneyword

-- what the code asks: there is a free record
pub record MakeAsks (l w : List ℕ) : Type 0 where
  pub links : length l ≡ Layout.LINKS
  pub words : length w ≡ Layout.WORDS
  pub low : 1 ≤ free_cap l
  pub high : free_cap l ≤ Limit.caps

-- r is the slot that was first in the free list; l' and w' are what is left of the slices l and w
pub record Makes (l w : List ℕ) (x : Cap) (next moneyword r : ℕ) (l' w' : List ℕ) : Type 0 where
  pub slot : r ≡ free_cap l
  pub links : l' ≡ new_links l (free_cap l) x next
  pub words : w' ≡ new_words w (free_cap l) x moneyword
