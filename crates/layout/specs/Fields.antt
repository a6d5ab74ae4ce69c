-- What is left to ask of the fields once the links have their shape: the check of a store tests this, slot by slot.
use Rattle.std.specs.Prelude.{ℕ, ◌+◌, ◌*◌, ◌≤◌, ◌<◌, ◌≡◌, ◌≢◌, List}
use Rattle.std.specs.Int.Bits.{bit_and}
use Rattle.rules.specs.Limit as Limit
use Rattle.rules.specs.Store.{money_in}
use Rattle.layout.specs.Rows.{volume_of, flag_of, suspended_of, waiting_of, terminated_of, count_of, length_of}
use Rattle.layout.specs.Rows.{master_of, serial_of, size_of, owner_of, parent_of, rights_of, last_day_of}
use Rattle.layout.specs.Rows.{lock1_of, p1_of, start_of, end_of}
use Rattle.layout.specs.View.{view}

pub record ProcessFits (b w : List ℕ) (o : ℕ) : Type 0 where
  pub suspended : suspended_of b o ≤ 1
  pub waiting : waiting_of b o ≤ 1
  pub terminated : terminated_of b o ≤ 1
  pub lock : lock1_of w o < Limit.top
  pub count : count_of b o ≤ Limit.box
  pub length : (m : ℕ) → m < count_of b o → length_of b (o * Limit.box + m) ≤ Limit.message

pub record ObjectFits (b l w : List ℕ) (o : ℕ) : Type 0 where
  pub volume : volume_of b o ≤ Limit.volume
  pub size : size_of l o ≤ Limit.size
  pub flag : flag_of b o ≤ 1
  pub process : flag_of b o ≢ 0 → ProcessFits b w o

-- the master of an object has its whole window and the last day 65,535; a child's rights and window lie in its parent's, and its
-- last day is not after the parent's
pub record CapFits (l w : List ℕ) (i : ℕ) : Type 0 where
  pub rights : rights_of l i ≤ Limit.rights
  pub ordered : start_of w i ≤ end_of w i
  pub whole : parent_of l i ≡ 0 → (start_of w i ≡ 0) × (end_of w i ≡ size_of l (owner_of l i)) × (last_day_of l i ≡ Limit.day)
  pub within : parent_of l i ≢ 0
      → (bit_and (rights_of l i) (rights_of l (parent_of l i)) ≡ rights_of l i)
      × (start_of w (parent_of l i) ≤ start_of w i)
      × (end_of w i ≤ end_of w (parent_of l i))
      × (last_day_of l i ≤ last_day_of l (parent_of l i))

abbrev pub ObjectsFit : List ℕ → List ℕ → List ℕ → Type 0
ObjectsFit b l w = (o : ℕ) → master_of l o ≢ 0 → ObjectFits b l w o

abbrev pub NamesUnique : List ℕ → List ℕ → Type 0
NamesUnique b l = (o q : ℕ) → master_of l o ≢ 0 → master_of l q ≢ 0
    → volume_of b o ≡ volume_of b q → serial_of l o ≡ serial_of l q → o ≡ q

abbrev pub CapsFit : List ℕ → List ℕ → Type 0
CapsFit l w = (i : ℕ) → owner_of l i ≢ 0 → CapFits l w i

abbrev pub PasswordsUnique : List ℕ → List ℕ → Type 0
PasswordsUnique l w = (i j : ℕ) → owner_of l i ≢ 0 → owner_of l j ≢ 0
    → owner_of l i ≡ owner_of l j → p1_of w i ≡ p1_of w j → i ≡ j

abbrev pub TotalFits : List ℕ → List ℕ → List ℕ → Type 0
TotalFits b l w = money_in (view b l w) ≤ Limit.word

pub record Fields (b l w : List ℕ) : Type 0 where
  pub objects : ObjectsFit b l w
  pub names : NamesUnique b l
  pub caps : CapsFit l w
  pub passwords : PasswordsUnique l w
  pub total : TotalFits b l w
