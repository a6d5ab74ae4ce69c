-- 01, "The ledger of a run": fed each call's number, caller and arguments and whether it was done, nothing of the store.
use Rattle.std.specs.Prelude.{ℕ, suc, ◌+◌, ◌-◌, min, Bool, true, false, not, ◌&&◌, eqb}
use Rattle.std.specs.Int.Bits.{bit_xor}
use Rattle.rules.specs.Slots.{at, find, sum_over, mem, climb}
use Rattle.rules.specs.Store.{Name, Password, Lockword, same_name, same_password, no_lockword}
use Rattle.rules.specs.Rights.{Op, make_obj, read, write, cap_info, derive_cap, delete_cap, rename_obj, withdraw}
use Rattle.rules.specs.Rights.{deposit, suspend, resume, apply_lock, send, receive, wait, revive, unknown, op}
use Rattle.rules.specs.Rights.{presents}
use Rattle.rules.specs.Call.{Call, Capability}
use Rattle.rules.specs.Password.{unlock}

-- a line, what never changes: name, p1 and p2, the number of the line derived from or 0 for none, first moneyword
pub record Line : Type 0 where
  pub name : Name
  pub password : Password
  pub from : ℕ
  pub first : ℕ

-- lines are numbered 1 to `count`; of each what was drawn, what was paid in, and whether it is living; and a lockword for
-- each name
pub record Ledger : Type 0 where
  pub count : ℕ
  pub line : ℕ → Line
  pub drawn : ℕ → ℕ
  pub paid_in : ℕ → ℕ
  pub living : ℕ → Bool
  pub lock : Name → Lockword

-- ---- reading it

-- line j is line k, or leads back to it
unfoldable pub leads_back : Ledger → ℕ → ℕ → Bool
leads_back l j k = mem k (climb l.count (λ i. (l.line i).from) j)

-- summed over line k and all lines leading back to it, ended ones too
unfoldable pub summed : Ledger → (ℕ → ℕ) → ℕ → ℕ
summed l f k = sum_over l.count (λ j. elim (leads_back l j k) [ true ↦ f j | false ↦ 0 ])

-- first moneyword plus paid in less drawn
unfoldable pub balance : Ledger → ℕ → ℕ
balance l k = (l.line k).first + summed l l.paid_in k - summed l l.drawn k

-- the living line of the name that the password presented finds, with the caller's lockword here; 0 if there is none
unfoldable pub found : Ledger → Name → Capability → ℕ
found l who x =
    let p : Password = unlock x.password (l.lock who) in
    find l.count (λ k. l.living k && same_name (l.line k).name x.name && same_password (l.line k).password p)

-- ---- writing it

-- a new line is living, and has drawn and paid in 0
unfoldable pub add : Ledger → Line → Ledger
add l x =
    let n : ℕ = suc l.count in
    record {
      count = n;
      line = at l.line n x;
      drawn = at l.drawn n 0;
      paid_in = at l.paid_in n 0;
      living = at l.living n true;
      lock = l.lock;
    }

-- the sum is added to line k's drawn
unfoldable pub draw : Ledger → ℕ → ℕ → Ledger
draw l k sum = record {
  count = l.count;
  line = l.line;
  drawn = at l.drawn k (l.drawn k + sum);
  paid_in = l.paid_in;
  living = l.living;
  lock = l.lock;
}

-- the sum is added to line k's paid in
unfoldable pub pay_in : Ledger → ℕ → ℕ → Ledger
pay_in l k sum = record {
  count = l.count;
  line = l.line;
  drawn = l.drawn;
  paid_in = at l.paid_in k (l.paid_in k + sum);
  living = l.living;
  lock = l.lock;
}

-- the lines that pass the test end
unfoldable pub end_lines : Ledger → (ℕ → Bool) → Ledger
end_lines l test = record {
  count = l.count;
  line = l.line;
  drawn = l.drawn;
  paid_in = l.paid_in;
  living = λ k. l.living k && not (test k);
  lock = l.lock;
}

-- the lockword of name n is w
unfoldable pub set_lock : Ledger → Name → Lockword → Ledger
set_lock l n w = record {
  count = l.count;
  line = l.line;
  drawn = l.drawn;
  paid_in = l.paid_in;
  living = l.living;
  lock = λ m. elim (same_name m n) [ true ↦ w | false ↦ l.lock m ];
}

-- ---- a done call; k is the line found
module _ (l : Ledger) (c : Call) (k : ℕ) where
  -- a new line takes its object's name and the drawn p1 and p2
  unfoldable pub new_line : Name → ℕ → ℕ → Line
  new_line n from first = record { name = n; password = c.drawn; from = from; first = first }

  unfoldable pub entry : Op → Ledger
  -- adds a line from none at 0 and zeroes the name's lockword
  entry make_obj = set_lock (add l (new_line c.name 0 0)) c.name no_lockword
  entry read = l
  entry write = l
  entry cap_info = l
  -- adds one from the line found, at what its rule makes of that line's balance: the smaller of the limit and it
  entry derive_cap = add l (new_line (l.line k).name k (min c.limit (balance l k)))
  -- ends the line found and all leading back to it
  entry delete_cap = end_lines l (λ j. leads_back l j k)
  -- ends the object's lines and adds one from none at the old master's balance
  entry rename_obj =
      add (end_lines l (λ j. same_name (l.line j).name (l.line k).name)) (new_line (l.line k).name 0 (balance l k))
  entry withdraw = draw l k c.sum
  entry deposit = pay_in l k c.sum
  entry suspend = l
  entry resume = l
  -- XORs the lockword of the found line's name
  entry apply_lock =
      let w : Lockword = l.lock (l.line k).name in
      set_lock l (l.line k).name (record {
        first = bit_xor w.first c.lock.first;
        second = bit_xor w.second c.lock.second;
      })
  entry send = l
  entry receive = l
  entry wait = l
  entry revive = l
  -- 02, CR 9: call 17 "changes nothing in the ledger"
  entry unknown = l

-- a refused call changes nothing, nor does a password that finds no line
unfoldable pub book : Ledger → Call → Bool → Ledger
book l c true =
    let k : ℕ = found l c.caller c.presented in
    elim (presents (op c.number) && eqb k 0) [ true ↦ l | false ↦ entry l c k (op c.number) ]
book l c false = l

-- it starts with the fresh store's line, from none, at 0
unfoldable pub opening : Password → Ledger
opening p = record {
  count = 1;
  line = λ k. record { name = record { volume = 0; serial = 1 }; password = p; from = 0; first = 0 };
  drawn = λ k. 0;
  paid_in = λ k. 0;
  living = λ k. eqb k 1;
  lock = λ n. no_lockword;
}

-- a theorem that computes with this file's definitions says `unfolding` and this name
unfoldable pub computes : Unit {0}
unfolding leads_back summed balance found add draw pay_in end_lines set_lock new_line entry book opening
computes = tt
