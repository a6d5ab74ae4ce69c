-- 01, "What each call refuses, in order", call by call: its own refusals after 6, and what it does when none is met.
-- The state is the one that the fee left; `me` is the caller's slot, `k` that of the capability presented.
use Rattle.std.specs.Prelude.{ℕ, ◌+◌, ◌-◌, min, max, Bool, true, false, not, ◌&&◌, ◌||◌, List, [], ◌∷◌, ◌++◌, leb, ltb, eqb, length, take, drop}
use Rattle.std.specs.Int.Bits.{bit_xor}
use Rattle.rules.specs.Limit as Limit
use Rattle.rules.specs.Code as Code
use Rattle.rules.specs.Slots.{at, some, any}
use Rattle.rules.specs.Store.{Window, Message, Object, Cap, State, path, descends, object_named}
use Rattle.rules.specs.Store.{blocks, objects_live, caps_live, free_blocks, sums_in}
use Rattle.rules.specs.Rights.{Op, make_obj, read, write, cap_info, derive_cap, delete_cap, rename_obj, withdraw}
use Rattle.rules.specs.Rights.{deposit, suspend, resume, apply_lock, send, receive, wait, revive, unknown, both}
use Rattle.rules.specs.Call.{Call, Outcome, Choice, code, done, hands_back, hands_over, tells}
use Rattle.rules.specs.Refusals.{Refusal, ◌when◌}
use Rattle.rules.specs.Update.{with_bytes, with_lock, with_box}
use Rattle.rules.specs.Changes.{earn, spend, to_house, set_suspended, set_waiting, set_terminated, on_climb, new_cap}
use Rattle.rules.specs.Changes.{end_where, new_object, end_object}

-- ---- windows

-- range v lies in window w: its start is not before w's start and its end not after w's end, also when it is empty
unfoldable pub lies_in : Window → Window → Bool
lies_in v w = leb w.start v.start && leb v.end w.end

-- the point of window w nearest to x
unfoldable pub nearest : ℕ → Window → ℕ
nearest x w = max w.start (min x w.end)

-- each end of range v moved to the nearest point of window w
unfoldable pub moved : Window → Window → Window
moved v w = record { start = nearest v.start w; end = nearest v.end w }

module _ (s : State) (c : Call) (me k : ℕ) where
  -- the slot of the object that the capability presented is for
  abbrev pub target : ℕ
  target = (s.cap k).object

  -- p1 is taken in the object
  unfoldable pub p1_taken : Bool
  p1_taken = some Limit.caps (λ i. eqb (s.cap i).object target && eqb (s.cap i).password.p1 c.drawn.p1)

  -- 8: not a process
  abbrev pub not_process : Bool
  not_process = not (s.object target).process

  -- 9: the caller's cash is below the sum
  abbrev pub cash_below : Bool
  cash_below = ltb (s.cash me) c.sum

  -- ---- make_obj: 12 the serial is taken on that volume; 13 64 objects or 512 capabilities live, or too few free blocks

  unfoldable pub make_obj_refuses : List Refusal
  make_obj_refuses =
      Code.taken when not (eqb (object_named s c.name) 0)
      ∷ Code.no_space when (leb Limit.objects (objects_live s) || leb Limit.caps (caps_live s) || ltb (free_blocks s) (blocks c.size))
      ∷ []

  unfoldable pub made_object : Object
  made_object = record { live = true; name = c.name; size = c.size; process = eqb c.flag 1 }

  -- its master has the whole window, moneyword 0 and the rights given; 02, CR 9: a master's last day is 65,535
  unfoldable pub made_master : ℕ → Cap
  made_master o = record {
    object = o;
    parent = 0;
    password = c.drawn;
    window = record { start = 0; end = c.size };
    rights = c.rights;
    last_day = Limit.day;
  }

  unfoldable pub make_obj_does : Choice → Outcome
  make_obj_does h = hands_back c.name c.drawn
      (new_cap (new_object s h.object made_object) h.cap (made_master h.object) 0)

  -- ---- read, write: 7 the range is not inside the window. Offsets count from the object's start.

  unfoldable pub transfer_refuses : List Refusal
  transfer_refuses = Code.outside_window when not (lies_in c.range (s.cap k).window) ∷ []

  unfoldable pub read_does : Outcome
  read_does = hands_over 0 (take (c.range.end - c.range.start) (drop c.range.start (s.bytes target))) s

  unfoldable pub written : List ℕ → List ℕ
  written bytes = take c.range.start bytes ++ c.text ++ drop c.range.end bytes

  unfoldable pub write_does : Outcome
  write_does = done (with_bytes s (at s.bytes target (written (s.bytes target))))

  -- ---- cap_info: no more. Gives window length and moneyword.

  unfoldable pub cap_info_does : Outcome
  cap_info_does = tells ((s.cap k).window.end - (s.cap k).window.start) (s.money k) s

  -- ---- derive_cap: 12 p1 is taken in the object; 13 512 capabilities live

  unfoldable pub derive_cap_refuses : List Refusal
  derive_cap_refuses = Code.taken when p1_taken ∷ Code.no_space when leb Limit.caps (caps_live s) ∷ []

  -- the rights in both sets, and each end of the range moved to the nearest point of the parent's window; 02, CR 9: the
  -- smaller of the last day given and the parent's
  unfoldable pub child : Cap
  child = record {
    object = target;
    parent = k;
    password = c.drawn;
    window = moved c.range (s.cap k).window;
    rights = both (s.cap k).rights c.rights;
    last_day = min c.last_day (s.cap k).last_day;
  }

  -- 02, CR 1: the child's moneyword is the smaller of the limit and the parent's moneyword
  unfoldable pub derive_cap_does : Choice → Outcome
  derive_cap_does h =
      hands_back (s.object target).name c.drawn (new_cap s h.cap child (min c.limit (s.money k)))

  -- ---- delete_cap: no more. The capability and all its descendants end.

  unfoldable pub deleted : State
  deleted = end_where s (λ i. descends s i k)

  -- with a master the object ends too; its moneyword, cash and box sums go to the house
  unfoldable pub forfeit : ℕ
  forfeit = s.money k + s.cash target + sums_in (s.box target)

  unfoldable pub delete_cap_does : Outcome
  delete_cap_does = elim (eqb (s.cap k).parent 0) [
    | true ↦ done (to_house (end_object deleted target) forfeit)
    | false ↦ done deleted
  ]

  -- ---- rename_obj: 11 not a master; 12 p1 is taken in the object, the old master's own included

  unfoldable pub rename_obj_refuses : List Refusal
  rename_obj_refuses = Code.not_master when not (eqb (s.cap k).parent 0) ∷ Code.taken when p1_taken ∷ []

  -- all capabilities end
  unfoldable pub emptied : State
  emptied = end_where s (λ i. eqb (s.cap i).object target)

  -- a new master has the old one's window and rights, and a master's last day
  unfoldable pub new_master : Cap
  new_master = record {
    object = target;
    parent = 0;
    password = c.drawn;
    window = (s.cap k).window;
    rights = (s.cap k).rights;
    last_day = Limit.day;
  }

  -- and its moneyword
  unfoldable pub rename_obj_does : Choice → Outcome
  rename_obj_does h = hands_back (s.object target).name c.drawn (new_cap emptied h.cap new_master (s.money k))

  -- ---- withdraw: 9 some moneyword from the capability up to its master is below the sum

  unfoldable pub withdraw_refuses : List Refusal
  withdraw_refuses = Code.too_little when any (λ i. ltb (s.money i) c.sum) (path s k) ∷ []

  -- the climb takes the sum from each and adds it once to the caller's cash
  unfoldable pub withdraw_does : Outcome
  withdraw_does = done (earn (on_climb s k (λ m. m - c.sum)) me c.sum)

  -- ---- deposit: 9 the caller's cash is below the sum; 10 a moneyword on the climb would pass 4,294,967,295

  unfoldable pub deposit_refuses : List Refusal
  deposit_refuses =
      Code.too_little when cash_below
      ∷ Code.overflows when any (λ i. ltb Limit.word (s.money i + c.sum)) (path s k)
      ∷ []

  -- each on the climb grows
  unfoldable pub deposit_does : Outcome
  deposit_does = done (spend (on_climb s k (λ m. m + c.sum)) me c.sum)

  -- ---- suspend, resume: 8 not a process. Sets or clears the mark. apply_lock: 8. XORs the target's lockword.

  unfoldable pub process_refuses : List Refusal
  process_refuses = Code.not_process when not_process ∷ []

  unfoldable pub suspend_does : Outcome
  suspend_does = done (set_suspended s target true)

  unfoldable pub resume_does : Outcome
  resume_does = done (set_suspended s target false)

  unfoldable pub apply_lock_does : Outcome
  apply_lock_does = done (with_lock s (at s.lock target (record {
    first = bit_xor (s.lock target).first c.lock.first;
    second = bit_xor (s.lock target).second c.lock.second;
  })))

  -- ---- send: 8; 9 the caller's cash is below the sum; 14 four messages in the box

  unfoldable pub send_refuses : List Refusal
  send_refuses =
      Code.not_process when not_process
      ∷ Code.too_little when cash_below
      ∷ Code.box_full when leb Limit.box (length (s.box target))
      ∷ []

  unfoldable pub message : Message
  message = record { bytes = c.text; sum = c.sum }

  -- the sum travels in the message; the target's waiting mark clears
  unfoldable pub send_does : Outcome
  send_does = done (set_waiting (with_box (spend s me c.sum) (at s.box target (s.box target ++ message ∷ []))) target false)

  -- ---- receive: 15 the box is empty

  abbrev pub box_empty : Bool
  box_empty = eqb (length (s.box me)) 0

  unfoldable pub receive_refuses : List Refusal
  receive_refuses = Code.box_empty when box_empty ∷ []

  -- takes the oldest; its sum joins the cash
  unfoldable pub receive_does : List Message → Outcome
  receive_does [] = done s
  receive_does (m ∷ rest) = hands_over m.sum m.bytes (earn (with_box s (at s.box me rest)) me m.sum)

  -- ---- wait: no more. With an empty box it sets the mark; with at least one message in the box it is done but sets no
  -- mark (02, CR 2)

  unfoldable pub wait_does : Outcome
  wait_does = elim box_empty [ true ↦ done (set_waiting s me true) | false ↦ done s ]

  -- ---- revive: 8; 16 not terminated, or sum 0; 9 the caller's cash is below the sum

  unfoldable pub revive_refuses : List Refusal
  revive_refuses =
      Code.not_process when not_process
      ∷ Code.not_revivable when (not (s.marks target).terminated || eqb c.sum 0)
      ∷ Code.too_little when cash_below
      ∷ []

  -- the terminated mark clears and the sum moves from the caller's cash to the target's
  unfoldable pub revive_does : Outcome
  revive_does = done (set_terminated (earn (spend s me c.sum) target c.sum) target false)

  -- ---- the sixteen, by call

  unfoldable pub refuses : Op → List Refusal
  refuses make_obj = make_obj_refuses
  refuses read = transfer_refuses
  refuses write = transfer_refuses
  refuses cap_info = []
  refuses derive_cap = derive_cap_refuses
  refuses delete_cap = []
  refuses rename_obj = rename_obj_refuses
  refuses withdraw = withdraw_refuses
  refuses deposit = deposit_refuses
  refuses suspend = process_refuses
  refuses resume = process_refuses
  refuses apply_lock = process_refuses
  refuses send = send_refuses
  refuses receive = receive_refuses
  refuses wait = []
  refuses revive = revive_refuses
  refuses unknown = []

  unfoldable pub does : Choice → Op → Outcome
  does h make_obj = make_obj_does h
  does h read = read_does
  does h write = write_does
  does h cap_info = cap_info_does
  does h derive_cap = derive_cap_does h
  does h delete_cap = delete_cap_does
  does h rename_obj = rename_obj_does h
  does h withdraw = withdraw_does
  does h deposit = deposit_does
  does h suspend = suspend_does
  does h resume = resume_does
  does h apply_lock = apply_lock_does
  does h send = send_does
  does h receive = receive_does (s.box me)
  does h wait = wait_does
  does h revive = revive_does
  -- answered 2 before this
  does h unknown = record { answer = code Code.out_of_range; after = s }

-- a theorem that computes with this file's definitions says `unfolding` and this name
unfoldable pub computes : Unit {0}
unfolding lies_in nearest moved p1_taken make_obj_refuses made_object made_master make_obj_does transfer_refuses read_does
    written write_does cap_info_does derive_cap_refuses child derive_cap_does deleted forfeit delete_cap_does
    rename_obj_refuses emptied new_master rename_obj_does withdraw_refuses withdraw_does deposit_refuses deposit_does
    process_refuses suspend_does resume_does apply_lock_does send_refuses message send_does receive_refuses receive_does
    wait_does revive_refuses revive_does refuses does
computes = tt
