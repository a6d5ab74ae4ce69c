-- 01, "withdraw" and "deposit": the runs of the two calls on a well-formed store are what the rules give.
use Prim.Native.Nat.{ℕ, ◌+◌, ◌-◌}
use mathlib.Core.Path.{◌≡◌, refl, sym, ap, ◌∙◌, subst}
use mathlib.Core.List.{List, [], ◌∷◌}
use lib.Dec.{ltb}
use lib.ListN.{length, set}
use Rattle.rules.specs.Slots.{at}
use Rattle.rules.specs.Rights.{Op, op, withdraw, deposit}
use Rattle.rules.specs.Call.{Call, done}
use Rattle.rules.specs.Refusals.{◌when◌, first}
use Rattle.rules.specs.Update.{with_cash, with_money}
use Rattle.rules.specs.Changes.{earn, spend, on_climb}
use Rattle.rules.specs.Calls.{withdraw_refuses, withdraw_does, deposit_refuses, deposit_does, refuses, does}
use Rattle.layout.specs.Layout as Layout
use Rattle.layout.specs.Rows.{parent_of, cash_of}
use Rattle.layout.specs.View.{view}
use Rattle.layout.specs.WellFormed.{Plain}
use Rattle.call_steps.specs.Run.{Process, Held, over, MeetsPlain}
use Rattle.call_steps.proofs.Meeting.{none, takes, DoesPlain, plain-settled}
use Rattle.call_purse.specs.declared.way.Way.{Way}
use Rattle.call_purse.specs.declared.way.Way.TheVariants.{Out, Into}
use Rattle.call_purse.specs.Climb.{climb_of, stops, moves, climb_moved}
use Rattle.call_purse.specs.Calls.{withdraw_code, withdrawn, withdraw_run}
use Rattle.call_purse.specs.Calls.{deposit_code, deposited, deposit_run}
use Rattle.call_purse.proofs.Storing.{Changed, changed}
use Rattle.call_purse.proofs.Reaching.{cash-is, climb-chain, stops-is}
use Rattle.call_purse.proofs.Shifting.{view-after}

-- ---- a call that changes only the words: after are those of a done one

does-words : (b l w : List ℕ) → Plain b l w → (c : Call) (me k : ℕ) (o : Op) (after : List ℕ)
    → does (view b l w) c me k none o ≡ done (view b l after) → length after ≡ length w
    → DoesPlain l (view b l w) c me k o (over 0 b l after)
unfolding over done
does-words b l w g c me k o after made long = record {
  rules = made;
  sized = record { bytes = g.sized.bytes; links = g.sized.links; words = long ∙ g.sized.words };
  cells = g.cells;
  links = refl;
}

-- ---- the two calls

module _ (b l w : List ℕ) (g : Plain b l w) (me k : ℕ) (caller : Process b l me) (held : Held l k) where
  changed-by : (way : Way) (sum v : ℕ) → Changed (moves way sum) (climb_of l k) me v w
      (set (climb_moved way l w k sum) (Layout.CASH + me) v)
  unfolding climb_moved
  changed-by way sum v = changed (moves way sum) w (parent_of l) k (climb_of l k) (climb-chain b l w g k held)
      g.sized.words me v caller.low caller.high

  module _ (c : Call) where
    withdraw-refuses : first (refuses (view b l w) c me k withdraw) ≡ withdraw_code l w k c.sum
    unfolding refuses withdraw_refuses withdraw_code stops
    withdraw-refuses = ap (λ t. first (9 when t ∷ [])) (stops-is b l w g k held Out c.sum)

    withdraw-does : does (view b l w) c me k none withdraw ≡ done (view b l (withdrawn l w me k c.sum))
    unfolding does withdraw_does earn with_cash on_climb with_money withdrawn moves
    withdraw-does =
        let t = changed-by Out c.sum (cash_of w me + c.sum) in
        ap done ((λ d. with_cash (on_climb (view b l w) k (moves Out c.sum))
        (at (view b l w).cash me (cash-is b l w me caller d + c.sum)))
        ∙ sym (view-after b l w g me k caller held (moves Out c.sum) (cash_of w me + c.sum) _ t))

    deposit-refuses : first (refuses (view b l w) c me k deposit) ≡ deposit_code l w me k c.sum
    unfolding refuses deposit_refuses deposit_code stops
    deposit-refuses =
        let short = cash-is b l w me caller in
        let full = stops-is b l w g k held Into c.sum in
        λ d. first (9 when ltb (short d) c.sum ∷ 10 when full d ∷ [])

    deposit-does : does (view b l w) c me k none deposit ≡ done (view b l (deposited l w me k c.sum))
    unfolding does deposit_does spend with_cash on_climb with_money deposited moves
    deposit-does =
        let t = changed-by Into c.sum (cash_of w me - c.sum) in
        ap done ((λ d. with_cash (on_climb (view b l w) k (moves Into c.sum))
        (at (view b l w).cash me (cash-is b l w me caller d - c.sum)))
        ∙ sym (view-after b l w g me k caller held (moves Into c.sum) (cash_of w me - c.sum) _ t))

  pub withdraw-meets : (c : Call) (sum : ℕ) → op c.number ≡ withdraw → c.sum ≡ sum
      → MeetsPlain l (view b l w) c me k withdraw (withdraw_run b l w me k sum)
  unfolding withdraw_run withdrawn takes
  withdraw-meets c sum call e = subst (λ x. MeetsPlain l (view b l w) c me k withdraw (withdraw_run b l w me k x)) e
      (plain-settled b l w c me k withdraw (ap takes call) g _ _ (sym (withdraw-refuses c)) (λ z.
      does-words b l w g c me k withdraw _ (withdraw-does c) (changed-by Out c.sum (cash_of w me + c.sum)).long))

  pub deposit-meets : (c : Call) (sum : ℕ) → op c.number ≡ deposit → c.sum ≡ sum
      → MeetsPlain l (view b l w) c me k deposit (deposit_run b l w me k sum)
  unfolding deposit_run deposited takes
  deposit-meets c sum call e = subst (λ x. MeetsPlain l (view b l w) c me k deposit (deposit_run b l w me k x)) e
      (plain-settled b l w c me k deposit (ap takes call) g _ _ (sym (deposit-refuses c)) (λ z.
      does-words b l w g c me k deposit _ (deposit-does c) (changed-by Into c.sum (cash_of w me - c.sum)).long))
