-- The decision over call numbers: the own part of each call, exactly. The slices are those that the fee left; `me` is the
-- caller's slot, `k` that of the capability presented.
use Rattle.std.specs.Prelude.{ℕ, List}
use Rattle.rules.specs.Rights.{Op, make_obj, read, write, cap_info, derive_cap, delete_cap, rename_obj, withdraw}
use Rattle.rules.specs.Rights.{deposit, suspend, resume, apply_lock, send, receive, wait, revive, unknown}
use Rattle.rules.specs.Call.{Call}
use Rattle.rules.specs.Code as Code
use Rattle.call_steps.specs.Run.{Ran, over}
use Rattle.call_marks.specs.Runs.{suspended_run, lock_run, wait_run, revive_run, info_run}
use Rattle.call_purse.specs.Calls.{withdraw_run, deposit_run}
use Rattle.call_transfer.specs.Runs.{read_run, write_run}
use Rattle.call_mail.specs.Runs.{send_run, receive_run}
use Rattle.call_make.specs.Runs.{make_run}
use Rattle.call_derive.specs.Runs.{derive_run}
use Rattle.call_delete.specs.Runs.{delete_run}
use Rattle.call_rename.specs.Runs.{rename_run}

unfoldable pub own_run : List ℕ → List ℕ → List ℕ → Call → ℕ → ℕ → Op → Ran
own_run b l w c me k make_obj = make_run b l w c.name c.size c.flag c.rights c.drawn
own_run b l w c me k read = read_run b l w k c.range.start c.range.end
own_run b l w c me k write = write_run b l w k c.range.start c.range.end c.text
own_run b l w c me k cap_info = info_run b l w k
own_run b l w c me k derive_cap = derive_run b l w k c.rights c.range c.drawn c.limit c.last_day
own_run b l w c me k delete_cap = delete_run b l w k
own_run b l w c me k rename_obj = rename_run b l w k c.drawn
own_run b l w c me k withdraw = withdraw_run b l w me k c.sum
own_run b l w c me k deposit = deposit_run b l w me k c.sum
own_run b l w c me k suspend = suspended_run b l w k 1
own_run b l w c me k resume = suspended_run b l w k 0
own_run b l w c me k apply_lock = lock_run b l w k c.lock
own_run b l w c me k send = send_run b l w c.text me k c.sum
own_run b l w c me k receive = receive_run b l w me
own_run b l w c me k wait = wait_run b l w me
own_run b l w c me k revive = revive_run b l w me k c.sum
own_run b l w c me k unknown = over Code.out_of_range b l w
