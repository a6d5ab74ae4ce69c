-- `own` is the run of the call that the number chooses, arm by arm.
use mathlib.Core.Path.{refl, ap}
use Rattle.rules.specs.Rights.{op, asked}
use Rattle.call_steps.specs.Request.{call_of}
use Rattle.kernel_step.specs.Slices.{slices}
use Rattle.kernel_step.specs.Own.{own_run}
use Rattle.kernel_step.specs.Ends.{clears}
use Rattle.kernel_step.proofs.Asked.{no_other, make-asked, read_asked, write-asked, info-asked, derive-asked}
use Rattle.kernel_step.proofs.Asked.{delete-asked, rename-asked, withdraw-asked, deposit-asked, suspend-asked}
use Rattle.kernel_step.proofs.Asked.{resume-asked, lock-asked, send-asked, receive-asked, revive-asked}
use Rattle.kernel_step.proofs.Replying.{arm-fills, arm-reply, arm-cleared}
use Rattle.kernel_step.proofs.own.own.Goals as goal

pub make_obj-requires : goal.make_obj-requires
unfolding call_of op
make_obj-requires c = make-asked c.requires (ap op c.in-1.is)

pub read-requires : goal.read-requires
unfolding call_of op
read-requires c = read_asked c.requires c.args.buffer.now refl (ap op c.in-2.is)

pub write-requires : goal.write-requires
unfolding call_of op
write-requires c = write-asked c.requires (ap op c.in-3.is)

pub cap_info-requires : goal.cap_info-requires
unfolding call_of op
cap_info-requires c = info-asked c.requires (ap op c.in-4.is)

pub derive_cap-requires : goal.derive_cap-requires
unfolding call_of op
derive_cap-requires c = derive-asked c.requires (ap op c.in-5.is)

pub delete_cap-requires : goal.delete_cap-requires
unfolding call_of op
delete_cap-requires c = delete-asked c.requires (ap op c.in-6.is)

pub rename_obj-requires : goal.rename_obj-requires
unfolding call_of op
rename_obj-requires c = rename-asked c.requires (ap op c.in-7.is)

pub withdraw-requires : goal.withdraw-requires
unfolding call_of op
withdraw-requires c = withdraw-asked c.requires (ap op c.in-8.is)

pub deposit-requires : goal.deposit-requires
unfolding call_of op
deposit-requires c = deposit-asked c.requires (ap op c.in-9.is)

pub suspend-requires : goal.suspend-requires
unfolding call_of op
suspend-requires c = suspend-asked c.requires (ap op c.in-10.is)

pub resume-requires : goal.resume-requires
unfolding call_of op
resume-requires c = resume-asked c.requires (ap op c.in-11.is)

pub apply_lock-requires : goal.apply_lock-requires
unfolding call_of op
apply_lock-requires c = lock-asked c.requires (ap op c.in-12.is)

pub send-requires : goal.send-requires
unfolding call_of op
send-requires c = send-asked c.requires (ap op c.in-13.is)

pub receive-requires : goal.receive-requires
unfolding call_of op
receive-requires c = receive-asked c.requires c.args.buffer.now refl (ap op c.in-14.is)

pub revive-requires : goal.revive-requires
unfolding call_of op
revive-requires c = revive-asked c.requires (ap op c.in-16.is)

pub returns-in-1 : goal.returns-in-1
unfolding asked call_of clears op own_run
returns-in-1 c =
    arm-reply own_run c.args.req c.args.text.now c.args.me c.args.k (slices c.args.bytes.now c.args.links.now c.args.words.now c.args.buffer.now c.args.scratch.now) 1 c.in-1.is refl
    c.make_obj.ensures refl refl

pub returns-in-2 : goal.returns-in-2
unfolding asked call_of clears op own_run
returns-in-2 c =
    arm-fills own_run c.args.req c.args.text.now c.args.me c.args.k (slices c.args.bytes.now c.args.links.now c.args.words.now c.args.buffer.now c.args.scratch.now) 2 c.in-2.is refl
    c.read.ensures refl

pub returns-in-3 : goal.returns-in-3
unfolding asked call_of clears op own_run
returns-in-3 c =
    arm-reply own_run c.args.req c.args.text.now c.args.me c.args.k (slices c.args.bytes.now c.args.links.now c.args.words.now c.args.buffer.now c.args.scratch.now) 3 c.in-3.is refl
    c.write.ensures refl refl

pub returns-in-4 : goal.returns-in-4
unfolding asked call_of clears op own_run
returns-in-4 c =
    arm-reply own_run c.args.req c.args.text.now c.args.me c.args.k (slices c.args.bytes.now c.args.links.now c.args.words.now c.args.buffer.now c.args.scratch.now) 4 c.in-4.is refl
    (c.cap_info.ensures c.args.bytes.now c.args.links.now) refl refl

pub returns-in-5 : goal.returns-in-5
unfolding asked call_of clears op own_run
returns-in-5 c =
    arm-reply own_run c.args.req c.args.text.now c.args.me c.args.k (slices c.args.bytes.now c.args.links.now c.args.words.now c.args.buffer.now c.args.scratch.now) 5 c.in-5.is refl
    c.derive_cap.ensures refl refl

pub returns-in-6 : goal.returns-in-6
unfolding asked call_of clears op own_run
returns-in-6 c =
    arm-cleared own_run c.args.req c.args.text.now c.args.me c.args.k (slices c.args.bytes.now c.args.links.now c.args.words.now c.args.buffer.now c.args.scratch.now) 6 c.in-6.is refl
    c.delete_cap.ensures.replies refl c.delete_cap.ensures.scratch-left

pub returns-in-7 : goal.returns-in-7
unfolding asked call_of clears op own_run
returns-in-7 c =
    arm-cleared own_run c.args.req c.args.text.now c.args.me c.args.k (slices c.args.bytes.now c.args.links.now c.args.words.now c.args.buffer.now c.args.scratch.now) 7 c.in-7.is refl
    c.rename_obj.ensures.replies refl c.rename_obj.ensures.scratch-left

pub returns-in-8 : goal.returns-in-8
unfolding asked call_of clears op own_run
returns-in-8 c =
    arm-reply own_run c.args.req c.args.text.now c.args.me c.args.k (slices c.args.bytes.now c.args.links.now c.args.words.now c.args.buffer.now c.args.scratch.now) 8 c.in-8.is refl
    (c.withdraw.ensures c.args.bytes.now) refl refl

pub returns-in-9 : goal.returns-in-9
unfolding asked call_of clears op own_run
returns-in-9 c =
    arm-reply own_run c.args.req c.args.text.now c.args.me c.args.k (slices c.args.bytes.now c.args.links.now c.args.words.now c.args.buffer.now c.args.scratch.now) 9 c.in-9.is refl
    (c.deposit.ensures c.args.bytes.now) refl refl

pub returns-in-10 : goal.returns-in-10
unfolding asked call_of clears op own_run
returns-in-10 c =
    arm-reply own_run c.args.req c.args.text.now c.args.me c.args.k (slices c.args.bytes.now c.args.links.now c.args.words.now c.args.buffer.now c.args.scratch.now) 10 c.in-10.is refl
    (c.suspend.ensures c.args.words.now) refl refl

pub returns-in-11 : goal.returns-in-11
unfolding asked call_of clears op own_run
returns-in-11 c =
    arm-reply own_run c.args.req c.args.text.now c.args.me c.args.k (slices c.args.bytes.now c.args.links.now c.args.words.now c.args.buffer.now c.args.scratch.now) 11 c.in-11.is refl
    (c.resume.ensures c.args.words.now) refl refl

pub returns-in-12 : goal.returns-in-12
unfolding asked call_of clears op own_run
returns-in-12 c =
    arm-reply own_run c.args.req c.args.text.now c.args.me c.args.k (slices c.args.bytes.now c.args.links.now c.args.words.now c.args.buffer.now c.args.scratch.now) 12 c.in-12.is refl
    c.apply_lock.ensures refl refl

pub returns-in-13 : goal.returns-in-13
unfolding asked call_of clears op own_run
returns-in-13 c =
    arm-reply own_run c.args.req c.args.text.now c.args.me c.args.k (slices c.args.bytes.now c.args.links.now c.args.words.now c.args.buffer.now c.args.scratch.now) 13 c.in-13.is refl
    c.send.ensures refl refl

pub returns-in-14 : goal.returns-in-14
unfolding asked call_of clears op own_run
returns-in-14 c =
    arm-fills own_run c.args.req c.args.text.now c.args.me c.args.k (slices c.args.bytes.now c.args.links.now c.args.words.now c.args.buffer.now c.args.scratch.now) 14 c.in-14.is refl
    (c.receive.ensures c.args.links.now) refl

pub returns-in-15 : goal.returns-in-15
unfolding asked call_of clears op own_run
returns-in-15 c =
    arm-reply own_run c.args.req c.args.text.now c.args.me c.args.k (slices c.args.bytes.now c.args.links.now c.args.words.now c.args.buffer.now c.args.scratch.now) 15 c.in-15.is refl
    (c.wait.ensures c.args.links.now c.args.words.now) refl refl

pub returns-in-16 : goal.returns-in-16
unfolding asked call_of clears op own_run
returns-in-16 c =
    arm-reply own_run c.args.req c.args.text.now c.args.me c.args.k (slices c.args.bytes.now c.args.links.now c.args.words.now c.args.buffer.now c.args.scratch.now) 16 c.in-16.is refl
    c.revive.ensures refl refl

pub returns-in_default : goal.returns-in_default
unfolding call_of
returns-in_default c = absurd (no_other c.requires c.in_default.in_default-own.rest)
