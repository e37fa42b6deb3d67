use Rattle.std.specs.Prelude.{◌≡◌, Ok, Err}
use Rattle.holder_serve.specs.declared.HolderError.TheVariants.{Memory, NotYours, RegisterFull}
use Rattle.holder_replies.proofs.Says.{refused-as, memory-says, not-yours, register-full}
use Rattle.holder_replies.proofs.put_holder_reply.Goals as goal

pub returns-in-Ok : goal.returns-in-Ok
returns-in-Ok c =
    memory-says _ _ _ _ _ _ _ (Ok c.in-Ok.address) c.in-Ok.is c.request_below.ensures c.put_reply.ensures

pub returns-in-Err-Memory : goal.returns-in-Err-Memory
returns-in-Err-Memory c =
    let q : c.in-Err-Memory.field-0 ≡ Memory c.in-Err-Memory.error = rw c.in-Err-Memory.is at c.in-Err-Memory.field-0-is in
    memory-says _ _ _ _ _ _ _ (Err c.in-Err-Memory.error) (refused-as _ _ _ c.in-Err-Memory.is q) c.request_below-in-Err-Memory.ensures c.put_reply-in-Err-Memory.ensures

pub returns-in-Err-NotYours : goal.returns-in-Err-NotYours
returns-in-Err-NotYours c =
    let q : c.in-Err-NotYours.field-0 ≡ NotYours = rw c.in-Err-NotYours.is at c.in-Err-NotYours.field-0-is in
    not-yours _ _ _ _ _ _ (refused-as _ _ _ c.in-Err-NotYours.is q) c.put_no.ensures

pub returns-in-Err-RegisterFull : goal.returns-in-Err-RegisterFull
returns-in-Err-RegisterFull c =
    let q : c.in-Err-RegisterFull.field-0 ≡ RegisterFull = rw c.in-Err-RegisterFull.is at c.in-Err-RegisterFull.field-0-is in
    register-full _ _ _ _ _ _ (refused-as _ _ _ c.in-Err-RegisterFull.is q) c.put_no-in-Err-RegisterFull.ensures
