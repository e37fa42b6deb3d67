use Rattle.script_replies.specs.Replies.{reply_text}
use Rattle.script_replies.proofs.Texts.{reply-is}
use Rattle.script_replies.proofs.put_reply.Goals as goal

pub returns-in-Allocate : goal.returns-in-Allocate
unfolding reply_text
returns-in-Allocate c =
    reply-is _ _ _ _ _ _ _ c.in-Allocate.is c.put_placed.ensures

pub returns-in-Reserve : goal.returns-in-Reserve
unfolding reply_text
returns-in-Reserve c =
    reply-is _ _ _ _ _ _ _ c.in-Reserve.is c.put_moved.ensures

pub returns-in-Free : goal.returns-in-Free
unfolding reply_text
returns-in-Free c =
    reply-is _ _ _ _ _ _ _ c.in-Free.is c.put_moved-in-Free.ensures
