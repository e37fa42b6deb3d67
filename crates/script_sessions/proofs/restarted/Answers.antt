use Rattle.script_sessions.proofs.restarted.Goals as goal

pub returns : goal.returns
returns c =
    rw c.afresh-r.ensures
