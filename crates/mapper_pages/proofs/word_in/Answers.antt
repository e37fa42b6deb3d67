use Rattle.mapper_pages.proofs.word_in.Goals as goal

-- src/lib.rt:58:1
pub returns : goal.returns
returns c =
    rw c.if-fresh.false c.word_at.ensures
