use Rattle.holder_rules.specs.Register.{entry}
use Rattle.holder_image.proofs.entries.read_entry.Goals as goal

pub returns : goal.returns
returns c =
    let x = c.read_be-holder.ensures.value in let y = c.read_word-start.ensures in let z = c.read_word-last.ensures in
    (λ i. entry (x i) (y i) (z i))
