use mathlib.Core.Path.{sym}
use Rattle.bytes_be.proofs.Laws.{number-two}
use Rattle.bytes_be.proofs.read_pair.Goals as goal

pub returns-clause-value : goal.returns-clause-value
returns-clause-value c = sym (number-two c.args.part.now c.requires)
