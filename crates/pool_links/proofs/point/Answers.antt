use native.Mathlib.Omega.{arith}
use mathlib.Core.Path.{sym}
use lib.Seq.{set_out}
use Rattle.pool_links.proofs.point.Goals as goal

pub returns-else-n-lt-POOL : goal.returns-else-n-lt-POOL
returns-else-n-lt-POOL c len =
    sym (set_out c.args.links.now _ _ (omega arith))
