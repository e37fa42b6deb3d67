use mathlib.Core.Path.{◌≡◌, subst}
use Rattle.rules.specs.Rules.{Book, step}
use Rattle.pool_state.specs.Shown.{pool}
use Rattle.pool_state.specs.declared.MemoryAllocator.{MemoryAllocator}
use Rattle.calls.specs.Answers.{Answers}
use Rattle.calls.specs.Calls.{Answer}
use Rattle.batch.specs.InWords.{rule_of, Asked}
use Rattle.batch.proofs.InWords.{free-asked, allocate-asked, reserve-asked}
use Rattle.batch.proofs.in_place.serve_words.Goals as goal

-- what is asked for is what the kind says
as-asked : (b : Book) (q q' : Asked) (k : Answer) (s : MemoryAllocator) → q ≡ q' → Answers pool (rule_of pool q b) k s → Answers pool (rule_of pool q' b) k s
as-asked b q q' k s e h = subst (λ (x : Asked). Answers pool (rule_of pool x b) k s) e h

pub returns-in-1-clause-does : goal.returns-in-1-clause-does
unfolding step
returns-in-1-clause-does c b h =
    as-asked b _ _ _ _ (free-asked c.args.words c.in-1.is) (c.free_in.ensures.does b h)

pub returns-in-2-clause-does : goal.returns-in-2-clause-does
unfolding step
returns-in-2-clause-does c b h =
    as-asked b _ _ _ _ (allocate-asked c.args.words c.in-2.is) (c.allocate_in.ensures.does b h)

pub returns-in-3-clause-does : goal.returns-in-3-clause-does
unfolding step
returns-in-3-clause-does c b h =
    as-asked b _ _ _ _ (reserve-asked c.args.words c.in-3.is) (c.reserve_in.ensures.does b h)
