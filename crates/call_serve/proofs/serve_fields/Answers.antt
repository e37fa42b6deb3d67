use mathlib.Core.Path.{◌≡◌, sym, subst}
use Rattle.rules.specs.Rules.{Book, step}
use Rattle.pool_state.specs.Shown.{pool}
use Rattle.pool_state.specs.declared.MemoryAllocator.{MemoryAllocator}
use Rattle.calls.specs.Answers.{Answers}
use Rattle.calls.specs.Calls.{Answer, call_of}
use Rattle.calls.specs.declared.Request.{Request}
use Rattle.call_serve.proofs.serve_fields.Goals as goal

-- the request is what the match found it to be
asked : (b : Book) (q q' : Request) (k : Answer) (s : MemoryAllocator) → q ≡ q' → Answers pool (step pool (call_of q') b) k s → Answers pool (step pool (call_of q) b) k s
asked b q q' k s e h = subst (λ (x : Request). Answers pool (step pool (call_of x) b) k s) (sym e) h

pub returns-in-Allocate-clause-does : goal.returns-in-Allocate-clause-does
unfolding step
returns-in-Allocate-clause-does c b h =
    asked b _ _ _ _ c.in-Allocate.is (c.allocate_in.ensures.does b h)

pub returns-in-Reserve-clause-does : goal.returns-in-Reserve-clause-does
unfolding step
returns-in-Reserve-clause-does c b h =
    asked b _ _ _ _ c.in-Reserve.is (c.reserve_in.ensures.does b h)

pub returns-in-Free-clause-does : goal.returns-in-Free-clause-does
unfolding step
returns-in-Free-clause-does c b h =
    asked b _ _ _ _ c.in-Free.is (c.free_in.ensures.does b h)
