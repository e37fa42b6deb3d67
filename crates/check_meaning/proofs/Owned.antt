-- The arrays of a state that is held by value have the places that their types say: `good` of a place of its owner's proof shows `Is`.
use mathlib.Core.List.{List}
use mir.Val.{Val}
use denote.Laws.{Is}
use Rattle.pool_state.specs.Shown.{pool}
use Rattle.pool_state.specs.declared.MemoryAllocator.{MemoryAllocator}
use Rattle.pool_state.specs.contracts.MemoryAllocator as T
use Rattle.check_meaning.specs.Paragraph.{Sized}

pub owned-sized : (s : MemoryAllocator) (vs : List Val) → Is T.the_row s vs → Sized pool s
owned-sized s vs is = record {
  heads = is.1.1.1.1.0.1.0.1;
  start = is.1.1.1.1.1.0.1.0.1;
  end = is.1.1.1.1.1.1.0.1.0.1;
  enabled = is.1.1.1.1.1.1.1.0.1.0.1;
  previous = is.1.1.1.1.1.1.1.1.0.1.0.1;
  next = is.1.1.1.1.1.1.1.1.1.0.1.0.1;
  list_prev = is.1.1.1.1.1.1.1.1.1.1.0.1.0.1;
  list_next = is.1.1.1.1.1.1.1.1.1.1.1.0.1.0.1;
}
