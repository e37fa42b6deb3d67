use mathlib.Core.Path.{sym, ◌∙◌}
use lib.Dec.{lit≤}
use Rattle.pool_state.specs.Shown.{pool}
use Rattle.script_answers.proofs.Replies.{chain-here, listing-says}
use Rattle.holder_answers.proofs.Serving.{book-held, line-is, held-says, list-says, bad-says}
use Rattle.holder_answers.proofs.answer_holder_line.Goals as goal

pub answer_call-requires : goal.answer_call-requires
answer_call-requires c =
    c.requires.sound_words

pub put_holdings-requires : goal.put_holdings-requires
put_holdings-requires c =
    c.requires.pool_in_bounds

pub put_listing-requires : goal.put_listing-requires
put_listing-requires c =
    let s = c in record { ordered = (_, chain-here pool (lit≤ tt) _ (book-held pool (lit≤ tt) _ s.requires.sound_words)); pool_in_bounds = s.requires.pool_in_bounds }

pub returns-in-Asks : goal.returns-in-Asks
returns-in-Asks c =
    line-is pool _ _ _ _ _ _ _ _ (sym c.parse_holder_line.ensures ∙ c.in-Asks.is) c.answer_call.ensures

pub returns-in-Held : goal.returns-in-Held
returns-in-Held c =
    line-is pool _ _ _ _ _ _ _ _ (sym c.parse_holder_line.ensures ∙ c.in-Held.is) (held-says pool _ _ _ _ _ _ _ c.state_in-s.ensures c.put_holdings.ensures)

pub returns-in-List : goal.returns-in-List
returns-in-List c =
    let s = c in let h = book-held pool (lit≤ tt) _ s.requires.sound_words in line-is pool _ _ _ _ _ _ _ _ (sym c.parse_holder_line.ensures ∙ c.in-List.is) (list-says pool _ _ _ _ _ _ (listing-says pool (lit≤ tt) _ h _ _ _ _ (c.put_listing.ensures _ (chain-here pool (lit≤ tt) _ h))))

pub returns-in-Bad : goal.returns-in-Bad
returns-in-Bad c =
    line-is pool _ _ _ _ _ _ _ _ (sym c.parse_holder_line.ensures ∙ c.in-Bad.is) (bad-says pool _ _ _ _ _ c.put_bad.ensures)
