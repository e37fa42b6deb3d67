use Rattle.holder_arrays.proofs.meets_free.Goals as goal

pub returns : goal.returns
returns c =
    λ chain o.
    let g = c.search_entry_previous_address-gap.ensures chain _ o in
    c.overlaps_neighbour.ensures chain (record { good = o.runs.good; stand = o.runs.stand; apart = o.apart; gap = g })
