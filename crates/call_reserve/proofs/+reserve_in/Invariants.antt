use Rattle.call_reserve.proofs.+reserve_in.Given as goal

-- the order falls to 0
abbrev pub decreases-reserve_in : goal.decreases-reserve_in
decreases-reserve_in l = l.order
