-- A client of an engine: acts of any kind, each of which makes calls, or begins anew. Demand 3 of it is the one statement, from the last act on that
-- began anew. Assumes nothing.
use Rattle.std.specs.Prelude.{Bool, cond, List, [], ◌∷◌, ◌++◌}
use Rattle.rules.specs.Rules.{Voucher}
use Rattle.rules_engine.specs.Engine.{Engine}
use Rattle.rules_engine.specs.Demand.{DemandOf}

pub record Client (e : Engine) : Type 1 where
  pub Act : Type 0
  -- the act begins anew, whatever was before
  pub renews : Act → Bool
  -- the vouchers that it gives the caller, and the state that it leaves
  pub gives : Act → e.State → List Voucher
  pub next : Act → e.State → e.State

-- the state that a list of acts leaves
unfoldable pub left_by : (e : Engine) (d : Client e) → e.State → List d.Act → e.State
left_by e d s [] = s
left_by e d s (a ∷ acts) = left_by e d (d.next a s) acts

-- the vouchers since the last act that began anew; vs are those that are kept already
unfoldable pub kept_by : (e : Engine) (d : Client e) → e.State → List Voucher → List d.Act → List Voucher
kept_by e d s vs [] = vs
kept_by e d s vs (a ∷ acts) = kept_by e d (d.next a s) (cond (d.renews a) [] vs ++ d.gives a s) acts

-- from the first state on, after any list of acts
abbrev pub ClientDemand : (e : Engine) → Client e → Type 0
ClientDemand e d = DemandOf e (List d.Act) (left_by e d e.new) (kept_by e d e.new [])
