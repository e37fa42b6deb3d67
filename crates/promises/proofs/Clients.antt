-- A client whose acts make calls, or begin anew, leaves the states and the vouchers of lists of calls; so demand 3 holds of it. Assumes nothing.
use Prim.Native.Nat.{ℕ}
use mathlib.Core.Bool.{Bool, true, false, cond}
use mathlib.Core.List.{List, [], ◌∷◌, ◌++◌}
use mathlib.Core.Path.{◌≡◌, refl, sym, ap, ◌∙◌}
use Rattle.rules.specs.Rules.{Call, Voucher}
use Rattle.rules_engine.specs.Engine.{Engine, after, vouchers}
use Rattle.rules_engine.specs.Demand.{left, Demand}
use Rattle.rules_engine.proofs.Histories.{after-append, vouchers-append, carried}
use Rattle.rules_lowest.specs.Carried.{Lowest}
use Rattle.rules_lowest.proofs.Carried as figure
use Rattle.promises.specs.Clients.{Client, left_by, kept_by, ClientDemand}
use Rattle.promises.specs.Lowest.{ClientLowest}

-- what is to be shown of a client, act by act: the calls that an act makes, or that it begins anew
pub record Plays (e : Engine) (d : Client e) : Type 0 where
  pub calls : d.Act → List Call
  pub anew : (a : d.Act) (cs : List Call) → d.renews a ≡ true → (d.next a (left e cs) ≡ e.new) × (d.gives a (left e cs) ≡ [])
  pub onward : (a : d.Act) (cs : List Call) → d.renews a ≡ false
      → (d.next a (left e cs) ≡ after e (left e cs) (calls a)) × (d.gives a (left e cs) ≡ vouchers e (left e cs) (calls a))

module _ (e : Engine) (d : Client e) (p : Plays e d) where
  -- the calls since the beginning, after one act more
  abbrev joined : List Call → d.Act → List Call
  joined cs a = cond (d.renews a) [] (cs ++ p.calls a)

  since : List Call → List d.Act → List Call
  since cs [] = cs
  since cs (a ∷ acts) = since (joined cs a) acts

  act-left : (cs : List Call) (a : d.Act) → left e (joined cs a) ≡ d.next a (left e cs)
  unfolding after
  act-left cs a = go (d.renews a) refl
    where
      go : (t : Bool) → d.renews a ≡ t → left e (cond t [] (cs ++ p.calls a)) ≡ d.next a (left e cs)
      go true q = sym (p.anew a cs q).0
      go false q = after-append e e.new cs (p.calls a) ∙ sym (p.onward a cs q).0

  act-kept : (cs : List Call) (a : d.Act) → vouchers e e.new (joined cs a) ≡ cond (d.renews a) [] (vouchers e e.new cs) ++ d.gives a (left e cs)
  unfolding vouchers
  act-kept cs a = go (d.renews a) refl
    where
      go : (t : Bool) → d.renews a ≡ t → vouchers e e.new (cond t [] (cs ++ p.calls a)) ≡ cond t [] (vouchers e e.new cs) ++ d.gives a (left e cs)
      go true q = sym (p.anew a cs q).1
      go false q = vouchers-append e e.new cs (p.calls a) ∙ ap (λ (vs : List Voucher). vouchers e e.new cs ++ vs) (sym (p.onward a cs q).1)

  acts-left : (cs : List Call) (acts : List d.Act) → left e (since cs acts) ≡ left_by e d (left e cs) acts
  unfolding left_by since
  acts-left cs [] = refl
  acts-left cs (a ∷ acts) = acts-left (joined cs a) acts ∙ ap (λ (s : e.State). left_by e d s acts) (act-left cs a)

  acts-kept : (cs : List Call) (acts : List d.Act) → vouchers e e.new (since cs acts) ≡ kept_by e d (left e cs) (vouchers e e.new cs) acts
  unfolding kept_by since
  acts-kept cs [] = refl
  acts-kept cs (a ∷ acts) = let s = act-left cs a in let v = act-kept cs a in acts-kept (joined cs a) acts ∙ (λ i. kept_by e d (s i) (v i) acts)

  -- Demand 3 of a client, from the last act on that began anew.
  pub client-demand : Demand e → ClientDemand e d
  unfolding after vouchers
  client-demand =
      carried e (List Call) (List d.Act) (left e) (vouchers e e.new) (left_by e d e.new) (kept_by e d e.new []) (since []) (acts-left []) (acts-kept [])

  -- And what is promised of a figure that the states carry.
  pub client-lowest : (low : e.State → ℕ) → Lowest e low → ClientLowest e d low
  unfolding after vouchers
  client-lowest low =
      figure.carried e low (List Call) (List d.Act) (left e) (vouchers e e.new) (left_by e d e.new) (kept_by e d e.new []) (since []) (acts-left []) (acts-kept [])
