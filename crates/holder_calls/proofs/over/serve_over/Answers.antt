use lib.ListN.{length-replicate}
use Rattle.holder_rules.specs.Register as register
use Prim.Native.Nat.{◌-◌}
use mathlib.Core.Bool.{true}
use mathlib.Core.Path.{◌≡◌, refl, sym, ap, ◌∙◌}
use native.Mathlib.Omega.{arith}
use lib.IntN.{ℤ}
use lib.ListN.{length}
use Rattle.pool_state.specs.Shown.{pool}
use Rattle.image_parts.specs.Layout.{current}
use Rattle.c_over.specs.CCalls.{returned}
use Rattle.holder_image.proofs.Parts.{headed-size}
use Rattle.holder_serve.specs.Made.{requested}
use Rattle.holder_image.specs.Layout.{memory_at}
use Rattle.holder_image.specs.Bytes.{memory_in, register_in_lem, headed}
use Rattle.holder_calls.specs.Calls.{sound_in_lem}
use Rattle.holder_calls.proofs.Ladders.{not-headed, not_sound, sound-served}
use Rattle.holder_calls.proofs.Machine.{as-held}
use Rattle.holder_calls.proofs.Sound.{read_held, not-read, held-ordered, judged}
use Rattle.holder_calls.proofs.over.serve_over.Goals.{Then-is_headed}
use Rattle.holder_calls.proofs.over.serve_over.Goals as goal

headed-told : (c : Then-is_headed) → headed current c.args.image.now ≡ true
headed-told c = sym c.is_headed.ensures ∙ c.if-is_headed.true

pub slice_bounds-read_current-count : goal.slice_bounds-read_current-count
slice_bounds-read_current-count c =
    let h = headed-size current c.args.image.now (headed-told (goal.at.slice_bounds-read_current-count c).Then-is_headed) in omega arith

pub slice_bounds-read_current-start : goal.slice_bounds-read_current-start
slice_bounds-read_current-start c =
    let t = c in let h = headed-size current t.args.image.now (headed-told (goal.at.slice_bounds-read_current-start t).Then-is_headed) in omega arith

pub slice_bounds-read_current-end : goal.slice_bounds-read_current-end
slice_bounds-read_current-end c =
    let t = c in let h = headed-size current t.args.image.now (headed-told (goal.at.slice_bounds-read_current-end t).Then-is_headed) in omega arith

pub read_current-readable-requires : goal.read_current-readable-requires
read_current-readable-requires c =
    c.new-ranges.ensures

pub fill_register-requires : goal.fill_register-requires
fill_register-requires c =
    let h = headed-size current c.args.image.now (headed-told (goal.at.fill_register-requires c).Then-is_headed) in (omega arith, length-replicate register.entries c.unused_entry.result)

pub is_register_sound_in-requires : goal.is_register_sound_in-requires
is_register_sound_in-requires c =
    let then2 = c in let rc = then2 in let t = rc in let k = t in let x = k.args in
    let whole = headed-size current x.image.now (headed-told (goal.at.is_register_sound_in-requires t).Then-is_headed) in
    (_, held-ordered x.image.now _ (read_held x.image.now (length x.image.now - memory_at) (omega arith) _ _ rc.read_current-readable.ensures then2.if-readable.true))

pub serve_held-requires : goal.serve_held-requires
serve_held-requires c =
    let then3 = c in let v = then3 in let ra = v in let then2 = ra in let rc = then2 in let t = rc in let k = t in let x = k.args in
    let whole = headed-size current x.image.now (headed-told (goal.at.serve_held-requires t).Then-is_headed) in
    record { held_in = (read_held x.image.now (length x.image.now - memory_at) (omega arith) _ _ rc.read_current-readable.ensures then2.if-readable.true); serves = record { front = headed-told (goal.at.serve_held-requires t).Then-is_headed; bytes = λ i b. (k.slice_known-1.given i).fits; sound = (judged x.image.now _ (read_held x.image.now (length x.image.now - memory_at) (omega arith) _ _ rc.read_current-readable.ensures then2.if-readable.true) _ _ v.is_register_sound_in.ensures ∙ then3.if-is_register_sound_in.true); register = ra.fill_register.ensures } }

pub returns-then-is_register_sound_in : goal.returns-then-is_register_sound_in
returns-then-is_register_sound_in c =
    let g = c in let then3 = g in let v = then3 in let ra = v in let then2 = ra in let rc = then2 in let t = rc in let k = t in let x = k.args in
    let whole = headed-size current x.image.now (headed-told (goal.at.returns-then-is_register_sound_in t).Then-is_headed) in
    ap (λ (i : ℤ). returned i g.serve_held.new.image) (as-held g.serve_held.result (record { sfits = g.serve_held.type_inv })) ∙ g.serve_held.ensures
    ∙ sound-served current x.image.now (requested x.request) (headed-told (goal.at.returns-then-is_register_sound_in t).Then-is_headed) (ap (sound_in_lem current (memory_in x.image.now)) (sym ra.fill_register.ensures) ∙ (judged x.image.now _ (read_held x.image.now (length x.image.now - memory_at) (omega arith) _ _ rc.read_current-readable.ensures then2.if-readable.true) _ _ v.is_register_sound_in.ensures ∙ then3.if-is_register_sound_in.true))

pub returns-else-is_register_sound_in : goal.returns-else-is_register_sound_in
returns-else-is_register_sound_in c =
    let v = c in let ra = v in let then2 = ra in let rc = then2 in let t = rc in let k = t in let x = k.args in
    let whole = headed-size current x.image.now (headed-told (goal.at.returns-else-is_register_sound_in t).Then-is_headed) in
    not_sound current x.image.now (requested x.request) (headed-told (goal.at.returns-else-is_register_sound_in t).Then-is_headed) (ap (sound_in_lem current (memory_in x.image.now)) (sym ra.fill_register.ensures) ∙ (judged x.image.now _ (read_held x.image.now (length x.image.now - memory_at) (omega arith) _ _ rc.read_current-readable.ensures then2.if-readable.true) _ _ v.is_register_sound_in.ensures ∙ c.if-is_register_sound_in.false))

pub returns-else-readable : goal.returns-else-readable
returns-else-readable c =
    let then2 = c in let rc = then2 in let t = rc in let k = t in let x = k.args in
    let whole = headed-size current x.image.now (headed-told (goal.at.returns-else-readable t).Then-is_headed) in
    not_sound current x.image.now (requested x.request) (headed-told (goal.at.returns-else-readable t).Then-is_headed) (not-read x.image.now (length x.image.now - memory_at) (omega arith) _ _ rc.read_current-readable.ensures (register_in_lem x.image.now) c.if-readable.false)

pub returns-else-is_headed : goal.returns-else-is_headed
returns-else-is_headed c =
    let x = c.args in not-headed current x.image.now (requested x.request) (sym c.is_headed.ensures ∙ c.if-is_headed.false)
