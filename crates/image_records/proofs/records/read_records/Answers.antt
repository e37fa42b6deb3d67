use Prim.Native.Nat.{ℕ}
use mathlib.Core.Bool.{true, false}
use mathlib.Core.Path.{◌≡◌, sym, ◌∙◌, ap}
use native.Mathlib.Nat.{sub-zero}
use native.Mathlib.Omega.{arith}
use Rattle.pool_state.specs.Shown.{pool}
use Rattle.image_parts.specs.Layout.{record_at}
use Rattle.image_records.specs.Records.{entry_in_lem, fresh_at, flag_at, plain}
use Rattle.image_records.proofs.Rooms.{Place, place}
use Rattle.image_records.proofs.Decoding.{decode-start, decode-put, decode-pass, decode-end, plain-unused, plain-used, plain-neither, used-told, plain-next, plain-stop, plain_end}
use Rattle.image_records.proofs.Tallied.{tallied-start, tallied-most, tallied-end, tallied-put, none-some}
use Rattle.image_records.proofs.records.read_records.Goals.{In-loop-i}
use Rattle.image_records.proofs.records.read_records.Goals as goal

pub records_at-from-requires : goal.records_at-from-requires
records_at-from-requires c =
    c.requires.housed.lawful

pub record_size-size-requires : goal.record_size-size-requires
record_size-size-requires c =
    c.requires.housed.lawful

pub loop-i-init : goal.loop-i-init
loop-i-init c =
    let start = c in
    let fresh = start.requires.fresh_records in
    let none_read = decode-start start.args.form start.args.image.now pool _ _ _ _ _ _ _ fresh.starts fresh.ends fresh.flags fresh.previouses fresh.nexts fresh.lprevs fresh.lnexts in
    (ap (λ (n : ℕ). plain start.args.form start.args.image.now n 0) (sub-zero start.args.form.records), omega arith, none_read, tallied-start _ _ pool _ _ _ _ _ _ _ none_read)

-- the record of this turn
turn : (c : In-loop-i) → let sizes = c in let start = sizes in Place start.args.form start.args.image.now sizes.records_at-from.result sizes.record_size-size.result c.loop-i.i
turn c =
    let sizes = c in
    let start = sizes in
    place start.args.form start.requires.housed.lawful start.args.image.now start.requires.image_len _ _ c.loop-i.i sizes.records_at-from.ensures sizes.record_size-size.ensures (omega arith)

pub overflow_mul-at : goal.overflow_mul-at
overflow_mul-at c =
    let p = turn (goal.at.overflow_mul-at c).In-loop-i in let s = p.fits in omega arith

pub overflow_add-at : goal.overflow_add-at
overflow_add-at c =
    let p = turn (goal.at.overflow_add-at c).In-loop-i in let s = p.fits in omega arith

pub overflow_add-flag : goal.overflow_add-flag
overflow_add-flag c =
    let p = turn (goal.at.overflow_add-flag c).In-loop-i in let s = p.fits in omega arith

pub bounds-image-at : goal.bounds-image-at
bounds-image-at c =
    let p = turn (goal.at.bounds-image-at c).In-loop-i in let r = p.room in omega arith

pub is_fresh-requires : goal.is_fresh-requires
is_fresh-requires c =
    let at = c in record { lawful = at.requires.housed.lawful; form_in_bounds = (turn (goal.at.is_fresh-requires at).In-loop-i).room }

pub loop-i-preserved-then-is_fresh : goal.loop-i-preserved-then-is_fresh
loop-i-preserved-then-is_fresh c =
    let compared = c in
    let zero = compared in
    let head = zero in
    let l = head.loop-i in
    let start = head in
    let f = start.args.form in
    let image = start.args.image.now in
    let here = (turn (goal.at.loop-i-preserved-then-is_fresh head).In-loop-i).here in
    let off = ap (λ (a : ℕ). flag_at image a) (sym here) ∙ zero.if-flag-eq0.true in
    let fresh = ap (fresh_at f image) (sym here) ∙ sym compared.is_fresh.ensures ∙ c.if-is_fresh.true in (
      plain-next f image f.records l.i (omega arith) (plain-unused f image (record_at f l.i) true off (sym fresh)) ∙ l.invariant.0,
      omega arith,
      decode-pass f image pool _ _ _ _ _ _ _ l.i (omega (arith, start.requires.housed.room)) l.invariant.2 off fresh,
      l.invariant.3,
    )

pub returns-then-flag-eq0 : goal.returns-then-flag-eq0
returns-then-flag-eq0 c =
    let compared = c in
    let zero = compared in
    let head = zero in
    let l = head.loop-i in
    let start = head in
    let f = start.args.form in
    let image = start.args.image.now in
    let here = (turn (goal.at.returns-then-flag-eq0 head).In-loop-i).here in
    let off = ap (λ (a : ℕ). flag_at image a) (sym here) ∙ zero.if-flag-eq0.true in
    let stale = ap (fresh_at f image) (sym here) ∙ sym compared.is_fresh.ensures ∙ c.if-is_fresh.false in
    let stopped = sym l.invariant.0 ∙ (plain-stop f image f.records l.i (omega arith) (plain-unused f image (record_at f l.i) false off (sym stale))) in
    record { broken = λ e. stopped; plainly = λ k e. absurd (none-some k e); read = λ k e. absurd (none-some k e); counted = λ k e. absurd (none-some k e) }

pub returns-then-flag-ne1 : goal.returns-then-flag-ne1
returns-then-flag-ne1 c =
    let some = c in
    let head = some in
    let l = head.loop-i in
    let start = head in
    let f = start.args.form in
    let image = start.args.image.now in
    let flag = ap (λ (a : ℕ). flag_at image a) (turn (goal.at.returns-then-flag-ne1 head).In-loop-i).here in
    let stopped = sym l.invariant.0 ∙ plain-stop f image f.records l.i (omega arith)
    (plain-neither f image (record_at f l.i) (λ e. some.if-flag-eq0.false (flag ∙ e)) (λ e. c.if-flag-ne1.true (flag ∙ e))) in
    record { broken = λ e. stopped; plainly = λ k e. absurd (none-some k e); read = λ k e. absurd (none-some k e); counted = λ k e. absurd (none-some k e) }

pub record_in-e-requires : goal.record_in-e-requires
record_in-e-requires c =
    let at = c in record { lawful = at.requires.housed.lawful; form_in_bounds = (turn (goal.at.record_in-e-requires at).In-loop-i).room }

pub offset_bounds-start-i : goal.offset_bounds-start-i
offset_bounds-start-i c =
    omega (arith, c.requires.housed.room)

pub bounds-start-i : goal.bounds-start-i
bounds-start-i c =
    let at = c in
    omega (arith, at.loop-i.invariant.2.starts.sized, at.requires.housed.room)

pub offset_bounds-end-i : goal.offset_bounds-end-i
offset_bounds-end-i c =
    omega (arith, c.requires.housed.room)

pub bounds-end-i : goal.bounds-end-i
bounds-end-i c =
    let at = c in
    omega (arith, at.loop-i.invariant.2.ends.sized, at.requires.housed.room)

pub bounds-enabled-i : goal.bounds-enabled-i
bounds-enabled-i c =
    let at = c in
    omega (arith, at.loop-i.invariant.2.flags.sized, at.requires.housed.room)

pub offset_bounds-previous-i : goal.offset_bounds-previous-i
offset_bounds-previous-i c =
    omega (arith, c.requires.housed.room)

pub bounds-previous-i : goal.bounds-previous-i
bounds-previous-i c =
    let at = c in
    omega (arith, at.loop-i.invariant.2.previouses.sized, at.requires.housed.room)

pub offset_bounds-next-i : goal.offset_bounds-next-i
offset_bounds-next-i c =
    omega (arith, c.requires.housed.room)

pub bounds-next-i : goal.bounds-next-i
bounds-next-i c =
    let at = c in
    omega (arith, at.loop-i.invariant.2.nexts.sized, at.requires.housed.room)

pub offset_bounds-lprev-i : goal.offset_bounds-lprev-i
offset_bounds-lprev-i c =
    omega (arith, c.requires.housed.room)

pub bounds-lprev-i : goal.bounds-lprev-i
bounds-lprev-i c =
    let at = c in
    omega (arith, at.loop-i.invariant.2.lprevs.sized, at.requires.housed.room)

pub offset_bounds-lnext-i : goal.offset_bounds-lnext-i
offset_bounds-lnext-i c =
    omega (arith, c.requires.housed.room)

pub bounds-lnext-i : goal.bounds-lnext-i
bounds-lnext-i c =
    let at = c in
    omega (arith, at.loop-i.invariant.2.lnexts.sized, at.requires.housed.room)

pub overflow_add-used : goal.overflow_add-used
overflow_add-used c =
    let at = c in
    omega (arith, tallied-most pool _ _ _ _ _ _ _ _ at.loop-i.invariant.3)

pub loop-i-preserved : goal.loop-i-preserved
loop-i-preserved c =
    let asked = c in
    let decoded = asked in
    let one = decoded in
    let some = one in
    let head = some in
    let l = head.loop-i in
    let start = head in
    let f = start.args.form in
    let image = start.args.image.now in
    let here = (turn (goal.at.loop-i-preserved head).In-loop-i).here in
    let e = decoded.record_in-e.result in
    let on = ap (λ (a : ℕ). flag_at image a) (sym here) ∙ one.if-flag-ne1.false in
    let told = used-told f image _ (record_at f l.i) e asked.is_proper.result one.if-flag-ne1.false asked.is_proper.ensures decoded.record_in-e.ensures here in (
      plain-next f image f.records l.i (omega arith) (plain-used f image (record_at f l.i) true (λ z. omega arith) (sym c.if-is_proper.true ∙ told)) ∙ l.invariant.0,
      omega arith,
      decode-put f image pool _ _ _ _ _ _ _ l.i (omega (arith, start.requires.housed.room)) l.invariant.2 e on (decoded.record_in-e.ensures ∙ ap (entry_in_lem f image) here),
      tallied-put f image pool _ _ _ _ _ _ _ _ l.invariant.3 l.i (omega (arith, start.requires.housed.room)) l.invariant.2 e (sym asked.is_proper.ensures ∙ c.if-is_proper.true),
    )

pub returns-in-loop-i : goal.returns-in-loop-i
returns-in-loop-i c =
    let asked = c in
    let decoded = asked in
    let one = decoded in
    let some = one in
    let head = some in
    let l = head.loop-i in
    let start = head in
    let f = start.args.form in
    let image = start.args.image.now in
    let here = (turn (goal.at.returns-in-loop-i head).In-loop-i).here in
    let told = used-told f image _ (record_at f l.i) _ asked.is_proper.result one.if-flag-ne1.false asked.is_proper.ensures decoded.record_in-e.ensures here in
    let stopped = sym l.invariant.0 ∙ plain-stop f image f.records l.i (omega arith)
    (plain-used f image (record_at f l.i) false (λ z. some.if-flag-eq0.false (ap (λ (a : ℕ). flag_at image a) here ∙ z)) (sym c.if-is_proper.false ∙ told)) in
    record { broken = λ e. stopped; plainly = λ k e. absurd (none-some k e); read = λ k e. absurd (none-some k e); counted = λ k e. absurd (none-some k e) }

pub returns : goal.returns
returns c =
    let l = c.loop-i in
    let start = c in
    let f = start.args.form in
    let image = start.args.image.now in
    let all : l.i ≡ f.records = omega (arith, l.invariant.1) in
    record {
      broken = λ e. absurd (none-some _ (sym e));
      plainly = λ k e. sym l.invariant.0 ∙ plain_end f image f.records l.i (omega arith);
      read = λ k e. decode-end f image pool _ _ _ _ _ _ _ l.i f.records all l.invariant.2;
      counted = λ k e. tallied-end pool _ _ _ _ _ _ _ _ l.invariant.3 ∙ e;
    }
