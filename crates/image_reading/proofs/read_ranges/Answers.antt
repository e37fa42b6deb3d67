use mathlib.Core.Path.{◌≡◌, sym, ap, ◌∙◌}
use Prim.Native.Nat.{ℕ, ◌+◌, ◌*◌, ◌≤◌, ◌<◌}
use native.Mathlib.Nat.{mul-zero, mul-add, mul-one, mul-le-mul_left}
use native.Mathlib.Omega.{arith}
use mathlib.Core.List.{List}
use lib.ListN.{length}
use Rattle.linked_lists.proofs.Laws.{true≢false}
use Rattle.pool_state.specs.Shown.{pool}
use Rattle.image_parts.specs.Layout.{Layout, first_at, heads_at, image_size_lem}
use Rattle.image_parts.specs.Read.{number_in, link_of, links_in}
use Rattle.image_records.specs.Records.{link_in}
use Rattle.image_parts.proofs.Lawful.{narrow}
use Rattle.image_reading.proofs.Whole.{emptied, headed-sized, not-headed, not_plain, check-decides, checked-state, state-grows}
use Rattle.image_reading.proofs.read_ranges.Goals.{Then-is_headed}
use Rattle.image_reading.proofs.read_ranges.Goals as goal

pub is_headed-requires : goal.is_headed-requires
is_headed-requires c =
    c.requires.housed.lawful

-- a head that passed has told the length
sized : (c : Then-is_headed) → length c.args.image.now ≡ image_size_lem c.args.form
sized c = headed-sized c.args.form _ (sym c.is_headed.ensures ∙ c.if-is_headed.true)

pub read_records-requires : goal.read_records-requires
read_records-requires c =
    let fresh = emptied pool _ c.requires.fresh_fields in record {
      housed = c.requires.housed;
      image_len = sized (goal.at.read_records-requires c).Then-is_headed;
      fresh_records = record {
        starts = fresh.start;
        ends = fresh.end;
        flags = fresh.enabled;
        previouses = fresh.previous;
        nexts = fresh.next;
        lprevs = fresh.lprev;
        lnexts = fresh.lnext;
      };
    }

pub returns-in_default : goal.returns-in_default
returns-in_default c =
    record {
      told = not_plain c.args.form _ c.requires.housed.lawful (λ i b. (c.type_inv.image i).fits) (c.read_records.ensures.broken c.in_default.is);
      ranges = λ e. true≢false (sym e);
    }

pub word_in-requires : goal.word_in-requires
word_in-requires c =
    omega (arith, sized (goal.at.word_in-requires c).Then-is_headed)

pub link_in-requires : goal.link_in-requires
link_in-requires c =
    record { lawful = c.requires.housed.lawful; link_in_bounds = omega (arith, sized (goal.at.link_in-requires c).Then-is_headed) }

pub overflow_add-at : goal.overflow_add-at
overflow_add-at c =
    omega (arith, narrow c.args.form c.requires.housed.lawful)

-- the first of links
first-link : (f : Layout) (l : List ℕ) → link_in f l first_at 0 ≡ link_of f (number_in l first_at f.link)
first-link f l = rw mul-zero

-- links side by side lie in the bytes where all of them do
spaced : (a w n m : ℕ) → a + w * n ≤ m → (i : ℕ) → i < n → a + w * i + w ≤ m
spaced a w n m room i b = let p : w * (i + 1) ≤ w * n = mul-le-mul_left w (omega arith) in let q = mul-add w i 1 in let r = mul-one w in omega arith

pub read_links-requires : goal.read_links-requires
read_links-requires c =
    let f = c.args.form in
    let count = ap length (emptied pool _ c.requires.fresh_fields).heads in
    let room = ap (λ (n : ℕ). heads_at f + f.link * n) count in
    record { lawful = c.requires.housed.lawful; spaced = spaced _ _ _ _ (omega (arith, sized (goal.at.read_links-requires c).Then-is_headed)) }

pub links_ok-requires : goal.links_ok-requires
links_ok-requires c =
    c.read_records.ensures.counted _ c.in-Some.is

pub returns-then-is_headed : goal.returns-then-is_headed
returns-then-is_headed c =
    let f = c.args.form in
    let l = c.args.image.now in
    let count = ap length (emptied pool _ c.requires.fresh_fields).heads in
    let told = c.read_records.ensures in
    let of = c.in-Some.is in
    let e₃ = c.read_links.ensures ∙ ap (λ (m : ℕ). links_in f l (heads_at f) f.link m) count in
    let same = state-grows pool f l _ _ _ _ _ _ _ _ _ _ c.word_in.ensures (c.link_in.ensures ∙ first-link f l) e₃ (told.read _ of) in
    let decided = check-decides f l pool c.requires.housed.room (omega arith) _ same (sym c.is_headed.ensures ∙ c.if-is_headed.true) (told.plainly _ of) _ c.links_ok.ensures in
    record {
      told = decided;
      ranges = λ e. checked-state f l pool c.requires.housed.room (omega arith) _ same (sym decided ∙ e);
    }

pub returns : goal.returns
returns c =
    record { told = not-headed c.args.form _ (sym c.is_headed.ensures ∙ c.if-is_headed.false); ranges = λ e. true≢false (sym e) }
