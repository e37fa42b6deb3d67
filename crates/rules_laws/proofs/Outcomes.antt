-- What a call comes to: a refusal, a piece taken, or a piece given. Assumes nothing.
use mathlib.Core.Logic.{◌≢◌, ◌⊎◌, inl, inr}
use mathlib.Core.Bool.{Bool, true, false, not, cond, ◌&&◌}
use mathlib.Core.Option.{Option, none, some}
use Prim.Native.Nat.{ℕ, suc, ◌+◌, ◌-◌, ◌^◌, ◌≤◌, ◌<◌}
use native.Mathlib.Omega.{arith}
use native.Mathlib.Nat.{div-add-mod', mod-lt, div-mul-le_self}
use lib.Pow.{pow_pos}
use lib.Dec.{T, leb, ltb, leb→le, nleb→lt, ltb→lt, nltb→le}
use Rattle.rules.specs.Rules.{top, Range, Book, down, up, any, find, unused, full, meets, contains, splits, Short, Plain, Splits, fit, serves, taken, lower, upper, given, alone, Answer, accepted, refused, refuse, allocate_from, allocate, reserve_from, reserve, free, Call, Free, Allocate, Reserve, step, frees, from, past}
use Rattle.rules.specs.Sound.{In}
use Rattle.rules_laws.proofs.Lists.{if, and_l, and_r, and_i, not-and, T-no, T-or-not, neq, any←, Found, found}
use Rattle.rules.specs.Sound.{Sound}
use Rattle.rules_laws.proofs.Kept.{Takes, Gives}

pub down_le : (o x : ℕ) → down o x ≤ x
unfolding down
down_le o x = div-mul-le_self x (2 ^ o)

pub le_up : (o x : ℕ) → x ≤ up o x
unfolding up
le_up o x = omega (arith, div-add-mod' (x + (2 ^ o - 1)) (2 ^ o), mod-lt (x + (2 ^ o - 1)) (pow_pos o))

pub data Outcome (n : ℕ) (b : Book) (c : Call) : Answer → Type 0 where
  refusal : (k : ℕ) → k ≢ 0 → k ≤ 4 → Outcome n b c (refused k b)
  took : (x : ℕ) (r : Range) → T (not (frees c)) → Takes n b r (from c x) (past c x) → Outcome n b c (accepted x (taken n r (from c x) (past c x) b))
  gave : T (frees c) → Gives n b (from c 0) (past c 0) → Outcome n b c (accepted 0 (given n (from c 0) (past c 0) b))

line : (n : ℕ) (b : Book) (c : Call) (k : ℕ) → T (ltb 0 k && leb k 4) → (q : Bool) (w : Answer) → (T (not q) → Outcome n b c w) → Outcome n b c (refuse q k b w)
unfolding refuse
line n b c k h q w f = if q (λ a. Outcome n b c a) (λ t. let g = ltb→lt 0 k (and_l (ltb 0 k) (leb k 4) h) in refusal k (omega arith) (leb→le k 4 (and_r (ltb 0 k) (leb k 4) h))) f

has_room : (n : ℕ) (b : Book) (q : Bool) → T (not (q && full n b)) → T q → unused n b < n
has_room n b q t h = nleb→lt n (unused n b) (not-and q (full n b) t h)

-- a range that can be served has the bytes, and a record is unused if they split it
pub served : (spare : Bool) (z o : ℕ) (r : Range) → T (serves spare (fit z o r))
    → (up o r.start + z ≤ suc r.last) × (T (splits (up o r.start) (up o r.start + z) r) → T spare)
served spare z o r h =
    let g = go (leb (up o r.start + z) (suc r.last)) (splits (up o r.start) (up o r.start + z) r) h in (leb→le (up o r.start + z) (suc r.last) g.0, g.1)
  where
    go : (q s : Bool) → T (serves spare (cond q (cond s Splits Plain) Short)) → T q × (T s → T spare)
    go true true h = (tt, λ _. h)
    go true false h = (tt, λ x. absurd x)
    go false s h = absurd h

allocated : (n : ℕ) (b : Book) (z o : ℕ) → Sound n b → z ≢ 0 → (m : Option Range) → Found (λ r. serves (not (full n b)) (fit z o r)) b.shelf m
    → Outcome n b (Allocate z o) (allocate_from n z o b m)
unfolding allocate_from
allocated n b z o s h none f = refusal 1 (omega arith) (omega arith)
allocated n b z o s h (some r) f =
    let g = served (not (full n b)) z o r f.1 in
    took (up o r.start) r tt (record {
      member = (s.same r).1 f.0;
      from = le_up o r.start;
      some_byte = omega arith;
      to = g.0;
      room = λ t. nleb→lt n (unused n b) (g.1 t);
    })

reserved : (n : ℕ) (b : Book) (s z o : ℕ) → Sound n b → z ≢ 0 → (m : Option Range) → Found (contains (down o s) (up o (s + z))) b.chain m
    → Outcome n b (Reserve s z o) (reserve_from n (down o s) (up o (s + z)) b m)
unfolding reserve_from
reserved n b s z o k h none f = refusal 4 (omega arith) (omega arith)
reserved n b s z o k h (some r) f = line n b (Reserve s z o) 1 tt _ _ (λ t. took 0 r tt (record {
  member = f.0;
  from = leb→le r.start (down o s) (and_l (leb r.start (down o s)) (leb (up o (s + z)) (suc r.last)) f.1);
  some_byte = omega (arith, down_le o s, le_up o (s + z));
  to = leb→le (up o (s + z)) (suc r.last) (and_r (leb r.start (down o s)) (leb (up o (s + z)) (suc r.last)) f.1);
  room = has_room n b (splits (down o s) (up o (s + z)) r) t;
}))

pub clear : (a t : ℕ) (b : Book) → T (not (any (meets a t) b.chain)) → (q : Range) → In q b.chain → (suc q.last ≤ a) ⊎ (t ≤ q.start)
clear a t b h q i = elim (T-or-not (ltb q.start t)) [
  | inr g ↦ inr (nltb→le q.start t g)
  | inl g ↦ elim (T-or-not (leb a q.last)) [
    | inr k ↦ inl (nleb→lt a q.last k)
    | inl k ↦ absurd (T-no (any (meets a t) b.chain) h (any← (meets a t) b.chain q i (and_i (ltb q.start t) (leb a q.last) g k)))
  ]
]

pub outcome : (n : ℕ) (b : Book) (c : Call) → Sound n b → Outcome n b c (step n c b)
unfolding step allocate reserve free
outcome n b (Free s z) k = line n b (Free s z) 4 tt _ _ (λ h. line n b (Free s z) 4 tt _ _ (λ g. line n b (Free s z) 4 tt _ _ (λ j. line n b (Free s z) 1 tt _ _ (λ t.
    let z0 = neq z 0 h in gave tt (record {
      some_byte = omega arith;
      below = nltb→le top (s + z) g;
      clear = clear s (s + z) b j;
      room = has_room n b (alone (lower s b) (upper (s + z) b)) t;
    })))))
outcome n b (Allocate z o) k = line n b (Allocate z o) 4 tt _ _ (λ h. line n b (Allocate z o) 4 tt _ _ (λ _. line n b (Allocate z o) 3 tt _ _ (λ _. line n b (Allocate z o) 3 tt _ _ (λ _.
    allocated n b z o k (neq z 0 h) _ (found (λ r. serves (not (full n b)) (fit z o r)) b.shelf)))))
outcome n b (Reserve s z o) k = line n b (Reserve s z o) 4 tt _ _ (λ h. line n b (Reserve s z o) 4 tt _ _ (λ _. line n b (Reserve s z o) 3 tt _ _ (λ _. line n b (Reserve s z o) 4 tt _ _ (λ _. line n b (Reserve s z o) 3 tt _ _ (λ _.
    reserved n b s z o k (neq z 0 h) (find (contains (down o s) (up o (s + z))) b.chain) (found (contains (down o s) (up o (s + z))) b.chain))))))
