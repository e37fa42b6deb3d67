-- Which calls are answered 4. An allocate's is told by its own numbers, whatever is free. Assumes nothing.
use mathlib.Core.Path.{◌≡◌, refl, sym, ap, ◌∙◌}
use mathlib.Core.Bool.{Bool, true, false, ◌&&◌, ◌||◌}
use mathlib.Core.Option.{Option, none, some}
use Prim.Native.Nat.{ℕ, ◌+◌}
use lib.Dec.{ltb, eqb}
use Rattle.rules.specs.Rules.{top, Range, Book, total, any, full, meets, lower, upper, alone, Answer, refuse, allocate_from, allocate, free, Free, Allocate, step}
use Rattle.rules_laws.proofs.Lists.{or-false}

abbrev is_four : Answer → Bool
is_four w = eqb w.number 4

-- a line of 4, and a line of another number
four : (q : Bool) (b : Book) (w : Answer) → is_four (refuse q 4 b w) ≡ (q || is_four w)
unfolding refuse
four true b w = refl
four false b w = refl

other : (q : Bool) (k : ℕ) (b : Book) (w : Answer) → eqb k 4 ≡ false → is_four w ≡ false → is_four (refuse q k b w) ≡ false
unfolding refuse
other true k b w e f = e
other false k b w e f = f

found-not-four : (n z o : ℕ) (b : Book) (m : Option Range) → is_four (allocate_from n z o b m) ≡ false
unfolding allocate_from
found-not-four n z o b none = refl
found-not-four n z o b (some r) = refl

allocate-four : (n z o : ℕ) (b : Book) → is_four (step n (Allocate z o) b) ≡ (eqb z 0 || ltb 63 o)
unfolding step allocate
allocate-four n z o b =
    four (eqb z 0) b _ ∙ ap (λ (q : Bool). eqb z 0 || q) (four (ltb 63 o) b _ ∙ or-false (ltb 63 o) _
    (other (ltb (total b) z) 3 b _ refl (other _ 3 b _ refl (found-not-four n z o b _))))

-- two books agree on whether an allocate is answered 4
pub allocate-told : (n z o : ℕ) (b d : Book) → is_four (step n (Allocate z o) b) ≡ is_four (step n (Allocate z o) d)
allocate-told n z o b d = allocate-four n z o b ∙ sym (allocate-four n z o d)

-- a free is, exactly for size 0, past 2^63, or with a byte that is free already
pub free-four : (n s z : ℕ) (b : Book) → is_four (step n (Free s z) b) ≡ (eqb z 0 || (ltb top (s + z) || any (meets s (s + z)) b.chain))
unfolding step free
free-four n s z b =
    four (eqb z 0) b _ ∙ ap (λ (q : Bool). eqb z 0 || q) (four (ltb top (s + z)) b _ ∙ ap (λ (q : Bool). ltb top (s + z) || q) (four (any (meets s (s + z)) b.chain) b _ ∙ or-false (any (meets s (s + z)) b.chain) _
    (other (alone (lower s b) (upper (s + z) b) && full n b) 1 b _ refl refl)))
