-- The shelf: what a record that goes out of it or into it does to what the arrays show.
use Prim.Native.Nat.{ℕ, ◌<◌, ◌≤◌}
use mathlib.Core.Bool.{true}
use mathlib.Core.Logic.{◌≢◌, inl, inr, ⊎_elim}
use mathlib.Core.List.{List, ◌∷◌, ◌++◌}
use mathlib.Core.Path.{◌≡◌, refl, sym, ap, ◌∙◌}
use lib.ListN.{length, get_or, set, length-set}
use lib.Seq.{get_or-set_same, get_or-set_other}
use lib.Dec.{eqb}
use native.Mathlib.Omega.{arith}
use borrow.Author.Tests.{eq-eqb, ne_eqb}
use Rattle.linked_lists.specs.Links.{pick, upd, none, head, after, Listed, has}
use Rattle.linked_lists.specs.Threads.{Threads, cut, Between}
use Rattle.linked_lists.proofs.Laws.{same?, head-without, head-put, fresh-unless, listed-left, listed-widen}
use Rattle.linked_lists.proofs.Threading.{stored, same_lists, rekey}
use Rattle.rules.specs.Rules.{Range, range, size, of_list, before, without}
use Rattle.rules.specs.Sound.{In}
use Rattle.rules_laws.proofs.Lists.{in-without→, pairwise-without, in-before→, pairwise-before}
use Rattle.rules.specs.Sound.{Smaller}
use Rattle.rules_laws.proofs.Shelf.{num, num-lt, in-of_list, of_list-in, of_list-without, of_list-place}
use Rattle.pool_state.specs.Shown.{numbers, at, Runs, Gapped, key_at, Shelved}
use Rattle.rules.specs.Rules.{size_lists}
use Rattle.pool_shelf.specs.Shelf.{Removes, Places, Resizes}
use Rattle.pool_state.proofs.Walks.{numbers-append, in-has, fresh-numbers, numbers-without, without-fresh, before_at}

pub key-lt : (start end : List ℕ) (i : ℕ) → key_at start end i < size_lists
key-lt start end i = num-lt (at start end i)

module _ (n : ℕ) (l : List Range) (start end prev next heads : List ℕ) (t : Shelved n l start end prev next heads) where
  abbrev key : ℕ → ℕ
  key = key_at start end

  abbrev lists : ℕ → List ℕ
  lists k = numbers (of_list k l)

  -- each list can be walked
  pub runs : (k : ℕ) → Runs n (of_list k l) start end next
  runs k =
      record {
        good = λ r i. t.good r (of_list-in k l r i);
        stand = λ r i. t.stand r (of_list-in k l r i);
        listed = t.threads.listed k;
        nexts = λ r i.
            t.threads.nexts r.number (t.good r (of_list-in k l r i)).known
            ∙ ap (λ (j : ℕ). after (lists j) r.number) (t.threads.keyed k r.number (in-has r (of_list k l) i));
      }

  -- a range of the shelf stands in the list of its record
  pub in-key : (i : ℕ) → In (at start end i) l → has i (lists (key i)) ≡ true
  in-key i m = in-has (at start end i) (of_list (key i) l) (in-of_list (at start end i) l m)

module _ (n : ℕ) (start end prev next heads : List ℕ) (i : ℕ) (l : List Range) (u : Removes n start end prev next heads i l) where
  abbrev t : Shelved n l start end prev next heads
  t = u.shelved

  lists-out : (j : ℕ) → cut (key_at start end) (λ k. numbers (of_list k l)) i j ≡ numbers (of_list j (without i l))
  lists-out j =
      ⊎_elim
      (λ (e : j ≡ key_at start end i).
      rw (eq-eqb j (key_at start end i) e, ← e, of_list-without j i l) (sym (numbers-without n i (of_list j l) (t.threads.listed j))))
      (λ (e : j ≢ key_at start end i).
      rw (ne_eqb j (key_at start end i) e, of_list-without j i l)
      (sym (ap numbers (without-fresh i (of_list j l) (fresh-unless i (numbers (of_list j l)) (λ h. e (sym (t.threads.keyed j i h))))))))
      (same? j (key_at start end i))

  pub removed : n ≤ none → (k h a x : ℕ) (heads' prev' next' : List ℕ)
      → k ≡ key_at start end i → h ≡ get_or heads k 0 → a ≡ get_or next i 0 → x ≡ pick (eqb h i) a h → heads' ≡ set heads k x
      → Threads n (key_at start end) (cut (key_at start end) (λ k. numbers (of_list k l)) i) prev' next'
      → Shelved n (without i l) start end prev' next' heads'
  removed small k h a x heads' prev' next' ek eh ea ex es w =
      record {
        start-length = t.start-length;
        end-length = t.end-length;
        sizes = pairwise-without i Smaller l t.sizes;
        good = λ r m. t.good r (in-without→ i l r m).0;
        stand = λ r m. t.stand r (in-without→ i l r m).0;
        threads = same_lists n small (key_at start end) _ prev' next' w (λ k. numbers (of_list k (without i l))) lists-out;
        heads-length = ap length es ∙ length-set heads k x ∙ t.heads-length;
        firsts = λ j b.
            ap (λ (ys : List ℕ). get_or ys j 0) es
            ∙ stored 0 size_lists heads (λ k. head (numbers (of_list k l))) k x t.heads-length t.firsts j b
            ∙ first_out j;
      }
    where
      kb : k < size_lists
      kb = rw ek (key-lt start end i)

      first_out : (j : ℕ) → upd (λ k. head (numbers (of_list k l))) k x j ≡ head (numbers (of_list j (without i l)))
      first_out j =
          ⊎_elim
          (λ (e : j ≡ k).
          let eh' : h ≡ head (numbers (of_list k l)) = eh ∙ t.firsts k kb in
          let ea' : a ≡ after (numbers (of_list k l)) i = ea ∙ t.threads.nexts i (t.good (at start end i) u.member).known ∙ ap (λ (c : ℕ). after (numbers (of_list c l)) i) (sym ek) in
          rw (eq-eqb j k e, e)
          (ex ∙ (λ z. pick (eqb (eh' z) i) (ea' z) (eh' z)) ∙ sym (head-without i (numbers (of_list k l)))
          ∙ ap head (sym (numbers-without n i (of_list k l) (t.threads.listed k)) ∙ ap numbers (sym (of_list-without k i l)))))
          (λ (e : j ≢ k).
          rw (ne_eqb j k e)
          (ap head (sym (rw (ne_eqb j (key_at start end i) (λ q. e (q ∙ sym ek))) at (sym (lists-out j))))))
          (same? j k)

module _ (n : ℕ) (small : n ≤ none) (start end prev next heads : List ℕ) (i : ℕ) (l : List Range) (u : Places n start end prev next heads i l)
    (b a s : ℕ) (es : s ≡ size (at start end i)) (g : Gapped size (of_list (key_at start end i) l) s b a) where
  abbrev r : Range
  r = at start end i

  abbrev k₀ : ℕ
  k₀ = key_at start end i

  abbrev low : List Range
  low = g.walked.passed

  abbrev high : List Range
  high = g.walked.rest

  parts : numbers (of_list k₀ l) ≡ numbers low ++ numbers high
  parts = ap numbers g.walked.parts ∙ numbers-append low high

  pub between : Between n (key_at start end) (λ k. numbers (of_list k l)) b i a (numbers low) (numbers high)
  between =
      record {
        below = u.good.known;
        parts = parts;
        fresh = rw parts at (fresh-numbers i (of_list k₀ l) (λ q m. u.loose q (of_list-in k₀ l q m)));
        low = g.walked.low;
        high = g.walked.high;
      }

  -- the list of r's number gets r in the gap
  put_in : before size r (of_list k₀ l) ≡ low ++ r ∷ high
  put_in = ap (before size r) g.walked.parts ∙ before_at size r low high (λ q m. rw es at (g.walked.smaller q m)) (rw es at g.stops)

  put-numbers : numbers (before size r (of_list k₀ l)) ≡ numbers low ++ i ∷ numbers high
  put-numbers = ap numbers put_in ∙ numbers-append low (r ∷ high)

  lists-in : (j : ℕ) → upd (λ k. numbers (of_list k l)) k₀ (numbers low ++ i ∷ numbers high) j ≡ numbers (of_list j (before size r l))
  lists-in j =
      ⊎_elim
      (λ (e : j ≡ k₀). rw (eq-eqb j k₀ e, of_list-place j r l u.shelved.sizes, eq-eqb k₀ j (sym e)) (sym (rw e put-numbers)))
      (λ (e : j ≢ k₀). rw (ne_eqb j k₀ e, of_list-place j r l u.shelved.sizes, ne_eqb k₀ j (λ q. e (sym q))))
      (same? j k₀)

  pub placed : (k h x : ℕ) (heads' prev' next' : List ℕ)
      → k ≡ k₀ → h ≡ get_or heads k 0 → x ≡ pick (eqb b none) i h → heads' ≡ set heads k x
      → Threads n (key_at start end) (upd (λ k. numbers (of_list k l)) k₀ (numbers low ++ i ∷ numbers high)) prev' next'
      → Shelved n (before size r l) start end prev' next' heads'
  placed k h x heads' prev' next' ek eh ex e' w =
      record {
        start-length = u.shelved.start-length;
        end-length = u.shelved.end-length;
        sizes = pairwise-before size Smaller r l u.shelved.sizes u.shelved.sizes (λ q m h. h) (λ q m h. omega arith);
        good = λ q m. elim (in-before→ size r l q m) [ inl e ↦ rw e u.good | inr j ↦ u.shelved.good q j ];
        stand = λ q m. elim (in-before→ size r l q m) [ inl e ↦ rw e refl | inr j ↦ u.shelved.stand q j ];
        threads = same_lists n small (key_at start end) _ prev' next' w (λ k. numbers (of_list k (before size r l))) lists-in;
        heads-length = ap length e' ∙ length-set heads k x ∙ u.shelved.heads-length;
        firsts = λ j bj.
            ap (λ (ys : List ℕ). get_or ys j 0) e'
            ∙ stored 0 size_lists heads (λ k. head (numbers (of_list k l))) k x u.shelved.heads-length u.shelved.firsts j bj
            ∙ first-in j;
      }
    where
      kb : k < size_lists
      kb = rw ek (key-lt start end i)

      listed-low : Listed none (numbers low)
      listed-low = listed-widen n none small (numbers low) (listed-left n (numbers low) (numbers high) (rw parts at (u.shelved.threads.listed k₀)))

      first-in : (j : ℕ) → upd (λ k. head (numbers (of_list k l))) k x j ≡ head (numbers (of_list j (before size r l)))
      first-in j =
          ⊎_elim
          (λ (e : j ≡ k).
          let eh' : h ≡ head (numbers low ++ numbers high) = eh ∙ u.shelved.firsts k kb ∙ ap (λ (c : ℕ). head (numbers (of_list c l))) ek ∙ ap head parts in
          let el = g.walked.low in
          rw (eq-eqb j k e)
          (ex ∙ (λ z. pick (eqb (el z) none) i (eh' z)) ∙ sym (head-put i (numbers low) (numbers high) listed-low)
          ∙ ap head (sym (rw (eq-eqb j k₀ (e ∙ ek)) at (sym (lists-in j))))))
          (λ (e : j ≢ k).
          rw (ne_eqb j k e)
          (ap head (sym (rw (ne_eqb j k₀ (λ q. e (q ∙ sym ek))) at (sym (lists-in j))))))
          (same? j k)

-- a record that is in no list may be given another range
pub range_at : (n : ℕ) (start end : List ℕ) (i s e : ℕ) → length start ≡ n → length end ≡ n → i < n → at (set start i s) (set end i e) i ≡ range i s e
range_at n start end i s e ls le b =
    let b₁ : i < length start = omega arith in
    let b₂ : i < length end = omega arith in
    rw (get_or-set_same start i s 0 b₁, get_or-set_same end i e 0 b₂)

pub range_other : (start end : List ℕ) (i s e j : ℕ) → j ≢ i → at (set start i s) (set end i e) j ≡ at start end j
range_other start end i s e j d = rw (get_or-set_other start i j s 0 d, get_or-set_other end i j e 0 d)

pub reslot : (n : ℕ) → n ≤ none → (l : List Range) (start end prev next heads : List ℕ) (i s e : ℕ)
    → Shelved n l start end prev next heads → ((q : Range) → In q l → i ≢ q.number)
    → Shelved n l (set start i s) (set end i e) prev next heads
reslot n small l start end prev next heads i s e t f =
    record {
      start-length = length-set start i s ∙ t.start-length;
      end-length = length-set end i e ∙ t.end-length;
      sizes = t.sizes;
      good = t.good;
      stand = λ q m. range_other start end i s e q.number (λ d. f q m (sym d)) ∙ t.stand q m;
      threads = rekey n small (key_at start end) _ prev next t.threads (key_at (set start i s) (set end i e)) i
          (λ j d. ap num (range_other start end i s e j d))
          (λ k. fresh-numbers i (of_list k l) (λ q m. f q (of_list-in k l q m)));
      heads-length = t.heads-length;
      firsts = t.firsts;
    }

-- out of the shelf, another range, and into the shelf
module _ (n : ℕ) (small : n ≤ none) (start end prev next heads : List ℕ) (i s e : ℕ) (l : List Range) (u : Resizes n start end prev next heads (range i s e) l) where
  pub resize-at : at (set start i s) (set end i e) i ≡ range i s e
  resize-at = range_at n start end i s e u.removes.shelved.start-length u.removes.shelved.end-length u.good.known

  pub resize_places : (prev' next' heads' : List ℕ) → Shelved n (without i l) start end prev' next' heads'
      → Places n (set start i s) (set end i e) prev' next' heads' i (without i l)
  resize_places prev' next' heads' t =
      record {
        shelved = reslot n small (without i l) start end prev' next' heads' i s e t (λ q m. (in-without→ i l q m).1);
        good = rw resize-at u.good;
        loose = λ q m. (in-without→ i l q m).1;
      }

  pub resized : (prev' next' heads' : List ℕ)
      → Shelved n (before size (at (set start i s) (set end i e) i) (without i l)) (set start i s) (set end i e) prev' next' heads'
      → Shelved n (before size (range i s e) (without i l)) (set start i s) (set end i e) prev' next' heads'
  resized prev' next' heads' t = rw resize-at at t
