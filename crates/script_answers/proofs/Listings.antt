-- The listing of a state, printed from what the links lead along. Assumes nothing.
use mathlib.Core.Path.{◌≡◌, refl, sym, ap, ◌∙◌}
use Rattle.std.specs.Prelude.{Option, None, Some}
use mathlib.Core.List.{List, [], ◌∷◌, ◌++◌, map, append_assoc, append-nil}
use Prim.Native.Nat.{ℕ, zero, suc, ◌+◌, ◌*◌, ◌<◌, ◌≤◌}
use native.Mathlib.Omega.{arith}
use borrow.Author.Tests.{le-ltb}
use lib.ListN.{length, drop, get_or}
use Rattle.rules.specs.Rules.{Range, start_of}
use Rattle.pool_chain.specs.Chain.{Ordered}
use Rattle.pool_listing.specs.Listing.{last_of, listed_of, shown, Lists}
use Rattle.pool_listing.proofs.Walk.{few}
use Rattle.script_texts.specs.Answers.{range_text, list_text}
use Rattle.script_replies.specs.Replies.{line, rows, table_text, PutsWithin}
use Rattle.script_answers.specs.Script.{room, ranges_text, chain_text}

rows-cons : (k a b : ℕ) (ss ls : List ℕ) → rows (suc k) (a ∷ ss) (b ∷ ls) ≡ range_text a b ++ rows k ss ls
unfolding rows
rows-cons zero a b ss ls = sym (append-nil (range_text a b))
rows-cons (suc k) a b ss ls = rw (rows-cons k a b ss ls) (append_assoc (range_text a b) (rows k ss ls) (range_text (get_or ss k 0) (get_or ls k 0)))

-- a chain's starts and last bytes, with anything behind them
rows-ranges : (c : List Range) (x y : List ℕ) → rows (length c) (map start_of c ++ x) (map last_of c ++ y) ≡ ranges_text c
unfolding rows ranges_text
rows-ranges [] x y = refl
rows-ranges (r ∷ c) x y =
    rows-cons (length c) r.start r.last (map start_of c ++ x) (map last_of c ++ y)
    ∙ ap (λ (t : List ℕ). range_text r.start r.last ++ t) (rows-ranges c x y)

module _ (n : ℕ) (c : List Range) (start end next : List ℕ) (first : ℕ) (o : Ordered n c start end next first) where
  pub chain-few : length c ≤ n
  chain-few = few n c o.runs.listed

  -- two slices of n places
  module _ (starts lasts starts' lasts' : List ℕ) (r : Option ℕ) (l : Lists c starts lasts r starts' lasts') (ls : length starts ≡ n) (ll : length lasts ≡ n) where
    listed : r ≡ Some (length c)
    unfolding listed_of
    listed = l.answer ∙ rw (ls, ll, le-ltb n (length c) chain-few)

    pub not_short : r ≡ None → ⊥
    not_short e = let z = sym listed ∙ e in let w : ◌≡◌ {A = ℕ} 0 1 = cc in let v : ⊥ = omega arith in v

    module _ (k : ℕ) (is : r ≡ Some k) where
      pub count-is : k ≡ length c
      count-is = let e = sym is ∙ listed in cc

      starts-are : starts' ≡ map start_of c ++ drop (length (map start_of c)) starts
      unfolding shown
      starts-are = l.starts-now ∙ rw (ls, ll, le-ltb n (length c) chain-few)

      lasts_are : lasts' ≡ map last_of c ++ drop (length (map last_of c)) lasts
      unfolding shown
      lasts_are = l.lasts_now ∙ rw (ls, ll, le-ltb n (length c) chain-few)

      table_is : (total : ℕ) → chain_text c total ≡ table_text k total starts' lasts'
      unfolding chain_text table_text
      table_is total = rw (count-is, starts-are, lasts_are) (ap (λ (t : List ℕ). list_text (length c) total ++ t) (sym (rows-ranges c _ _)))

      pub table-puts : (total : ℕ) (out o' : List ℕ) (at x : ℕ) → PutsWithin (line * (k + 1)) (table_text k total starts' lasts') out at o' x → PutsWithin (room n) (chain_text c total) out at o' x
      table-puts total out o' at x p =
          let h = chain-few in
          let e = count-is in
          let g = p.short in
          record { short = rw (table_is total) (omega arith); puts = rw (table_is total) p.puts }
