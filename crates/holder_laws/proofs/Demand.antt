-- Demands 2 and 3 as request T-07 reads them, of every allocator that obeys the rules. Each sentence is shown from any sound holding on; the first is one. Assumes nothing.
use mathlib.Core.Path.{◌≡◌, refl, sym, ap, ◌∙◌, subst}
use mathlib.Core.Logic.{◌≢◌, ◌⊎◌, inl, inr}
use mathlib.Core.Bool.{Bool, true, false, not, cond, ◌&&◌}
use mathlib.Core.List.{List, [], ◌∷◌}
use mathlib.Core.Option.{Option, none, some}
use Prim.Native.Nat.{ℕ, zero, suc, ◌+◌}
use native.Mathlib.Omega.{arith}
use lib.Dec.{T, eqb, eqb→eq}
use Rattle.rules.specs.Rules as rules
use Rattle.rules.specs.Rules.{top, Range, Book, empty, sum, total, listing, any, free_at, frees, back, count}
use Rattle.rules.specs.Sound.{In, Pairwise, Sound}
use Rattle.rules_laws.proofs.Lists.{if, T_true, T_false, T-no}
use Rattle.rules_laws.proofs.Kept.{empty-sound}
use Rattle.rules_laws.proofs.Bytes.{count_none, sound-total, sound-same}
use Rattle.rules_laws.proofs.Shelf.{same-shelf}
use Rattle.rules_engine.specs.Engine.{Engine, free_in_lem}
use Rattle.rules_engine.specs.Demand.{SameFree, SameShelves}
use Rattle.rules_engine.proofs.Obeys.{Obeys}
use Rattle.rules_engine.proofs.Demand.{Stands}
use Rattle.holder_rules.specs.Register.{blank, blanks, held, by_address, those, of_holder, list_of}
use Rattle.holder_rules.specs.Holders.{Holding, nothing, Answer, Call, By, below, step, Voucher, voucher, run, trail, covers, last_covering, said, was_free, was_take_of, is_of, is_accepted, held_at, offered, offered_by, moved, own}
use Rattle.holder_rules.specs.Sound.{Clear, Has, SoundRegister}
use Rattle.holder_rules.specs.declared.Entry.{Entry}
use Rattle.holder_laws.specs.Demand as demands
use Rattle.holder_laws.specs.Demand.{left, kept, Demand, Grows}
use Rattle.holder_laws.proofs.Outcomes.{Kept, Comes, refusal, offers, gives_back, takes, comes}
use Rattle.holder_laws.proofs.Keeps.{step_keeps, free-not-held}
use Rattle.holder_laws.proofs.Bytes.{held→, book-is, comes-free, comes-held, comes-covers, comes-conserved}
use Rattle.holder_laws.proofs.Lists.{comes-list}
use Rattle.holder_laws.proofs.Entries.{comes-entries}
use Rattle.holder_laws.proofs.HandBack.{comes_back}
use Rattle.holder_laws.proofs.Offers.{comes-once, brought-stays, brought-counted}
use Rattle.holder_laws.proofs.Told.{told-by-own, allocate-told}

-- a voucher more, before the others
earlier : (g : Voucher → Bool) (v : Voucher) (x : ℕ) (d : Bool) (m : Option Voucher)
    → said g (cond (covers v x) (g v) d) m ≡ said g d (elim m [ none ↦ cond (covers v x) (some v) none | some w ↦ some w ])
earlier g v x d none = if (covers v x) (λ o. said g (cond (covers v x) (g v) d) none ≡ said g d o) (λ t. rw (T_true (covers v x) t)) (λ t. rw (T_false (covers v x) t))
earlier g v x d (some w) = refl

-- ---- a register without a range

none-held : (m : ℕ) → held (blanks m) ≡ []
unfolding held blanks
none-held zero = refl
none-held (suc m) = none-held m

all-blank : (m : ℕ) (x : Entry) → Has x (blanks m) → x ≡ blank
unfolding blanks
all-blank zero x h = absurd h
all-blank (suc m) x (inl d) = d
all-blank (suc m) x (inr h) = all-blank m x h

module _ {n : ℕ} {e : Engine} (f : Obeys n e) where
  pub nothing-kept : (m : ℕ) → Kept f (nothing e m)
  nothing-kept m = record {
    book = empty;
    good = empty-sound n;
    of = f.begins;
    register = record {
      sound = record { good = λ x h. inl (all-blank m x h); apart = rw (none-held m) tt };
      clear = λ q i p j. absurd j;
    };
  }

  -- a state of a sound book, and a register that is sound beside it
  pub kept_of : (k : Holding e.State) → Stands f k.memory → SoundRegister (e.book k.memory).chain k.register → Kept f k
  kept_of k s r = record {
    book = s.held;
    good = s.good;
    of = s.of;
    register = subst (λ (b : Book). SoundRegister b.chain k.register) (f.shows s.held k.memory s.good s.of) r;
  }

  -- ---- lists of calls

  pub run-keeps : (k : Holding e.State) (cs : List Call) → Kept f k → Kept f (run e k cs)
  unfolding run
  run-keeps k [] κ = κ
  run-keeps k (c ∷ cs) κ = run-keeps (step e c k).holding cs (step_keeps f c k κ)

  -- what a call says of the bytes that it covers, the last of a list says
  tracked : (P : Holding e.State → ℕ → Bool) (g : Voucher → Bool)
      → ((c : Call) (k : Holding e.State) → Kept f k → (x : ℕ) → P (step e c k).holding x ≡ cond (covers (voucher c (step e c k)) x) (g (voucher c (step e c k))) (P k x))
      → (k : Holding e.State) (cs : List Call) → Kept f k → (x : ℕ) → P (run e k cs) x ≡ said g (P k x) (last_covering x (trail e k cs))
  unfolding run trail last_covering
  tracked P g one k [] κ x = refl
  tracked P g one k (c ∷ cs) κ x =
      tracked P g one (step e c k).holding cs (step_keeps f c k κ) x
      ∙ ap (λ (d : Bool). said g d (last_covering x (trail e (step e c k).holding cs))) (one c k κ x)
      ∙ earlier g (voucher c (step e c k)) x (P k x) (last_covering x (trail e (step e c k).holding cs))

  free_bytes : (k : Holding e.State) (cs : List Call) → Kept f k → (x : ℕ) → free_in_lem e (run e k cs).memory x ≡ said was_free (free_in_lem e k.memory x) (last_covering x (trail e k cs))
  free_bytes = tracked (λ k x. free_in_lem e k.memory x) was_free (λ c k κ x. comes-free f k κ c (step e c k) (comes f k κ c) x)

  held_bytes : (h : ℕ) (k : Holding e.State) (cs : List Call) → Kept f k → (x : ℕ) → held_at h (run e k cs).register x ≡ said (was_take_of h) (held_at h k.register x) (last_covering x (trail e k cs))
  held_bytes h = tracked (λ k x. held_at h k.register x) (was_take_of h) (λ c k κ x. comes-held f k κ h c (step e c k) (comes f k κ c) x)

  -- from any sound holding on, free and held bytes grow by the accepted offers
  pub grows : (k : Holding e.State) (cs : List Call) → Kept f k
      → total (e.book (run e k cs).memory) + sum (held (run e k cs).register) ≡ (total (e.book k.memory) + sum (held k.register)) + offered (trail e k cs)
  unfolding run trail offered
  grows k [] κ = omega arith
  grows k (c ∷ cs) κ = let i = grows (step e c k).holding cs (step_keeps f c k κ) in let o = comes-conserved f k κ c (step e c k) (comes f k κ c) in omega arith

  pub own-calls : (h : ℕ) (k : Holding e.State) (cs : List Call) → Kept f k → list_of h (run e k cs).register ≡ own h (list_of h k.register) (trail e k cs)
  unfolding run trail own
  own-calls h k [] κ = refl
  own-calls h k (c ∷ cs) κ =
      own-calls h (step e c k).holding cs (step_keeps f c k κ)
      ∙ ap (λ (l : List Range). own h l (trail e (step e c k).holding cs)) (comes-list f k κ h c (step e c k) (comes f k κ c))

  -- ---- any sound holding

  module _ (k : Holding e.State) (κ : Kept f k) where
    sound-now : e.Sound k.memory × SoundRegister (e.book k.memory).chain k.register
    sound-now = (f.sound κ.book k.memory κ.good κ.of, subst (λ (b : Book). SoundRegister b.chain k.register) (sym (book-is f k κ)) κ.register)

    counts-now : e.total k.memory ≡ total (e.book k.memory)
    counts-now = f.counts κ.book k.memory κ.good κ.of ∙ ap total (sym (book-is f k κ))

    total-now : e.total k.memory ≡ count top (free_in_lem e k.memory)
    total-now = f.counts κ.book k.memory κ.good κ.of ∙ sound-total n κ.book κ.good ∙ ap (λ (b : Book). count top (free_at b)) (sym (book-is f k κ))

    refused-same : (c : Call) (w : Answer e.State) → Comes f k κ.book c w → w.number ≢ 0 → w.holding ≡ k
    refused-same _ _ (refusal c j d) q = refl
    refused-same _ _ (offers s z a m) q = absurd (q refl)
    refused-same _ _ (gives_back h s z kn a t) q = absurd (q refl)
    refused-same _ _ (takes h c x r kn nt a m nf) q = absurd (q refl)

    others : (h : ℕ) (c : Call) → T (not (is_of h c)) → list_of h (step e c k).holding.register ≡ list_of h k.register
    others h c t = comes-list f k κ h c (step e c k) (comes f k κ c)
        ∙ ap (λ (b : Bool). cond (b && is_accepted (voucher c (step e c k))) (moved h (below c) (step e c k).address (list_of h k.register)) (list_of h k.register)) (T_false (is_of h c) t)

  pub same-now : (k d : Holding e.State) → Kept f k → Kept f d → SameFree e k.memory d.memory
      → (listing (e.book k.memory) ≡ listing (e.book d.memory)) × SameShelves (e.book k.memory) (e.book d.memory)
  same-now k d κ δ same =
      let p = book-is f k κ in let q = book-is f d δ in
      let free : (x : ℕ) → free_at κ.book x ≡ free_at δ.book x = λ x. ap (λ (b : Book). free_at b x) (sym p) ∙ same x ∙ ap (λ (b : Book). free_at b x) q in
      let l = sound-same n κ.book δ.book κ.good δ.good free in (
        ap listing p ∙ l ∙ ap listing (sym q),
        subst (λ (b : Book). SameShelves b (e.book d.memory)) (sym p) (subst (SameShelves κ.book) (sym q) (same-shelf n κ.book δ.book κ.good δ.good l)),
      )

  -- ---- from nothing on

  module _ (m : ℕ) where
    kept-left : (cs : List Call) → Kept f (left e m cs)
    kept-left cs = run-keeps (nothing e m) cs (nothing-kept m)

    first-free : (x : ℕ) → free_in_lem e e.new x ≡ false
    unfolding free_at any nothing-kept
    first-free x = ap (λ (b : Book). free_at b x) (book-is f (nothing e m) (nothing-kept m))

    first-held : (h x : ℕ) → held_at h (blanks m) x ≡ false
    unfolding held_at any
    first-held h x = rw (none-held m)

    first-sum : total (e.book e.new) + sum (held (blanks m)) ≡ 0
    unfolding sum nothing-kept
    first-sum = rw (book-is f (nothing e m) (nothing-kept m), none-held m)

    first-list : (h : ℕ) → list_of h (blanks m) ≡ []
    unfolding those by_address
    first-list h = rw (none-held m)

    pub demand : Demand e m
    demand = record {
      always-sound = λ cs. sound-now (left e m cs) (kept-left cs);
      refused-same = λ cs c. refused-same (left e m cs) (kept-left cs) c (step e c (left e m cs)) (comes f (left e m cs) (kept-left cs) c);
      free_bytes = λ cs x. free_bytes (nothing e m) cs (nothing-kept m) x ∙ ap (λ (d : Bool). said was_free d (last_covering x (kept e m cs))) (first-free x);
      held_bytes = λ cs h x. held_bytes h (nothing e m) cs (nothing-kept m) x ∙ ap (λ (d : Bool). said (was_take_of h) d (last_covering x (kept e m cs))) (first-held h x);
      never_both = λ cs h x t u. let κ = kept-left cs in let w = held→ h (left e m cs).register x u in
          free-not-held f (left e m cs) κ x (subst (λ (b : Book). T (free_at b x)) (book-is f (left e m cs) κ) t) w.0 w.1 w.3;
      total-counts = λ cs. total-now (left e m cs) (kept-left cs);
      conserved = λ cs. let g = grows (nothing e m) cs (nothing-kept m) in let c = counts-now (left e m cs) (kept-left cs) in let s = first-sum in omega arith;
      offered-once = λ cs c x t. comes-once f (left e m cs) (kept-left cs) c (step e c (left e m cs)) (comes f (left e m cs) (kept-left cs) c) x (brought-stays f (nothing e m) cs (nothing-kept m) x (inr t));
      offered-bytes = λ cs. let b = brought-counted f (nothing e m) cs (nothing-kept m) (λ x. false) (λ x t. absurd t) in let z = count_none top in omega arith;
      covers-only = λ cs c x. comes-covers f (left e m cs) (kept-left cs) c (step e c (left e m cs)) (comes f (left e m cs) (kept-left cs) c) x;
      same-ranges = λ cs ds s. (same-now (left e m cs) (left e m ds) (kept-left cs) (kept-left ds) s).0;
      same-shelves = λ cs ds s. (same-now (left e m cs) (left e m ds) (kept-left cs) (kept-left ds) s).1;
      handed-back = λ cs h c t q. let κ = kept-left cs in
          let w = comes_back f (left e m cs) κ h c (step e (By h c) (left e m cs)) (comes f (left e m cs) κ (By h c)) t q in
          (w.0, w.1 ∙ ap listing (sym (book-is f (left e m cs) κ)), w.2);
      others = λ cs c h. others (left e m cs) (kept-left cs) h c;
      others-entries = λ cs c h. comes-entries f (left e m cs) (kept-left cs) h c (step e c (left e m cs)) (comes f (left e m cs) (kept-left cs) c);
      own-list = λ cs h. own-calls h (nothing e m) cs (nothing-kept m) ∙ ap (λ (l : List Range). own h l (kept e m cs)) (first-list h);
      told-by-own = λ cs h s z. told-by-own f (left e m cs) (kept-left cs) h s z;
      allocate-told = λ cs ds. allocate-told f (left e m cs) (left e m ds) (kept-left cs) (kept-left ds);
    }

    -- An allocator whose sound states are those of sound books grows so from any of them on.
    pub grows-on : ((s : e.State) → e.Sound s → Stands f s) → Grows e m
    grows-on stands k h cs =
        let κ = kept_of k (stands k.memory h.0) h.1 in
        let g = grows k cs κ in
        let before = counts-now k κ in
        let now = counts-now (run e k cs) (run-keeps k cs κ) in
        omega arith
