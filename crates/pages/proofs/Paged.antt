-- Demand 3 in pages of every door whose page calls are the byte calls that they stand for, over an engine that obeys the rules. Assumes nothing.
use Prim.Native.Nat.{ℕ, ◌+◌, ◌-◌, ◌*◌, ◌/◌, ◌%◌, ◌<◌, ◌∣◌}
use mathlib.Core.Bool.{false, not}
use mathlib.Core.List.{List, [], ◌∷◌, map}
use mathlib.Core.Path.{◌≡◌, refl, sym, ◌∙◌, ap, subst}
use native.Mathlib.Omega.{arith}
use native.Mathlib.Nat.{div-add-mod', mod-lt}
use lib.Pow.{pow-add}
use lib.Dec.{T, lit<}
use Rattle.rules.specs.Rules.{top, listing, Call, Free, Voucher, voucher, step, frees, covers, last_covering, said, count}
use Rattle.rules_laws.proofs.Multiples.{Blocks, Moves, block-free, block-covered, count-blocks}
use Rattle.rules_engine.specs.Engine as engine
use Rattle.rules_engine.specs.Engine.{Engine, free_in_lem}
use Rattle.rules_engine.specs.Demand as bytes
use Rattle.rules_engine.specs.Demand.{SameFree, SameShelves, Demand}
use Rattle.rules_engine.proofs.Obeys.{Obeys}
use Rattle.rules_engine.proofs.Demand.{Stands, stands-next, answer-is, sound, first, left-stands, demand}
use Rattle.rules_engine.proofs.Multiples.{held-blocks, answer-moves, left-blocks}
use Rattle.pages.specs.Pages.{page, most_pages, bytes_of_lem}
use Rattle.pages.specs.Calls.{PageCall, AllocatePages, FreePages, byte_call, Door, after, vouchers, first_byte, page_free, covers_page}
use Rattle.pages.specs.Demand.{left, SamePages, handing_back, PageDemand}
use Rattle.pages.proofs.Keeping.{freed-all, keeps, each_keeps}

-- on a sound state a page call answers and leaves what its byte call does
pub record Serves (e : Engine) (d : Door e) : Type 0 where
  pub answers : (p : PageCall) (s : e.State) → e.Sound s → d.answer p s ≡ e.answer (byte_call p) s
  pub leaves : (p : PageCall) (s : e.State) → e.Sound s → d.next p s ≡ e.next (byte_call p) s

-- all addresses are whole pages
space : top ≡ most_pages * page
space = pow-add 2 51 12

module _ {n : ℕ} {e : Engine} (f : Obeys n e) (d : Door e) (serves : Serves e d) where
  abbrev whole : Demand e
  whole = demand f

  after_is : (s : e.State) → Stands f s → (ps : List PageCall) → after e d s ps ≡ engine.after e s (map byte_call ps)
  unfolding after engine.after
  after_is s h [] = refl
  after_is s h (p ∷ ps) = ap (λ (t : e.State). after e d t ps) (serves.leaves p s (sound f s h)) ∙ after_is (e.next (byte_call p) s) (stands-next f (byte_call p) s h) ps

  vouchers-are : (s : e.State) → Stands f s → (ps : List PageCall) → vouchers e d s ps ≡ engine.vouchers e s (map byte_call ps)
  unfolding vouchers engine.vouchers
  vouchers-are s h [] = refl
  vouchers-are s h (p ∷ ps) =
      let a = serves.answers p s (sound f s h) in
      let r = ap (λ (t : e.State). vouchers e d t ps) (serves.leaves p s (sound f s h)) ∙ vouchers-are (e.next (byte_call p) s) (stands-next f (byte_call p) s h) ps in
      (λ i. a i ∷ r i)

  -- the state that the byte calls leave
  abbrev reached : List PageCall → e.State
  reached ps = bytes.left e (map byte_call ps)

  at_left : (ps : List PageCall) (P : e.State → Type 0) → P (reached ps) → P (left e d ps)
  at_left ps P h = subst P (sym (after_is e.new (first f) ps)) h

  module _ (ps : List PageCall) where
    stands : Stands f (reached ps)
    stands = left-stands f (map byte_call ps)

    is-sound : e.Sound (reached ps)
    is-sound = sound f (reached ps) stands

    blocks : Blocks page (e.book (reached ps))
    blocks = left-blocks f page (map byte_call ps) (each_keeps n ps)

    bytes-like-first : (k i : ℕ) → i < page → free_in_lem e (reached ps) (first_byte k + i) ≡ page_free e (reached ps) k
    bytes-like-first k i h = block-free page k i h (e.book (reached ps)) blocks

    answered : (p : PageCall) → d.answer p (reached ps) ≡ e.answer (byte_call p) (reached ps)
    answered p = serves.answers p (reached ps) is-sound

    moves : (p : PageCall) → Moves page (d.answer p (reached ps))
    moves p = subst (Moves page) (sym (answered p)) (answer-moves f page (reached ps) stands blocks (byte_call p) (keeps n p))

    total-counts : e.total (reached ps) ≡ page * count most_pages (page_free e (reached ps))
    total-counts =
        whole.total-counts (map byte_call ps)
        ∙ ap (λ (m : ℕ). count m (free_in_lem e (reached ps))) space
        ∙ count-blocks page most_pages (free_in_lem e (reached ps)) (λ k i h. bytes-like-first k i h)

    covers-only : (p : PageCall) (k : ℕ) → T (covers_page (d.answer p (reached ps)) k) → page_free e (reached ps) k ≡ not (frees (byte_call p))
    covers-only p k t = whole.covers-only (map byte_call ps) (byte_call p) (first_byte k) (subst (λ (v : Voucher). T (covers_page v k)) (answered p) t)

    -- a byte is free as its page is
    of-page : (x : ℕ) → free_in_lem e (reached ps) x ≡ page_free e (reached ps) (x / page)
    of-page x =
        ap (λ (y : ℕ). free_in_lem e (reached ps) y) (sym (div-add-mod' x page))
        ∙ bytes-like-first (x / page) (x % page) (mod-lt x (lit< tt))

  same_bytes : (ps qs : List PageCall) → SamePages e (reached ps) (reached qs) → SameFree e (reached ps) (reached qs)
  same_bytes ps qs h x = of-page ps x ∙ h (x / page) ∙ sym (of-page qs x)

  at_both : (ps qs : List PageCall) (P : e.State → e.State → Type 0) → P (reached ps) (reached qs) → P (left e d ps) (left e d qs)
  at_both ps qs P h = at_left ps (λ s. P s (left e d qs)) (at_left qs (P (reached ps)) h)

  module _ (ps : List PageCall) (c o : ℕ) (accepted : (d.answer (AllocatePages c o) (reached ps)).number ≡ 0) where
    abbrev take : PageCall
    take = AllocatePages c o

    abbrev taken : e.State
    taken = e.next (byte_call take) (reached ps)

    taken-stands : Stands f taken
    taken-stands = stands-next f (byte_call take) (reached ps) (stands ps)

    answer : d.answer take (reached ps) ≡ voucher (byte_call take) (step n (byte_call take) (stands ps).held)
    answer = answered ps take ∙ answer-is f (reached ps) (stands ps) (byte_call take)

    aligned : page ∣ (d.answer take (reached ps)).address
    aligned =
        let h = stands ps in
        let found = held-blocks f page (reached ps) h (blocks ps) in
        subst (λ (v : Voucher). page ∣ v.address) (sym answer) (keeps n take h.held h.good found (sym (ap (λ (v : Voucher). v.number) answer) ∙ accepted)).0

    -- the page call that hands back is the byte call that does
    abbrev return : PageCall
    return = handing_back e d c o (reached ps)

    backs : byte_call return ≡ bytes.handing_back e (byte_call take) (reached ps)
    backs =
        let x = (d.answer take (reached ps)).address in
        ap (λ (z : ℕ). Free x z) (freed-all x c aligned ∙ (let z : bytes_of_lem c ≡ x + bytes_of_lem c - x = omega arith in z))
        ∙ ap (λ (v : Voucher). Free v.address (v.address + bytes_of_lem c - v.address)) (answered ps take)

    handed-back : ((d.answer return (d.next take (reached ps))).number ≡ 0) × (listing (e.book (d.next return (d.next take (reached ps)))) ≡ listing (e.book (reached ps)))
    handed-back =
        let to = serves.leaves take (reached ps) (is-sound ps) in
        let good = sound f taken taken-stands in
        let w = whole.handed-back (map byte_call ps) (byte_call take) tt (sym (ap (λ (v : Voucher). v.number) (answered ps take)) ∙ accepted) in (
          ap (λ (t : e.State). (d.answer return t).number) to
              ∙ ap (λ (v : Voucher). v.number) (serves.answers return taken good) ∙ ap (λ (q : Call). (e.answer q taken).number) backs ∙ w.0,
          ap (λ (t : e.State). listing (e.book (d.next return t))) to
              ∙ ap (λ (t : e.State). listing (e.book t)) (serves.leaves return taken good) ∙ ap (λ (q : Call). listing (e.book (e.next q taken))) backs ∙ w.1,
        )

  pub page-demand : PageDemand e d
  page-demand = record {
    always-sound = λ ps. at_left ps (λ s. e.Sound s) (is-sound ps);
    whole-pages = λ ps k i h. at_left ps (λ s. free_in_lem e s (first_byte k + i) ≡ page_free e s k) (bytes-like-first ps k i h);
    whole-covered = λ ps p k i h. at_left ps (λ s. covers (d.answer p s) (first_byte k + i) ≡ covers_page (d.answer p s) k) (block-covered page k i h (d.answer p (reached ps)) (moves ps p));
    free-pages = λ ps k.
        ap (λ (s : e.State). page_free e s k) (after_is e.new (first f) ps)
        ∙ whole.free_bytes (map byte_call ps) (first_byte k)
        ∙ sym (ap (λ (vs : List Voucher). said false (last_covering (first_byte k) vs)) (vouchers-are e.new (first f) ps));
    total-counts = λ ps. at_left ps (λ s. e.total s ≡ page * count most_pages (page_free e s)) (total-counts ps);
    covers-only = λ ps p k. at_left ps (λ s. T (covers_page (d.answer p s) k) → page_free e s k ≡ not (frees (byte_call p))) (covers-only ps p k);
    same-ranges = λ ps qs. at_both ps qs (λ s t. SamePages e s t → listing (e.book s) ≡ listing (e.book t))
        (λ h. whole.same-ranges (map byte_call ps) (map byte_call qs) (same_bytes ps qs h));
    same-shelves = λ ps qs. at_both ps qs (λ s t. SamePages e s t → SameShelves (e.book s) (e.book t))
        (λ h. whole.same-shelves (map byte_call ps) (map byte_call qs) (same_bytes ps qs h));
    handed-back = λ ps c o. at_left ps (λ s. (d.answer (AllocatePages c o) s).number ≡ 0
        → ((d.answer (handing_back e d c o s) (d.next (AllocatePages c o) s)).number ≡ 0)
        × (listing (e.book (d.next (handing_back e d c o s) (d.next (AllocatePages c o) s))) ≡ listing (e.book s))) (handed-back ps c o);
  }
