-- A list of calls on the image of a sound account is the list on that account. So a list may be cut anywhere, to the byte of the image; a list of one call is
-- that call; and demand 3 holds of lists of lists, from the image's bytes and the answers alone. Assumes nothing.
use Prim.Native.Nat.{ℕ, ◌≤◌}
use mathlib.Core.Bool.{Bool, true, false}
use mathlib.Core.List.{List, [], ◌∷◌, ◌++◌}
use mathlib.Core.Logic.{◌≢◌}
use mathlib.Core.Path.{◌≡◌, refl, sym, ap, ◌∙◌, subst}
use lib.IntN.{ℤ, pos}
use lib.ListN.{length, get_or}
use lib.Dec.{eqb}
use lib.Signed.{lt_z}
use borrow.Author.Tests.{eqb-true}
use Rattle.std.specs.Prelude.{Err, Some}
use Rattle.image.specs.Reading.{reading_of}
use Rattle.bytes_be.specs.Numbers.{Bytes}
use Rattle.calls.specs.declared.MemoryError.TheVariants.{InvalidEntry}
use Rattle.account_state.proofs.Exact.{sound-passes}
use Rattle.linked_lists.proofs.Laws.{true≢false}
use Rattle.linked_lists.specs.Links.{none}
use Rattle.rules.specs.Rules.{Call}
use Rattle.rules_engine.specs.Engine.{after, vouchers}
use Rattle.rules_engine.specs.Demand.{left, DemandOf}
use Rattle.rules_lowest.specs.Carried.{LowestOf}
use Rattle.account_state.specs.Account.{SoundAccount, is_sound_lem}
use Rattle.account_state.specs.declared.Account.{Account}
use Rattle.calls.specs.Calls.{call_of, number_of, signed_of}
use Rattle.calls.specs.declared.Request.{Request}
use Rattle.account_calls.specs.Made.{made}
use Rattle.account_calls.specs.Engine.{accounts}
use Rattle.batch.specs.InWords.{asked, words_of_lem}
use Rattle.batch.specs.Lists.{fitted, list_served}
use Rattle.batch.specs.Histories.{Batch, calls_in, vouchers_in, after_lists, vouchers_of_lists, account_door, front, rest, CutAt}
use Rattle.batch.proofs.Histories.{Faithful, of-lists, lowest-of-lists, made-sound, list_left, list-kept, list-sound}
use Rattle.batch.proofs.Cuts.{Fits, single-left, single-answer, cut, asked-one, one-fits}
use Rattle.pool_listing.specs.Listing.{written}
use Rattle.image_parts.specs.Layout.{Layout, Figured, image_size_lem}
use Rattle.image_writing.specs.Writing.{image_of}
use Rattle.image.specs.Writing.{Image}
use Rattle.image_parts.proofs.Lawful.{small-pool}
use Rattle.image.proofs.Rounds.{read_same, accepted-image}
use Rattle.c_over.specs.CCalls.{over, call_over_lem, new_over, Returned, returned, finished}
use Rattle.c_over.specs.Images.{images, lowest_stored}
use Rattle.c_over.specs.Lists.{list_over_lem, answers_over, image_door, BatchOver}
use Rattle.c_over.proofs.Images.{leaves-image, call-bytes, call-number, call-voucher}
use Rattle.c_over.proofs.Demand.{demand, lowest}

-- a refused list hands back the account
refused-list : (n : ℕ) (s : Account) (l : List ℕ) (m : ℕ) → number_of (list_served n s l m).answer ≢ 0 → (list_served n s l m).state ≡ s
unfolding list_served
refused-list n s l m = go (is_sound_lem n s) refl (fitted l m) refl
  where
    go : (t : Bool) → is_sound_lem n s ≡ t → (u : Bool) → fitted l m ≡ u → number_of (list_served n s l m).answer ≢ 0 → (list_served n s l m).state ≡ s
    go false e u f d = rw e
    go true e false f d = rw (e, f)
    go true e true f d = absurd (d (rw (e, f)))

module _ (f : Layout) (full : Figured f) (l : List ℕ) where
  abbrev n : ℕ
  n = f.records

  small : n ≤ none
  small = small-pool f full.lawful

  -- a list on the image of a sound account
  module _ (s : Account) (h : SoundAccount n s) (b : Batch) where
    pub list-bytes : (image_door f l).next b (image_of f s) ≡ image_of f ((account_door n).next b s)
    unfolding list_over_lem over
    list-bytes = rw (read_same f full s h) (leaves-image f _ s (refused-list n s b.words (length b.places)))

    pub list-answers : (image_door f l).answers b (image_of f s) ≡ (account_door n).answers b s
    unfolding answers_over
    list-answers = rw (read_same f full s h)

    -- A list of one call answers and leaves what that call does, to the byte.
    module _ (fits : Fits b) (q : Request) (e : asked b.words ≡ Some q ∷ []) where
      pub single-bytes : (image_door f l).next b (image_of f s) ≡ (call_over_lem f (call_of q) (image_of f s)).bytes
      single-bytes = list-bytes ∙ ap (image_of f) (single-left n small s h b fits q e) ∙ sym (call-bytes f full s h (call_of q))

      pub single-number : (image_door f l).answers b (image_of f s) ≡ written ((call_over_lem f (call_of q) (image_of f s)).number ∷ []) b.places
      single-number = list-answers ∙ single-answer n small s h b fits q e ∙ ap (λ (i : ℤ). written (i ∷ []) b.places) (sym (call-number f full s h (call_of q)))

  -- a list that is cut
  module _ (s : Account) (h : SoundAccount n s) (b : Batch) (k : ℕ) where
    abbrev between : Account
    between = (account_door n).next (front k b) s

    first : (image_door f l).next (front k b) (image_of f s) ≡ image_of f between
    first = list-bytes s h (front k b)

    second : (image_door f l).next (rest k b) ((image_door f l).next (front k b) (image_of f s)) ≡ image_of f ((account_door n).next (rest k b) between)
    second = ap ((image_door f l).next (rest k b)) first ∙ list-bytes between (list-sound n small s h (front k b)) (rest k b)

    both : (image_door f l).answers (front k b) (image_of f s) ++ (image_door f l).answers (rest k b) ((image_door f l).next (front k b) (image_of f s))
        ≡ (account_door n).answers (front k b) s ++ (account_door n).answers (rest k b) between
    both =
        let p = list-answers s h (front k b) in
        let q = ap ((image_door f l).answers (rest k b)) first ∙ list-answers between (list-sound n small s h (front k b)) (rest k b) in
        (λ i. p i ++ q i)

    -- For every k, the first k calls, and then the rest on the image that they left, give the same answers in the same places and the same bytes.
    pub cut-image : Fits b → k ≤ length (asked b.words) → CutAt (images f l) (image_door f l) (image_of f s) b k
    cut-image fits few =
        let c = cut b fits k few n small s h in
        record { same-state = list-bytes s h b ∙ ap (image_of f) c.same-state ∙ sym second; same-answers = list-answers s h b ∙ c.same-answers ∙ sym both }

  -- calls on the image of a sound account, one by one
  pub after-images : (s : Account) → SoundAccount n s → (cs : List Call) → after (images f l) (image_of f s) cs ≡ image_of f (after (accounts n) s cs)
  unfolding after
  after-images s h [] = refl
  after-images s h (c ∷ cs) = ap (λ (m : List ℕ). after (images f l) m cs) (call-bytes f full s h c) ∙ after-images (made n s c).state (made-sound n small s h c) cs

  pub vouchers-images : (s : Account) → SoundAccount n s → (cs : List Call) → vouchers (images f l) (image_of f s) cs ≡ vouchers (accounts n) s cs
  unfolding vouchers
  vouchers-images s h [] = refl
  vouchers-images s h (c ∷ cs) =
      let first = call-voucher f full s h c in
      let others = ap (λ (m : List ℕ). vouchers (images f l) m cs) (call-bytes f full s h c) ∙ vouchers-images (made n s c).state (made-sound n small s h c) cs in
      (λ i. first i ∷ others i)

  -- a list on an image
  module _ (m : List ℕ) (i : Image f m) (b : Batch) where
    pub image-left : (image_door f l).next b m ≡ after (images f l) m (calls_in b)
    image-left =
        ap ((image_door f l).next b) (sym i.bytes) ∙ list-bytes i.state i.sound b ∙ ap (image_of f) (list_left n small i.state i.sound b)
        ∙ sym (after-images i.state i.sound (calls_in b)) ∙ ap (λ (x : List ℕ). after (images f l) x (calls_in b)) i.bytes

    pub image-kept : vouchers_in b ((image_door f l).answers b m) ≡ vouchers (images f l) m (calls_in b)
    image-kept =
        ap (λ (x : List ℕ). vouchers_in b ((image_door f l).answers b x)) (sym i.bytes)
        ∙ ap (vouchers_in b) (list-answers i.state i.sound b) ∙ list-kept n small i.state i.sound b
        ∙ sym (vouchers-images i.state i.sound (calls_in b)) ∙ ap (λ (x : List ℕ). vouchers (images f l) x (calls_in b)) i.bytes

  faithful : length l ≡ image_size_lem f → Faithful (images f l) (image_door f l)
  faithful sized =
      let d = demand f full l sized in
      record {
        next-is = λ cs b. image-left (left (images f l) cs) (d.always-sound cs) b;
        kept-is = λ cs b. image-kept (left (images f l) cs) (d.always-sound cs) b;
      }

  -- Demand 3 of lists of lists, from what the call that writes the image of `new` leaves of the bytes l.
  pub lists-demand : length l ≡ image_size_lem f
      → DemandOf (images f l) (List Batch) (after_lists (images f l) (image_door f l) (new_over f l).bytes) (vouchers_of_lists (images f l) (image_door f l) (new_over f l).bytes)
  lists-demand sized = of-lists (images f l) (image_door f l) (faithful sized) (demand f full l sized)

  -- And what is promised of the lowest figure.
  pub lists-lowest : length l ≡ image_size_lem f
      → LowestOf (images f l) (lowest_stored f) (List Batch) (after_lists (images f l) (image_door f l) (new_over f l).bytes) (vouchers_of_lists (images f l) (image_door f l) (new_over f l).bytes)
  lists-lowest sized = lowest-of-lists (images f l) (image_door f l) (faithful sized) (lowest_stored f) (lowest f full l sized)

-- ---- a call, made as a list of one

-- the same number, and the same words
pub same-list : (f : Layout) (l words words' : List ℕ) (old : List ℤ) (r r' : ℤ) (l' : List ℕ) (now : List ℤ) → words ≡ words' → r' ≡ r → BatchOver f l words old r l' now → BatchOver f l words' old r' l' now
same-list f l words words' old r r' l' now e g h = rw g (subst (λ (ws : List ℕ). BatchOver f l ws old r l' now) e h)

module _ (f : Layout) (full : Figured f) (l : List ℕ) (bytes : Bytes l) (q : Request) (r : ℤ) (l' : List ℕ) (now : List ℤ) (h : BatchOver f l (words_of_lem q) (pos 0 ∷ []) r l' now) where
  abbrev one : Batch
  one = record { words = words_of_lem q; places = pos 0 ∷ [] }

  abbrev refused : Returned
  refused = returned (signed_of (Err InvalidEntry)) l

  -- bytes that do not serve
  not_listed : eqb (reading_of f l).number 0 ≡ false → returned r l' ≡ refused
  unfolding list_over_lem over
  not_listed e = h.image-now ∙ rw e

  not-called : eqb (reading_of f l).number 0 ≡ false → refused ≡ call_over_lem f (call_of q) l
  unfolding call_over_lem over
  not-called e = rw e

  -- an image
  module _ (i : Image f l) where
    abbrev held : List ℕ
    held = image_of f i.state

    number-listed : (list_over_lem f (words_of_lem q) 1 held).number ≡ pos 0
    unfolding list_over_lem over finished list_served
    number-listed = rw (read_same f full i.state i.sound, sound-passes f.records (small-pool f full.lawful) i.state i.sound, one-fits q (pos 0))

    listed : r ≡ pos 0
    listed = ap (λ (x : Returned). x.number) h.image-now ∙ ap (λ (m : List ℕ). (list_over_lem f (words_of_lem q) 1 m).number) (sym i.bytes) ∙ number-listed

    bytes_left : l' ≡ (call_over_lem f (call_of q) l).bytes
    bytes_left =
        ap (λ (x : Returned). x.bytes) h.image-now ∙ ap (λ (m : List ℕ). (list_over_lem f (words_of_lem q) 1 m).bytes) (sym i.bytes)
        ∙ single-bytes f full l i.state i.sound one (one-fits q (pos 0)) q (asked-one q) ∙ ap (λ (m : List ℕ). (call_over_lem f (call_of q) m).bytes) i.bytes

    number-in-place : get_or now 0 (pos 0) ≡ (call_over_lem f (call_of q) l).number
    number-in-place =
        ap (λ (is : List ℤ). get_or is 0 (pos 0))
        (h.answers-now ∙ ap (answers_over f (words_of_lem q) (pos 0 ∷ [])) (sym i.bytes) ∙ single-number f full l i.state i.sound one (one-fits q (pos 0)) q (asked-one q))
        ∙ ap (λ (m : List ℕ). (call_over_lem f (call_of q) m).number) i.bytes

    called : returned (get_or now 0 (pos 0)) l' ≡ call_over_lem f (call_of q) l
    called = let p = number-in-place in let w = bytes_left in (λ j. returned (p j) (w j))

  image-read : eqb (reading_of f l).number 0 ≡ true → Image f l
  image-read e = accepted-image f full.lawful l bytes (eqb-true _ _ e)

  pub list-refused : lt_z r (pos 0) ≡ true → returned r l' ≡ call_over_lem f (call_of q) l
  list-refused t = go (eqb (reading_of f l).number 0) refl
    where
      go : (u : Bool) → eqb (reading_of f l).number 0 ≡ u → returned r l' ≡ call_over_lem f (call_of q) l
      go false e = not_listed e ∙ not-called e
      go true e = true≢false (sym t ∙ ap (λ (x : ℤ). lt_z x (pos 0)) (listed (image-read e)))

  pub list-served : lt_z r (pos 0) ≡ false → returned (get_or now 0 (pos 0)) l' ≡ call_over_lem f (call_of q) l
  list-served t = go (eqb (reading_of f l).number 0) refl
    where
      go : (u : Bool) → eqb (reading_of f l).number 0 ≡ u → returned (get_or now 0 (pos 0)) l' ≡ call_over_lem f (call_of q) l
      go false e = true≢false (sym (ap (λ (x : Returned). lt_z x.number (pos 0)) (not_listed e)) ∙ t)
      go true e = called (image-read e)
