-- A journal may be audited in parts: what a part leaves unused goes before the next one, and the report is that of the whole. n is the
-- number of records. Assumes nothing.
use Prim.Native.Nat.{ℕ, zero, suc, ◌+◌, ◌-◌, ◌≤◌, ◌<◌}
use mathlib.Core.Bool.{Bool, true, false, cond, not}
use mathlib.Core.List.{List, ◌++◌}
use mathlib.Core.Path.{◌≡◌, refl, sym, ap, ◌∙◌, subst}
use lib.Dec.{T, eqb, leb, leb→le}
use lib.ListN.{length, take, drop, length-append, length-drop}
use lib.Seq.{take-append-le, drop-append-le, drop-drop}
use native.Mathlib.Omega.{arith}
use borrow.Author.Tests.{le-leb, lt-leb, eq-eqb}
use Rattle.linked_lists.specs.Links as links
use Rattle.linked_lists.proofs.Laws.{true≢false}
use Rattle.rules.specs.Rules.{Book}
use Rattle.rules.specs.Sound.{Sound}
use Rattle.rules_laws.proofs.Lists.{and_r}
use Rattle.rules_laws.proofs.Steps.{step-sound}
use Rattle.pool_state.specs.State.{state_of}
use Rattle.pool_state.specs.Sound.{book_of, SoundState}
use Rattle.pool_state.proofs.Book.{book-back}
use Rattle.calls.specs.Calls.{call_of}
use Rattle.calls.specs.declared.Request.TheVariants.{Allocate, Reserve, Free}
use Rattle.memory_allocator.proofs.Steps.{sound-held}
use Rattle.bytes_be.specs.Numbers.{number}
use Rattle.image_parts.specs.Read.{number_in}
use Rattle.journal_blocks.specs.Journal.{length_of, is_length_lem, is_kind_lem, size_in, kind_in, entry, entry_in_lem, whole_block, block_of, block_at}
use Rattle.journal_blocks.specs.declared.Entry.{Entry}
use Rattle.journal_blocks.specs.declared.Block.{Block}
use Rattle.journal_blocks.specs.declared.Block.TheVariants as block
use Rattle.journal_blocks.proofs.Seen.{Whole, Seen, none, short, unsized, unknown, unfit, call, seen, at_least, Ahead, ahead}
use Rattle.journal_audit.specs.Audit.{Auditing, Audited, answer_bits_lem, replayed, stands, judged_by, audit_from_lem, audited_on}
use Rattle.journal_audit.specs.declared.Stop.{Stop}
use Rattle.journal_audit.specs.declared.Stop.TheVariants as stop

-- ---- enough is enough

module _ (n : ℕ) (l : List ℕ) where
  judged-same : (f g : ℕ → ℕ → Book → Audited) (at i : ℕ) (b : Book) (w : Block) → Ahead at (drop at l) w
      → ((next : ℕ) (j : ℕ) (d : Book) → at < next → f next j d ≡ g next j d) → judged_by n f at i b w ≡ judged_by n g at i b w
  judged-same f g at i b (block.Call e next) h same =
      ap (λ (r : Audited). cond (eqb (answer_bits_lem (replayed n b e.request)) e.answer) r (stands n at i (replayed n b e.request).book stop.Differs))
      (same next (suc i) _ (let p = h.0 in omega arith))
  judged-same f g at i b block.End h same = refl
  judged-same f g at i b block.Truncated h same = refl
  judged-same f g at i b block.UnknownCall h same = refl
  judged-same f g at i b block.WrongLength h same = refl

  -- at the end there is nothing to judge
  nothing : (k at i : ℕ) (b : Book) → length l ≤ at → audit_from_lem n k l at i b ≡ stands n at i b stop.More
  unfolding audit_from_lem block_of
  nothing zero at i b h = refl
  nothing (suc k) at i b h = rw (lt-leb 1 (length (drop at l)) (omega (arith, length-drop at l)))

  pub enough : (j k at i : ℕ) (b : Book) → length l - at ≤ j → length l - at ≤ k → audit_from_lem n j l at i b ≡ audit_from_lem n k l at i b
  unfolding audit_from_lem
  enough zero k at i b h g = sym (nothing k at i b (omega arith))
  enough (suc j) zero at i b h g = nothing (suc j) at i b (omega arith)
  enough (suc j) (suc k) at i b h g =
      judged-same (audit_from_lem n j l) (audit_from_lem n k l) at i b (block_at l at) (ahead at (drop at l)) (λ next m d more. enough j k next m d (omega arith) (omega arith))

-- ---- the place of a block moves with its bytes

abbrev further : ℕ → Block → Block
further u (block.Call e next) = block.Call e (u + next)
further u block.End = block.End
further u block.Truncated = block.Truncated
further u block.UnknownCall = block.UnknownCall
further u block.WrongLength = block.WrongLength

further-cond : (u : ℕ) (t : Bool) (w v : Block) → further u (cond t w v) ≡ cond t (further u w) (further u v)
further-cond u true w v = refl
further-cond u false w v = refl

moved-block : (u at : ℕ) (r : List ℕ) → block_of (u + at) r ≡ further u (block_of at r)
unfolding block_of whole_block
moved-block u at r = let e : u + at + (2 + size_in r) ≡ u + (at + (2 + size_in r)) = omega arith in rw e (simp further-cond)

-- an audit whose places lie so much further
abbrev pub moved : ℕ → Audited → Audited
moved u d = record { auditing = d.auditing; used = u + d.used; stop = d.stop }

module _ (n u : ℕ) (l : List ℕ) where
  block-moved : (at : ℕ) → block_at l (u + at) ≡ further u (block_at (drop u l) at)
  block-moved at = ap (block_of (u + at)) (sym (drop-drop at u l)) ∙ moved-block u at (drop at (drop u l))

  pub audit-moved : (k at i : ℕ) (b : Book) → audit_from_lem n k l (u + at) i b ≡ moved u (audit_from_lem n k (drop u l) at i b)
  unfolding audit_from_lem
  audit-moved zero at i b = refl
  audit-moved (suc k) at i b = ap (judged_by n (audit_from_lem n k l) (u + at) i b) (block-moved at) ∙ go (block_at (drop u l) at) (audit-moved k)
    where
      go : (w : Block) → ((next j : ℕ) (d : Book) → audit_from_lem n k l (u + next) j d ≡ moved u (audit_from_lem n k (drop u l) next j d))
          → judged_by n (audit_from_lem n k l) (u + at) i b (further u w) ≡ moved u (judged_by n (audit_from_lem n k (drop u l)) at i b w)
      go (block.Call e next) ih = test (eqb (answer_bits_lem (replayed n b e.request)) e.answer)
        where
          test : (t : Bool) → cond t (audit_from_lem n k l (u + next) (suc i) (replayed n b e.request).book) (stands n (u + at) i (replayed n b e.request).book stop.Differs)
              ≡ moved u (cond t (audit_from_lem n k (drop u l) next (suc i) (replayed n b e.request).book) (stands n at i (replayed n b e.request).book stop.Differs))
          test true = ih next (suc i) _
          test false = refl
      go block.End ih = refl
      go block.Truncated ih = refl
      go block.UnknownCall ih = refl
      go block.WrongLength ih = refl

-- ---- more bytes behind a block that is there

yes : (t : Bool) → T t → t ≡ true
yes true h = refl
yes false h = absurd h

no : (t : Bool) → T (not t) → t ≡ false
no true h = absurd h
no false h = refl

-- the audit wants more bytes
abbrev wants : Block → Bool
wants (block.Call e next) = false
wants block.End = true
wants block.Truncated = true
wants block.UnknownCall = false
wants block.WrongLength = false

module _ (at : ℕ) (r ys : List ℕ) where
  size : length (r ++ ys) ≡ length r + length ys
  size = length-append r ys

  number-longer : (a k : ℕ) → a + k ≤ length r → number_in (r ++ ys) a k ≡ number_in r a k
  number-longer a k h =
      ap (λ (x : List ℕ). number (take k x)) (drop-append-le a r ys (omega arith))
      ∙ ap number (take-append-le k (drop a r) ys (omega (arith, length-drop a r)))

  entry-longer : (kind : ℕ) → T (is_kind_lem kind) → 2 + length_of kind ≤ length r → entry_in_lem kind (r ++ ys) ≡ entry_in_lem kind r
  entry-longer zero t h = absurd t
  entry-longer (suc zero) t h =
      let p = number-longer 3 8 (omega arith) in
      let q = number-longer 11 8 (omega arith) in
      let s = number-longer 19 8 (omega arith) in
      (λ i. entry (Free (record { 0 = p i }) (q i)) (s i))
  entry-longer (suc (suc zero)) t h =
      let p = number-longer 3 8 (omega arith) in
      let q = number-longer 11 8 (omega arith) in
      let s = number-longer 19 8 (omega arith) in
      (λ i. entry (Allocate (p i) (q i)) (s i))
  entry-longer (suc (suc (suc zero))) t h =
      let p = number-longer 3 8 (omega arith) in
      let q = number-longer 11 8 (omega arith) in
      let s = number-longer 19 8 (omega arith) in
      let u = number-longer 27 8 (omega arith) in
      (λ i. entry (Reserve (record { 0 = p i }) (q i) (s i)) (u i))
  entry-longer (suc (suc (suc (suc kind)))) t h =
      absurd (let g : suc (suc (suc (suc kind))) ≤ 3 = leb→le (suc (suc (suc (suc kind)))) 3
      (and_r (leb 1 (suc (suc (suc (suc kind))))) (leb (suc (suc (suc (suc kind)))) 3) t) in let v : ⊥ = omega arith in v)

  module _ (w : Whole r) where
    kind-longer : kind_in (r ++ ys) ≡ kind_in r
    kind-longer = number-longer 2 1 (let p = at_least (size_in r) w.sized in let q = w.there in omega arith)

    whole-longer : block_of at (r ++ ys) ≡ whole_block at (size_in r) (r ++ ys)
    unfolding block_of
    whole-longer =
        let z = size in
        let p = at_least (size_in r) w.sized in
        let q = w.there in
        rw (
          le-leb 1 (length (r ++ ys)) (omega arith),
          le-leb 2 (length (r ++ ys)) (omega arith),
          number-longer 0 2 (omega arith),
          yes (is_length_lem (size_in r)) w.sized,
          le-leb (2 + size_in r) (length (r ++ ys)) (omega arith),
        )

  longer : (w : Block) → Seen at r w → wants w ≡ false → block_of at (r ++ ys) ≡ w
  unfolding whole_block block_of
  longer _ (none h) f = true≢false f
  longer _ short f = true≢false f
  longer _ (unsized h d) f =
      let z = size in
      rw (le-leb 1 (length (r ++ ys)) (omega arith), le-leb 2 (length (r ++ ys)) (omega arith), number-longer 0 2 h, no (is_length_lem (size_in r)) d)
  longer _ (unknown w d) f = whole-longer w ∙ rw (kind-longer w, no (is_kind_lem (kind_in r)) d)
  longer _ (unfit w k d) f = whole-longer w ∙ rw (kind-longer w, yes (is_kind_lem (kind_in r)) k, no (eqb (size_in r) (length_of (kind_in r))) d)
  longer _ (call w k e) f =
      let q = w.there in
      whole-longer w ∙ rw (kind-longer w, yes (is_kind_lem (kind_in r)) k, eq-eqb (size_in r) (length_of (kind_in r)) e)
      (ap (λ (x : Entry). block.Call x (at + (2 + size_in r))) (entry-longer (kind_in r) k (omega arith)))

-- ---- where an audit of a part stands

pub record Kept (n : ℕ) (p : List ℕ) (at i : ℕ) (d : Audited) : Type 0 where
  pub from : at ≤ d.used
  pub within : d.used ≤ length p
  pub few : d.auditing.index + at ≤ i + d.used
  pub book : Book
  pub sound : Sound n book
  pub state : d.auditing.state ≡ state_of n book

pub kept : (n : ℕ) (p : List ℕ) (k at i : ℕ) (b : Book) → Sound n b → at ≤ length p → Kept n p at i (audit_from_lem n k p at i b)
unfolding audit_from_lem
kept n p zero at i b s h = record { from = omega arith; within = h; few = omega arith; book = b; sound = s; state = refl }
kept n p (suc k) at i b s h = go (block_at p at) (ahead at (drop at p)) (λ next j d t g. kept n p k next j d t g)
  where
    still : (x : Stop) → Kept n p at i (stands n at i b x)
    still x = record { from = omega arith; within = h; few = omega arith; book = b; sound = s; state = refl }

    go : (w : Block) → Ahead at (drop at p) w → ((next j : ℕ) (d : Book) → Sound n d → next ≤ length p → Kept n p next j (audit_from_lem n k p next j d))
        → Kept n p at i (judged_by n (audit_from_lem n k p) at i b w)
    go (block.Call e next) a ih = test (eqb (answer_bits_lem (replayed n b e.request)) e.answer)
      where
        test : (t : Bool) → Kept n p at i (cond t (audit_from_lem n k p next (suc i) (replayed n b e.request).book) (stands n at i (replayed n b e.request).book stop.Differs))
        test true =
            let far = a.0 in
            let there = a.1 in
            let z = length-drop at p in
            let g = ih next (suc i) (replayed n b e.request).book (step-sound n b (call_of e.request) s) (omega arith) in
            let f = g.from in
            let m = g.few in
            record { from = omega arith; within = g.within; few = omega arith; book = g.book; sound = g.sound; state = g.state }
        test false = record {
          from = omega arith;
          within = h;
          few = omega arith;
          book = _;
          sound = step-sound n b (call_of e.request) s;
          state = refl;
        }
    go block.End a ih = still stop.More
    go block.Truncated a ih = still stop.More
    go block.UnknownCall a ih = still stop.UnknownCall
    go block.WrongLength a ih = still stop.WrongLength

-- ---- the parts, one after the other

module _ (n : ℕ) (small : n ≤ links.none) (p ys : List ℕ) where
  abbrev whole : List ℕ
  whole = p ++ ys

  abbrev fuel : ℕ
  fuel = length (p ++ ys)

  -- from where the audit of the part stands, if it wants more bytes
  abbrev onward_by : Stop → Audited → Audited
  onward_by stop.More d = audit_from_lem n fuel whole d.used d.auditing.index (book_of n d.auditing.state)
  onward_by stop.Differs d = d
  onward_by stop.UnknownCall d = d
  onward_by stop.WrongLength d = d

  unfolds : (k at i : ℕ) (b : Book) → length whole - at ≤ k → audit_from_lem n k whole at i b ≡ judged_by n (audit_from_lem n k whole) at i b (block_at whole at)
  unfolding audit_from_lem block_of
  unfolds zero at i b h = rw (lt-leb 1 (length (drop at whole)) (omega (arith, length-drop at whole)))
  unfolds (suc k) at i b h =
      judged-same n whole (audit_from_lem n k whole) (audit_from_lem n (suc k) whole) at i b (block_at whole at) (ahead at (drop at whole))
      (λ next j d more. enough n whole k (suc k) next j d (omega arith) (omega arith))

  block-longer : (at : ℕ) → at ≤ length p → wants (block_at p at) ≡ false → block_at whole at ≡ block_at p at
  block-longer at h f = ap (block_of at) (drop-append-le at p ys h) ∙ longer at (drop at p) ys (block_at p at) (seen at (drop at p)) f

  waits : (at i : ℕ) (b : Book) → Sound n b → audit_from_lem n fuel whole at i b ≡ onward_by stop.More (stands n at i b stop.More)
  waits at i b s = ap (audit_from_lem n fuel whole at i) (sym (book-back n small b s))

  extends : (k at i : ℕ) (b : Book) → Sound n b → at ≤ length p → audit_from_lem n fuel whole at i b ≡ onward_by (audit_from_lem n k p at i b).stop (audit_from_lem n k p at i b)
  unfolding audit_from_lem
  extends zero at i b s h = waits at i b s
  extends (suc k) at i b s h = go (block_at p at) refl (ahead at (drop at p)) (λ next j d t g. extends k next j d t g)
    where
      found : (w : Block) → block_at p at ≡ w → wants w ≡ false → audit_from_lem n fuel whole at i b ≡ judged_by n (audit_from_lem n fuel whole) at i b w
      found w is f = unfolds fuel at i b (omega arith) ∙ ap (judged_by n (audit_from_lem n fuel whole) at i b) (block-longer at h (ap wants is ∙ f) ∙ is)

      go : (w : Block) → block_at p at ≡ w → Ahead at (drop at p) w
          → ((next j : ℕ) (d : Book) → Sound n d → next ≤ length p → audit_from_lem n fuel whole next j d ≡ onward_by (audit_from_lem n k p next j d).stop (audit_from_lem n k p next j d))
          → audit_from_lem n fuel whole at i b ≡ onward_by (judged_by n (audit_from_lem n k p) at i b w).stop (judged_by n (audit_from_lem n k p) at i b w)
      go (block.Call e next) is a ih = found (block.Call e next) is refl ∙ test (eqb (answer_bits_lem (replayed n b e.request)) e.answer)
        where
          test : (t : Bool) → cond t (audit_from_lem n fuel whole next (suc i) (replayed n b e.request).book) (stands n at i (replayed n b e.request).book stop.Differs)
              ≡ onward_by (cond t (audit_from_lem n k p next (suc i) (replayed n b e.request).book) (stands n at i (replayed n b e.request).book stop.Differs)).stop
              (cond t (audit_from_lem n k p next (suc i) (replayed n b e.request).book) (stands n at i (replayed n b e.request).book stop.Differs))
          test true = ih next (suc i) _ (step-sound n b (call_of e.request) s) (let there = a.1 in let z = length-drop at p in omega arith)
          test false = refl
      go block.End is a ih = waits at i b s
      go block.Truncated is a ih = waits at i b s
      go block.UnknownCall is a ih = found block.UnknownCall is refl
      go block.WrongLength is a ih = found block.WrongLength is refl

  module _ (a : Auditing) (h : SoundState n a.state) where
    abbrev d : Audited
    d = audited_on n a p

    all : audited_on n a whole ≡ onward_by d.stop d
    all = extends (length p) 0 a.index (book_of n a.state) h.book (omega arith)

    pub part-kept : Kept n p 0 a.index d
    part-kept = kept n p (length p) 0 a.index (book_of n a.state) h.book (omega arith)

    pub part_sound : SoundState n d.auditing.state
    part_sound = let k = part-kept in subst (SoundState n) (sym k.state) (sound-held n small k.book k.sound)

    -- A part that wants more: the audit of the whole is that of what is left, from where the part has led.
    pub parts : d.stop ≡ stop.More → audited_on n a whole ≡ moved d.used (audited_on n d.auditing (drop d.used p ++ ys))
    parts e =
        let k = part-kept in
        let u = d.used in
        let cut : drop u whole ≡ drop u p ++ ys = drop-append-le u p ys k.within in
        let zero_more : u ≡ u + 0 = omega arith in
        let size = length-drop u whole in
        let b = book_of n d.auditing.state in
        all ∙ ap (λ (s : Stop). onward_by s d) e
        ∙ ap (λ (m : ℕ). audit_from_lem n fuel whole m d.auditing.index b) zero_more
        ∙ audit-moved n u whole fuel 0 d.auditing.index b
        ∙ ap (moved u) (enough n (drop u whole) fuel (length (drop u whole)) 0 d.auditing.index b (omega arith) (omega arith))
        ∙ ap (λ (m : List ℕ). moved u (audit_from_lem n (length m) m 0 d.auditing.index b)) cut

    -- A part that does not: what it found is what the whole reports.
    pub part-ends : (d.stop ≡ stop.More → ⊥) → audited_on n a whole ≡ d
    part-ends ends = all ∙ go d.stop refl
      where
        go : (s : Stop) → d.stop ≡ s → onward_by s d ≡ d
        go stop.More e = absurd (ends e)
        go stop.Differs e = refl
        go stop.UnknownCall e = refl
        go stop.WrongLength e = refl
