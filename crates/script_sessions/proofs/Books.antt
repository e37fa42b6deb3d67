-- What was read determines what was handed to the writer. Assumes nothing.
use mathlib.Core.Path.{◌≡◌, refl, sym, ap, ◌∙◌, subst}
use mathlib.Core.Bool.{Bool, true, false, not, cond}
use mathlib.Core.List.{List, [], ◌∷◌, ◌++◌, append_assoc, append-nil}
use Prim.Native.Nat.{ℕ, ◌+◌, ◌-◌, ◌<◌, ◌≤◌}
use native.Mathlib.Omega.{arith}
use borrow.Author.Tests.{lt-ltb, le-ltb}
use lib.Dec.{eqb, ltb}
use lib.ListN.{length, take, drop, length-take, length-drop, take-append-drop}
use lib.Seq.{take-nil, drop-nil, drop-drop, length-take-le}
use Rattle.linked_lists.specs.Links.{none}
use Rattle.script_forms.specs.Forms.{Desk, open_desk, says, leaves, SoundDesk}
use Rattle.script_forms.proofs.Soundness.{open-sound}
use Rattle.script_chunks.specs.Input.{Told, silent, ends, joined, heard, closed, told_of_all, text_of_all, between, Shows}
use Rattle.script_chunks.specs.declared.Reading.{Reading}
use Rattle.script_chunks.proofs.Hearing.{told, heard-append, heard-text}
use Rattle.script_chunks.proofs.Soundness.{heard-sound}
use Rattle.script_sessions.specs.Sessions.{fresh, begin, goes_on_lem, Answered, Took, Closed, Turned, piece, Run, starts, turns, Tells, told_of, output_of, told_by_lem, left, Told-so-far}
use Rattle.script_sessions.specs.Sessions as made
use Rattle.script_sessions.specs.declared.Session.{Session}
use Rattle.script_sessions.proofs.Turns.{true-false}

-- ---- texts only grow

-- what was printed before stands before all that is printed later
heard-after : (n : ℕ) (s : Desk) (p u t l : List ℕ) → (heard n (told s p (u ++ t)) l).text ≡ u ++ (heard n (told s p t) l).text
unfolding heard ends joined
heard-after n s p u t [] = refl
heard-after n s p u t (b ∷ l) =
    go (eqb b 10)
    (ap (λ (x : List ℕ). (heard n (told (leaves n s p) [] x) l).text) (append_assoc u t (says n s p))
    ∙ heard-after n (leaves n s p) [] u (t ++ says n s p) l)
    (heard-after n s (p ++ (b ∷ [])) u t l)
  where
    go : (c : Bool) → (heard n (ends n (told s p (u ++ t))) l).text ≡ u ++ (heard n (ends n (told s p t)) l).text
        → (heard n (joined (told s p (u ++ t)) (b ∷ [])) l).text ≡ u ++ (heard n (joined (told s p t) (b ∷ [])) l).text
        → (heard n (cond c (ends n (told s p (u ++ t))) (joined (told s p (u ++ t)) (b ∷ []))) l).text ≡ u ++ (heard n (cond c (ends n (told s p t)) (joined (told s p t) (b ∷ []))) l).text
    go true e f = e
    go false e f = f

-- the same input, nothing printed before
abbrev quiet : Told → Told
quiet t = told t.state t.part []

heard-quiet : (n : ℕ) (t : Told) (l : List ℕ) → (heard n t l).text ≡ t.text ++ (heard n (quiet t) l).text
heard-quiet n t l = ap (λ (x : List ℕ). (heard n (told t.state t.part x) l).text) (sym (append-nil t.text)) ∙ heard-after n t.state t.part t.text [] l

closed-quiet : (n : ℕ) (t : Told) (p : List ℕ) → (closed n t p).text ≡ t.text ++ (closed n (quiet t) p).text
unfolding closed ends
closed-quiet n t [] = sym (append-nil t.text)
closed-quiet n t (b ∷ p) = refl

closed-state : (n : ℕ) (t : Told) (p : List ℕ) → (closed n (quiet t) p).state ≡ (closed n t p).state
unfolding closed ends
closed-state n t [] = refl
closed-state n t (b ∷ p) = refl

-- then no line is left that has not ended
closed-part : (n : ℕ) (t : Told) (p : List ℕ) → t.part ≡ p → (closed n t p).part ≡ []
unfolding closed ends
closed-part n t [] e = e
closed-part n t (b ∷ p) e = refl

-- ---- a chunk and its rest

drop_past : (k i : ℕ) (l : List ℕ) → k ≤ i → drop i (take k l) ≡ []
drop_past k i l h = none (drop i (take k l)) (let e = length-drop i (take k l) in let f = length-take k l in omega arith)
  where
    none : (m : List ℕ) → length m ≤ 0 → m ≡ []
    none [] w = refl
    none (x ∷ m) w = absurd (let v : ⊥ = omega arith in v)

drop-part : (i j : ℕ) (l : List ℕ) → i ≤ j → drop i l ≡ between i j l ++ drop j l
drop-part i j l h =
    let e : i + (j - i) ≡ j = omega arith in
    sym (take-append-drop (j - i) (drop i l)) ∙ ap (λ (m : List ℕ). between i j l ++ m) (drop-drop (j - i) i l ∙ ap (λ (k : ℕ). drop k l) e)

-- ---- a turn

going : (s : Session) → goes_on_lem s ≡ true → s.ended ≡ false
going s e = go s.ended e
  where
    go : (b : Bool) → cond b false (not s.failed) ≡ true → b ≡ false
    go true h = true-false (sym h)
    go false h = refl

module _ (n : ℕ) (l : List ℕ) (m : Desk) (s : Session) (carry : List ℕ) (h : Tells (told_of n l) m s.reading carry) where
  abbrev t : Told
  t = told_of n l

  quiet-shows : (from : ℕ) (out : List ℕ) → Shows (quiet t) m (fresh s.reading from) carry out
  quiet-shows from out = record { state = h.state; part = h.part; room = omega arith; text = refl }

  module _ (chunk out : List ℕ) (m' : Desk) (s' : Session) (carry' out' : List ℕ) where
    -- what the turn heard
    abbrev part : List ℕ
    part = between s.reading.from s'.reading.from (take s.count chunk)

    answered-tells : (a : Answered n m s carry chunk out m' s' carry' out') → (Tells (told_of n (l ++ part)) m' s'.reading carry') × (take s'.reading.at out' ≡ (heard n (quiet t) part).text)
    answered-tells a =
        let w = a.hears.steps.shows (quiet t) (quiet-shows s.reading.from out) in
        let e = heard-text n t.state t.part [] t.text part in
        let f = heard-append n (silent (open_desk n)) l part in
        (record { state = w.state ∙ e.0 ∙ sym (ap (λ (v : Told). v.state) f); part = rw (f, ← e.1) w.part }, w.text)

module _ (n : ℕ) (read handed : List ℕ) (m : Desk) (s : Session) (carry chunk out : List ℕ) (b : Told-so-far n read handed m s carry chunk) (on : goes_on_lem s ≡ true) where
  abbrev l : List ℕ
  l = b.heard-bytes

  handed-so-far : handed ≡ (told_of n l).text
  handed-so-far = b.hands ∙ ap (λ (z : Bool). cond z (output_of n l) (told_of n l).text) (going s on)

  tells-so-far : Tells (told_of n l) m s.reading carry
  tells-so-far = subst (λ (z : Bool). Tells (told_by_lem n z l) m s.reading carry) (going s on) b.tells

  module _ (m' : Desk) (s' : Session) (carry' chunk' out' : List ℕ) where
    -- what was told after the turn to s'
    abbrev Next : Type 0
    Next = Told-so-far n (read ++ piece s s' chunk') (handed ++ take s'.reading.at out') m' s' carry' chunk'

    after-answer : s.reading.from < s.count → chunk' ≡ chunk → Answered n m s carry chunk out m' s' carry' out' → Next
    after-answer h f a =
        let p = between s.reading.from s'.reading.from (take s.count chunk) in
        let w = answered-tells n l m s carry tells-so-far chunk out m' s' carry' out' a in
        let on' = a.hears.onward in
        let r : read ++ piece s s' chunk' ≡ read = rw (lt-ltb s.reading.from s.count h) (append-nil read) in
        let g : left s' chunk' ≡ drop s'.reading.from (take s.count chunk) = rw (a.count, f) in
        record {
          heard-bytes = l ++ p;
          reads = r ∙ b.reads ∙ ap (λ (x : List ℕ). l ++ x) (drop-part s.reading.from s'.reading.from (take s.count chunk) (omega arith))
              ∙ sym (append_assoc l p (drop s'.reading.from (take s.count chunk))) ∙ ap (λ (x : List ℕ). (l ++ p) ++ x) (sym g);
          tells = subst (λ (z : Bool). Tells (told_by_lem n z (l ++ p)) m' s'.reading carry') (sym a.ended) w.0;
          rest = λ e. true-false (sym e ∙ a.ended);
          hands = ap (λ (x : List ℕ). x ++ take s'.reading.at out') handed-so-far ∙ ap (λ (x : List ℕ). (told_of n l).text ++ x) w.1 ∙ sym (heard-quiet n (told_of n l) p)
              ∙ ap (λ (v : Told). v.text) (sym (heard-append n (silent (open_desk n)) l p)) ∙ rw a.ended;
        }

    none_left : s.count ≤ s.reading.from → read ≡ l
    none_left h = b.reads ∙ ap (λ (x : List ℕ). l ++ x) (drop_past s.count s.reading.from chunk h) ∙ append-nil l

    after_read : s.count ≤ s.reading.from → m' ≡ m → carry' ≡ carry → Took s s' chunk' → Next
    after_read h i f a =
        let e : piece s s' chunk' ≡ take s'.count chunk' = rw (le-ltb s.reading.from s.count h) in
        let g : left s' chunk' ≡ take s'.count chunk' = rw a.reading in
        record {
          heard-bytes = l;
          reads = ap (λ (x : List ℕ). x ++ piece s s' chunk') (none_left h) ∙ ap (λ (x : List ℕ). l ++ x) (e ∙ sym g);
          tells = rw (a.reading, a.ended, f) (record { state = i ∙ tells-so-far.state; part = tells-so-far.part });
          rest = λ x. true-false (sym x ∙ a.ended);
          hands = rw (a.reading, a.ended) (append-nil handed ∙ handed-so-far);
        }

    after-end : s.count ≤ s.reading.from → carry' ≡ carry → Closed n m s carry out m' s' out' → Next
    after-end h f a =
        let e : piece s s' chunk' ≡ [] = rw (le-ltb s.reading.from s.count h, a.count) in
        let g : left s' chunk' ≡ [] = rw (a.from, a.count) in
        let t = told_of n l in
        let z = quiet-shows n l m s carry tells-so-far 0 out in
        let none-held : (told_of_all n t).part ≡ [] = closed-part n t t.part refl in
        record {
          heard-bytes = l;
          reads = ap (λ (x : List ℕ). x ++ piece s s' chunk') (none_left h) ∙ ap (λ (x : List ℕ). l ++ x) (e ∙ sym g);
          tells = rw (f, a.ended) (record {
            state = a.closes.state (quiet t) z ∙ closed-state n t t.part;
            part = record { within = let k = a.held in omega arith; bytes = rw (a.held, none-held) (sym (take-nil (length carry))) };
          });
          rest = λ x. g;
          hands = ap (λ (x : List ℕ). x ++ take s'.reading.at out') handed-so-far
              ∙ ap (λ (x : List ℕ). t.text ++ x) (a.closes.text (quiet t) z) ∙ sym (closed-quiet n t t.part) ∙ rw a.ended;
        }

    after_turn : Turned n m s carry chunk out m' s' carry' chunk' out' → Next
    after_turn (made.answered h f a) = after-answer h f a
    after_turn (made.took h i f a) = after_read h i f a
    after_turn (made.closed h f a) = after-end h f a

-- ---- all turns

begins : (n : ℕ) (carry chunk : List ℕ) → Told-so-far n [] [] (open_desk n) begin carry chunk
unfolding heard
begins n carry chunk =
    record {
      heard-bytes = [];
      reads = refl;
      tells = record { state = refl; part = record { within = omega arith; bytes = sym (take-nil (length carry)) } };
      rest = λ e. true-false (sym e);
      hands = refl;
    }

-- What was read so far determines, byte by byte, what has been handed to the writer so far.
pub so_far : (n k : ℕ) (read handed : List ℕ) (m : Desk) (s : Session) (carry chunk out : List ℕ) → Run n k read handed m s carry chunk out → Told-so-far n read handed m s carry chunk
so_far n _ _ _ _ _ _ _ _ (starts carry chunk out) = begins n carry chunk
so_far n _ _ _ _ _ _ _ _ (turns k read handed m s carry chunk out m' s' carry' chunk' out' r e w) =
    after_turn n read handed m s carry chunk out (so_far n k read handed m s carry chunk out r) e m' s' carry' chunk' out' w

-- As long as turns follow, the state is sound, in either forms.
pub run_sound : (n : ℕ) → n ≤ none → (k : ℕ) (read handed : List ℕ) (m : Desk) (s : Session) (carry chunk out : List ℕ) → Run n k read handed m s carry chunk out → goes_on_lem s ≡ true → SoundDesk n m
run_sound n small k read handed m s carry chunk out r on =
    let b = so_far n k read handed m s carry chunk out r in
    let w = tells-so-far n read handed m s carry chunk out b on in
    subst (SoundDesk n) (sym w.state) (heard-sound n small (silent (open_desk n)) b.heard-bytes (open-sound n small))

-- Once the input has ended, it is the whole output.
pub all-answered : (n k : ℕ) (read handed : List ℕ) (m : Desk) (s : Session) (carry chunk out : List ℕ) → Run n k read handed m s carry chunk out → s.ended ≡ true → handed ≡ output_of n read
all-answered n k read handed m s carry chunk out r e =
    let b = so_far n k read handed m s carry chunk out r in
    let w : read ≡ b.heard-bytes = b.reads ∙ ap (λ (x : List ℕ). b.heard-bytes ++ x) (b.rest e) ∙ append-nil b.heard-bytes in
    b.hands ∙ ap (λ (z : Bool). cond z (output_of n b.heard-bytes) (told_of n b.heard-bytes).text) e ∙ ap (output_of n) (sym w)

-- Before, it is a beginning of the output, whatever the rest of the input is.
pub always-beginning : (n k : ℕ) (read handed : List ℕ) (m : Desk) (s : Session) (carry chunk out : List ℕ) → Run n k read handed m s carry chunk out → s.ended ≡ false
    → (rest : List ℕ) → (w : List ℕ) × (output_of n (read ++ rest) ≡ handed ++ w)
always-beginning n k read handed m s carry chunk out r e rest =
    let b = so_far n k read handed m s carry chunk out r in
    let l = b.heard-bytes in
    let p = left s chunk ++ rest in
    let t = told_of n l in
    let u = heard n t p in
    let bytes : read ++ rest ≡ l ++ p = ap (λ (x : List ℕ). x ++ rest) b.reads ∙ append_assoc l (left s chunk) rest in
    let all : told_of n (read ++ rest) ≡ u = ap (told_of n) bytes ∙ heard-append n (silent (open_desk n)) l p in (
      (heard n (quiet t) p).text ++ text_of_all n (quiet u),
      ap (text_of_all n) all ∙ closed-quiet n u u.part ∙ ap (λ (x : List ℕ). x ++ text_of_all n (quiet u)) (heard-quiet n t p) ∙ append_assoc t.text (heard n (quiet t) p).text (text_of_all n (quiet u))
          ∙ ap (λ (x : List ℕ). x ++ ((heard n (quiet t) p).text ++ text_of_all n (quiet u))) (sym (b.hands ∙ ap (λ (z : Bool). cond z (output_of n l) t.text) e)),
    )
