-- A line that is held, answered. Assumes nothing.
use mathlib.Core.Path.{◌≡◌, refl, sym, ap, ◌∙◌}
use mathlib.Core.Bool.{true}
use mathlib.Core.List.{List, [], ◌∷◌, ◌++◌, append_assoc}
use Prim.Native.Nat.{ℕ, zero, suc, ◌+◌, ◌-◌, ◌<◌, ◌≤◌}
use native.Mathlib.Omega.{arith}
use borrow.Author.Tests.{leb-true}
use lib.ListN.{length, take, drop, length-append, length-take, length-drop}
use lib.Seq.{length-take-le, take_at, take-nil}
use Rattle.script_forms.specs.Forms.{Desk, says, leaves, Replies}
use Rattle.script_forms.proofs.Capped.{says-take, leaves-take}
use Rattle.script_texts.proofs.Buffers.{all-bytes, all-next}
use Rattle.script_answers.specs.Script.{room, roomy}
use Rattle.script_chunks.specs.Input.{Told, ends, joined, heard, closed, told_of_all, kept, between, Holds, Joins, Shows, Ready, Rests, Steps, Hears, Closes}
use Rattle.script_chunks.specs.declared.Reading.{Reading}
use Rattle.script_chunks.proofs.Carrying.{carried}

-- where there is room, the text follows what stood before `at`
module _ (n : ℕ) (s : Desk) (l out : List ℕ) (at : ℕ) (s' : Desk) (r : ℕ) (out' : List ℕ) (a : Replies n s l out at s' r out') (yes : roomy n out at ≡ true) where
  space : at + length (says n s l) ≤ length out
  space = let w = a.text.short in let h = leb-true (at + room n) (length out) yes in omega arith

  next-is : r ≡ at + length (says n s l)
  next-is = all-next (says n s l) out at out' r space a.text.puts

  bytes-are : out' ≡ (take at out ++ says n s l) ++ drop (at + length (says n s l)) out
  bytes-are = all-bytes (says n s l) out at out' r space a.text.puts ∙ sym (append_assoc (take at out) (says n s l) (drop (at + length (says n s l)) out))

  pub next-within : r ≤ length out
  next-within = let h = space in let e = next-is in omega arith

  pub same_size : length out' ≡ length out
  same_size =
      let h = space in
      ap length bytes-are ∙ length-append (take at out ++ says n s l) (drop (at + length (says n s l)) out)
      ∙ simp (length-append, length-take, length-drop) (omega arith)

  pub new-text : take r out' ≡ take at out ++ says n s l
  new-text =
      let h = space in
      let k : length (take at out ++ says n s l) ≡ r = length-append (take at out) (says n s l) ∙ (let e = length-take-le at out (let z : at ≤ length out = omega arith in z) in let i = next-is in omega arith) in
      ap (take r) bytes-are ∙ take_at (take at out ++ says n s l) (drop (at + length (says n s l)) out) r k

pub roomy-within : (n : ℕ) (out : List ℕ) (at : ℕ) → roomy n out at ≡ true → at ≤ length out
roomy-within n out at e = let h = leb-true (at + room n) (length out) e in omega arith

-- what is told of a line that is held, once it is answered
module _ (n : ℕ) (s : Desk) (p carry out : List ℕ) (held at : ℕ) (s' : Desk) (next : ℕ) (out' : List ℕ) (enough : kept ≤ length carry) (yes : roomy n out at ≡ true)
    (w : Replies n s (take held carry) out at s' next out') (h : Holds p carry held) where
  pub line-state : (m : Desk) → s ≡ m → s' ≡ leaves n m p
  line-state m e = w.left ∙ ap (leaves n s) h.bytes ∙ leaves-take n s (length carry) p (omega arith) ∙ ap (λ (d : Desk). leaves n d p) e

  pub line-text : (m : Desk) (t : List ℕ) → s ≡ m → take at out ≡ t → take next out' ≡ t ++ says n m p
  line-text m t e f =
      new-text n s (take held carry) out at s' next out' w yes ∙ ap (λ (x : List ℕ). take at out ++ x) (ap (says n s) h.bytes ∙ says-take n s (length carry) p (omega arith) ∙ ap (λ (d : Desk). says n d p) e)
      ∙ ap (λ (x : List ℕ). x ++ says n m p) f

-- ---- a line that a newline ends

module _ (n : ℕ) (s : Desk) (r : Reading) (l carry out carry' : List ℕ) (held to : ℕ) (s' : Desk) (next : ℕ) (out' : List ℕ) (g : Ready n r carry out)
    (j : Joins l carry r.held carry' held) (w : Replies n s (take held carry') out r.at s' next out') where
  abbrev after : Reading
  after = record { held = 0; from = to; at = next }

  enough : kept ≤ length carry'
  enough = rw j.size g.carries

  ended-shows : (t : Told) → Shows t s r carry out → Shows (ends n (joined t l)) s' after carry' out'
  unfolding ends joined
  ended-shows t h =
      let now = carried t.part l carry carry' r.held held h.part j in
      record {
        state = line-state n s (t.part ++ l) carry' out held r.at s' next out' enough g.room w now t.state h.state;
        part = record { within = omega arith; bytes = sym (take-nil (length carry')) };
        room = rw (same_size n s _ out r.at s' next out' w g.room) (next-within n s _ out r.at s' next out' w g.room);
        text = line-text n s (t.part ++ l) carry' out held r.at s' next out' enough g.room w now t.state t.text h.state h.text;
      }

  pub ended-steps : Steps (λ (t : Told). ends n (joined t l)) to s r carry out s' after carry' out'
  ended-steps = record { place = refl; size = j.size; held = omega arith; room = next-within n s _ out r.at s' next out' w g.room; shows = ended-shows }

-- ---- bytes that end no line

pub rest-steps : (l carry out carry' : List ℕ) (to : ℕ) (s : Desk) (r r' : Reading) → r.at ≤ length out → Rests l to r carry r' carry' → Steps (λ (t : Told). joined t l) to s r carry out s r' carry' out
unfolding joined
rest-steps l carry out carry' to s r r' h w =
    record {
      place = w.place;
      size = w.joins.size;
      held = w.joins.within;
      room = rw w.at h;
      shows = λ t z.
          record {
            state = z.state;
            part = carried t.part l carry carry' r.held r'.held z.part w.joins;
            room = rw w.at h;
            text = rw w.at z.text;
          };
    }

-- ---- a part of the chunk

pub hears : (n : ℕ) (u : Told → Told) (to : ℕ) (s : Desk) (r : Reading) (carry chunk out : List ℕ) (s' : Desk) (r' : Reading) (carry' out' : List ℕ) → r.from < to → to ≤ length chunk
    → ((t : Told) → heard n t (between r.from to chunk) ≡ u t) → Steps u to s r carry out s' r' carry' out' → Hears n s r carry chunk out s' r' carry' out'
hears n u to s r carry chunk out s' r' carry' out' low high e w =
    record {
      onward = rw w.place low;
      within = rw w.place high;
      steps = record {
        place = refl;
        size = w.size;
        held = w.held;
        room = w.room;
        shows = λ t z. (let f : heard n t (between r.from r'.from chunk) ≡ u t = ap (λ (k : ℕ). heard n t (between r.from k chunk)) w.place ∙ e t in rw f (w.shows t z));
      };
    }

-- ---- the end of the input

none-held : (m : ℕ) (p : List ℕ) → 0 < m → take m p ≡ [] → p ≡ []
none-held m [] h e = refl
none-held (suc m) (x ∷ p) h e = absurd (let z : ◌≡◌ {A = ℕ} 0 1 = cc in let v : ⊥ = omega arith in v)
none-held zero (x ∷ p) h e = absurd (let v : ⊥ = omega arith in v)

-- nothing is held
module _ (n : ℕ) (s : Desk) (r : Reading) (carry out : List ℕ) (g : Ready n r carry out) (e : r.held ≡ 0) where
  nothing : (t : Told) → Shows t s r carry out → t.part ≡ []
  nothing t z = let c = g.carries in none-held (length carry) t.part (omega arith) (sym (rw e at z.part.bytes))

  pub closes-none : Closes n s r carry out s r.at out
  unfolding closed
  closes-none = record { room = roomy-within n out r.at g.room; state = λ t z. z.state ∙ rw (nothing t z); text = λ t z. z.text ∙ rw (nothing t z) }

closed_some : (n : ℕ) (t : Told) (p : List ℕ) → 0 < length p → closed n t p ≡ ends n t
unfolding closed
closed_some n t [] h = absurd (let v : ⊥ = omega arith in v)
closed_some n t (x ∷ p) h = refl

-- a line is held
module _ (n : ℕ) (s : Desk) (r : Reading) (carry out : List ℕ) (s' : Desk) (next : ℕ) (out' : List ℕ) (g : Ready n r carry out) (e : r.held ≡ 0 → ⊥)
    (w : Replies n s (take r.held carry) out r.at s' next out') where
  something : (t : Told) → Shows t s r carry out → ends n t ≡ told_of_all n t
  something t z =
      let x = length-take-le r.held carry g.held in
      let y = ap length z.part.bytes in
      let v = length-take (length carry) t.part in
      sym (closed_some n t t.part (omega arith))

  pub closes-line : Closes n s r carry out s' next out'
  unfolding ends
  closes-line =
      record {
        room = next-within n s _ out r.at s' next out' w g.room;
        state = λ t z.
            line-state n s t.part carry out r.held r.at s' next out' g.carries g.room w z.part t.state z.state
            ∙ ap (λ (v : Told). v.state) (something t z);
        text = λ t z.
            line-text n s t.part carry out r.held r.at s' next out' g.carries g.room w z.part t.state t.text z.state z.text
            ∙ ap (λ (v : Told). v.text) (something t z);
      }
