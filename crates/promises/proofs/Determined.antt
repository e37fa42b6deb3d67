-- Each contract names its one result. Assumes nothing.
use Rattle.std.specs.Prelude.{Ok, Err}
use Prim.Native.Nat.{ℕ}
use mathlib.Core.List.{List}
use mathlib.Core.Path.{◌≡◌, refl, sym, ap, ◌∙◌}
use native.Mathlib.Omega.{arith}
use Rattle.image.specs.Reading.{Handed}
use Rattle.image.specs.Writing as writing
use Rattle.image.specs.Writing.{number_of, ImageAnswer}
use Rattle.holder_images.specs.Reading as holding
use Rattle.image_calls.specs.Lists.{Returned}
use Rattle.journal_calls.specs.Calls.{Left}
use Rattle.promises.specs.Determined.{Determined, EachDetermined}

-- what is one value, whatever it is, is determined
module _ {X : Type 0} (allows : X → Type 0) where
  one : (v : X) → ((x : X) → allows x → x ≡ v) → Determined allows
  one v named x y h k = named x h ∙ sym (named y k)

-- the number of an answer tells which it is
number-tells : (a b : ImageAnswer) → number_of a ≡ number_of b → a ≡ b
number-tells (Ok _) (Ok _) e = refl
number-tells (Ok _) (Err _) e = absurd (let k : ⊥ = omega arith in k)
number-tells (Err _) (Ok _) e = absurd (let k : ⊥ = omega arith in k)
number-tells (Err _) (Err _) e = refl

pub each-determined : EachDetermined
each-determined = record {
  equation = λ v. one _ v (λ x h. h);
  door-does = λ core m. one _ _ (λ x h. (λ i. (h.0 i, h.1 i)));
  listing = λ n s starts lasts. one _ _ (λ x h. (λ i. (h.answer i, h.starts-now i, h.lasts_now i)));
  free-listed = λ n s starts lasts. one _ _ (λ x h. (λ i. (h.answer i, h.starts-now i, h.lasts_now i)));
  held-listed = λ n s w holders starts lasts. one _ _ (λ x h. (λ i. (h.answer i, h.holders-now i, h.starts-now i, h.lasts_now i)));
  list-served = λ n s l old. one _ _ (λ x h. (λ i. (h.outcome i, h.answers i)));
  sound-list-served = λ n s l old. one _ _ (λ x h. (λ i. (h.state i, h.answers i)));
  image-read = λ w x y h k.
      let a = number-tells x.answer y.answer (ap (λ (z : Handed). z.number) (h ∙ sym k)) in
      let s = ap (λ (z : Handed). z.state) (h ∙ sym k) in
      (λ i. record { answer = a i; state = s i });
  holders-read = λ w x y h k.
      let e = h ∙ sym k in
      let a = number-tells x.answer y.answer (ap (λ (z : holding.Handed). z.number) e) in
      (λ i. record { answer = a i; state = (e i).state; lowest = (e i).lowest });
  image-written = λ w x y h k.
      let a = number-tells x.0 y.0 (ap (λ (z : writing.Written). z.number) (h ∙ sym k)) in
      let l = ap (λ (z : writing.Written). z.bytes) (h ∙ sym k) in
      (λ i. (a i, l i));
  call-returned = λ w. one _ (w.number, w.bytes) (λ x h. (λ i. ((h i).number, (h i).bytes)));
  batch-over = λ f l calls old. one _ _ (λ x h. (λ i. ((h.image-now i).number, (h.image-now i).bytes, h.answers-now i)));
  own-judged = λ n rule s. one _ _ (λ x h. (λ i. (h.number i, h.state i)));
  own-listed = λ n s l old. one _ _ (λ x h. (λ i. (h.number i, h.state i, h.answers i)));
  own-imported = λ f l s. one _ _ (λ x h. (λ i. (h.number i, h.state i)));
  own-exported = λ f s l. one _ _ (λ x h. (λ i. (h.number i, h.bytes i)));
  text-put = λ t l at. one _ _ (λ x h. (λ i. (h.bytes i, h.next i)));
  text-put-within = λ most t l at. one _ _ (λ x h. (λ i. (h.puts.bytes i, h.puts.next i)));
  journal-left = λ w. one _ (w.number, w.numbers) (λ x h. (λ i. ((h i).number, (h i).numbers)));
  journal-reported = λ v old. one _ _ (λ x h. (λ i. (h.number i, h.figure i)));
  figure-shown = λ k old. one _ _ (λ x h. (λ i. (h.number i, h.figure i)));
  own-shown = λ n s starts lasts. one _ _ (λ x h. (λ i. (h.number i, h.starts-now i, h.lasts_now i)));
  image-shown = λ f l starts lasts. one _ _ (λ x h. (λ i. (h.number i, h.starts-now i, h.lasts_now i)));
  part-audited = λ w.
      one _ (record { index = w.auditing.index; used = w.used; stop = w.stop }, w.auditing.state)
      (λ x h. (λ i. (record { index = (h i).auditing.index; used = (h i).used; stop = (h i).stop }, (h i).auditing.state)));
  line-answered = λ n s l out at. one _ _ (λ x h. (λ i. (h.state i, h.next i, h.bytes i)));
  holder-answered = λ n s l out at. one _ _ (λ x h. (λ i. (h.state i, h.text.puts.next i, h.text.puts.bytes i)));
  any-answered = λ n d l out at. one _ _ (λ x h. (λ i. (h.left i, h.text.puts.next i, h.text.puts.bytes i)));
  mapped = λ w. one _ (w.number, w.bytes, w.words) (λ x h. (λ i. ((h i).number, (h i).bytes, (h i).words)));
  pages-asked = λ w. one _ (w.enough, w.bytes) (λ x h. (λ i. ((h i).enough, (h i).bytes)));
  words-stored = λ w. one _ (w.arena, w.bytes) (λ x h. (λ i. ((h i).arena, (h i).bytes)));
  pages-met = λ w. one _ (w.fine, w.left, w.marks) (λ x h. (λ i. ((h i).fine, (h i).left, (h i).marks)));
}
