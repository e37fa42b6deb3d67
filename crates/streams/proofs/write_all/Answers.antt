-- What a write takes goes on where the last one ended.
use Rattle.std.proofs.Common.{◌≡◌, ℕ, ◌+◌, ◌-◌, List, ◌++◌, length, take, drop, sym, ap, ◌∙◌, subst, arith}
use lib.ListN.{length-drop}
use Rattle.std.proofs.Math.Seq.{take-add}
use Rattle.std.proofs.lemmas.List.{take_rest}
use Rattle.std.specs.Io.KnownBytes.{Appends}
use Rattle.std.proofs.KnownBytes.{Appends-trans}
use Rattle.streams.proofs.write_all.Goals.{in-Bytes, in-Again}
use Rattle.streams.proofs.write_all.Goals as goal

goes-on : (done n : ℕ) (buf : List ℕ) → take done buf ++ take n (take (length buf - done) (drop done buf)) ≡ take (done + n) buf
goes-on done n buf = ap (λ (l : List ℕ). take done buf ++ take n l) (take_rest buf done) ∙ sym (take-add done n buf)

left : (done : ℕ) (buf : List ℕ) → length (take (length buf - done) (drop done buf)) ≡ length buf - done
left done buf = ap length (take_rest buf done) ∙ length-drop done buf

pub loop-done-preserved : goal.loop-done-preserved
loop-done-preserved g c =
    let buf = c.args.buf.now in
    let done = c.loop-done.done in
    let onto : (n k : ℕ) → done + n ≡ k → Appends (g.W.Write.contents c.loop-done.output) (g.W.Write.contents c.write_some.new.output) (take n (take (length buf - done) (drop done buf)))
    → Appends (g.W.Write.contents c.args.output.now) (g.W.Write.contents c.write_some.new.output) (take k buf) = λ n k e more.
    subst (λ (m : ℕ). Appends (g.W.Write.contents c.args.output.now) (g.W.Write.contents c.write_some.new.output) (take m buf)) e
    (subst (Appends _ _) (goes-on done n buf) (Appends-trans _ _ _ _ _ c.loop-done.invariant.taken more)) in
    elim c.match-write_some.branch [
      | in-Bytes w ↦ record {
        within = omega (arith, w.done-is, w.in-Bytes.ensures.puts, left done buf);
        taken = onto w.in-Bytes.bytes _ (sym w.done-is) w.in-Bytes.ensures.taken;
      }
      | in-Again w ↦ record {
        within = omega (arith, w.done-is, c.loop-done.invariant.within);
        taken = onto 0 _ (omega (arith, w.done-is)) w.in-Again.ensures.taken;
      }
    ]
