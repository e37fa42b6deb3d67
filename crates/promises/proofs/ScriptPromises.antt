-- The promises of the script program, each where it is proved. Assumes nothing.
use Prim.Native.Nat.{ℕ, ◌≤◌}
use Rattle.linked_lists.specs.Links.{none}
use Rattle.script_sessions.proofs.Books.{all-answered, always-beginning}
use Rattle.promises.specs.ScriptPromises.{ScriptPromises}
use Rattle.promises.proofs.Lines.{heard-lines, heard-holders, input-demand}
use Rattle.promises.proofs.HolderLines.{at-desk}

pub script-promises : (n : ℕ) → n ≤ none → ScriptPromises n
script-promises n small = record {
  all-answered = all-answered n;
  always-beginning = always-beginning n;
  heard-lines = heard-lines n;
  heard-holders = heard-holders n;
  books-close = input-demand n small;
  holders-close = at-desk n small;
}
