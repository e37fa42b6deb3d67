use mir.Syntax.{w64}
use mir.Facts.{to_z-of_z}
use Rattle.mapper_stores.proofs.Storing.{next_word, made_table}
use Rattle.mapper_stores.proofs.make_table.Goals as goal

pub returns : goal.returns
returns c =
    let s = c.args in
    let taken = c.take_page-taken in
    let same = to_z-of_z {w = w64} (record { sfits = taken.type_inv }) in (
      next_word s.arena.now s.image.now _ taken.result _ _ _ taken.ensures same c.page_address.ensures c.table_word-d.ensures,
      made_table s.arena.now s.image.now _ taken.result _ _ _ taken.ensures same c.page_address.ensures c.table_word-d.ensures
          s.first s.w _ _ c.clear_table.ensures c.put_word.ensures,
    )
