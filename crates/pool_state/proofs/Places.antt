-- Fields that are lent on: whatever is done to what they lend, they lend the same places.
use mathlib.Core.Path.{refl, ◌∙◌}
use Rattle.pool_state.specs.Lent.{SamePlaces}
use Rattle.pool_state.specs.declared.Fields.{Fields}

pub places-start : (f : Fields) → SamePlaces f f
places-start f = (refl, refl, refl, refl, refl, refl, refl, refl, refl, refl)

pub places-on : (f g h : Fields) → SamePlaces f g → SamePlaces g h → SamePlaces f h
places-on f g h p q = (q.0 ∙ p.0, q.1 ∙ p.1, q.2 ∙ p.2, q.3 ∙ p.3, q.4 ∙ p.4, q.5 ∙ p.5, q.6 ∙ p.6, q.7 ∙ p.7, q.8 ∙ p.8, q.9 ∙ p.9)
