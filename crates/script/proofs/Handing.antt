-- What is handed to the writer, and what a turn makes of it. Assumes nothing.
use Rattle.std.proofs.Common.{◌≡◌, ℕ, true, false, List, ap, subst, take}
use Rattle.script_forms.specs.Forms.{Desk}
use Rattle.script_chunks.specs.Input.{Hears, Closes}
use Rattle.script_chunks.specs.declared.Reading.{Reading}
use Rattle.script_sessions.specs.Sessions.{fresh, Answered, Closed}
use Rattle.script_sessions.specs.declared.Session.{Session}
use Rattle.script.specs.Program.{Handed}

module _ (n : ℕ) (m : Desk) (s : Session) (carry out : List ℕ) (m' : Desk) (s' : Session) (out' : List ℕ) where
  pub closed-by : (r : Reading) (at : ℕ) → r ≡ fresh s.reading 0 → Closes n m r carry out m' at out'
      → Handed (record { held = 0; from = 0; at = at }) 0 true s' → Closed n m s carry out m' s' out'
  closed-by r at e w h =
      record {
        closes = rw h.reading (subst (λ (q : Reading). Closes n m q carry out m' at out') e w);
        held = ap (λ (q : Reading). q.held) h.reading;
        from = ap (λ (q : Reading). q.from) h.reading;
        hands = h.hands;
        count = h.count;
        ended = h.ended;
      }

  pub answered-by : (chunk carry' : List ℕ) (r next : Reading) → r ≡ fresh s.reading s.reading.from → Hears n m r carry (take s.count chunk) out m' next carry' out'
      → Handed next s.count false s' → Answered n m s carry chunk out m' s' carry' out'
  answered-by chunk carry' r next e w h =
      record {
        hears = rw h.reading (subst (λ (q : Reading). Hears n m q carry (take s.count chunk) out m' next carry' out') e w);
        hands = h.hands;
        count = h.count;
        ended = h.ended;
      }
