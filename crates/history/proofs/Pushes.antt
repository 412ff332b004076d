-- One call more at the end of a history. Assumes nothing.
use Rattle.std.proofs.Common.{◌≡◌, ℕ, ◌+◌, ◌<◌, List, [], ◌∷◌, ◌++◌, map, length, get_or, take, sym, refl, ap, ◌∙◌}
use Rattle.std.proofs.lemmas.List.{take_more, map_push}
use Rattle.ledger.specs.Secure.{Security}
use Rattle.history.specs.Requests.{Request, Reply}
use Rattle.history.specs.Steps.{State, Step}
use Rattle.history.specs.Histories.{Moment, Linked, History, begin}
use Rattle.history.specs.Places.{PlacesKept}
use Rattle.history.specs.Whole.{WholeHistory}
use Rattle.history.proofs.Sound.{all_append}
use Rattle.history.proofs.Laws.{law-of, sound-begin}
use Rattle.history.proofs.OnlyPastDue.{drawn-all}

linked-push : (ms : List Moment) (s t u : State) (q : Request) (r : Reply) → Linked s ms t → Step t q r u → Linked s (ms ++ record { before = t; request = q; reply = r; next = u } ∷ []) u
linked-push [] s t u q r e step = (e, step, refl)
linked-push (m ∷ ms) s t u q r h step = (h.0, h.1, linked-push ms m.next t u q r h.2 step)

pub history-none : (account : ℕ) (row : List Security) → History account [] [] row (begin account row)
history-none account row = record { moments = []; in_order = refl; answered = refl; linked = refl; law = law-of account row _ [] refl }

pub history-push : {qs : List Request} {rs : List Reply} (account : ℕ) (row : List Security) (t u : State) (q : Request) (r : Reply) → History account qs rs row t → Step t q r u → History account (qs ++ q ∷ []) (rs ++ r ∷ []) row u
history-push account row t u q r h step =
    let linked = linked-push h.moments _ t u q r h.linked step in
    record {
      moments = h.moments ++ record { before = t; request = q; reply = r; next = u } ∷ [];
      in_order = map_push (λ m. m.request) h.moments _ ∙ ap (λ qs. qs ++ q ∷ []) h.in_order;
      answered = map_push (λ m. m.reply) h.moments _ ∙ ap (λ rs. rs ++ r ∷ []) h.answered;
      linked = linked;
      law = law-of account row u _ linked;
    }

-- the first i requests and the next one are the first i + 1
asked-more : {X : Type 0} (ask : X → Request) (calls : List X) (i : ℕ) (c : X) → i < length calls → c ≡ get_or calls i c → map ask (take (i + 1) calls) ≡ map ask (take i calls) ++ ask c ∷ []
asked-more ask calls i c within read =
    let grown = ap (λ x. take i calls ++ x ∷ []) read ∙ sym (take_more calls i c within) in
    rw (← grown) (map_push ask (take i calls) c)

-- ---- the same of a history with what else holds of its calls
pub whole-none : (account : ℕ) (row : List Security) → WholeHistory account [] [] row (begin account row)
unfolding history-none
whole-none account row = record { history = history-none account row; places = tt; drawn = tt }

pub whole-push : {qs : List Request} {rs : List Reply} (account : ℕ) (row : List Security) (t u : State) (q : Request) (r : Reply) → WholeHistory account qs rs row t → Step t q r u → PlacesKept t q r u
    → WholeHistory account (qs ++ q ∷ []) (rs ++ r ∷ []) row u
unfolding history-push
whole-push account row t u q r w step kept =
    let h = history-push account row t u q r w.history step in
    record {
      history = h;
      places = all_append (λ m. PlacesKept m.before m.request m.reply m.next) w.history.moments _ w.places (kept, tt);
      drawn = drawn-all (begin account row) u h.moments h.linked (sound-begin account row);
    }

module _ {X Y : Type 0} (ask : X → Request) (say : Y → Reply) where
  pub whole_more : (account : ℕ) (calls : List X) (rs rs' : List Y) (row : List Security) (t u : State) (i : ℕ) (c : X) (r : Y) → i < length calls → c ≡ get_or calls i c → rs' ≡ rs ++ r ∷ []
      → WholeHistory account (map ask (take i calls)) (map say rs) row t → Step t (ask c) (say r) u → PlacesKept t (ask c) (say r) u
      → WholeHistory account (map ask (take (i + 1) calls)) (map say rs') row u
  whole_more account calls rs rs' row t u i c r within read said h step kept =
      rw (asked-more ask calls i c within read, said, map_push say rs r) (whole-push account row t u (ask c) (say r) h step kept)
