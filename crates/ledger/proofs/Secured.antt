-- What funding and the past-due run give together. Assumes nothing.
use Rattle.std.proofs.Common.{◌≡◌, ℕ, ◌+◌, ◌≤◌, min, false, leb, List, [], ◌∷◌, length, get_or, is_some, Some, Ok, Err, Result, unwrap_or, sym, ap, ◌∙◌, le-leb}
use Rattle.std.proofs.lemmas.Bool.{cond-true, cond-false}
use Rattle.std.proofs.lemmas.List.{length-map}
use Rattle.foundation.specs.Limits.{most_held}
use Rattle.foundation.specs.Questions.{Question, asks, verdict}
use Rattle.foundation.proofs.Verdicts.{all_hold, all-ok, verdict-goes}
use Rattle.security.specs.declared.means.Means.{Means}
use Rattle.security.specs.Funding.{numbered, fund_answer as instrument_answer, funded as instrument_funded}
use Rattle.ledger.specs.declared.fault.Fault.{Fault}
use Rattle.ledger.specs.declared.fault.Fault.TheVariants.{Means as MeansFault, Funding, Room}
use Rattle.ledger.specs.Model.{Model}
use Rattle.ledger.specs.Registries.{place_of}
use Rattle.ledger.specs.Secure.{Security, security_of, row_of, no_security, place_funded, party_at, means_of, is_funding, place_asks, place_answer, fund_answer}

-- ---- one instrument
module _ (x : Security) (m : Means) (n : ℕ) where
  pub funded-place : (h : ℕ) → Ok tt ≡ instrument_answer m n (x.room m) → h ≡ instrument_funded x.held n (x.room m) → (h ≡ x.held + n) × (Ok (min h most_held) ≡ place_funded x m n)
  funded-place h ok is =
      let e = (all_hold (asks (leb n (x.room m)) (record { means = m; amount = n; room = x.room m }) ∷ []) tt tt (sym ok)).0 in
      let more = is ∙ cond-true (leb n (x.room m)) (x.held + n) x.held e in
      (more, ap (λ k. Ok (min k most_held)) more ∙ sym (cond-true (leb n (x.room m)) _ _ e))

-- ---- a Counter-Party's place
module _ (s : Model) (places p k : ℕ) where
  pub place_is : Some k ≡ place_of s.register.parties p → k ≡ party_at s p
  place_is h = ap (λ o. unwrap_or o 0) h

  pub place_ok : Some k ≡ place_of s.register.parties p → length s.register.parties ≤ places → Ok k ≡ place_answer s places p
  place_ok h long = ap Ok (place_is h) ∙ sym (all-ok (place_asks s places p) (party_at s p) (sym (ap is_some h), (le-leb _ _ long, tt)))

-- where it was found in a row is where it stands in what the row means
pub in_row : {I : Type 0} (held : I → ℕ) (room : I → Means → ℕ) (s : Model) (row : List I) (p : ℕ) (r : Result ℕ Fault) → r ≡ place_answer s (length row) p → r ≡ place_answer s (length (row_of held room row)) p
in_row held room s row p r h = h ∙ ap (λ n. place_answer s n p) (sym (length-map row (security_of held room)))

module _ (s : Model) (row : List Security) (p m n : ℕ) where
  abbrev room_asks : ℕ → Means → List (Question Fault)
  room_asks k by = asks (leb n ((get_or row k no_security).room by)) (Room (record { means = by; amount = n; room = (get_or row k no_security).room by })) ∷ []

  abbrev held_then : ℕ → ℕ
  held_then k = min ((get_or row k no_security).held + n) most_held

  abbrev others : List (Question Fault)
  others = asks (is_some (numbered m)) MeansFault ∷ asks (is_funding n) Funding ∷ room_asks (party_at s p) (means_of m)

  module _ (k : ℕ) (at-k : Ok k ≡ place_answer s (length row) p) where
    on : fund_answer s row p m n ≡ verdict others (held_then (party_at s p))
    on = verdict-goes (place_asks s (length row) p) others (party_at s p) k (held_then (party_at s p)) (sym at-k)

    module _ (by : Means) (is : Some by ≡ numbered m) where
      on-means : fund_answer s row p m n ≡ verdict (asks (is_funding n) Funding ∷ room_asks (party_at s p) (means_of m)) (held_then (party_at s p))
      on-means = on ∙ cond-true (is_some (numbered m)) _ _ (sym (ap is_some is))

      pub no-amount : is_funding n ≡ false → Err Funding ≡ fund_answer s row p m n
      no-amount e = sym (on-means ∙ cond-false (is_funding n) _ _ e)
