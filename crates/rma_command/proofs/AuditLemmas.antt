-- The audit that words ask for, as they are read from left to right.
use Rattle.std.proofs.Common.{◌≡◌, ℕ, Bool, true, false, cond, List, [], ◌∷◌, ◌++◌, append_assoc, codes, Some, None, Option, option_map, refl, sym, ap, subst, inl, inr, ◌∙◌}
use Rattle.std.specs.Option.{option_and_then}
use Rattle.std.proofs.lemmas.List.{append-nil}
use Rattle.std.proofs.lemmas.Option.{none-some}
use Rattle.std.proofs.lemmas.Slice.Eq.{bytes_eq-Decides}
use Rattle.rma_command.specs.Words.{Audit, Audits, number_of, AreLimit, json_words, AreOptions, AreNames, IsAudit}
use Rattle.rma_command.specs.inside.Words.{is, limit_from, json_from, names_from, with_names, after_json, audit_behind, command_of}
use Rattle.rma_command.proofs.LimitLemmas.{limit_read}
use Rattle.rma_command.proofs.NameLemmas.{AreRead, names_are_read, read_are_names}

abbrev Words : Type 0
Words = List (List ℕ)

-- ---- words that ask for a command are read as it

module _ (rest : Words) (command : Audit) (read : AreRead rest command.names) where
  named : (limit : Option ℕ) (json : Bool) → with_names limit json rest ≡ Some (record { limit = limit; json = json; names = command.names })
  named limit json = rw read.names_are refl

  unlimited : (json : Bool) → audit_behind (json_words json ++ rest) ≡ Some (record { limit = None; json = json; names = command.names })
  unlimited true = rw read.no_limit (named None true)
  unlimited false = rw (read.no_limit, read.no_form, read.no_limit) (named None false)

  limit_first : (word : List ℕ) (limit : ℕ) → number_of word ≡ Some limit → (json : Bool) →
      audit_behind (codes "--limit" ∷ word ∷ json_words json ++ rest) ≡ Some (record { limit = Some limit; json = json; names = command.names })
  limit_first word limit number true = rw number (named (Some limit) true)
  limit_first word limit number false = rw (number, read.no_form) (named (Some limit) false)

  json_first : (word : List ℕ) (limit : ℕ) → number_of word ≡ Some limit → (json : Bool) →
      audit_behind (json_words json ++ codes "--limit" ∷ word ∷ rest) ≡ Some (record { limit = Some limit; json = json; names = command.names })
  json_first word limit number true = rw number (named (Some limit) true)
  json_first word limit number false = rw (number, read.no_form) (named (Some limit) false)

  behind : (options : Words) (limit : Option ℕ) (json : Bool) → AreOptions options limit json →
      audit_behind (options ++ rest) ≡ Some (record { limit = limit; json = json; names = command.names })
  behind options None json (limits, none, inl order) = rw (order, none) (unlimited json)
  behind options None json (limits, none, inr order) = rw (order, none) (rw (append-nil (json_words json)) (unlimited json))
  behind options (Some limit) json (limits, (word, some, number), inl order) = rw (order, some) (limit_first word limit number json)
  behind options (Some limit) json (limits, (word, some, number), inr order) =
      rw (order, some, append_assoc (json_words json) (codes "--limit" ∷ word ∷ []) rest) (json_first word limit number json)

pub audit_is_read : (words : Words) (command : Audit) → IsAudit words command → command_of words ≡ Some (Audits command)
audit_is_read words command h =
    rw h.words_are (ap (option_map Audits) (behind h.rest command (names_are_read h.rest command.names h.names_are) h.options command.limit command.json h.options_are))

-- ---- and words that are read as a command ask for it

-- the words of the form that is read
json_read : (words : Words) → words ≡ json_words (json_from words).0 ++ (json_from words).1
json_read [] = refl
json_read (word ∷ words) = by (is word (codes "--json")) refl
  where
    of : Bool → Bool × Words
    of b = cond b (true, words) (false, word ∷ words)

    by : (b : Bool) → is word (codes "--json") ≡ b → word ∷ words ≡ json_words (of b).0 ++ (of b).1
    by false fails = refl
    by true holds = ap (λ w. w ∷ words) ((bytes_eq-Decides word (codes "--json")).0 holds)

-- the names that are read
pub names_read : (limit : Option ℕ) (json : Bool) (words : Words) (command : Audit) → with_names limit json words ≡ Some command →
    (command.limit ≡ limit) × (command.json ≡ json) × AreNames words command.names
names_read limit json words command h = by (names_from words) refl h
  where
    by : (names : Option Words) → names_from words ≡ names → option_map (λ names. record { limit = limit; json = json; names = names }) names ≡ Some command →
        (command.limit ≡ limit) × (command.json ≡ json) × AreNames words command.names
    by None named none = absurd (none-some command none)
    by (Some names) named some =
        let same : record { limit = limit; json = json; names = names } ≡ command = cc in
        subst (λ c. (c.limit ≡ limit) × (c.json ≡ json) × AreNames words c.names) same (refl, refl, read_are_names words names named)

-- the parts of an audit put together
audit : (words options rest : Words) (command : Audit) → words ≡ options ++ rest → AreOptions options command.limit command.json → AreNames rest command.names → IsAudit (codes "audit" ∷ words) command
audit words options rest command whole options_are names_are =
    record { options = options; rest = rest; words_are = ap (λ them. codes "audit" ∷ them) whole; options_are = options_are; names_are = names_are }

module _ (words : Words) (command : Audit) where
  after : (found : Option ℕ × Words) (limits : Words) → AreLimit limits found.0 → words ≡ limits ++ found.1 → after_json found.0 (json_from found.1) ≡ Some command → IsAudit (codes "audit" ∷ words) command
  after (Some limit, rest) limits are whole h =
      let json = json_from rest in
      let read = names_read (Some limit) json.0 json.1 command h in
      audit words (limits ++ json_words json.0) json.1 command (whole ∙ ap (λ them. limits ++ them) (json_read rest) ∙ sym (append_assoc limits (json_words json.0) json.1))
      (rw (read.0, read.1) (limits, are, inl refl)) read.2
  after (None, rest) limits are start h = at (limit_from json.1) refl h
    where
      json : Bool × Words
      json = json_from rest

      at : (found : Option (Option ℕ × Words)) → limit_from json.1 ≡ found → option_and_then (λ f. with_names f.0 json.0 f.1) found ≡ Some command → IsAudit (codes "audit" ∷ words) command
      at None is_none none = absurd (none-some command none)
      at (Some found) is_some some =
          let limit = limit_read json.1 found is_some in
          let read = names_read found.0 json.0 found.1 command some in
          let whole : words ≡ (json_words json.0 ++ limit.0) ++ found.1 =
          start ∙ ap (λ them. them ++ rest) are ∙ json_read rest ∙ ap (λ them. json_words json.0 ++ them) limit.2 ∙ sym (append_assoc (json_words json.0) limit.0 found.1) in
          audit words (json_words json.0 ++ limit.0) found.1 command whole (rw (read.0, read.1) (limit.0, limit.1, inr refl)) read.2

pub audit_read : (words : Words) (command : Audit) → audit_behind words ≡ Some command → IsAudit (codes "audit" ∷ words) command
audit_read words command h = at (limit_from words) refl h
  where
    at : (found : Option (Option ℕ × Words)) → limit_from words ≡ found → option_and_then (λ f. after_json f.0 (json_from f.1)) found ≡ Some command → IsAudit (codes "audit" ∷ words) command
    at None is_none none = absurd (none-some command none)
    at (Some found) is_some some = let limit = limit_read words found is_some in after words command found limit.0 limit.1 limit.2 some
