-- What a line states, step by step: where each step so far went well, the next one decides.
use Rattle.std.proofs.Common.{◌≡◌, ℕ, List, Option, drop, Some, Ok, refl}
use Rattle.rma_base.specs.declared.version.Version.{Version}
use Rattle.rma_field.specs.declared.parse_error.ParseError.{ParseError}
use Rattle.rma_field.specs.declared.parse_error.ParseError.TheVariants.{Fault, Memory}
use Rattle.rma_field.specs.Steps.{Fails}
use Rattle.rma_form.specs.declared.event.Event.{Event}
use Rattle.rma_form.specs.declared.form.LineForm.{LineForm}
use Rattle.rma_form.specs.Forms.{event_of, form_of, kind_words}
use Rattle.rma_form.specs.Lines.{counted, fields_of, site_of, site_text, stated_by}
use Rattle.rma_parse.specs.inside.Words.{as_found}

module _ (v : Version) (verb : List ℕ) (words fields : List (List ℕ)) (behind : Option (List ℕ)) (are : fields ≡ fields_of words) (at : behind ≡ site_text words) where
  pub form_fails : (error : ParseError) → Fails error (form_of v verb fields) → Fails error (as_found (stated_by v verb words))
  form_fails Memory fails = tt
  form_fails (Fault fault) fails = rw (← are, fails) refl

  module _ (form : LineForm) (found : form_of v verb fields ≡ Ok form) where
    pub count_fails : (error : ParseError) → Fails error (counted v form fields) → Fails error (as_found (stated_by v verb words))
    count_fails Memory fails = tt
    count_fails (Fault fault) fails = rw (← are, found, fails) refl

    module _ (passed : counted v form fields ≡ Ok tt) where
      pub site_fails : (error : ParseError) → Fails error (site_of behind) → Fails error (as_found (stated_by v verb words))
      site_fails Memory fails = tt
      site_fails (Fault fault) fails = rw (← are, ← at, found, passed, fails) refl

      module _ (site : Option (List ℕ)) (sited : site_of behind ≡ Ok site) where
        pub event_fails : (error : ParseError) → Fails error (event_of v form (drop (kind_words form) fields)) → Fails error (as_found (stated_by v verb words))
        event_fails Memory fails = tt
        event_fails (Fault fault) fails = rw (← are, ← at, found, passed, sited, fails) refl

        pub states_event : (event : Event) → event_of v form (drop (kind_words form) fields) ≡ Ok event
            → as_found (stated_by v verb words) ≡ Ok (Some (record { event = event; site = site }))
        states_event event made = rw (← are, ← at, found, passed, sited, made) refl
