-- What some lines record, with one line more.
use Rattle.std.proofs.Common.{◌≡◌, List, [], ◌∷◌, ◌++◌, Some, None, cond, sym, ap, ◌∙◌, append_assoc}
use Rattle.std.specs.Prelude.{option_to_list, unwrap_or}
use Rattle.std.specs.Option.{option_or}
use Rattle.std.proofs.lemmas.List.{append-nil, map-append}
use Rattle.rma_base.specs.declared.version.Version.TheVariants.{One}
use Rattle.rma_form.specs.declared.event.Event.{Event}
use Rattle.rma_judge.specs.Latest.{latest}
use Rattle.rma_judge.specs.Naming.{is_end, named_version}
use Rattle.rma_log.specs.Calls.{Entry, call_of, calls_behind, calls_of, end_line, event_of, events_of, version_of}
use Rattle.rma_judge.proofs.StateLemmas.{latest_more, unwrap_or_or}

pub events_of_more : (entries : List Entry) (entry : Entry) → events_of (entries ++ entry ∷ []) ≡ events_of entries ++ event_of entry ∷ []
events_of_more entries entry = map-append event_of entries (entry ∷ [])

pub version_of_more : (entries : List Entry) (entry : Entry) → version_of (entries ++ entry ∷ []) ≡ unwrap_or (named_version (event_of entry)) (version_of entries)
version_of_more entries entry =
    let names = λ (e : Entry). named_version (event_of e) in
    ap (λ o. unwrap_or o One) (latest_more names entries entry) ∙ unwrap_or_or (names entry) (latest names entries) One

pub end_line_more : (entries : List Entry) (entry : Entry) → end_line (entries ++ entry ∷ []) ≡ option_or (cond (is_end (event_of entry)) (Some entry.line) None) (end_line entries)
end_line_more entries entry = latest_more (λ (e : Entry). cond (is_end (event_of e)) (Some e.line) None) entries entry

calls_behind_more : (before : List Event) (entries : List Entry) (entry : Entry)
    → calls_behind before (entries ++ entry ∷ []) ≡ calls_behind before entries ++ option_to_list (call_of (before ++ events_of entries) entry)
calls_behind_more before [] entry =
    append-nil (option_to_list (call_of before entry)) ∙ ap (λ events. option_to_list (call_of events entry)) (sym (append-nil before))
calls_behind_more before (first ∷ entries) entry =
    let own = option_to_list (call_of before first) in
    let next = before ++ event_of first ∷ [] in
    ap (λ cs. own ++ cs) (calls_behind_more next entries entry)
    ∙ sym (append_assoc own (calls_behind next entries) (option_to_list (call_of (next ++ events_of entries) entry)))
    ∙ ap (λ events. (own ++ calls_behind next entries) ++ option_to_list (call_of events entry)) (append_assoc before (event_of first ∷ []) (events_of entries))

pub calls_of_more : (entries : List Entry) (entry : Entry) → calls_of (entries ++ entry ∷ []) ≡ calls_of entries ++ option_to_list (call_of (events_of entries) entry)
calls_of_more entries entry = calls_behind_more [] entries entry
