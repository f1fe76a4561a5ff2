-- The calls of entries, with one more call or one more value in a table.
use Rattle.std.proofs.Common.{◌≡◌, ℕ, zero, suc, ◌<◌, ◌≤◌, List, [], ◌∷◌, ◌++◌, length, map, get_or, Option, Some, None, IfSome, slice_get, refl, sym, ap, subst, ◌∙◌, arith}
use Rattle.std.specs.Prelude.{option_map, All}
use Rattle.std.specs.Option.{option_and_then}
use Rattle.std.proofs.lemmas.List.{map-append, get_or_append_left}
use Rattle.std.proofs.lemmas.Option.{get_or_from_slice_get, slice_get-get_or, slice_get-map, slice_get_within, none-some}
use Rattle.rma_call.specs.declared.what.What.{What}
use Rattle.rma_call.specs.declared.entries.Entry.{Entry}
use Rattle.rma_call.specs.Call.{Call}
use Rattle.rma_call.specs.inside.CallList.{number_of, beyond, entry_call, entry_calls, IsBelow}

same_calls : (f g : Entry → Call) (es : List Entry) → All (λ e. f e ≡ g e) es → map f es ≡ map g es
same_calls f g [] same = refl
same_calls f g (e ∷ es) same =
    ap (λ call. call ∷ map f es) (same 0 e (omega arith)) ∙ ap (λ calls. g e ∷ calls) (same_calls f g es (λ k d lt. same (suc k) d (omega arith)))

-- one more value in the table of what calls do changes no call
pub calls_with_what : (whats : List What) (sites : List (List ℕ)) (what : What) (es : List Entry) → All (IsBelow (length whats) (length sites)) es →
    entry_calls (whats ++ what ∷ []) sites es ≡ entry_calls whats sites es
calls_with_what whats sites what es below =
    same_calls (entry_call (whats ++ what ∷ []) sites) (entry_call whats sites) es
    (λ k d lt. rw (get_or_append_left whats (what ∷ []) beyond (get_or es k d).what (below k d lt).0))

site_kept : (sites : List (List ℕ)) (site : List ℕ) (kept : ℕ) → kept ≤ length sites →
    option_map (λ number. get_or (sites ++ site ∷ []) number []) (number_of kept) ≡ option_map (λ number. get_or sites number []) (number_of kept)
site_kept sites site zero below = refl
site_kept sites site (suc number) below = ap Some (get_or_append_left sites (site ∷ []) [] number (omega arith))

-- nor does one more site
pub calls_with_site : (whats : List What) (sites : List (List ℕ)) (site : List ℕ) (es : List Entry) → All (IsBelow (length whats) (length sites)) es →
    entry_calls whats (sites ++ site ∷ []) es ≡ entry_calls whats sites es
calls_with_site whats sites site es below =
    same_calls (entry_call whats (sites ++ site ∷ [])) (entry_call whats sites) es
    (λ k d lt. rw (site_kept sites site (get_or es k d).site (below k d lt).1))

site_of : (sites : List (List ℕ)) (site : Option ℕ) → IfSome site (λ number. number < length sites) →
    option_map (λ number. get_or sites number []) site ≡ option_and_then (slice_get sites) site
site_of sites None below = refl
site_of sites (Some number) below = sym (slice_get-get_or sites number [] below)

-- one more entry is one more call, of its numbers
pub calls_with_call : (whats : List What) (sites : List (List ℕ)) (es : List Entry) (e : Entry) (site : Option ℕ) (value : What) →
    IfSome site (λ number. number < length sites) → number_of e.site ≡ site → slice_get whats e.what ≡ Some value →
    entry_calls whats sites (es ++ e ∷ [])
    ≡ entry_calls whats sites es ++ record { line = e.line; site = option_and_then (slice_get sites) site; what = value; request = number_of e.request } ∷ []
calls_with_call whats sites es e site value below is at =
    map-append (entry_call whats sites) es (e ∷ [])
    ∙ rw (is, site_of sites site below, get_or_from_slice_get whats e.what value beyond at)

-- an entry has the number of what its call does
entry_names : (whats : List What) (sites : List (List ℕ)) (es : List Entry) → All (IsBelow (length whats) (length sites)) es → (i : ℕ) (e : Entry) → slice_get es i ≡ Some e →
    slice_get whats e.what ≡ option_map (λ call. call.what) (slice_get (entry_calls whats sites es) i)
entry_names whats sites es below i e at =
    slice_get-get_or whats e.what beyond (subst (IsBelow (length whats) (length sites)) (get_or_from_slice_get es i e e at) (below i e (slice_get_within es i e at))).0
    ∙ sym (ap (option_map (λ call. call.what)) (slice_get-map (entry_call whats sites) es i ∙ ap (option_map (entry_call whats sites)) at))

-- so each call has such a number
pub each_is_named : (whats : List What) (sites : List (List ℕ)) (es : List Entry) → All (IsBelow (length whats) (length sites)) es → (i : ℕ) (call : Call) →
    slice_get (entry_calls whats sites es) i ≡ Some call → (number : ℕ) × (slice_get whats number ≡ Some call.what)
each_is_named whats sites es below i call at =
    by (slice_get es i) refl
  where
    by : (found : Option Entry) → slice_get es i ≡ found → (number : ℕ) × (slice_get whats number ≡ Some call.what)
    by (Some e) there = (e.what, entry_names whats sites es below i e there ∙ ap (option_map (λ c. c.what)) at)
    by None there = absurd (none-some call (sym (slice_get-map (entry_call whats sites) es i ∙ ap (option_map (entry_call whats sites)) there) ∙ at))
