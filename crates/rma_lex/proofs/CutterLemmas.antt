-- What a cutter represents, through each of its calls.
use Rattle.std.proofs.Common.{◌≡◌, ◌≢◌, ℕ, ◌+◌, ◌-◌, ◌<◌, ◌≤◌, Bool, true, false, List, [], ◌∷◌, ◌++◌, length, take, drop, get_or, ltb, Some, refl, sym, ap, subst, ◌∙◌, arith, inl, inr, ⊎_elim, append_assoc, length-append}
use Rattle.std.specs.Prelude.{slice_get, Contains}
use Rattle.std.proofs.lemmas.Bool.{false≢true, lt-ltb, le-ltb}
use Rattle.std.proofs.lemmas.List.{append-nil, length-drop, length-take, take-append-drop, drop-drop, drop-take, drop_more, drop_all, take_all, get_or-drop, get_or-take, get_or_default, get_or_at, drop_at, take_at}
use Rattle.rma_base.specs.Limits.{line_limit}
use Rattle.rma_lex.specs.Line.{lines}
use Rattle.rma_lex.specs.Text.{text_of}
use Rattle.rma_lex.specs.Checked.{checked_lines}
use Rattle.rma_lex.specs.Cutting.{Cutting, Represents, HasNoLine, CutsOff, TakesLine}
use Rattle.rma_lex.specs.inside.LineFeed.{NoFeed, IsLineAt}
use Rattle.rma_lex.proofs.LineLemmas.{Plain, Plain_from_Contains, Plain_left}
use Rattle.rma_lex.proofs.CheckLemmas.{checked_lines_at, checked_lines_last, checked_lines_long, length_checked_lines}

pub Represents_fed : (cutting : Cutting) (text piece : List ℕ) → cutting.closed ≡ false → Represents cutting text
    → Represents (record cutting { fed = cutting.fed + length piece; rest = cutting.rest ++ piece }) (text ++ piece)
Represents_fed cutting text piece goes_on represents = record {
  fed = omega (arith, length-append text piece, represents.fed);
  done = represents.done;
  handed = represents.handed;
  lines_left = λ more ends.
      ap checked_lines (append_assoc text piece more)
      ∙ represents.lines_left (piece ++ more) (λ closed. absurd (false≢true (sym goes_on ∙ closed)))
      ∙ ap (λ rest. represents.done ++ checked_lines rest) (sym (append_assoc cutting.rest piece more));
}

module _ (cutting : Cutting) (text : List ℕ) (represents : Represents cutting text) where
  -- what is kept has the lines of the text after those that were handed out
  pub lines_left_are : (more : List ℕ) → (cutting.closed ≡ true → more ≡ []) → checked_lines (cutting.rest ++ more) ≡ drop cutting.handed (checked_lines (text ++ more))
  lines_left_are more ends = sym (ap (drop cutting.handed) (represents.lines_left more ends) ∙ drop_at represents.done (checked_lines (cutting.rest ++ more)) cutting.handed represents.handed)

  -- the lines that were handed out and those of what is kept are those of the text
  pub length_Represents : cutting.handed + length (lines cutting.rest) ≡ length (lines text)
  length_Represents =
      let them = ap length (rw (append-nil text, append-nil cutting.rest) at (represents.lines_left [] (λ _. refl))) in
      omega (arith, them, length-append represents.done (checked_lines cutting.rest), represents.handed, length_checked_lines text, length_checked_lines cutting.rest)

  -- at the end all lines were handed out
  pub handed_all : HasNoLine cutting → cutting.closed ≡ true → cutting.handed ≡ length (lines text)
  handed_all none ended = omega (arith, length_Represents, ap (λ rest. length (lines rest)) (none.1 ended))

  -- while the text goes on, the lines that were handed out stay as they are
  pub handed_stay : (more : List ℕ) → cutting.closed ≡ false → take cutting.handed (checked_lines (text ++ more)) ≡ take cutting.handed (checked_lines text)
  handed_stay more goes_on =
      first more ∙ sym (first []) ∙ ap (λ t. take cutting.handed (checked_lines t)) (append-nil text)
    where
      first : (m : List ℕ) → take cutting.handed (checked_lines (text ++ m)) ≡ represents.done
      first m =
          ap (take cutting.handed) (represents.lines_left m (λ closed. absurd (false≢true (sym goes_on ∙ closed))))
          ∙ take_at represents.done (checked_lines (cutting.rest ++ m)) cutting.handed represents.handed

  -- the first bytes of a line that goes on and is too long, one more than a line may have
  pub Represents_shortened : (n : ℕ) → n ≡ line_limit + 1 → n ≤ length cutting.rest → ¬ Contains cutting.rest 10 → Represents (record cutting { rest = take n cutting.rest }) text
  Represents_shortened n more_than enough none =
      let plain = Plain_from_Contains cutting.rest none in record {
        fed = represents.fed;
        done = represents.done;
        handed = represents.handed;
        lines_left = λ more ends.
            represents.lines_left more ends
            ∙ ap (λ them. represents.done ++ them)
            (checked_lines_long cutting.rest more plain (omega arith)
            ∙ sym (checked_lines_long (take n cutting.rest) more (Plain_left (take n cutting.rest) (drop n cutting.rest) (subst Plain (sym (take-append-drop n cutting.rest)) plain)) (omega (arith, length-take n cutting.rest))));
      }

slice_get_after : {X : Type 0} (done : List X) (line : X) (later : List X) → slice_get (done ++ line ∷ later) (length done) ≡ Some line
slice_get_after [] line later = refl
slice_get_after (first ∷ done) line later = slice_get_after done line later

module _ (cutting : Cutting) (line : List ℕ) (ended : Bool) (left : List ℕ) (cuts : CutsOff cutting line ended left) where
  -- what is left begins with the line
  begins : (more : List ℕ) → (cutting.closed ≡ true → more ≡ []) → checked_lines (cutting.rest ++ more) ≡ text_of ended line ∷ checked_lines (left ++ more)
  begins more ends =
      let plain = Plain_from_Contains line cuts.no_line_feed in
      ⊎_elim
      (λ (e : (ended ≡ true) × (cutting.rest ≡ line ++ 10 ∷ left)).
      ap (λ rest. checked_lines (rest ++ more)) e.1 ∙ ap checked_lines (append_assoc line (10 ∷ left) more) ∙ checked_lines_at line (left ++ more) plain
      ∙ ap (λ b. text_of b line ∷ checked_lines (left ++ more)) (sym e.0))
      (λ (e : (ended ≡ false) × (cutting.closed ≡ true) × (cutting.rest ≡ line) × (line ≢ []) × (left ≡ [])).
      let nothing : more ≡ [] = ends e.1 in
      ap (λ m. checked_lines (cutting.rest ++ m)) nothing ∙ ap checked_lines (append-nil cutting.rest ∙ e.2) ∙ checked_lines_last line plain e.3
      ∙ ap (λ b. text_of b line ∷ []) (sym e.0)
      ∙ sym (ap (λ l. text_of ended line ∷ checked_lines (l ++ more)) e.4 ∙ ap (λ m. text_of ended line ∷ checked_lines m) nothing))
      cuts.cut

  -- the next line is the one after those that were handed out
  pub slice_get_next : (text : List ℕ) → Represents cutting text → slice_get (checked_lines text) cutting.handed ≡ Some (text_of ended line)
  slice_get_next text represents =
      let later = checked_lines (left ++ []) in
      ap (λ t. slice_get (checked_lines t) cutting.handed) (sym (append-nil text))
      ∙ ap (λ them. slice_get them cutting.handed) (represents.lines_left [] (λ _. refl) ∙ ap (λ them. represents.done ++ them) (begins [] (λ _. refl)))
      ∙ ap (slice_get (represents.done ++ text_of ended line ∷ later)) (sym represents.handed) ∙ slice_get_after represents.done (text_of ended line) later

  Represents_next : (text : List ℕ) → Represents cutting text → Represents (record cutting { handed = cutting.handed + 1; rest = left }) text
  Represents_next text represents = record {
    fed = represents.fed;
    done = represents.done ++ text_of ended line ∷ [];
    handed = omega (arith, length-append represents.done (text_of ended line ∷ []), represents.handed);
    lines_left = λ more ends.
        represents.lines_left more ends ∙ ap (λ them. represents.done ++ them) (begins more ends)
        ∙ sym (append_assoc represents.done (text_of ended line ∷ []) (checked_lines (left ++ more)));
  }

  -- where a next line is, there is one
  pub some_line : ¬ HasNoLine cutting
  some_line none =
      ⊎_elim (λ (e : (ended ≡ true) × (cutting.rest ≡ line ++ 10 ∷ left)).
      none.0 (length line, omega (arith, ap length e.1, length-append line (10 ∷ left)), ap (λ rest. get_or rest (length line) 10) e.1 ∙ get_or_at line 10 left 10 (length line) refl))
      (λ (e : (ended ≡ false) × (cutting.closed ≡ true) × (cutting.rest ≡ line) × (line ≢ []) × (left ≡ [])). e.3 (sym e.2 ∙ none.1 e.1)) cuts.cut

pub Represents_taken : (before after : Cutting) (line : List ℕ) (ended : Bool) (text : List ℕ) → TakesLine before line ended after → Represents before text → Represents after text
Represents_taken before after line ended text takes represents =
    subst (λ c. Represents c text) (sym takes.1) (Represents_next before line ended after.rest takes.0 text represents)

-- ---- the fields of a cutter
module _ (items : List ℕ) (start : ℕ) where
  -- no line feed from the start on
  no_feed_left : NoFeed items start (length items) → ¬ Contains (drop start items) 10
  no_feed_left none c =
      let within : start + c.0 < length items = omega (arith, c.1, length-drop start items) in
      none (start + c.0) (omega arith) within (get_or_default items (start + c.0) 0 10 within ∙ sym (get_or-drop start items c.0 10) ∙ c.2)

  -- where no line feed is left, none is found
  pub NoFeed_left : ¬ Contains (drop start items) 10 → NoFeed items start (length items)
  NoFeed_left none place low high feed =
      let there : start + (place - start) ≡ place = omega arith in
      none (place - start, omega (arith, length-drop start items), get_or-drop start items (place - start) 10 ∙ ap (λ i. get_or items i 10) there ∙ get_or_default items place 10 0 high ∙ feed)

  -- it left bytes out
  pub Represents_cut : (fed handed : ℕ) (closed : Bool) (text : List ℕ) (end : ℕ) → end ≡ start + (line_limit + 1) → end ≤ length items → NoFeed items start (length items)
      → Represents (record { fed = fed; handed = handed; rest = drop start items; closed = closed }) text
      → Represents (record { fed = fed; handed = handed; rest = drop start (take end items); closed = closed }) text
  Represents_cut fed handed closed text end is within none represents =
      rw (is, drop-take start (line_limit + 1) items) (Represents_shortened _ text represents (line_limit + 1) refl (omega (arith, length-drop start items)) (no_feed_left none))

module _ (before : Cutting) (items : List ℕ) (fed handed start : ℕ) (closed : Bool)
    (same : ◌≡◌ {A = Cutting} (record { fed = fed; handed = handed; rest = drop start items; closed = closed }) before) where
  abbrev cutting : Cutting
  cutting = record { fed = fed; handed = handed; rest = drop start items; closed = closed }

  -- no line feed from the start on, and nothing there at the end
  pub HasNoLine_from : NoFeed items start (length items) → (closed ≡ true → start ≡ length items) → HasNoLine before
  HasNoLine_from none ended = subst HasNoLine same (no_feed_left items start none, λ e. drop_all start items (omega (arith, ended e)))

  -- it hands out the line that ends at an index
  pub TakesLine_at : (shown : List ℕ) (end next : ℕ) → shown ≡ items → IsLineAt items closed start end next
      → TakesLine before (take (end - start) (drop start shown)) (ltb end next) (record { fed = fed; handed = handed + 1; rest = drop next items; closed = closed })
  TakesLine_at shown end next reads is =
      let after : Cutting = record { fed = fed; handed = handed + 1; rest = drop next items; closed = closed } in
      subst (λ b. TakesLine b (take (end - start) (drop start shown)) (ltb end next) after) same
      (subst (λ t. TakesLine cutting (take (end - start) (drop start t)) (ltb end next) after) (sym reads) (cuts_off, refl))
    where
      after_feed : next ≡ end + 1 → get_or items end 0 ≡ 10 → drop (start + (end - start)) items ≡ 10 ∷ drop next items
      after_feed e feed =
          ap (λ n. drop n items) (omega (arith, is.ordered)) ∙ drop_more items end 0 (omega (arith, is.within))
          ∙ ap (λ x. x ∷ drop (end + 1) items) feed ∙ ap (λ n. 10 ∷ drop n items) (sym e)

      cuts_off : CutsOff cutting (take (end - start) (drop start items)) (ltb end next) (drop next items)
      cuts_off =
          let long = length-drop start items in
          let shorter = length-take (end - start) (drop start items) in
          record {
            no_line_feed = λ c.
                let within : c.0 < end - start = omega (arith, c.1, shorter) in
                is.no_line_feed (start + c.0) (omega arith) (omega (arith, is.ordered))
                (get_or_default items (start + c.0) 0 10 (omega (arith, c.1, shorter))
                ∙ sym (get_or-drop start items c.0 10) ∙ sym (get_or-take (end - start) (drop start items) c.0 10 within) ∙ c.2);
            cut = ⊎_elim (λ (at : (next ≡ end + 1) × (get_or items end 0 ≡ 10)).
                inl (
                  lt-ltb end next (omega (arith, at.0)),
                  sym (take-append-drop (end - start) (drop start items))
                      ∙ ap (λ rest. take (end - start) (drop start items) ++ rest) (drop-drop (end - start) start items ∙ after_feed at.0 at.1),
                )) (λ (at : (closed ≡ true) × (end ≡ length items) × (next ≡ end)).
                inr (
                  le-ltb end next (omega (arith, at.2)),
                  at.0,
                  sym (take_all (end - start) (drop start items) (omega (arith, at.1))),
                  λ e. let empty : length (take (end - start) (drop start items)) ≡ 0 = ap length e in omega (arith, shorter, at.1, at.2, is.moves),
                  drop_all next items (omega (arith, at.1, at.2)),
                )) is.ended;
          }
