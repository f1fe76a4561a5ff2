-- Texts that are written one after the other.
use Rattle.std.proofs.Common.{◌≡◌, ℕ, ◌<◌, ◌≤◌, List, [], ◌++◌, Option, Some, None, Result, Ok, Err, OnOk, OnErr, IsErrAnd, ◌+◌, length, take, drop, get_or, inl, inr, ap, sym, ◌∙◌, subst, append_assoc, arith}
use Rattle.std.specs.List.{flat_map}
use Rattle.std.proofs.lemmas.List.{append-nil, flat_map_more, take_more, take-append-drop}
use Rattle.std.proofs.lemmas.List.Concat.{flat_map-append}
use Rattle.rma_io.specs.Count.{Rose}
use Rattle.rma_io.specs.Known.{StillKnown}
use Rattle.rma_io.specs.Sink.{Output, AppendsPrefixOf}
use Rattle.rma_report.specs.Writing.{IsWritten, AppendsText}
use Rattle.rma_report.specs.inside.Buffering.{IsBuffered, Buffers}
use Rattle.rma_report.specs.declared.report.WriteFault.{WriteFault}

-- what two steps tell
known_then : (P Q R : List ℕ → List ℕ → Type 0) → ((x y z : List ℕ) → P x y → Q y z → R x z) → (a b c : Option (List ℕ)) → StillKnown P a b → StillKnown Q b c → StillKnown R a c
known_then P Q R h a b None p q = tt
known_then P Q R h a None (Some z) p q = absurd q
known_then P Q R h None (Some y) (Some z) p q = absurd p
known_then P Q R h (Some x) (Some y) (Some z) p q = h x y z p q

-- what one step tells in other words
known_so : (P R : List ℕ → List ℕ → Type 0) → ((x z : List ℕ) → P x z → R x z) → (a c : Option (List ℕ)) → StillKnown P a c → StillKnown R a c
known_so P R h a None p = tt
known_so P R h None (Some z) p = absurd p
known_so P R h (Some x) (Some z) p = h x z p

-- what no step tells
known_still : (R : List ℕ → List ℕ → Type 0) → ((x : List ℕ) → R x x) → (a : Option (List ℕ)) → StillKnown R a a
known_still R h None = tt
known_still R h (Some x) = h x

rose_then : (a b c : ℕ) → a ≤ b → Rose b c → Rose a c
rose_then a b c h (inl l) = inl (omega arith)
rose_then a b c h (inr e) = inr e

-- the first bytes of what was held with two texts after it
prefix_then : (held s t p mid q left : List ℕ) → held ++ s ≡ p ++ mid → mid ++ t ≡ q ++ left → held ++ (s ++ t) ≡ (p ++ q) ++ left
prefix_then held s t p mid q left e f =
    sym (append_assoc held s t) ∙ ap (λ l. l ++ t) e ∙ append_assoc p mid t ∙ ap (λ l. p ++ l) f ∙ sym (append_assoc p q left)

append_then : (x p y q z : List ℕ) → y ≡ x ++ p → z ≡ y ++ q → z ≡ x ++ (p ++ q)
append_then x p y q z e f = f ∙ ap (λ l. l ++ q) e ∙ append_assoc x p q

passes_then : (held s t mid left : List ℕ) (answer : Result Unit WriteFault) (x y z : List ℕ)
    → Buffers held s (Ok tt) mid x y → Buffers mid t answer left y z → Buffers held (s ++ t) answer left x z
passes_then held s t mid left (Ok u) x y z p q =
    (p.0 ++ q.0, prefix_then held s t p.0 mid q.0 left p.1 q.1, append_then x p.0 y q.0 z p.2 q.2)
passes_then held s t mid left (Err e) x y z p q =
    (p.0 ++ q.0, q.1, prefix_then held s t p.0 mid q.0 q.1 p.1 q.2, append_then x p.0 y q.0 z p.2 q.3)

rose_of_then : (a b c : ℕ) (answer : Result Unit WriteFault) → a ≤ b → OnErr answer (Rose b c) → OnErr answer (Rose a c)
rose_of_then a b c (Ok u) h r = tt
rose_of_then a b c (Err e) h r = rose_then a b c h r

-- a text was written, and then another one
pub passed_then : (a b c : Output) (held s mid t left : List ℕ) (answer : Result Unit WriteFault)
    → IsBuffered a held s (Ok tt) mid b → IsBuffered b mid t answer left c → IsBuffered a held (s ++ t) answer left c
passed_then a b c held s mid t left answer p q = record {
  written = known_then _ _ _ (passes_then held s t mid left answer) a.written b.written c.written p.written q.written;
  never_falls = omega (arith, p.never_falls, q.never_falls);
  failed = rose_of_then a.faults b.faults c.faults answer p.never_falls q.failed;
}

prefix_longer : (held s t x z : List ℕ) → AppendsPrefixOf (held ++ s) x z → AppendsPrefixOf (held ++ (s ++ t)) x z
prefix_longer held s t x z f =
    (f.0, f.1 ++ t, sym (append_assoc held s t) ∙ ap (λ l. l ++ t) f.2 ∙ append_assoc f.0 f.1 t, f.3)

-- a text was not written, nor the one after it
pub passed_stop : (a b : Output) (held s t mid left : List ℕ) (e d : WriteFault) → IsBuffered a held s (Err e) mid b → IsBuffered a held (s ++ t) (Err d) left b
passed_stop a b held s t mid left e d p = record {
  written = known_so _ _ (prefix_longer held s t) a.written b.written p.written;
  never_falls = p.never_falls;
  failed = p.failed;
}

-- a text that fits is held
pub passed_held : (a : Output) (held text left : List ℕ) → left ≡ held ++ text → IsBuffered a held text (Ok tt) left a
passed_held a held text left e = record {
  written = known_still _ (λ x. ([], sym e, sym (append-nil x))) a.written;
  never_falls = omega arith;
  failed = tt;
}

passes_of : (held text left : List ℕ) (answer : Result Unit WriteFault) → OnOk answer (left ≡ []) → (x z : List ℕ) → AppendsText (held ++ text) answer x z → Buffers held text answer left x z
passes_of held text left (Ok u) e x z w = (held ++ text, sym (ap (λ l. (held ++ text) ++ l) e ∙ append-nil (held ++ text)), w)
passes_of held text left (Err d) e x z w = w

-- what was held was written with this text after it
pub passed_of : (a c : Output) (held text left : List ℕ) (answer : Result Unit WriteFault)
    → OnOk answer (left ≡ []) → IsWritten a (held ++ text) answer c → IsBuffered a held text answer left c
passed_of a c held text left answer e w = record {
  written = known_so _ _ (passes_of held text left answer e) a.written c.written w.written;
  never_falls = w.never_falls;
  failed = w.failed;
}

appends_of : (held text left : List ℕ) (answer : Result Unit WriteFault) → OnOk answer (left ≡ []) → (x z : List ℕ) → Buffers held text answer left x z → AppendsText (held ++ text) answer x z
appends_of held text left (Ok u) e x z p = p.2 ∙ ap (λ l. x ++ l) (sym (p.1 ∙ ap (λ l. p.0 ++ l) e ∙ append-nil p.0))
appends_of held text left (Err d) e x z p = p

-- where nothing is left of what was held and of this text, it was written
pub written_of : (a c : Output) (held text left : List ℕ) (answer : Result Unit WriteFault)
    → OnOk answer (left ≡ []) → IsBuffered a held text answer left c → IsWritten a (held ++ text) answer c
written_of a c held text left answer e p = record {
  written = known_so _ _ (appends_of held text left answer e) a.written c.written p.written;
  never_falls = p.never_falls;
  failed = p.failed;
}

-- texts that are written in a loop: one more, or no more since it failed
more_text : {X : Type 0} (f : X → List ℕ) (xs : List X) (i : ℕ) (d : X) → i < length xs → flat_map f (take i xs) ++ f (get_or xs i d) ≡ flat_map f (take (i + 1) xs)
more_text f xs i d h = flat_map_more f [] (take i xs) (get_or xs i d) ∙ ap (flat_map f) (sym (take_more xs i d h))

pub passed_more : {X : Type 0} (f : X → List ℕ) (a b c : Output) (held mid left : List ℕ) (xs : List X) (i : ℕ) (d : X) (answer : Result Unit WriteFault) → i < length xs
    → IsBuffered a held (flat_map f (take i xs)) (Ok tt) mid b → IsBuffered b mid (f (get_or xs i d)) answer left c
    → IsBuffered a held (flat_map f (take (i + 1) xs)) answer left c
passed_more f a b c held mid left xs i d answer h p q =
    subst (λ t. IsBuffered a held t answer left c) (more_text f xs i d h) (passed_then a b c held (flat_map f (take i xs)) mid (f (get_or xs i d)) left answer p q)

-- the same where the next of the list is at hand
pub passed_item : {X : Type 0} (f : X → List ℕ) (a b c : Output) (held mid left : List ℕ) (xs : List X) (i : ℕ) (x : X) (answer : Result Unit WriteFault) → i < length xs → x ≡ get_or xs i x
    → IsBuffered a held (flat_map f (take i xs)) (Ok tt) mid b → IsBuffered b mid (f x) answer left c
    → IsBuffered a held (flat_map f (take (i + 1) xs)) answer left c
passed_item f a b c held mid left xs i x answer h e p q =
    passed_more f a b c held mid left xs i x answer h p (subst (λ t. IsBuffered b mid t answer left c) (ap f e) q)

pub passed_rest : {X : Type 0} (f : X → List ℕ) (a c : Output) (held mid left : List ℕ) (xs : List X) (i : ℕ) (e d : WriteFault)
    → IsBuffered a held (flat_map f (take i xs)) (Err e) mid c → IsBuffered a held (flat_map f xs) (Err d) left c
passed_rest f a c held mid left xs i e d p =
    subst (λ t. IsBuffered a held t (Err d) left c) (sym (flat_map-append f (take i xs) (drop i xs)) ∙ ap (flat_map f) (take-append-drop i xs))
    (passed_stop a c held (flat_map f (take i xs)) (flat_map f (drop i xs)) mid left e d p)

on_ok : (answer : Result Unit WriteFault) (P : Type 0) → P → OnOk answer P
on_ok (Ok u) P p = p
on_ok (Err e) P p = tt

-- what was held was put, and then a text that does not fit
pub passed_long : (a b c : Output) (held still mid text left : List ℕ) (answer : Result Unit WriteFault) → still ≡ held → mid ≡ [] → left ≡ []
    → IsBuffered a still [] (Ok tt) mid b → IsWritten b text answer c → IsBuffered a held text answer left c
passed_long a b c held still mid text left answer s e f p w =
    passed_then a b c held [] mid text left answer (subst (λ h. IsBuffered a h [] (Ok tt) mid b) s p)
    (passed_of b c mid text left answer (on_ok answer (left ≡ []) f) (subst (λ m. IsWritten b (m ++ text) answer c) (sym e) w))

-- a text in other words
pub passed_text : (a c : Output) (held s t left : List ℕ) (answer : Result Unit WriteFault) → s ≡ t → IsBuffered a held s answer left c → IsBuffered a held t answer left c
passed_text a c held s t left answer e p = subst (λ u. IsBuffered a held u answer left c) e p

-- a text was not written, which ends the call
pub passed_end : (a c : Output) (held s t mid left : List ℕ) (e : WriteFault) (Q : WriteFault → Type 0) (answer : Result Unit WriteFault) → IsErrAnd answer Q
    → IsBuffered a held s (Err e) mid c → IsBuffered a held (s ++ t) answer left c
passed_end a c held s t mid left e Q (Ok u) h p = absurd h
passed_end a c held s t mid left e Q (Err d) h p = passed_stop a c held s t mid left e d p
