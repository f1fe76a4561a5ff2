-- The spans of one call more.
use Rattle.std.proofs.Common.{◌≡◌, ℕ, ◌+◌, List, [], ◌++◌, All, map, take, Option, Some, None, slice_get, sym, subst, ◌∙◌, refl}
use Rattle.std.specs.List.{cons_option}
use Rattle.std.proofs.lemmas.List.{map-append}
use Rattle.std.proofs.lemmas.List.Elements.{All-nil, All-cons, All-append, All-weaker}
use Rattle.rma_call.specs.Call.{Call}
use Rattle.rma_run.proofs.WalkLemmas.{by_number_taken}
use Rattle.rma_cover.specs.Cover.{StayThere}
use Rattle.rma_rules.specs.declared.lock.LockKey.{LockKey}
use Rattle.rma_touch.specs.Touches.{Span}
use Rattle.rma_span.specs.declared.spans.CallSpans.{CallSpans}
use Rattle.rma_span.specs.declared.spans.OwnSpan.{OwnSpan}
use Rattle.rma_span.specs.declared.spans.TargetSpan.{TargetSpan}
use Rattle.rma_span.specs.Span.{Origin, own_span_of, spanned, target_span_of}
use Rattle.rma_span.specs.inside.Stored.{ArePut, AreSpans, AreSpansOf, IsAtTarget, IsOwn}

-- ---- what is kept stays where lists grow

own_stays : (lists more : List (List LockKey)) (span : Option Span) (kept : OwnSpan) → StayThere lists more → IsOwn lists span kept → IsOwn more span kept
own_stays lists more span kept stay own = record { locks = own.locks; listed = stay kept.locks own.locks own.listed; span_is = own.span_is }

target_stays : (lists more : List (List LockKey)) (span : Option Span) (kept : Option TargetSpan) → StayThere lists more → IsAtTarget lists span kept → IsAtTarget more span kept
target_stays lists more span None stay at = at
target_stays lists more span (Some kept) stay (locks, listed, is) = (locks, stay kept.locks locks listed, is)

stays : (own : Origin) (lists more targets others : List (List LockKey)) (kept : CallSpans) → StayThere lists more → StayThere targets others → AreSpansOf own lists targets kept → AreSpansOf own more others kept
stays own lists more targets others kept stay remain are =
    record {
      call = are.call;
      there = are.there;
      own_is = own_stays lists more (own_span_of own kept.call are.call are.call.what) kept.own stay are.own_is;
      target_is = target_stays targets others (target_span_of own kept.call are.call.what) kept.target remain are.target_is;
    }

-- ---- one call more

number_of : CallSpans → ℕ
number_of spans = spans.call

more_numbers : (own : Origin) (number : ℕ) (call : Call) (lists targets : List (List LockKey)) (one : Option CallSpans) → ArePut own number call lists targets one
    → map (λ (spans : CallSpans). spans.call) (cons_option one []) ≡ spanned own number call
more_numbers own number call lists targets None put = rw put refl
more_numbers own number call lists targets (Some kept) (same, mine, theirs) = rw (mine.span_is, same) refl

more_each : (own : Origin) (number : ℕ) (call : Call) (lists targets : List (List LockKey)) (one : Option CallSpans) → slice_get own.sound number ≡ Some call → ArePut own number call lists targets one
    → All (AreSpansOf own lists targets) (cons_option one [])
more_each own number call lists targets None there put = All-nil (AreSpansOf own lists targets)
more_each own number call lists targets (Some kept) there (same, mine, theirs) =
    All-cons (AreSpansOf own lists targets) kept []
    (record {
      call = call;
      there = subst (λ n. slice_get own.sound n ≡ Some call) (sym same) there;
      own_is = subst (λ n. IsOwn lists (own_span_of own n call call.what) kept.own) (sym same) mine;
      target_is = subst (λ n. IsAtTarget targets (target_span_of own n call.what) kept.target) (sym same) theirs;
    })
    (All-nil (AreSpansOf own lists targets))

pub spans_more : (own : Origin) (number : ℕ) (call : Call) (lists more targets others : List (List LockKey)) (all : List CallSpans) (one : Option CallSpans) → slice_get own.sound number ≡ Some call
    → StayThere lists more → StayThere targets others → ArePut own number call more others one → AreSpans own (take number own.sound) lists targets all
    → AreSpans own (take (number + 1) own.sound) more others (all ++ cons_option one [])
spans_more own number call lists more targets others all one there stay remain put are =
    record {
      numbers = map-append (λ (spans : CallSpans). spans.call) all (cons_option one [])
          ∙ (λ t. are.numbers t ++ more_numbers own number call more others one put t)
          ∙ by_number_taken (spanned own) own.sound number call [] there;
      each = All-append (AreSpansOf own more others) all (cons_option one [])
          (All-weaker (AreSpansOf own lists targets) (AreSpansOf own more others) (λ kept. stays own lists more targets others kept stay remain) all are.each)
          (more_each own number call more others one there put);
    }
