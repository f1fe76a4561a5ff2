use Rattle.std.proofs.Common.{[], refl, ap, subst, sym, take}
use Rattle.rma_lex.specs.Cutting.{Cutting}
use Rattle.rma_log.specs.inside.Reading.{HasRead}
use Rattle.rma_book.proofs.rank_book.RankBook.sharing.Goals as goal

pub returns : goal.returns
returns c = record {
  in_memory = refl;
  fed = c.new-2.ensures.text;
  goes_on = ap (λ (cutting : Cutting). cutting.closed) c.new-2.ensures.empty;
  whole = ap (λ (cutting : Cutting). cutting.handed) c.new-2.ensures.empty;
  read = subst (λ n. HasRead c.args.rank.0 c.args.logs (take n []) c.in_ok-reader.reader) (sym (ap (λ (cutting : Cutting). cutting.handed) c.new-2.ensures.empty)) c.in_ok-reader.ensures;
  fault_read = refl;
}
