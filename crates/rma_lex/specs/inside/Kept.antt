-- How the fields of a cutter stand for what it keeps.
use Rattle.std.specs.Prelude.{◌+◌, ◌≤◌, length, drop}
use Rattle.rma_base.specs.Limits.{fed_limit}
use Rattle.rma_lex.specs.declared.cutter.LineCutter.TheInside.{Inside}
use Rattle.rma_lex.specs.Cutting.{Cutting}
use Rattle.rma_lex.specs.inside.Found.{Knows}

-- the text from the start of the next line on is what is left
abbrev pub cutting_of : Inside → Cutting
cutting_of cutter =
    record { fed = cutter.fed; handed = cutter.handed; rest = drop cutter.feeds.start cutter.text.items; closed = cutter.closed }

-- The line feeds are those of the text, and each line that was handed out took a byte.
pub record IsKept (cutter : Inside) : Type 0 where
  pub knows : Knows cutter.feeds cutter.text.items
  pub counted : cutter.handed + length cutter.text.items ≤ cutter.fed + cutter.feeds.start
  pub limited : cutter.fed ≤ fed_limit
