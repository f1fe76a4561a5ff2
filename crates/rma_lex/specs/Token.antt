-- What a token is of its line.
use Rattle.rma_lex.specs.Field.{Field}
use Rattle.rma_lex.specs.declared.token.Token.{Token}

-- the field that a token is
abbrev pub field_of : Token → Field
field_of token = record { start = token.start; text = token.text.now }
