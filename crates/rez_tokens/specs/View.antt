use Rattle.rez_tokens.specs.declared.token.Lexeme.{Lexeme as HeldLexeme}
use Rattle.rez_tokens.specs.declared.token.Lexeme.TheVariants as held
use Rattle.rez_tokens.specs.declared.token.Token.{Token as HeldToken}
use Rattle.rez_tokens.specs.Tokens.{Token, Lexeme, Word, Number, Text, Hex, Literal, Function, Mark, Filled}

-- The tokens of the code.

abbrev pub lexeme_of : HeldLexeme → Lexeme
lexeme_of (held.Word v) = Word v.items
lexeme_of (held.Number n) = Number n
lexeme_of (held.Text v) = Text v.items
lexeme_of (held.Hex v) = Hex v.items
lexeme_of (held.Literal v) = Literal v.items
lexeme_of (held.Function v) = Function v.items
lexeme_of (held.Mark b) = Mark b
lexeme_of (held.Filled v) = Filled v.items

abbrev pub token_of : HeldToken → Token
token_of t = record { line = t.line; lexeme = lexeme_of t.lexeme }
