-- The words, and the drawings at the limits of number 6, computed over both tables.
use mathlib.Core.Path.{refl}
use Rattle.tokens.specs.Classes.{class_of}
use Rattle.tokens.specs.Remarks.{stretch}
use Rattle.tokens.specs.Words.{front, keywords}
use Rattle.tokens.specs.Spans.{width, spans, spans_of}
use Rattle.tokens.specs.Token.{named, word_token, token_of, text_tokens}
use Rattle.tokens.specs.Kinds.{token_kind}
use Rattle.grammar.specs.Machine.{expand, run, outcome}
use Rattle.grammar.specs.Worked.{words, Tokened, drawings, Worked}

pub tokens_worked : Tokened words
unfolding class_of keywords named word_token token_of token_kind
tokens_worked = (refl, refl)

pub worked : Worked drawings
unfolding class_of stretch front keywords width spans spans_of named word_token token_of text_tokens expand run outcome
worked = refl
