-- The short texts that are worked through, computed over the table.
use mathlib.Core.Path.{refl}
use Rattle.tokens.specs.Classes.{class_of}
use Rattle.tokens.specs.Remarks.{stretch}
use Rattle.tokens.specs.Words.{front, keywords}
use Rattle.tokens.specs.Spans.{width, spans, spans_of, places}
use Rattle.tokens.specs.Rest.{rest}
use Rattle.tokens.specs.Token.{named, word_token, token_of, text_tokens}
use Rattle.tokens.specs.Scanned.{foreign_in, first_long, scan_of}
use Rattle.grammar.specs.Machine.{expand}
use Rattle.grammar.specs.Keys.{keys_from, keyword_at, name_at}
use Rattle.walked.specs.Walk.{begun, effect, walk, ending}
use Rattle.walked.specs.Rows.{pars_in, row_node, row_nodes}
use Rattle.rules.specs.Kept.{fault}
use Rattle.rules.specs.Counted.{times, total}
use Rattle.rules.specs.Judged.{verdict}
use Rattle.reading.specs.Answers.{read_of}
use Rattle.reading.specs.Worked.{texts, Worked}

pub worked : Worked texts
unfolding class_of stretch front keywords width spans spans_of places rest named word_token token_of text_tokens foreign_in first_long scan_of expand keys_from keyword_at name_at begun effect walk ending pars_in row_node row_nodes fault times total verdict read_of
worked = refl
