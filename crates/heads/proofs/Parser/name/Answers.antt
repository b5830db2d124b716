-- `heads::Parser::name` meets its contract: a name, or another token.
use Rattle.std.proofs.Common.{sym}
use Rattle.walked.specs.code.Kinds.{kind_effect}
use Rattle.walked.proofs.Laws.{starts, closes, off_grammar, name_takes, name_other}
use Rattle.heads.proofs.Parser.name.Goals as goal

pub returns-then-not-is_name : goal.returns-then-not-is_name
returns-then-not-is_name c s = off_grammar starts c.next-t.ensures c.at.ensures (name_other _ _ (sym c.if-not-is_name.ensures))

pub returns : goal.returns
unfolding kind_effect
returns c s =
    rw (c.put.ensures, c.named-row.ensures, c.row.ensures) (closes starts c.next-t.ensures (name_takes _ _ (sym c.if-not-is_name.ensures)))
