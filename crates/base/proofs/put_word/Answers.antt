-- `base::put_word` meets its contract: four bytes, one after the other; past the end nothing is stored.
use Rattle.base.proofs.Fields.{word_put, word_past}
use Rattle.base.proofs.put_word.Goals as goal

pub returns-then-bytes-i : goal.returns-then-bytes-i
returns-then-bytes-i c = word_past _ _ _ c.if-bytes-i.true

pub returns : goal.returns
returns c =
    word_put _ _ _ _ _ _ _
    c.put.ensures
    c.put-2.ensures
    c.put-3.ensures
    c.put-4.ensures
