-- `lexer::place` meets its contract: the same comparisons in the same order.
use Rattle.std.proofs.Common.{◌∙◌, ℕ, List, Bor, refl, rules, tests}
use Rattle.std.proofs.lemmas.Iterator.{YieldsList-from_slice}
use Rattle.std.proofs.lemmas.Iterator.Search.{position_from_yields_List}
use Rattle.diagram.specs.Names.{same}
use Rattle.tokens.specs.Words.{keywords}
use Rattle.lexer.proofs.Keywords.{first_alike}
use Rattle.lexer.proofs.place.Goals as goal

pub returns : goal.returns
unfolding keywords
returns c =
    let w = c.args.word.now in
    let p = position_from_yields_List (λ k. same w k.now) _ _ c.position.result c.position.ensures.ran (YieldsList-from_slice _ c.iter.ensures.rest) (λ x b q k. search (rules, tests)) in
    p ∙ first_alike {A = Bor (List ℕ)} (λ k. k.now) w c.iter.ensures.rest keywords refl
