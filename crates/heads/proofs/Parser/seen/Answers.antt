-- `heads::Parser::seen` meets its contract: the class of the byte after the gap tells the sign.
use Rattle.std.proofs.Common.{refl, sym, ◌∙◌}
use Rattle.tokens.proofs.Shown.{sign_byte}
use Rattle.lexer.proofs.Positions.{no_token, sign_here, other_token}
use Rattle.heads.proofs.Sign.{sign_small}
use Rattle.heads.proofs.Parser.seen.Goals as goal

pub returns-then-self-start : goal.returns-then-self-start
returns-then-self-start c = (_, (no_token _ _ _ c.gap-start.ensures c.if-self-start.true, refl, refl))

pub returns-then-class : goal.returns-then-class
returns-then-class c =
    other_token _ _ _ c.gap-start.ensures c.if-self-start.false _ c.class.ensures _ (λ q. c.if-class.true (q ∙ sym c.class-2.ensures))

pub returns : goal.returns
returns c =
    let q = c.if-class.false ∙ c.class-2.ensures in
    let n = sign_here _ _ _ c.gap-start.ensures c.if-self-start.false _ c.class.ensures (rw q (sign_small c.args.want)) in
    (_, (refl, rw (q, sign_byte c.args.want) at n))
