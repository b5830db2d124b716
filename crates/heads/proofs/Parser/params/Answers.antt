-- `heads::Parser::params` meets its contract: comma by comma, up to the sw.
use Rattle.std.proofs.Common.{sym, arith}
use Rattle.tokens.specs.Token.{comma}
use Rattle.walked.proofs.Laws.{ends, off_grammar, comma_taken, comma_other, par_taken, sw_taken, sw_off, sign_some, name_some, passed}
use Rattle.heads.proofs.Parser.params.Goals as goal

pub returns-then-not-is_sign : goal.returns-then-not-is_sign
returns-then-not-is_sign c s = off_grammar (c.loop-p.invariant s) c.next-comma.ensures c.at.ensures (comma_other _ _ (sym c.if-not-is_sign.ensures))

pub returns-in_err-switch : goal.returns-in_err-switch
returns-in_err-switch c s =
    let e = c.in_err-switch.ensures.err in
    let l = comma_taken c.next-comma.ensures (sym c.if-not-is_sign.ensures) (c.loop-p.invariant s) in
    rw (passed c.from_residual.ensures) (off_grammar l c.next-t.ensures e.0 (sw_off _ _ (sym c.if-not-is_name.ensures) e.1))

pub returns-then-not-is_name : goal.returns-then-not-is_name
returns-then-not-is_name c s =
    let v = c.in_ok-switch.ensures.ok in
    let l = comma_taken c.next-comma.ensures (sym c.if-not-is_sign.ensures) (c.loop-p.invariant s) in
    rw (c.put.ensures, c.switched-row.ensures, c.row.ensures) (ends (c.sign.ensures _) (sw_taken c.next-t.ensures _ v.0 v.2 l))

pub loop-p-smaller : goal.loop-p-smaller
loop-p-smaller c =
    let a = c.next-comma.ensures.onward (sign_some comma c.next-comma.result.kind (sym c.if-not-is_sign.ensures)) in
    let b = c.next-t.ensures.onward (name_some c.next-t.result.kind (sym c.if-not-is_name.ensures)) in
    omega arith

pub loop-p-preserved : goal.loop-p-preserved
loop-p-preserved c s =
    let l = comma_taken c.next-comma.ensures (sym c.if-not-is_sign.ensures) (c.loop-p.invariant s) in
    par_taken c.next-t.ensures (sym c.if-not-is_name.ensures) l
