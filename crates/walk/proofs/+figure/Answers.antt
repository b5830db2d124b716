-- The readers that call each other meet their contracts.
use Rattle.std.proofs.Common.{[], ◌≡◌, ◌⊎◌, ℕ, refl, arith}
use mathlib.Core.Logic.{inl, inr}
use Rattle.tokens.specs.Kinds.{shown_key}
use Rattle.tokens.specs.declared.Keyword.{Keyword}
use Rattle.tokens.specs.declared.Keyword.TheVariants.{All, Some as SomeOf, One}
use Rattle.grammar.specs.Machine.{replicator_parts, parts}
use Rattle.walked.proofs.Laws.{starts, stands, halts, goes, ends, passed, node_refused, node_read, another_child, another_member, flow_ends, group_ends}
use Rattle.walk.proofs.+figure.Goals as goal

pub body-returns-in_err-p : goal.body-returns-in_err-p
body-returns-in_err-p t c s = halts (c.in_err-p.ensures _) (passed c.from_residual.ensures) _ starts

pub body-returns-in_err-p-2 : goal.body-returns-in_err-p-2
body-returns-in_err-p-2 t c s =
    halts (c.in_err-p-2.ensures s) (passed c.from_residual-in_err-p-2.ensures) _ (goes (c.in_ok-p.ensures _) _ starts)

pub body-returns : goal.body-returns
body-returns t c s =
    ends (c.sign-2.ensures _) (goes (c.in_ok-p-2.ensures s) _ (goes (c.in_ok-p.ensures _) _ starts))

pub read_child-returns-in_err-keyword : goal.read_child-returns-in_err-keyword
read_child-returns-in_err-keyword t c = node_refused c.in_err-keyword.ensures (passed c.from_residual.ensures)

pub read_child-returns : goal.read_child-returns
read_child-returns t c = node_read c.in_ok-keyword.ensures c.of_keyword.ensures

pub flow-returns-in_err-p : goal.flow-returns-in_err-p
flow-returns-in_err-p t c s = halts (c.in_err-p.ensures s) (passed c.from_residual.ensures) _ starts

pub flow-returns-in_err-p-2 : goal.flow-returns-in_err-p-2
flow-returns-in_err-p-2 t c s =
    ends (halts (c.in_err-p-2.ensures s) (passed c.from_residual-in_err-p-2.ensures) _ (c.loop-p.invariant s))
    (goes (c.in_ok-p.ensures s) _ starts)

pub flow-returns-in_err-p-3 : goal.flow-returns-in_err-p-3
flow-returns-in_err-p-3 t c s =
    ends
    (halts (c.in_err-p-3.ensures s) (passed c.from_residual-in_err-p-3.ensures) _ (goes (c.in_ok-p-2.ensures s) _ (c.loop-p.invariant s)))
    (goes (c.in_ok-p.ensures s) _ starts)

pub flow-returns-in-Some : goal.flow-returns-in-Some
flow-returns-in-Some t c s =
    ends
    (flow_ends (c.closing.ensures.shut _ c.in-Some.is)
    (goes (c.in_ok-p-3.ensures s) _ (goes (c.in_ok-p-2.ensures s) _ (c.loop-p.invariant s))) refl)
    (goes (c.in_ok-p.ensures s) _ starts)

pub flow-loop-p-smaller : goal.flow-loop-p-smaller
flow-loop-p-smaller t c =
    let a = (c.in_ok-p-2.ensures []).onward _ refl in
    let b = (c.in_ok-p-3.ensures []).onward _ refl in
    omega arith

pub flow-loop-p-preserved : goal.flow-loop-p-preserved
flow-loop-p-preserved t c s =
    let z = c.closing.ensures.another c.in_default.is in
    another_child z.1.0 (goes (c.in_ok-p-3.ensures s) _ (goes (c.in_ok-p-2.ensures s) _ (c.loop-p.invariant s))) z.1.1

pub group-returns-in_err-p : goal.group-returns-in_err-p
group-returns-in_err-p t c s = halts (c.in_err-p.ensures _) (passed c.from_residual.ensures) _ starts

pub group-returns-in_err-p-2 : goal.group-returns-in_err-p-2
group-returns-in_err-p-2 t c s =
    halts (c.in_err-p-2.ensures s) (passed c.from_residual-in_err-p-2.ensures) _ (goes (c.in_ok-p.ensures _) _ starts)

pub group-returns-in_err-p-3 : goal.group-returns-in_err-p-3
group-returns-in_err-p-3 t c s =
    ends (halts (c.in_err-p-3.ensures s) (passed c.from_residual-in_err-p-3.ensures) _ (c.loop-p.invariant s))
    (goes (c.in_ok-p-2.ensures s) _ (goes (c.in_ok-p.ensures _) _ starts))

pub group-returns-in-Some : goal.group-returns-in-Some
group-returns-in-Some t c s =
    ends
    (group_ends (c.closing.ensures.shut _ c.in-Some.is) (goes (c.in_ok-p-3.ensures s) _ (c.loop-p.invariant s)) refl)
    (goes (c.in_ok-p-2.ensures s) _ (goes (c.in_ok-p.ensures _) _ starts))

pub group-loop-p-smaller : goal.group-loop-p-smaller
group-loop-p-smaller t c = let a = (c.in_ok-p-3.ensures []).onward _ refl in omega arith

pub group-loop-p-preserved : goal.group-loop-p-preserved
group-loop-p-preserved t c s =
    let z = c.closing.ensures.another c.in_default.is in
    another_member z.1.0 (goes (c.in_ok-p-3.ensures s) _ (c.loop-p.invariant s)) z.1.1

pub read_member-returns-in_err-keyword : goal.read_member-returns-in_err-keyword
read_member-returns-in_err-keyword t c = node_refused c.in_err-keyword.ensures (passed c.from_residual.ensures)

pub read_member-returns : goal.read_member-returns
read_member-returns t c = node_read c.in_ok-keyword.ensures c.of_keyword.ensures

pub read_member-overflow_sub-depth : goal.read_member-overflow_sub-depth
read_member-overflow_sub-depth t c = (c.in_ok-keyword.ensures.taken _ _ refl).1

pub read_member-of_keyword-requires : goal.read_member-of_keyword-requires
read_member-of_keyword-requires t c = let l = (c.in_ok-keyword.ensures.taken _ _ refl).1 in omega arith

-- The keyword of a replicator is followed by a par.
replicated : {k : Keyword} (d : ℕ) → (k ≡ All) ⊎ ((k ≡ SomeOf) ⊎ (k ≡ One)) → parts (shown_key k) d ≡ replicator_parts d
replicated d (inl e) = rw e
replicated d (inr (inl e)) = rw e
replicated d (inr (inr e)) = rw e

pub of_keyword-returns-in_err-p-in-All : goal.of_keyword-returns-in_err-p-in-All
of_keyword-returns-in_err-p-in-All t c s =
    halts (c.in_err-p-in-All.ensures s) (passed c.from_residual.ensures) _ (stands (replicated _ c.in-All.is))

pub of_keyword-returns-in_ok-p-in-All : goal.of_keyword-returns-in_ok-p-in-All
of_keyword-returns-in_ok-p-in-All t c s = ends (c.body.ensures s) (goes (c.in_ok-p-in-All.ensures s) _ (stands (replicated _ c.in-All.is)))
