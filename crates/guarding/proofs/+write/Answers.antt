-- By the process's own code, and by which part has the event.
use Rattle.std.proofs.Common.{ℕ, ◌+◌, ◌-◌, List, length, sym, ap, ◌∙◌, arith}
use Rattle.postfix.specs.declared.Code.{Code}
use Rattle.parts.specs.code.Cuts.{event_count}
use Rattle.variables.specs.code.Spelled.{naming}
use Rattle.conditions.proofs.Split.{some_codes, own_last, rest_inner}
use Rattle.guarding.proofs.Down.{leaf_guarded, again_guarded, first_guarded, reset_guarded, second_guarded}
use Rattle.guarding.proofs.+write.Goals as goal

pub returns-in_default : goal.returns-in_default
returns-in_default t c = λ p e f o l. absurd (some_codes _ p e c.in_default.ensures.cases)

pub returns-in-Leaf : goal.returns-in-Leaf
returns-in-Leaf t c =
    λ p e f o l.
    leaf_guarded (naming c.args.spelling.now) c.args.k c.args.from c.args.e _ _ p (sym c.in-Leaf.is ∙ own_last _ _ _ p e c.in-Some.ensures.cases) f.numbered (c.idle_line.ensures (omega (arith, c.if-from-gt511.false)))

pub returns-in-Again : goal.returns-in-Again
returns-in-Again t c =
    λ p e f o l. again_guarded (naming c.args.spelling.now) c.args.k c.args.from c.args.e _ c.args.w.now p (sym c.in-Again.is ∙ own_last _ _ _ p e c.in-Some.ensures.cases)

pub returns-then-e-next : goal.returns-then-e-next
returns-then-e-next t c =
    λ p e f o l.
    let a = c.args in
    let s = c.in-Some.ensures.cases in
    let other = c.in_default-code in
    let parts = c.split_at.ensures in
    let few = f.few in
    let count = ap (λ (i : ℕ). a.from + i) (c.events.ensures.0 ∙ ap event_count parts.front) in
    let after = c.after.ensures.0 ∙ ap (λ (cs : List Code). event_count cs - 1) parts.back in
    let asked = c.ask_second-more.ensures (omega (arith, few, s.1, c.events.ensures.1, c.after.ensures.1, parts.front_len, parts.back_len)) in
    first_guarded (naming a.spelling.now) a.k c.in-Some.last.now c.in-Some.inner.now a.from a.e (omega (arith, few, s.1)) c.cut.ensures.0
    (omega (arith, ap length parts.front, parts.front_len, c.cut.ensures.1)) count after c.if-e-next.true asked
    (λ q g r i j. c.write.ensures q (parts.front ∙ g) (rw parts.front r) i (omega (arith, l, j, s.1, parts.front_len, c.cut.ensures.1)))
    p (own_last _ _ _ p e s) (rest_inner _ _ _ p e s) f.numbered o other.not-Leaf other.not-Again

pub returns-in-Rounds : goal.returns-in-Rounds
returns-in-Rounds t c =
    λ p e f o l.
    let a = c.args in
    let s = c.in-Some.ensures.cases in
    let parts = c.split_at.ensures in
    let few = f.few in
    let count = ap (λ (i : ℕ). a.from + i) (c.events.ensures.0 ∙ ap event_count parts.front) in
    reset_guarded (naming a.spelling.now) a.k c.in-Some.last.now c.in-Some.inner.now a.from a.e (omega (arith, few, s.1)) c.cut.ensures.0
    (omega (arith, ap length parts.front, parts.front_len, c.cut.ensures.1)) count (omega (arith, c.if-e-next.false))
    (λ q g r. c.ask_first-more.ensures q (parts.front ∙ g) (rw parts.front r))
    p (sym c.in-Rounds.is ∙ own_last _ _ _ p e s) c.in-Rounds.is (rest_inner _ _ _ p e s) f.numbered

pub returns-in_default-code-2 : goal.returns-in_default-code-2
returns-in_default-code-2 t c =
    λ p e f o l.
    let a = c.args in
    let s = c.in-Some.ensures.cases in
    let other = c.in_default-code in
    let parts = c.split_at.ensures in
    let few = f.few in
    let count = ap (λ (i : ℕ). a.from + i) (c.events.ensures.0 ∙ ap event_count parts.front) in
    second_guarded (naming a.spelling.now) a.k c.in-Some.last.now c.in-Some.inner.now a.from a.e (omega (arith, few, s.1)) c.cut.ensures.0
    (omega (arith, ap length parts.front, parts.front_len, c.cut.ensures.1)) count (omega (arith, c.if-e-next.false))
    (λ q g r. c.ask_first-more.ensures q (parts.front ∙ g) (rw parts.front r))
    (λ q g r i j. c.write-in_default-code.ensures q (parts.back ∙ g) (rw parts.back r) i (omega (arith, l, j, s.1, parts.back_len, c.cut.ensures.1)))
    p (own_last _ _ _ p e s) (rest_inner _ _ _ p e s) f.numbered o other.not-Leaf other.not-Again c.in_default-code-2.not-Rounds
