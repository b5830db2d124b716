-- The pars read are the first of those around.
use Rattle.std.proofs.Common.{◌≡◌, ℕ, ◌≤◌, List, length, get_or, refl, sym, ◌∙◌, arith}
use borrow.Author.Tests.{ne_eqb}
use Rattle.std.proofs.Common.{⊎_elim}
use Rattle.std.proofs.lemmas.Bool.{cases_lt}
use Rattle.std.proofs.lemmas.List.{get_or_past}
use Rattle.tokens.specs.Classes.{class_of}
use Rattle.names.specs.code.Pars.{par_start}
use Rattle.names.proofs.Agreed.{again_none, again_some}
use Rattle.names.proofs.Reading.{read_start, read_end, read_inside, read_other, read_next, ends_here}
use Rattle.names.proofs.Nodes.is_listed.Goals as goal

pub loop-k-init : goal.loop-k-init
loop-k-init c = λ at ps ns e l a. read_start e l a

pub returns-in_default : goal.returns-in_default
returns-in_default c = λ at ps ns e l a.
    let s = c.loop-k.invariant at ps ns e l a in
    sym (ne_eqb c.loop-k.k-index _ (λ z. omega (arith, c.loop-k-test.true))) ∙ read_end s refl refl refl (c.in_default.ensures (read_inside s refl)) (omega (arith, c.loop-k-test.true))

-- A letter stands inside the text.
inside : (text : List ℕ) (p : ℕ) → class_of (get_or text p 0) ≡ 5 → p ≤ length text
unfolding class_of
inside text p e =
    ⊎_elim (λ h. omega arith) (λ h. let z : ◌≡◌ {A = ℕ} 0 5 = rw (get_or_past text p 0 h) at e in absurd (omega arith)) (cases_lt p (length text))

pub par_again-requires : goal.par_again-requires
par_again-requires c = inside c.args.self.now.lexer.now.text.now _ c.in-Some.ensures.2

pub returns-in_default-par_again : goal.returns-in_default-par_again
returns-in_default-par_again c = λ at ps ns e l a.
    let s = c.loop-k.invariant at ps ns e l a in
    let p = c.in-Some.ensures in
    let text = c.args.self.now.lexer.now.text.now in
    let here = a.ended c.loop-k.k-index c.loop-k-test.true in
    read_other s refl p.1 refl p.2 c.loop-k-test.true refl refl
    (again_none text c.in-Some.par (par_start c.args.self.now.rows.now c.args.around.now c.loop-k.k-index) (sym c.in_default-par_again.is ∙ c.par_again.ensures here.0 here.1))

pub loop-k-preserved : goal.loop-k-preserved
loop-k-preserved c = λ at ps ns e l a.
    let s = c.loop-k.invariant at ps ns e l a in
    let p = c.in-Some.ensures in
    let text = c.args.self.now.lexer.now.text.now in
    let here = a.ended c.loop-k.k-index c.loop-k-test.true in
    let found = again_some text c.in-Some.par (par_start c.args.self.now.rows.now c.args.around.now c.loop-k.k-index) _ (sym c.in-Some-par_again.is ∙ c.par_again.ensures here.0 here.1) in
    read_next s refl p.1 refl p.2 c.loop-k-test.true refl refl found.0 found.1

pub returns : goal.returns
returns c = λ at ps ns e l a.
    let s = c.loop-k.invariant at ps ns e l a in
    ends_here s (omega (arith, c.loop-k-test.false, c.loop-k.auto.k-index-end)) _ c.next_par-2.ensures c.is_none.ensures
