-- `names::Nodes::par_again` meets its contract: the bytes cut out are compared, and the one that stands after them.
use Rattle.std.proofs.Common.{◌≡◌, ℕ, false, not, List, Option, eqb, ◌+◌, ◌-◌, take, refl, ap, sym, ◌∙◌, ⊎_elim, arith}
use Rattle.std.specs.Cmp.Lexicographic.{pointwise}
use Rattle.std.proofs.lemmas.Slice.Eq.{bytes_eq-Decides}
use Rattle.base.proofs.Truth.{not_no}
use Rattle.tokens.proofs.Between.{between_in, between_low, between_high}
use Rattle.walked.specs.declared.Row.{Row}
use Rattle.walked.specs.Rows.{past_word}
use Rattle.names.specs.code.Pars.{again}
use Rattle.names.proofs.Agreed.{cut_end, cut_longer}
use Rattle.names.proofs.Its.{its_name, its_end}
use Rattle.names.proofs.Nodes.par_again.Goals as goal

module _ (text : List ℕ) {r s : Row} (e : r ≡ s) {x : ℕ} (X : x ≡ r.node.name) where
  ends : {y : ℕ} → y ≡ r.past → s.past ≡ past_word text s.node.name → y ≡ past_word text x
  ends Y q = Y ∙ its_end e ∙ q ∙ ap (past_word text) (sym (X ∙ its_name e))

  onto : (at : ℕ) {v : Option ℕ} → v ≡ again text at x → v ≡ again text at s.node.name
  onto at q = q ∙ ap (again text at) (X ∙ its_name e)

-- What was cut out is the same.
same_bytes : (a n : ℕ) (v w : List ℕ) → false ≡ not (pointwise eqb (take (a + n - a) v) (take n w)) → take n v ≡ take n w
same_bytes a n v w e =
    let q : a + n - a ≡ n = omega arith in
    (bytes_eq-Decides (take n v) (take n w)).0 (not_no _ (sym (rw q at e)))

pub returns-then-class-gt-UNDERSCORE : goal.returns-then-class-gt-UNDERSCORE
returns-then-class-gt-UNDERSCORE c = λ e l.
    let text = c.args.self.now.lexer.now.text.now in
    let w = ends text c.row-row.ensures c.name-start.ensures c.end-end.ensures.value e in
    let s = same_bytes c.args.at (c.end-end.result - c.name-start.result) _ _ c.if-ne.ensures in
    let f = ⊎_elim (between_low 5 7 _) (λ h. between_high 5 7 _ h.1) c.if-class-gt-UNDERSCORE.either in
    onto text c.row-row.ensures c.name-start.ensures c.args.at (cut_end text c.args.at _ _ w refl s c.at.ensures (rw (← c.class-class.ensures) f))

pub returns-else-class-gt-UNDERSCORE : goal.returns-else-class-gt-UNDERSCORE
returns-else-class-gt-UNDERSCORE c = λ e l.
    let text = c.args.self.now.lexer.now.text.now in
    let w = ends text c.row-row.ensures c.name-start.ensures c.end-end.ensures.value e in
    let s = same_bytes c.args.at (c.end-end.result - c.name-start.result) _ _ c.if-ne.ensures in
    let h = c.if-class-gt-UNDERSCORE.false in
    onto text c.row-row.ensures c.name-start.ensures c.args.at
    (cut_longer text c.args.at _ _ w refl s c.at.ensures (rw (← c.class-class.ensures) (between_in 5 7 _ h.0 h.1)))
