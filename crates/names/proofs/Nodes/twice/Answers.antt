-- The names passed differ, and their nodes are linked by their marks.
use Rattle.std.proofs.Common.{◌≡◌, ◌<◌, true, sym, ◌∙◌, arith}
use Rattle.rules.specs.Kept.{names_kept}
use Rattle.names.specs.code.Marks.{titled_at}
use Rattle.names.proofs.Searched.{search_start, search_end}
use Rattle.names.proofs.Named.{linkable_start, linkable_none, linkable_next, linking_start, linking_none, linking_next, its_mark, found_by_links, name_twice, name_next, name_none}
use Rattle.names.proofs.Its.{its_name, its_end}
use Rattle.names.proofs.Nodes.twice.Goals as goal
use Rattle.names.proofs.Nodes.twice.Goals.{then-is_titled+else-is_taken, else-is_titled}

pub loop-i-init : goal.loop-i-init
loop-i-init c = (linkable_start, λ t. (linking_start _ _, search_start names_kept t.hs))

pub returns-then-is_taken-clause-value : goal.returns-then-is_taken-clause-value
returns-then-is_taken-clause-value c = λ t.
    let h = c.loop-i-test.true in
    let title : titled_at c.args.self.now.rows.now c.loop-i.i ≡ true = rw c.row-row.ensures at (sym c.is_titled.ensures ∙ c.if-is_titled.true) in
    let mark = its_mark t c.loop-i.i h title (c.name.ensures ∙ its_name c.row-row.ensures) (c.end.ensures.value ∙ its_end c.row-row.ensures) c.mark-s.ensures.value in
    let found = found_by_links (c.loop-i.invariant.1 t).0 (c.name-then-is_titled.ensures ∙ its_name c.row-row.ensures) mark c.mark-s.ensures.upper_bound c.from.ensures in
    name_twice t h (c.loop-i.invariant.1 t).1 title (found c.is_taken.ensures) c.if-is_taken.true

pub loop-i-preserved : goal.loop-i-preserved
loop-i-preserved c =
    let h = c.loop-i-test.true in
    let its = c.row-row.ensures in
    let small : c.loop-i.i < 256 = omega (arith, h, c.args.self.now.few) in
    elim c.if-is_titled.branch [
      | then-is_titled+else-is_taken w ↦
          let title : titled_at c.args.self.now.rows.now c.loop-i.i ≡ true = rw its at (sym c.is_titled.ensures ∙ w.if-is_titled.true) in
          rw (w.heads-is, w.links-is) (
            linkable_next c.loop-i.invariant.0 w.mark-s.ensures.upper_bound small,
            λ t.
                let mark = its_mark t c.loop-i.i h title (w.name.ensures ∙ its_name its) (w.end.ensures.value ∙ its_end its) w.mark-s.ensures.value in
                let found = found_by_links (c.loop-i.invariant.1 t).0 (w.name-then-is_titled.ensures ∙ its_name its) mark w.mark-s.ensures.upper_bound w.from.ensures in (
                  linking_next (c.loop-i.invariant.1 t).0 c.loop-i.invariant.0 title small mark w.mark-s.ensures.upper_bound,
                  name_next t h (c.loop-i.invariant.1 t).1 title (found w.is_taken.ensures) w.if-is_taken.false,
                ),
          )
      | else-is_titled w ↦
          let e = rw its at (sym c.is_titled.ensures ∙ w.if-is_titled.false) in
          rw (w.heads-is, w.links-is)
          (linkable_none c.loop-i.invariant.0, λ t. (linking_none (c.loop-i.invariant.1 t).0 e, name_none t h (c.loop-i.invariant.1 t).1 e))
    ]

pub returns-clause-value : goal.returns-clause-value
returns-clause-value c = λ t. search_end (c.loop-i.invariant.1 t).1 (rw t.many c.loop-i-test.false)
