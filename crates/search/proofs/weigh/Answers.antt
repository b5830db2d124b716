-- `search::weigh` meets its contract: from node i on each has its events. Assumes nothing.
use Rattle.std.proofs.Common.{◌≡◌, ◌-◌, ◌+◌, ◌∙◌, ◌<◌, ◌≤◌, length, ℕ, List, [], take, get_or, set, length-set, arith, add-one}
use Rattle.std.proofs.lemmas.Grind.{common_steps}
use Rattle.std.specs.Prelude.{replicate}
use Rattle.std.proofs.lemmas.List.{length-replicate, get_or-replicate}
use Rattle.std.proofs.Math.ListN.{get_or-eq_default}
use Rattle.std.specs.Prelude.{ltb}
use borrow.Author.Tests.{ltb-true, ltb-false}
use Rattle.base.proofs.Truth.{by_cases}
use Rattle.labels.specs.declared.SearchNode.{SearchNode}
use Rattle.labels.specs.Seeks.{next}
use Rattle.search.proofs.Searched.{none_weighed, one_weighed, all_weighed}
use Rattle.search.proofs.weigh.Goals as goal

-- An array of no nodes holds none, and a store leaves what stands elsewhere.
none_there : (i : ℕ) → get_or (replicate 256 (next [])) i (next []) ≡ next []
none_there i =
    by_cases (ltb i 256) (λ e. get_or-replicate 256 i (next []) (next []) (ltb-true i 256 e))
    (λ e.
    let past : length (replicate 256 (next [])) ≤ i = rw (length-replicate {A = SearchNode} 256 (next [])) (ltb-false i 256 e) in
    get_or-eq_default (replicate 256 (next [])) (next []) past)

others_stay : (l : List SearchNode) (k i : ℕ) (x : SearchNode) → k < i → get_or l i (next []) ≡ next [] → get_or (set l k x) i (next []) ≡ next []
others_stay l k i x h e = grind (arith, common_steps)

pub loop-i-init : goal.loop-i-init
loop-i-init c = (length-replicate {A = SearchNode} 256 (next []), none_weighed c.counted-nodes.result.now _, λ i h. none_there i)

pub loop-i-preserved : goal.loop-i-preserved
loop-i-preserved c =
    let l = c.loop-i in
    let k = l.i - 1 in
    let back : l.i ≡ k + 1 = omega arith in
    let many = c.counted-nodes.ensures.how_many in
    let long = l.invariant.0 in (
      length-set l.weighed_nodes k c.weighed.result ∙ long,
      one_weighed c.counted-nodes.result.now l.weighed_nodes k (k + 1) _ c.weighed.result (add-one k) (omega arith) (omega (arith, many, long))
          (rw back at l.invariant.1) c.weighed.ensures,
      λ i h. others_stay l.weighed_nodes k i c.weighed.result (omega (arith, many, h)) (l.invariant.2 i h),
    )

pub returns : goal.returns
returns c =
    let l = c.loop-i in
    let start : l.i ≡ 0 = omega arith in
    let many = c.counted-nodes.ensures.how_many in
    record {
      counted = all_weighed c.args.d.now.count c.counted-nodes.result.now (take c.args.d.now.count c.args.d.now.nodes) l.weighed_nodes many l.invariant.0
          c.counted-nodes.ensures.value (rw start at l.invariant.1);
      others = λ i h. l.invariant.2 i (omega (arith, many, h));
    }
