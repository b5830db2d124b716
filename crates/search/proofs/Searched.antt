-- The definitions along the nodes, by the tests that the code makes: what each of them comes to. Assumes nothing.
use Rattle.std.proofs.Common.{◌≡◌, refl, sym, ap, ◌∙◌, ℕ, zero, suc, ◌+◌, ◌-◌, ◌≤◌, ◌<◌, List, [], ◌∷◌, length, get_or, take, drop, set, arith, add-one, drop-cons, Some, None}
use Rattle.std.proofs.Math.ListN.{drop_of_length-le, length-map}
use Rattle.std.proofs.lemmas.List.{take_min, drop-take}
use Rattle.std.specs.Prelude.{map, min}
use Rattle.diagram.specs.declared.Node.{Node}
use Rattle.labels.specs.SearchNodes.{search_node}
use borrow.Author.Tests.{le-leb, lt-leb, eq-eqb, ne_eqb}
use Rattle.std.specs.declared.ops.ControlFlow.{ControlFlow}
use Rattle.std.specs.declared.ops.ControlFlow.TheVariants.{Continue, Break}
use Rattle.labels.specs.declared.Spot.{Spot}
use Rattle.labels.specs.declared.SearchNode.{SearchNode}
use Rattle.labels.specs.declared.Search.{Search}
use Rattle.labels.specs.Weights.{sum_mod, parts, with_weight, weight, weigh}
use Rattle.labels.specs.Seeks.{next, turn, onward, seek}
use Rattle.labels.proofs.Steps.{seek_turn}

-- The first of some nodes, and of those from node i on.
front : (rs : List SearchNode) → get_or rs 0 (next []) ≡ next rs
front [] = refl
front (r ∷ rs) = refl

front_from : (rs : List SearchNode) (i : ℕ) → get_or rs i (next []) ≡ next (drop i rs)
front_from rs zero = front rs
front_from [] (suc i) = refl
front_from (r ∷ rs) (suc i) = front_from rs i

-- The search from node i on.
module _ (rs : List SearchNode) (i : ℕ) (s : Search) where
  module _ (h : i < length rs) (x : SearchNode) {q : SearchNode} {t : ControlFlow Spot Search} (b : q ≡ get_or rs (i + 1) (next [])) (k : t ≡ turn (get_or rs i x) q s) where
    here : seek (drop i rs) s ≡ onward t (λ u. seek (drop (i + 1) rs) u)
    here =
        let second : q ≡ next (drop (suc i) rs) = b ∙ (rw add-one (front_from rs (suc i))) in
        rw (drop-cons rs i x h, add-one i)
        (seek_turn (get_or rs i x) (drop (suc i) rs) s t (rw (← second) (sym k)))

    pub seek_found : (p : Spot) → t ≡ Break p → Some p ≡ seek (drop i rs) s
    seek_found p o = sym (here ∙ rw o)

    pub seek_on : (u : Search) → t ≡ Continue u → seek (drop (i + 1) rs) u ≡ seek (drop i rs) s
    seek_on u o = sym (here ∙ rw o)

  pub seek_end : length rs ≤ i → None ≡ seek (drop i rs) s
  unfolding seek
  seek_end h = rw (drop_of_length-le rs h)

-- The sum over the parts of a node, of those from node i on.
module _ (d n i : ℕ) (rs : List SearchNode) where
  pub parts_done : length rs ≤ i → parts d n (drop i rs) ≡ n
  unfolding parts
  parts_done h = rw (drop_of_length-le rs h)

  module _ (x : SearchNode) (h : i < length rs) where
    pub parts_stop : (get_or rs i x).depth ≤ d → parts d n (drop i rs) ≡ n
    unfolding parts
    parts_stop l = rw (drop-cons rs i x h, le-leb (get_or rs i x).depth d l)

    pub parts_add : (w : ℕ) → d < (get_or rs i x).depth → (get_or rs i x).depth - d ≡ 1 → w ≡ (get_or rs i x).weight
        → parts d (sum_mod n w) (drop (i + 1) rs) ≡ parts d n (drop i rs)
    unfolding parts
    parts_add w l o g =
        rw (drop-cons rs i x h, add-one i, lt-leb (get_or rs i x).depth d l, eq-eqb (get_or rs i x).depth (suc d) (omega arith), g)

    pub parts_skip : d < (get_or rs i x).depth → ((get_or rs i x).depth - d ≡ 1 → ⊥) → parts d n (drop (i + 1) rs) ≡ parts d n (drop i rs)
    unfolding parts
    parts_skip l o =
        rw (drop-cons rs i x h, add-one i, lt-leb (get_or rs i x).depth d l, ne_eqb (get_or rs i x).depth (suc d) (λ z. o (omega arith)))

-- The nodes with their events, from the last to the first.
pub none_weighed : (ns : List Node) (ws : List SearchNode) → drop (length ns) (take (length ns) ws) ≡ weigh (drop (length ns) (map search_node ns))
unfolding weigh
none_weighed [] ws = refl
none_weighed (n ∷ ns) [] = rw (drop_of_length-le (map search_node ns) {i = length ns} (omega (arith, length-map ns search_node)))
none_weighed (n ∷ ns) (w ∷ ws) = none_weighed ns ws

one_more : (ns : List Node) (ws : List SearchNode) (k : ℕ) (x : Node) (w : SearchNode) → k < length ns → length ns ≤ length ws
    → drop (suc k) (take (length ns) ws) ≡ weigh (drop (suc k) (map search_node ns))
    → w ≡ with_weight (search_node (get_or ns k x)) (weight (search_node (get_or ns k x)) (drop (suc k) (take (length ns) ws)))
    → drop k (take (length ns) (set ws k w)) ≡ weigh (drop k (map search_node ns))
unfolding weigh
one_more [] ws k x w h l e q = absurd (omega arith)
one_more (n ∷ ns) [] k x w h l e q = absurd (omega arith)
one_more (n ∷ ns) (v ∷ ws) zero x w h l e q = rw (q, e)
one_more (n ∷ ns) (v ∷ ws) (suc k) x w h l e q = one_more ns ws k x w (omega arith) (omega arith) e q

-- As the code goes, from node m to the one before it.
module _ (ns : List Node) (ws : List SearchNode) (k m : ℕ) (x : Node) (w : SearchNode) (b : m ≡ suc k) (h : k < length ns) (l : length ns ≤ length ws) where
  pub one_weighed : drop m (take (length ns) ws) ≡ weigh (drop m (map search_node ns))
      → w ≡ with_weight (search_node (get_or ns k x)) (weight (search_node (get_or ns k x)) (take (length ns - m) (drop m ws)))
      → drop k (take (length ns) (set ws k w)) ≡ weigh (drop k (map search_node ns))
  one_weighed e q =
      let whole : m + (length ns - m) ≡ length ns = omega arith in
      let t : take (length ns - m) (drop m ws) ≡ drop (suc k) (take (length ns) ws) =
      sym (drop-take m (length ns - m) ws) ∙ rw (whole, b) in
      one_more ns ws k x w h l (rw (← b) e) (rw (← t) q)

pub all_weighed : (count : ℕ) (ns ms : List Node) (ws : List SearchNode) → length ns ≡ min count 256 → length ws ≡ 256 → ns ≡ ms
    → take (length ns) ws ≡ weigh (map search_node ns) → take count ws ≡ weigh (map search_node ms)
all_weighed count ns ms ws m l v e =
    let same : take (min count (length ws)) ws ≡ take (length ns) ws = rw (l, m) in
    sym (take_min count ws) ∙ (same ∙ (e ∙ ap (λ (x : List Node). weigh (map search_node x)) v))
