-- The rows of all nodes as those of each, and the rules one after the other. Assumes nothing.
use mathlib.Core.Path.{◌≡◌, refl, ◌∙◌}
use mathlib.Core.Bool.{true}
use mathlib.Core.List.{List, [], ◌∷◌}
use Prim.Native.Nat.{ℕ, zero, suc, ◌+◌, ◌≤◌, ◌<◌}
use native.Mathlib.Nat.{add-zero, zero-add}
use native.Mathlib.Omega.{arith}
use lib.ListN.{length}
use Rattle.std.specs.Prelude.{Option, Some, None, Err}
use Rattle.base.specs.Refusals.{refusal}
use Rattle.base.specs.declared.Reason.{Reason}
use Rattle.base.specs.declared.Refusal.{Refusal}
use Rattle.diagram.specs.TreeNodes.{TextNode}
use Rattle.grammar.specs.Keys.{keyword_at, name_at}
use Rattle.rules.specs.Kept.{names_kept, parameters_kept, solids_kept, strongs_kept, fault}
use Rattle.rules.specs.Counted.{any_node, eventful, total, capped}
use Rattle.rules.specs.Judged.{Verdict, refuse, counted, verdict}
use Rattle.walked.specs.Rows.{row_of, Tells, Rowed, Nested}
use Rattle.walked.specs.declared.Row.{Row}
use Rattle.names.specs.code.Told.{node, last_depth, Told}
use Rattle.names.specs.code.Marks.{titled_at}
use Rattle.names.proofs.Titled.{titled_named}

row_at : (text : List ℕ) (rows : List Row) (k : ℕ) (hs : List TextNode) → Rowed text rows k hs → (i : ℕ) → i < length hs → Tells text rows (k + i) (node hs i)
row_at text rows k [] r i h = let z : ⊥ = omega arith in absurd z
row_at text rows k (g ∷ hs) r zero h = rw (add-zero k) r.0
row_at text rows k (g ∷ hs) r (suc i) h =
    let e : k + suc i ≡ suc k + i = omega arith in
    rw e (row_at text rows (suc k) hs r.1 i (omega arith))

-- The depth of the node before the number i, where d is that before all of them.
last_from : ℕ → List TextNode → ℕ → ℕ
last_from d hs zero = d
last_from d hs (suc i) = (node hs i).depth

last_same : (hs : List TextNode) (i : ℕ) → last_from 0 hs i ≡ last_depth hs i
unfolding last_from last_depth
last_same hs zero = refl
last_same hs (suc i) = refl

last_later : (d : ℕ) (g : TextNode) (hs : List TextNode) (i : ℕ) → last_from g.depth hs i ≡ last_from d (g ∷ hs) (suc i)
unfolding last_from
last_later d g hs zero = refl
last_later d g hs (suc i) = refl

deep_at : (d : ℕ) (hs : List TextNode) → Nested d hs → (i : ℕ) → i < length hs
    → (0 < (node hs i).depth) × ((node hs i).depth ≤ suc (last_from d hs i)) × ((node hs i).depth ≤ 12)
unfolding last_from
deep_at d [] n i h = let z : ⊥ = omega arith in absurd z
deep_at d (g ∷ hs) n zero h = (n.0, n.1, n.2)
deep_at d (g ∷ hs) n (suc i) h =
    let r = deep_at g.depth hs n.3 i (omega arith) in
    (r.0, rw (← last_later d g hs i) r.1, r.2)

tell : {text : List ℕ} {rows : List Row} (hs : List TextNode) {count : ℕ} → length hs ≡ count → Rowed text rows 0 hs → Nested 0 hs → Told text rows count
tell {text} {rows} hs {count} e r n = record {
  hs = hs;
  many = e;
  row = λ i h. rw (zero-add i) at (row_at text rows 0 hs r i (omega arith));
  deep = λ i h. rw (last_same hs i) at (deep_at 0 hs n i (omega arith));
}

pub as_told : {text : List ℕ} {rows : List Row} {count : ℕ} {v : Verdict} → ((t : Told text rows count) → v ≡ verdict text t.hs)
    → (hs : List TextNode) → length hs ≡ count → Rowed text rows 0 hs → Nested 0 hs → v ≡ verdict text hs
unfolding tell
as_told f hs e r n = f (tell hs e r n)

-- The place x of a refusal is that of the keyword of the node k, or of its name.
module _ {text : List ℕ} {rows : List Row} {count : ℕ} (t : Told text rows count) {f : Option ℕ} {k : ℕ} (e : f ≡ Some k) (h : k < count) (next : Verdict) {r : Refusal} where
  pub refused_key : {x : ℕ} (reason : Reason) → r ≡ refusal reason x → x ≡ (row_of rows k).node.at → Err r ≡ refuse reason (keyword_at text) f next
  refused_key reason q p = rw (q, e, p, (t.row k h).at) refl

  pub refused_name : {x : ℕ} → r ≡ refusal Reason.Name x → x ≡ (row_of rows k).node.name → titled_at rows k ≡ true
      → Err r ≡ refuse Reason.Name (name_at text) f next
  refused_name q p w =
      let row = t.row k h in
      let kind = (node t.hs k).kind in
      let named = titled_named kind (rw row.kind at w) in
      rw (q, e, p, row.name, named) refl

-- The rules that are kept are passed.
module _ (text : List ℕ) (hs : List TextNode) where
  abbrev from_10 : Verdict
  from_10 = refuse Reason.Weak (keyword_at text) (fault strongs_kept [] hs) (counted (capped (total any_node [] hs)) (capped (total eventful [] hs)))

  abbrev from_9 : Verdict
  from_9 = refuse Reason.Solid (keyword_at text) (fault solids_kept [] hs) from_10

  abbrev from_8 : Verdict
  from_8 = refuse Reason.Parameter (keyword_at text) (fault parameters_kept [] hs) from_9

  pub by_7 : {v : Verdict} → v ≡ refuse Reason.Name (name_at text) (fault names_kept [] hs) from_8 → v ≡ verdict text hs
  unfolding verdict
  by_7 e = e

  module _ (kept_7 : fault names_kept [] hs ≡ None) where
    pub by_8 : {v : Verdict} → v ≡ from_8 → v ≡ verdict text hs
    by_8 e = by_7 (e ∙ rw kept_7)

    module _ (kept_8 : fault parameters_kept [] hs ≡ None) where
      pub by_9 : {v : Verdict} → v ≡ from_9 → v ≡ verdict text hs
      by_9 e = by_8 (e ∙ rw kept_8)

      pub by_10 : {v : Verdict} → fault solids_kept [] hs ≡ None → v ≡ from_10 → v ≡ verdict text hs
      by_10 kept_9 e = by_9 (e ∙ rw kept_9)
