-- Rule 8 of a node, by its row and the pars around it. Assumes nothing.
use mathlib.Core.Path.{◌≡◌, refl, sym, ap, ◌∙◌}
use mathlib.Core.Bool.{Bool, true, false, ◌&&◌, cond, and-true, false≢true}
use mathlib.Core.List.{List, reverse}
use Prim.Native.Nat.{ℕ, ◌+◌, ◌≤◌, ◌<◌}
use lib.ListN.{drop}
use borrow.Author.Tests.{le-leb, lt-leb}
use Rattle.diagram.specs.Tree.{Name}
use Rattle.diagram.specs.Names.{equal, same, new}
use Rattle.diagram.specs.TreeNodes.{flowing, copying, has_name}
use Rattle.diagram.specs.declared.Kind.{Kind}
use Rattle.diagram.specs.declared.Kind.TheVariants.{Flow, Leaf, And, Or, Xor, All, Some, One, Loop}
use Rattle.tokens.specs.Words.{word_at}
use Rattle.rules.specs.Kept.{around, parameters_kept}
use Rattle.walked.specs.Rows.{row_of, past_word, Listed}
use Rattle.walked.specs.declared.Row.{Row}
use Rattle.names.specs.code.Told.{node, earlier, Told}
use Rattle.names.specs.code.Pars.{pars_at, Around}
use Rattle.names.proofs.Titled.{copying_named}
use Rattle.names.proofs.Surrounding.{pars_count}

module _ {text : List ℕ} {rows : List Row} {count i : ℕ} (t : Told text rows count) (h : i < count) (pars : List ℕ) (n : ℕ)
    (A : Around text rows pars n (around (node t.hs i).depth (earlier t.hs i))) where
  abbrev asked : Bool
  asked = parameters_kept (earlier t.hs i) (node t.hs i) (drop (i + 1) t.hs)

  pub asked_many : 3 < n → false ≡ asked
  asked_many l = rw (A.is, pars_count text rows pars n, lt-leb n 3 l)

  module _ (l : n ≤ 3) {k : Kind} (p : k ≡ (row_of rows i).node.kind) where
    its : k ≡ (node t.hs i).kind
    its = p ∙ (t.row i h).kind

    by_kind : (cond (copying k) (new (node t.hs i).name (pars_at text rows pars n)) true
        && cond (flowing k) (equal same (reverse (node t.hs i).pars) (pars_at text rows pars n)) true) ≡ asked
    by_kind = rw (A.is, pars_count text rows pars n, le-leb n 3 l, its)

    pub asked_flow : {past : ℕ} {r : Bool} → flowing k ≡ true → copying k ≡ false → past ≡ (row_of rows i).past
        → ((at : ℕ) (ps ns : List Name) → past ≡ past_word text at → Listed text at ps → Around text rows pars n ns → r ≡ equal same (reverse ps) ns)
        → r ≡ asked
    asked_flow {past} {r} f g q listed =
        let row = t.row i h in
        let flow : flowing (node t.hs i).kind ≡ true = ap flowing (sym its) ∙ f in
        let name : has_name (node t.hs i).kind ≡ true = rw flow in
        listed (row_of rows i).node.name (node t.hs i).pars (pars_at text rows pars n) (q ∙ row.past name) (row.listed flow) (rw A.is at A)
        ∙ (rw (g, f) at by_kind)

    module _ (no : flowing k ≡ false) where
      pub asked_other : copying k ≡ false → true ≡ asked
      asked_other e = rw (e, no) at by_kind

      pub asked_copying : {at : ℕ} {r : Bool} → copying k ≡ true → at ≡ (row_of rows i).node.name
          → r ≡ new (word_at text at) (pars_at text rows pars n) → r ≡ asked
      asked_copying {at} {r} e q fresh =
          let inside : copying (node t.hs i).kind ≡ true = ap copying (sym its) ∙ e in
          let name : (node t.hs i).name ≡ word_at text at = (t.row i h).word ∙ rw (copying_named (node t.hs i).kind inside, q) in
          fresh
          ∙ ap (λ (m : Name). new m (pars_at text rows pars n)) (sym name)
          ∙ sym (and-true (new (node t.hs i).name (pars_at text rows pars n)))
          ∙ (rw (e, no) at by_kind)

-- A flow is no replicator.
pub flow_alone : (k : Kind) → flowing k ≡ true → copying k ≡ false
flow_alone Flow e = refl
flow_alone Leaf e = absurd (false≢true e)
flow_alone And e = absurd (false≢true e)
flow_alone Or e = absurd (false≢true e)
flow_alone Xor e = absurd (false≢true e)
flow_alone (All z) e = absurd (false≢true e)
flow_alone (Some z) e = absurd (false≢true e)
flow_alone (One z) e = absurd (false≢true e)
flow_alone Loop e = absurd (false≢true e)
