-- The name or par of a node stands within the text. Assumes nothing.
use mathlib.Core.Path.{◌≡◌}
use mathlib.Core.Bool.{true}
use mathlib.Core.List.{List}
use Prim.Native.Nat.{ℕ, ◌+◌, ◌≤◌, ◌<◌}
use native.Mathlib.Omega.{arith}
use lib.Dec.{ltb}
use lib.ListN.{length, get_or, get_or-eq_default}
use borrow.Author.Tests.{ltb-true, ltb-false}
use Rattle.base.proofs.Truth.{by_cases}
use Rattle.diagram.specs.TreeNodes.{has_name}
use Rattle.tokens.specs.Spans.{tokens, places}
use Rattle.tokens.proofs.Spans.{tokens_length, places_length, places_below}
use Rattle.grammar.specs.Keys.{name_at, key_token}
use Rattle.walked.specs.Rows.{row_of}
use Rattle.walked.specs.declared.Row.{Row}
use Rattle.names.specs.code.Told.{node, Told}
use Rattle.names.proofs.Marked.{word_ends}

place_inside : (text : List ℕ) (k : ℕ) → get_or (places text) k 0 ≤ length text
place_inside text k =
    by_cases (ltb k (length (tokens text))) (λ q. let l = places_below text k (ltb-true k (length (tokens text)) q) in omega arith) (λ q.
    let l = ltb-false k (length (tokens text)) q in
    rw (get_or-eq_default (places text) 0 {n = k} (omega (arith, places_length text, tokens_length text))) (omega arith))

name_inside : (text : List ℕ) (i : ℕ) → name_at text i ≤ length text
unfolding name_at
name_inside text i = place_inside text (key_token text i + 2)

pub name_ends : {text : List ℕ} {rows : List Row} {count i : ℕ} (t : Told text rows count) → i < count → has_name (node t.hs i).kind ≡ true
    → (row_of rows i).past ≤ length text
name_ends {text} {rows} {count} {i} t h e =
    let row = t.row i h in
    let l : (row_of rows i).node.name ≤ length text = rw (row.name, e) (name_inside text i) in
    rw (row.past e) (word_ends text ((row_of rows i).node.name) l)
