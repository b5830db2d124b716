-- The machine along a text ends as the machine over its tokens does, with places for numbers of tokens.
use mathlib.Core.Path.{◌≡◌, refl, sym, ap, ◌∙◌}
use mathlib.Core.List.{List, [], ◌∷◌, ◌++◌, map}
use Prim.Native.Nat.{ℕ, suc, ◌+◌}
use native.Mathlib.Nat.{zero-add, add-zero, add-suc, suc-add}
use lib.ListN.{length, get_or}
use Rattle.base.specs.declared.Reason.{Reason}
use Rattle.tokens.specs.Words.{keywords}
use Rattle.tokens.specs.Spans.{Span, spans_of, places}
use Rattle.tokens.specs.Token.{Token, token_of, text_tokens}
use Rattle.tokens.specs.Rest.{rest}
use Rattle.tokens.proofs.Steps as Steps
use Rattle.grammar.specs.Machine as Machine
use Rattle.grammar.specs.Machine.{Want, Move, off, big, push, node, root, depths, expand, run, outcome}
use Rattle.walked.specs.declared.Row.{Row}
use Rattle.walked.specs.Walk.{State, state, effect, End, proceed, walk, ending, unwritten, placed_by}

-- The tokens of a text are those from its start on.
pub rest_start : (text : List ℕ) → rest text 0 ≡ spans_of text
rest_start text = sym (Steps.rest_start text)

abbrev token : Span → Token
token s = token_of keywords s.bytes

-- f gives the places of the tokens ss, of which the first has the number k.
abbrev Gives : (ℕ → ℕ) → ℕ → ℕ → List Span → Type 0
Gives f e k ss = (i : ℕ) → f (k + i) ≡ get_or (map (λ (s : Span). s.place) ss) i e

proceed_same : (v : Move) (f : ℕ → ℕ) (k p : ℕ) (go : ℕ → List Want → End) (run_on : ℕ → List Want → Machine.Outcome) → f k ≡ p
    → ((u : ℕ) (vs : List Want) → unwritten (go u vs) ≡ placed_by f (run_on u vs)) → unwritten (proceed v p go) ≡ placed_by f (Machine.proceed v k run_on)
proceed_same off f k p go run_on e h = ap (λ (x : ℕ). Machine.stop Reason.Token x) (sym e)
proceed_same big f k p go run_on e h = ap (λ (x : ℕ). Machine.stop Reason.Node x) (sym e)
proceed_same (push u vs) f k p go run_on e h = h u vs

pub located : (f : ℕ → ℕ) (ws : List Want) (n k : ℕ) (st : State) (e : ℕ) (ss : List Span) → Gives f e k ss
    → unwritten (walk ws n st e ss) ≡ placed_by f (run ws n k (map token ss))
unfolding walk run
located f [] n k st e [] g = refl
located f [] n k st e (s ∷ ss) g = ap (λ (x : ℕ). Machine.stop Reason.Token x) (sym (ap f (sym (add-zero k)) ∙ g 0))
located f (w ∷ ws) n k st e [] g = ap (λ (x : ℕ). Machine.stop Reason.Token x) (sym (ap f (sym (add-zero k)) ∙ g 0))
located f (w ∷ ws) n k st e (s ∷ ss) g =
    proceed_same (expand w n (token s)) f k s.place (λ u vs. walk (vs ++ ws) (n + u) (effect w n (token s) s.place st) e ss)
    (λ u vs. run (vs ++ ws) (n + u) (suc k) (map token ss)) (ap f (sym (add-zero k)) ∙ g 0)
    (λ u vs. located f (vs ++ ws) (n + u) (suc k) (effect w n (token s) s.place st) e ss (λ i. ap f (suc-add k i ∙ sym (add-suc k i)) ∙ g (suc i)))

-- The whole text: the outcome of `grammar.specs.Machine`, unchanged, at the places of the tokens, and at the text's end past them.
pub ends_as : (text : List ℕ) (rows : List Row) → unwritten (ending text rows) ≡ placed_by (λ j. get_or (places text) j (length text)) (outcome (text_tokens keywords text))
unfolding ending outcome text_tokens places
ends_as text rows =
    let ps = map (λ (s : Span). s.place) (spans_of text) in
    rw (rest_start text)
    (located (λ j. get_or ps j (length text)) (node root depths ∷ []) 0 0 (state rows []) (length text) (spans_of text)
    (λ i. ap (λ (x : ℕ). get_or ps x (length text)) (zero-add i)))
