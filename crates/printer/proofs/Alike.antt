-- Property 2, printing: "printing and reading again yields that diagram; two accepted texts print alike exactly if their diagrams are equal."
use mathlib.Core.Path.{◌≡◌, sym, ◌∙◌, ap, subst}
use mathlib.Core.Logic.{◌↔◌}
use mathlib.Core.Bool.{Bool, false}
use mathlib.Core.List.{List, [], ◌∷◌}
use Prim.Native.Nat.{ℕ, ◌≤◌}
use native.Mathlib.Omega.{arith}
use lib.ListN.{length}
use Rattle.diagram.specs.Tree.{Flow}
use Rattle.base.proofs.Truth.{by_cases}
use Rattle.tokens.specs.Remarks.{opened, skipped}
use Rattle.tokens.specs.Words.{keywords}
use Rattle.tokens.specs.Token.{text_tokens}
use Rattle.tokens.proofs.Tokens.{keywords_sound}
use Rattle.grammar.specs.Tokens.{flow_tokens}
use Rattle.grammar.specs.Printed.{printed, unblanked, render}
use Rattle.grammar.specs.Derives.{Derives}
use Rattle.grammar.proofs.Rendered.{rendered}
use Rattle.grammar.proofs.Printing.{without_blanks, derived_printed}
use Rattle.grammar.proofs.Grammar.{derived_once}
use Rattle.reading.specs.Accepted.{Accepted}

unblanked_shorter : (o : Bool) (bs : List ℕ) → length (unblanked o bs) ≤ length bs
unfolding unblanked
unblanked_shorter o [] = omega arith
unblanked_shorter o (b ∷ bs) =
    by_cases (skipped o b) (λ e. let h = unblanked_shorter (opened o b) bs in rw e (omega arith))
    (λ e. let h = unblanked_shorter false bs in rw e (omega arith))

pub printed_shorter : (text : List ℕ) → length (printed text) ≤ length text
printed_shorter text = rw (without_blanks text) (unblanked_shorter false text)

-- What is printed for a text that a diagram derives has the tokens of the diagram again.
printed_derives : (text : List ℕ) (d : Flow) → Derives keywords (text_tokens keywords text) d → Derives keywords (text_tokens keywords (printed text)) d
printed_derives text d g =
    record { proper = g.proper; tokens = ap (text_tokens keywords) (derived_printed text d g) ∙ rendered keywords keywords_sound d g.proper }

-- "printing and reading again yields that diagram"
pub printed_accepted : (text : List ℕ) (d : Flow) → Accepted text d → Accepted (printed text) d
printed_accepted text d a =
    record {
      short = let h = printed_shorter text in let k = a.short in omega arith;
      derived = printed_derives text d a.derived;
      keeps = a.keeps;
      nodes = a.nodes;
      depth = a.depth;
      copies = a.copies;
      events = a.events;
    }

-- "two accepted texts print alike exactly if their diagrams are equal"
pub print_alike : (s t : List ℕ) (d e : Flow) → Accepted s d → Accepted t e → (printed s ≡ printed t) ↔ (d ≡ e)
print_alike s t d e a b = (
  λ q. derived_once keywords (text_tokens keywords (printed s)) d e (printed_derives s d a.derived)
      (subst (λ (l : List ℕ). Derives keywords (text_tokens keywords l) e) (sym q) (printed_derives t e b.derived)),
  λ q. derived_printed s d a.derived ∙ (ap (λ (f : Flow). render keywords (flow_tokens f [])) q ∙ sym (derived_printed t e b.derived)),
)
