-- Words at both sides of what makes a token, with its kind; and number 6 at both sides of its limits: document 01's drawings as texts, and what
-- the machine comes to over their tokens.
use Rattle.std.specs.Prelude.{◌≡◌, List, [], ◌∷◌, ◌++◌, map, ℕ, zero, suc, Option, Some, None}
use Rattle.base.specs.Text.{bytes}
use Rattle.base.specs.declared.Reason.TheVariants.{Node}
use Rattle.tokens.specs.Words.{keywords}
use Rattle.diagram.specs.Tree.{all, some, one}
use Rattle.tokens.specs.Token.{opening, closing, comma, colon, flow, leaf, group, replicator, loop, Token, sign, key, name, numeral, other, token_of, text_tokens}
use Rattle.tokens.specs.Kinds.{token_kind}
use Rattle.tokens.specs.declared.Sign.TheVariants as Sign
use Rattle.tokens.specs.declared.Keyword.TheVariants as Keyword
use Rattle.tokens.specs.declared.TokenKind.{TokenKind}
use Rattle.grammar.specs.Machine.{Outcome, whole, stop, outcome}

-- A word of 24 bytes is a name, one of 25 is not; case counts; a numeral has no leading zero and is at most 16; a tab is foreign.
abbrev pub words : List (List ℕ × Token × Option TokenKind)
words =
    (bytes "(", sign opening, Some (TokenKind.Sign Sign.Opening))
    ∷ (bytes ")", sign closing, Some (TokenKind.Sign Sign.Closing))
    ∷ (bytes ",", sign comma, Some (TokenKind.Sign Sign.Comma))
    ∷ (bytes ":", sign colon, Some (TokenKind.Sign Sign.Colon))
    ∷ (bytes "\t", other, None)
    ∷ (bytes "a", name (bytes "a"), Some TokenKind.Name)
    ∷ (bytes "Flow", name (bytes "Flow"), Some TokenKind.Name)
    ∷ (bytes "flow_1", name (bytes "flow_1"), Some TokenKind.Name)
    ∷ (bytes "abcdefghijklmnopqrstuvwx", name (bytes "abcdefghijklmnopqrstuvwx"), Some TokenKind.Name)
    ∷ (bytes "abcdefghijklmnopqrstuvwxy", other, Some TokenKind.Other)
    ∷ (bytes "_a", other, Some TokenKind.Other)
    ∷ (bytes "flow", key flow, Some (TokenKind.Keyword Keyword.Flow))
    ∷ (bytes "leaf", key leaf, Some (TokenKind.Keyword Keyword.Leaf))
    ∷ (bytes "and", key (group all), Some (TokenKind.Keyword Keyword.And))
    ∷ (bytes "or", key (group some), Some (TokenKind.Keyword Keyword.Or))
    ∷ (bytes "xor", key (group one), Some (TokenKind.Keyword Keyword.Xor))
    ∷ (bytes "all", key (replicator all), Some (TokenKind.Keyword Keyword.All))
    ∷ (bytes "some", key (replicator some), Some (TokenKind.Keyword Keyword.Some))
    ∷ (bytes "one", key (replicator one), Some (TokenKind.Keyword Keyword.One))
    ∷ (bytes "loop", key loop, Some (TokenKind.Keyword Keyword.Loop))
    ∷ (bytes "0", numeral 0, Some (TokenKind.Numeral 0))
    ∷ (bytes "9", numeral 9, Some (TokenKind.Numeral 9))
    ∷ (bytes "16", numeral 16, Some (TokenKind.Numeral 16))
    ∷ (bytes "17", other, Some TokenKind.Other)
    ∷ (bytes "01", other, Some TokenKind.Other)
    ∷ (bytes "1a", other, Some TokenKind.Other)
    ∷ []

abbrev pub Tokened : List (List ℕ × Token × Option TokenKind) → Type 0
Tokened ws = (map (λ w. token_of keywords w.0) ws ≡ map (λ w. w.1) ws) × (map (λ w. token_kind w.0) ws ≡ map (λ w. w.2) ws)

-- So many children `leaf(a)(0)`, and the root with them.
abbrev pub leaves : ℕ → List ℕ
leaves zero = []
leaves (suc n) = bytes "leaf(a)(0)" ++ leaves n

abbrev pub rooted : ℕ → List ℕ
rooted n = bytes "flow(a,1)(" ++ (leaves n ++ bytes ")")

-- A leaf in so many flows, each the only child of the next.
abbrev pub nested : ℕ → List ℕ
nested zero = bytes "leaf(a)"
nested (suc n) = bytes "flow(a,1)(" ++ (nested n ++ bytes "(1))")

-- "Root with 255 leaves read; with 256, 6 at the last leaf. Eleven nested flows and a leaf: read. Twelve: 6 at the leaf." A leaf has 7 tokens
-- with its ref, and so has a flow up to its first child.
abbrev pub drawings : List (List ℕ × Outcome)
drawings = (rooted 255, whole 256) ∷ (rooted 256, stop Node 1792) ∷ (nested 11, whole 12) ∷ (nested 12, stop Node 84) ∷ []

abbrev pub Worked : List (List ℕ × Outcome) → Type 0
Worked ds = map (λ d. outcome (text_tokens keywords d.0)) ds ≡ map (λ d. d.1) ds
