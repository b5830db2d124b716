-- The kind of a token, by which the code knows it: no more is asked of a name than that it is one.
use Rattle.std.specs.Prelude.{cond, List, [], ℕ, eqb, ltb, get_or, Option, Some, None}
use Rattle.diagram.specs.Tree.{Name, all, some, one}
use Rattle.tokens.specs.Classes.{foreign}
use Rattle.tokens.specs.Words.{keywords}
use Rattle.tokens.specs.Token.{Sign, opening, closing, comma, colon, Keyword, flow, leaf, group, replicator, loop, Token, sign, key, name, numeral, other, in_order, word_place, token_of}
use Rattle.tokens.specs.declared.Sign.{Sign as SignKind}
use Rattle.tokens.specs.declared.Sign.TheVariants.{Opening, Closing, Comma, Colon}
use Rattle.tokens.specs.declared.Keyword.{Keyword as KeyKind}
use Rattle.tokens.specs.declared.Keyword.TheVariants.{Flow, Leaf, And, Or, Xor, All, Some as SomeOf, One, Loop}
use Rattle.tokens.specs.declared.TokenKind.{TokenKind}

abbrev pub sign_kind : Sign → SignKind
sign_kind opening = Opening
sign_kind closing = Closing
sign_kind comma = Comma
sign_kind colon = Colon

abbrev pub key_kind : Keyword → KeyKind
key_kind flow = Flow
key_kind leaf = Leaf
key_kind (group all) = And
key_kind (group some) = Or
key_kind (group one) = Xor
key_kind (replicator all) = All
key_kind (replicator some) = SomeOf
key_kind (replicator one) = One
key_kind loop = Loop

abbrev pub kind : Token → TokenKind
kind (sign s) = TokenKind.Sign (sign_kind s)
kind (key k) = TokenKind.Keyword (key_kind k)
kind (name w) = TokenKind.Name
kind (numeral n) = TokenKind.Numeral n
kind other = TokenKind.Other

-- The kind of the token that these bytes are; a foreign byte has none.
unfoldable pub token_kind : Name → Option TokenKind
token_kind w = cond (foreign (get_or w 0 0)) None (Some (kind (token_of keywords w)))

-- The other way: a token of a kind, where none is wanted nowhere.
abbrev pub shown_sign : SignKind → Sign
shown_sign Opening = opening
shown_sign Closing = closing
shown_sign Comma = comma
shown_sign Colon = colon

abbrev pub shown_key : KeyKind → Keyword
shown_key Flow = flow
shown_key Leaf = leaf
shown_key And = group all
shown_key Or = group some
shown_key Xor = group one
shown_key All = replicator all
shown_key SomeOf = replicator some
shown_key One = replicator one
shown_key Loop = loop

abbrev pub shown : Option TokenKind → Token
shown None = other
shown (Some (TokenKind.Sign s)) = sign (shown_sign s)
shown (Some (TokenKind.Keyword k)) = key (shown_key k)
shown (Some TokenKind.Name) = name []
shown (Some (TokenKind.Numeral n)) = numeral n
shown (Some TokenKind.Other) = other

-- What is asked of a kind: its keyword, and the number that it stands for.
abbrev pub keyword_of : Option TokenKind → Option KeyKind
keyword_of None = None
keyword_of (Some (TokenKind.Sign s)) = None
keyword_of (Some (TokenKind.Keyword k)) = Some k
keyword_of (Some TokenKind.Name) = None
keyword_of (Some (TokenKind.Numeral n)) = None
keyword_of (Some TokenKind.Other) = None

abbrev pub number_of : Option TokenKind → Option ℕ
number_of None = None
number_of (Some (TokenKind.Sign s)) = None
number_of (Some (TokenKind.Keyword k)) = None
number_of (Some TokenKind.Name) = None
number_of (Some (TokenKind.Numeral n)) = Some n
number_of (Some TokenKind.Other) = None

-- The kind of the sign whose byte has a class.
abbrev pub class_kind : ℕ → Option TokenKind
class_kind c =
    cond (eqb c 1) (Some (TokenKind.Sign Opening))
    (cond (eqb c 2) (Some (TokenKind.Sign Closing))
    (cond (eqb c 3) (Some (TokenKind.Sign Comma)) (cond (eqb c 4) (Some (TokenKind.Sign Colon)) None)))

-- The keyword at a place among the nine, and the one that a word is.
abbrev pub key_at : ℕ → Option KeyKind
key_at i = cond (ltb i 9) (Some (key_kind (get_or in_order i loop))) None

abbrev pub keyword_in : List Name → Name → Option KeyKind
keyword_in words w = key_at (word_place words w)
