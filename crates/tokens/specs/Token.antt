-- Document 01, "The text": the tokens of a text as the grammar knows them, which of them a word is, and how each is written. The nine words that are keywords are given: document 01's are `tokens.specs.Words.keywords`.
use Rattle.std.specs.Prelude.{Bool, true, false, not, ◌&&◌, cond, List, [], ◌∷◌, map, ℕ, ◌+◌, eqb, ltb, leb, length, get_or, Option, Some, None}
use Rattle.base.specs.Text.{bytes}
use Rattle.diagram.specs.Tree.{Name, Way, all, some, one}
use Rattle.diagram.specs.Names.{differ}
use Rattle.tokens.specs.Classes.{between, class_of, letter, worded}
use Rattle.tokens.specs.Words.{place_in, short, every, lettered, numerals}
use Rattle.tokens.specs.Spans.{Span, spans_of}

-- "one of ( ) , :"
pub data Sign : Type 0 where
  opening : Sign
  closing : Sign
  comma : Sign
  colon : Sign

-- "Keywords: flow leaf and or xor all some one loop." The groups are `and`, `or`, `xor`, and the replicators `all`, `some`, `one`.
pub data Keyword : Type 0 where
  flow : Keyword
  leaf : Keyword
  group : Way → Keyword
  replicator : Way → Keyword
  loop : Keyword

-- What is wanted nowhere is `other`: a word that is too long, one that starts with a digit or an underscore and is no numeral, a foreign byte.
pub data Token : Type 0 where
  sign : Sign → Token
  key : Keyword → Token
  name : Name → Token
  numeral : ℕ → Token
  other : Token

-- The keywords in document 01's order, and the place of each.
abbrev pub in_order : List Keyword
in_order =
    flow ∷ leaf ∷ group all ∷ group some ∷ group one ∷ replicator all ∷ replicator some ∷ replicator one ∷ loop ∷ []

abbrev pub way_place : Way → ℕ
way_place all = 0
way_place some = 1
way_place one = 2

abbrev pub key_place : Keyword → ℕ
key_place flow = 0
key_place leaf = 1
key_place (group y) = 2 + way_place y
key_place (replicator y) = 5 + way_place y
key_place loop = 8

-- The place of a word among the nine, and 9 where it is none of them.
abbrev pub word_place : List Name → Name → ℕ
word_place words w = place_in words 0 9 w

abbrev pub keyed : List Name → Name → Bool
keyed words w = ltb (word_place words w) 9

-- "A name starts with a letter and is no keyword"; as a word it has at most 24 bytes.
unfoldable pub named : List Name → Name → Bool
named words w = (lettered w && every worded w) && (short w && not (keyed words w))

-- The token of a byte by its class, of a keyword and of a numeral by their places, and of a word.
abbrev pub class_token : ℕ → Token
class_token c =
    cond (eqb c 1) (sign opening) (cond (eqb c 2) (sign closing) (cond (eqb c 3) (sign comma) (cond (eqb c 4) (sign colon) other)))

abbrev pub key_token : ℕ → Token
key_token i = key (get_or in_order i loop)

abbrev pub numeral_token : ℕ → Token
numeral_token n = cond (ltb n 17) (numeral n) other

unfoldable pub word_token : List Name → Name → Token
word_token words w =
    cond (keyed words w) (key_token (word_place words w))
    (cond (lettered w) (cond (named words w) (name w) other) (numeral_token (place_in numerals 0 17 w)))

-- The token that a word is, or that a byte is which stands in no word.
unfoldable pub token_of : List Name → Name → Token
token_of words w = cond (worded (get_or w 0 0)) (word_token words w) (class_token (class_of (get_or w 0 0)))

-- The tokens of a text.
unfoldable pub text_tokens : List Name → List ℕ → List Token
text_tokens words text = map (λ (s : Span). token_of words s.bytes) (spans_of text)

-- What the tokens of a text are: its names are names, and its numerals are those of document 01.
abbrev pub proper : List Name → Token → Bool
proper words (sign s) = true
proper words (key k) = true
proper words (name w) = named words w
proper words (numeral n) = leb n 16
proper words other = true

abbrev pub all_proper : List Name → List Token → Bool
all_proper words [] = true
all_proper words (t ∷ ts) = proper words t && all_proper words ts

-- How a token is written.
abbrev pub sign_bytes : Sign → Name
sign_bytes opening = bytes "("
sign_bytes closing = bytes ")"
sign_bytes comma = bytes ","
sign_bytes colon = bytes ":"

abbrev pub bytes_of : List Name → Token → Name
bytes_of words (sign s) = sign_bytes s
bytes_of words (key k) = get_or words (key_place k) []
bytes_of words (name w) = w
bytes_of words (numeral n) = get_or numerals n []
bytes_of words other = []

-- Words that can be keywords: nine, each of 1 to 12 letters, no two of them the same.
abbrev pub lettering : Name → Bool
lettering w = between 1 12 (length w) && every letter w

abbrev pub all_lettering : List Name → Bool
all_lettering [] = true
all_lettering (w ∷ ws) = lettering w && all_lettering ws

unfoldable pub sound : List Name → Bool
sound words = eqb (length words) 9 && (all_lettering words && differ words)

-- What is asked of a token: is it this sign, a name. The class of a sign's byte tells the sign.
abbrev pub sign_class : Sign → ℕ
sign_class opening = 1
sign_class closing = 2
sign_class comma = 3
sign_class colon = 4

abbrev pub is_sign : Sign → Token → Bool
is_sign s (sign r) = eqb (sign_class r) (sign_class s)
is_sign s (key k) = false
is_sign s (name w) = false
is_sign s (numeral n) = false
is_sign s other = false

abbrev pub is_name : Token → Bool
is_name (sign r) = false
is_name (key k) = false
is_name (name w) = true
is_name (numeral n) = false
is_name other = false

-- The number that a word stands for, if it is a numeral.
unfoldable pub numeral_in : Name → Option ℕ
numeral_in w = cond (ltb (place_in numerals 0 17 w) 17) (Some (place_in numerals 0 17 w)) None
