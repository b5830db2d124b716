-- Where the nodes of a text stand: each begins with a keyword, and no keyword stands elsewhere, so the node that has the number i begins with the keyword i.
use Rattle.std.specs.Prelude.{cond, List, [], ◌∷◌, ℕ, suc, ◌+◌, get_or}
use Rattle.tokens.specs.Words.{keywords}
use Rattle.tokens.specs.Spans.{places}
use Rattle.tokens.specs.Token.{Token, text_tokens}
use Rattle.grammar.specs.Machine.{is_key}

-- The numbers of the keywords among some tokens, of which the first has the number k.
unfoldable pub keys_from : ℕ → List Token → List ℕ
keys_from k [] = []
keys_from k (t ∷ ts) = cond (is_key t) (k ∷ keys_from (suc k) ts) (keys_from (suc k) ts)

-- The number of the token that begins the node i of a text.
abbrev pub key_token : List ℕ → ℕ → ℕ
key_token text i = get_or (keys_from 0 (text_tokens keywords text)) i 0

-- The place of the keyword of the node i; and that of its name or par, which stands two tokens after it, the `(` being between them.
unfoldable pub keyword_at : List ℕ → ℕ → ℕ
keyword_at text i = get_or (places text) (key_token text i) 0

unfoldable pub name_at : List ℕ → ℕ → ℕ
name_at text i = get_or (places text) (key_token text i + 2) 0
