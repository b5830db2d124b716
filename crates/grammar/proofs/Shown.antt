-- The machine moves by the kinds of the tokens as it does by the tokens.
use Rattle.std.proofs.Common.{◌≡◌, refl, ap, Some, ℕ, List, []}
use Rattle.tokens.specs.Token.{Token, sign, key, name, numeral, other, is_sign}
use Rattle.tokens.specs.Kinds.{kind, shown}
use Rattle.tokens.proofs.Shown.{sign_back, key_back}
use Rattle.tokens.specs.Token.{Sign}
use Rattle.grammar.specs.Machine.{Want, named, number, params, param, node, more, others, expand}

-- A name by its kind is a name.
any_name : (w : Want) (n : ℕ) (v : List ℕ) → expand w n (name []) ≡ expand w n (name v)
unfolding expand
any_name (Want.sign s) n v = refl
any_name named n v = refl
any_name (number a b) n v = refl
any_name params n v = refl
any_name param n v = refl
any_name (node p d) n v = refl
any_name (more d) n v = refl
any_name (others d) n v = refl

pub expand_shown : (w : Want) (n : ℕ) (t : Token) → expand w n (shown (Some (kind t))) ≡ expand w n t
expand_shown w n (sign s) = rw (sign_back s)
expand_shown w n (key k) = rw (key_back k)
expand_shown w n (name v) = any_name w n v
expand_shown w n (numeral m) = refl
expand_shown w n other = refl
