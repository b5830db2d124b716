-- What a kind shows of a token: the sign, the keyword, and whether it is a name.
use Rattle.std.proofs.Common.{◌≡◌, refl, ◌∙◌, ℕ, sym, cond, false, Some, eqb}
use borrow.Author.Tests.{eqb-true, ne_eqb}
use Rattle.base.proofs.Truth.{by_cases}
use Rattle.diagram.specs.Tree.{all, some, one}
use Rattle.tokens.specs.Token.{Sign, opening, closing, comma, colon, Keyword, flow, leaf, group, replicator, loop, Token, sign, key, name, numeral, other, class_token, is_sign, is_name, sign_class}
use Rattle.tokens.specs.Classes.{between}
use Rattle.tokens.specs.Kinds.{sign_kind, key_kind, kind, shown_sign, shown_key, shown}
use Rattle.tokens.specs.declared.Sign.{Sign as SignKind}
use Rattle.tokens.specs.declared.Sign.TheVariants.{Opening, Closing, Comma, Colon}
use Rattle.tokens.specs.declared.TokenKind.{TokenKind}
use Rattle.tokens.proofs.WordKinds.{byte_kind}

pub sign_back : (s : Sign) → shown_sign (sign_kind s) ≡ s
sign_back opening = refl
sign_back closing = refl
sign_back comma = refl
sign_back colon = refl

pub key_back : (k : Keyword) → shown_key (key_kind k) ≡ k
key_back flow = refl
key_back leaf = refl
key_back (group all) = refl
key_back (group some) = refl
key_back (group one) = refl
key_back (replicator all) = refl
key_back (replicator some) = refl
key_back (replicator one) = refl
key_back loop = refl

pub sign_shown : (s : Sign) (t : Token) → is_sign s (shown (Some (kind t))) ≡ is_sign s t
sign_shown s (sign r) = rw (sign_back r)
sign_shown s (key k) = refl
sign_shown s (name w) = refl
sign_shown s (numeral n) = refl
sign_shown s other = refl

pub name_shown : (t : Token) → is_name (shown (Some (kind t))) ≡ is_name t
name_shown (sign s) = refl
name_shown (key k) = refl
name_shown (name w) = refl
name_shown (numeral n) = refl
name_shown other = refl

-- A byte of another class is another token than the sign.
other_sign : (s : Sign) (c : ℕ) → (c ≡ sign_class s → ⊥) → is_sign s (class_token c) ≡ false
other_sign s c f =
    at 1 opening _ refl (at 2 closing _ refl (at 3 comma _ refl (at 4 colon other refl refl)))
  where
    at : (n : ℕ) (r : Sign) (t : Token) → sign_class r ≡ n → is_sign s t ≡ false → is_sign s (cond (eqb c n) (sign r) t) ≡ false
    at n r t e h = by_cases (eqb c n) (λ q. rw q (ne_eqb (sign_class r) (sign_class s) (λ z. f (eqb-true c n q ∙ sym e ∙ z)))) (λ q. rw q h)

pub other_class : (s : Sign) (c : ℕ) → (c ≡ sign_class s → ⊥) → is_sign s (shown (byte_kind c)) ≡ false
other_class s c f = by_cases (between 0 0 c) (λ e. rw e) (λ e. rw e (sign_shown s (class_token c) ∙ other_sign s c f))

-- A byte of the class of a sign is that sign.
pub sign_byte : (s : SignKind) → byte_kind (sign_class (shown_sign s)) ≡ Some (TokenKind.Sign s)
sign_byte Opening = refl
sign_byte Closing = refl
sign_byte Comma = refl
sign_byte Colon = refl
