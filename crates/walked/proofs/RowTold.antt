-- The row of a node, from the tokens that the walk has come to and from the numbers that are written.
use mathlib.Core.Path.{◌≡◌, refl, sym, ap, ◌∙◌}
use mathlib.Core.Bool.{Bool, true, false, ◌||◌, cond, false≢true}
use mathlib.Core.List.{List, [], ◌∷◌}
use Prim.Native.Nat.{ℕ, suc, ◌+◌}
use lib.ListN.{length}
use Rattle.base.proofs.Truth.{or_l}
use Rattle.diagram.specs.Tree.{Name}
use Rattle.diagram.specs.TreeNodes.{TextNode, flowing, leafy, copying, has_name}
use Rattle.diagram.specs.declared.Kind.{Kind}
use Rattle.tokens.specs.Words.{keywords, word_at}
use Rattle.tokens.specs.Token.{opening, closing, comma, Keyword, Token, sign, key, name}
use Rattle.grammar.specs.Named.{all_named}
use Rattle.grammar.specs.Tokens.{bit, pars_tokens}
use Rattle.grammar.specs.Keys.{keyword_at, name_at}
use Rattle.walked.specs.Rows.{row_of, past_word, Listed, Tells}
use Rattle.walked.specs.declared.Row.{Row as DeclaredRow}
use Rattle.walked.proofs.Past.{start_of, word_there, rest_there, Here, past_key, past_token, name_there}

module _ (text : List ℕ) where
  -- The text says the name and the pars of the node n: from p up to e, and after that.
  pub record Spelled (n : ℕ) (k : Kind) (w : Name) (ps : List Name) (p e : ℕ) : Type 0 where
    pub place : p ≡ cond (has_name k) (name_at text n) 0
    pub word : w ≡ cond (has_name k) (word_at text p) []
    pub past : has_name k ≡ true → e ≡ past_word text p
    pub listed : flowing k ≡ true → Listed text p ps
    pub unlisted : flowing k ≡ false → ps ≡ []

  pub no_name : (n : ℕ) (k : Kind) → has_name k ≡ false → Spelled n k [] [] 0 0
  no_name n k f =
      let no : has_name k ≡ true → ⊥ = λ t. false≢true (sym f ∙ t) in
      record { place = rw f; word = rw f; past = λ t. absurd (no t); listed = λ t. absurd (no (or_l (leafy k || copying k) t)); unlisted = λ t. refl }

  module _ (n k : ℕ) (w : Keyword) (t : Name) (ts : List Token) (h : Here text n k (key w ∷ sign opening ∷ name t ∷ ts)) where
    abbrev name_place : ℕ
    name_place = start_of text (suc (suc k))

    there : Here text (suc n) (suc (suc k)) (name t ∷ ts)
    there = past_token text refl (past_key text h)

    the_word : word_at text name_place ≡ t
    the_word = word_there text (suc (suc k)) t ts there.left

    titled : (kind : Kind) (ps : List Name) → has_name kind ≡ true → (flowing kind ≡ true → Listed text name_place ps) → (flowing kind ≡ false → ps ≡ [])
        → Spelled n kind t ps name_place (name_place + length t)
    titled kind ps f l u =
        record { place = rw f (sym (name_there text h)); word = rw f (sym the_word); past = λ z. rw the_word; listed = l; unlisted = u }

    pub one_name : (kind : Kind) → has_name kind ≡ true → flowing kind ≡ false → Spelled n kind t [] name_place (name_place + length t)
    one_name kind f g = titled kind [] f (λ z. absurd (false≢true (sym g ∙ z))) (λ z. refl)

    pub with_pars : (kind : Kind) (ps : List Name) (sw : Bool) (us : List Token) → flowing kind ≡ true → all_named keywords ps ≡ true
        → ts ≡ pars_tokens ps (sign comma ∷ bit sw ∷ sign closing ∷ us) → Spelled n kind t ps name_place (name_place + length t)
    with_pars kind ps sw us f g q =
        titled kind ps (or_l (leafy kind || copying kind) f)
        (λ z. record { sw = sw; others = us; names = g; tokens = rest_there text (suc (suc k)) t ts there.left ∙ q })
        (λ z. absurd (false≢true (sym z ∙ f)))

  -- The row that tells a node whose keyword stands at v, and whose name or par from p up to e.
  abbrev pub its_row : TextNode → ℕ → ℕ → ℕ → DeclaredRow
  its_row h v p e = record {
    node = record { kind = h.kind; solid = h.solid; strong = h.strong; depth = h.depth; at = v; name = p };
    past = e;
  }

  module _ (n v p e : ℕ) (h : TextNode) (numbered : h.number ≡ n) (begun : keyword_at text n ≡ v) (s : Spelled n h.kind h.name h.pars p e) (rows : List DeclaredRow) where
    pub row_told : row_of rows n ≡ its_row h v p e → Tells text rows n h
    row_told r =
        record {
          number = numbered;
          at = ap (λ (x : DeclaredRow). x.node.at) r ∙ sym begun;
          solid = ap (λ (x : DeclaredRow). x.node.solid) r;
          name = ap (λ (x : DeclaredRow). x.node.name) r ∙ s.place;
          kind = ap (λ (x : DeclaredRow). x.node.kind) r;
          depth = ap (λ (x : DeclaredRow). x.node.depth) r;
          strong = ap (λ (x : DeclaredRow). x.node.strong) r;
          word = rw r s.word;
          past = λ t. rw r (s.past t);
          listed = λ t. rw r (s.listed t);
          unlisted = s.unlisted;
        }
