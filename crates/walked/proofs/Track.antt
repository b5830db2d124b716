-- The walk along a text by its tokens and their numbers, and what each token of the grammar does in it.
use mathlib.Core.Path.{◌≡◌, refl, sym, ap, ◌∙◌}
use mathlib.Core.Bool.{Bool, true, false, cond}
use mathlib.Core.List.{List, [], ◌∷◌, ◌++◌, map, append-nil, append_assoc}
use Prim.Native.Nat.{ℕ, suc, ◌+◌, ◌-◌, ◌<◌}
use native.Mathlib.Nat.{add-zero, add-suc, suc-add}
use native.Mathlib.Numerals.{add-one}
use native.Mathlib.Omega.{arith}
use lib.ListN.{length, get_or}
use borrow.Author.Tests.{ne_eqb, lt-leb}
use Rattle.base.specs.declared.Reason.{Reason}
use Rattle.diagram.specs.Tree.{Name}
use Rattle.tokens.specs.Words.{keywords}
use Rattle.tokens.specs.Spans.{Span}
use Rattle.tokens.specs.Classes.{between}
use Rattle.tokens.specs.Token.{opening, closing, comma, colon, Keyword, Token, key, name, numeral, token_of}
use Rattle.grammar.specs.Tokens.{bit, pars_tokens, ref_tokens}
use Rattle.grammar.specs.Machine.{Place, member, child, allows, Want, sign, named, number, params, node, more, others, Move, off, big, push, ref, parts, full, expand}
use Rattle.walked.specs.Walk.{State, state, change, begun, begun_kind, marked, sized, switched, waiting, beginning, naming, effect, End, whole, stop, proceed, walk}
use Rattle.walked.specs.declared.Row.{Row}
use Rattle.walked.proofs.Past.{start_of}

proceed_same : (v : Move) {p q : ℕ} → p ≡ q → (go on : ℕ → List Want → End) → ((u : ℕ) (vs : List Want) → go u vs ≡ on u vs) → proceed v p go ≡ proceed v q on
proceed_same off e go on h = ap (λ (x : ℕ). stop Reason.Token x) e
proceed_same big e go on h = ap (λ (x : ℕ). stop Reason.Node x) e
proceed_same (push u vs) e go on h = h u vs

-- A node with what is wanted after it is a node and then that.
begin_after : (y : Bool) (vs after ws : List Want) (p : ℕ) (go : ℕ → List Want → End)
    → proceed (cond y big (push 1 (vs ++ after))) p (λ u vs. go u (vs ++ ws)) ≡ proceed (cond y big (push 1 (vs ++ []))) p (λ u vs. go u (vs ++ (after ++ ws)))
begin_after true vs after ws p go = refl
begin_after false vs after ws p go = ap (go 1) (append_assoc vs after ws ∙ ap (λ (l : List Want). l ++ (after ++ ws)) (sym (append-nil vs)))

-- The number of the token after the pars, the sw and the `(` of a flow, which begin with the token k.
abbrev pub past_pars : ℕ → List Name → ℕ
past_pars k [] = suc (suc (suc (suc k)))
past_pars k (p ∷ ps) = past_pars (suc (suc k)) ps

module _ (text : List ℕ) where
  abbrev pl : ℕ → ℕ
  pl k = start_of text k

  unfoldable pub track : List Want → ℕ → State → ℕ → List Token → End
  track [] n st k [] = whole n st
  track [] n st k (t ∷ ts) = stop Reason.Token (pl k)
  track (w ∷ ws) n st k [] = stop Reason.Token (length text)
  track (w ∷ ws) n st k (t ∷ ts) = proceed (expand w n t) (pl k) (λ u vs. track (vs ++ ws) (n + u) (effect w n t (pl k) st) (suc k) ts)

  -- It is the walk over tokens at these places.
  pub walk_track : (ws : List Want) (n : ℕ) (st : State) (k : ℕ) (ss : List Span) → ((i : ℕ) → pl (k + i) ≡ get_or (map (λ (s : Span). s.place) ss) i 0)
      → walk ws n st (length text) ss ≡ track ws n st k (map (λ (s : Span). token_of keywords s.bytes) ss)
  unfolding walk track
  walk_track [] n st k [] g = refl
  walk_track [] n st k (s ∷ ss) g = ap (λ (p : ℕ). stop Reason.Token p) (sym (g 0) ∙ ap pl (add-zero k))
  walk_track (w ∷ ws) n st k [] g = refl
  walk_track (w ∷ ws) n st k (s ∷ ss) g =
      let q : s.place ≡ pl k = sym (ap pl (sym (add-zero k)) ∙ g 0) in
      let t : Token = token_of keywords s.bytes in
      let ts : List Token = map (λ (s : Span). token_of keywords s.bytes) ss in
      proceed_same (expand w n t) q (λ u vs. walk (vs ++ ws) (n + u) (effect w n t s.place st) (length text) ss)
      (λ u vs. track (vs ++ ws) (n + u) (effect w n t (pl k) st) (suc k) ts)
      (λ u vs.
      walk_track (vs ++ ws) (n + u) (effect w n t s.place st) (suc k) ss (λ i. ap pl (suc-add k i ∙ sym (add-suc k i)) ∙ g (suc i))
      ∙ ap (λ (p : ℕ). track (vs ++ ws) (n + u) (effect w n t p st) (suc k) ts) q)

  -- A `)`.
  pub closes : (ws : List Want) (n : ℕ) (st : State) (k : ℕ) (ts : List Token)
      → track (sign closing ∷ ws) n st k (Token.sign closing ∷ ts) ≡ track ws n st (suc k) ts
  unfolding track expand effect
  closes ws n st k ts = ap (λ (m : ℕ). track ws m st (suc k) ts) (add-zero n)

  -- A ref, that of the child that has waited least.
  pub ref_step : (ws : List Want) (n i : ℕ) (rows : List Row) (s : List ℕ) (k : ℕ) (r : Bool) (ts : List Token)
      → track (ref ++ ws) n (state rows (i ∷ s)) k (ref_tokens r ts) ≡ track ws n (state (change rows (suc i) (marked r)) s) (suc (suc (suc k))) ts
  unfolding track expand effect
  ref_step ws n i rows s k false ts = rw (add-zero n, add-zero n, add-zero n)
  ref_step ws n i rows s k true ts = rw (add-zero n, add-zero n, add-zero n)

  -- The size of the last node, with the `:` before it and the parentheses after it.
  pub size_step : (ws : List Want) (n : ℕ) (rows : List Row) (s : List ℕ) (k z : ℕ) (ts : List Token) → between 1 16 z ≡ true
      → track (sign colon ∷ number 1 16 ∷ sign closing ∷ sign opening ∷ ws) n (state rows s) k
      (Token.sign colon ∷ numeral z ∷ Token.sign closing ∷ Token.sign opening ∷ ts)
      ≡ track ws n (state (change rows n (sized z)) s) (suc (suc (suc (suc k)))) ts
  unfolding track expand effect
  size_step ws n rows s k z ts b = rw (add-zero n, b, add-zero n, add-zero n, add-zero n)

  -- The pars and sw of the last node, with the `(` after them.
  pub pars_step : (ps : List Name) (ws : List Want) (n : ℕ) (rows : List Row) (s : List ℕ) (k : ℕ) (sw : Bool) (ts : List Token)
      → track (params ∷ sign opening ∷ ws) n (state rows s) k
      (pars_tokens ps (Token.sign comma ∷ bit sw ∷ Token.sign closing ∷ Token.sign opening ∷ ts))
      ≡ track ws n (state (change rows n (switched sw)) s) (past_pars k ps) ts
  unfolding track expand effect
  pars_step [] ws n rows s k false ts = rw (add-zero n, add-zero n, add-zero n, add-zero n)
  pars_step [] ws n rows s k true ts = rw (add-zero n, add-zero n, add-zero n, add-zero n)
  pars_step (p ∷ ps) ws n rows s k sw ts = rw (add-zero n, add-zero n) (pars_step ps ws n rows s (suc (suc k)) sw ts)

  -- A keyword and the `(` after it, after which its parts are wanted.
  module _ (place : Place) (d n : ℕ) (w : Keyword) (allowed : allows place w ≡ true) (deep : 0 < d) (few : n < 256) (vs ws : List Want) (rows : List Row) (s : List ℕ)
      (k : ℕ) (ts : List Token) where
    pub open_step : parts w (d - 1) ≡ sign opening ∷ vs
        → track (node place d ∷ ws) n (state rows s) k (key w ∷ Token.sign opening ∷ ts)
        ≡ track (vs ++ ws) (suc n) (state (begun rows n (begun_kind (key w)) (pl k) d) (waiting place n s)) (suc (suc k)) ts
    unfolding track expand effect
    open_step p =
        rw (allowed, ne_eqb d 0 (λ z. omega arith), lt-leb 256 n few, p, append-nil vs, add-one n, add-zero (suc n))

    -- The same and the name.
    pub name_step : (t : Name) → parts w (d - 1) ≡ sign opening ∷ named ∷ vs
        → track (node place d ∷ ws) n (state rows s) k (key w ∷ Token.sign opening ∷ name t ∷ ts)
        ≡ track (vs ++ ws) (suc n)
        (naming (suc n) (pl (suc (suc k))) (pl (suc (suc k)) + length t) (state (begun rows n (begun_kind (key w)) (pl k) d) (waiting place n s)))
        (suc (suc (suc k))) ts
    unfolding track expand effect
    name_step t p =
        rw (allowed, ne_eqb d 0 (λ z. omega arith), lt-leb 256 n few, p, append-nil vs, add-one n, add-zero (suc n), add-zero (suc n))

  -- What is listed up to a `)`: that sign, or a node and what is wanted after it.
  module _ (d : ℕ) (ws : List Want) (n : ℕ) (st : State) (k : ℕ) (ts : List Token) where
    pub more_closing : track (more d ∷ ws) n st k (Token.sign closing ∷ ts) ≡ track ws n st (suc k) ts
    unfolding track expand effect
    more_closing = ap (λ (m : ℕ). track ws m st (suc k) ts) (add-zero n)

    pub others_closing : track (others d ∷ ws) n st k (Token.sign closing ∷ ts) ≡ track ws n st (suc k) ts
    unfolding track expand effect
    others_closing = ap (λ (m : ℕ). track ws m st (suc k) ts) (add-zero n)

    pub more_node : (w : Keyword) → track (more d ∷ ws) n st k (key w ∷ ts) ≡ track (node child d ∷ ref ++ (more d ∷ ws)) n st k (key w ∷ ts)
    unfolding track expand effect
    more_node w =
        begin_after (full d n) (parts w (d - 1)) (ref ++ (more d ∷ [])) ws (pl k)
        (λ u vs. track vs (n + u) (beginning child d n (begun_kind (key w)) (pl k) st) (suc k) ts)

    pub others_node : (w : Keyword) → allows member w ≡ true
        → track (others d ∷ ws) n st k (key w ∷ ts) ≡ track (node member d ∷ others d ∷ ws) n st k (key w ∷ ts)
    unfolding track expand effect
    others_node w a =
        rw a
        (begin_after (full d n) (parts w (d - 1)) (others d ∷ []) ws (pl k)
        (λ u vs. track vs (n + u) (beginning member d n (begun_kind (key w)) (pl k) st) (suc k) ts))
