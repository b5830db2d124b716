-- The laws of the machine along a text that the readers' proofs cite, over the kinds by which they know the tokens.
use mathlib.Core.Path.{◌≡◌, refl, sym, ap, ◌∙◌}
use mathlib.Core.Logic.{◌⊎◌, inl, inr}
use mathlib.Core.Bool.{Bool, true, false, ◌&&◌, ◌||◌, cond, false≢true}
use mathlib.Core.List.{List, [], ◌∷◌, ◌++◌, append_assoc, append-nil}
use Prim.Native.Nat.{ℕ, ◌+◌, ◌-◌, ◌≤◌, ◌<◌}
use native.Mathlib.Nat.{add-zero}
use native.Mathlib.Omega.{arith}
use lib.Dec.{eqb, leb}
use lib.ListN.{length, get_or}
use borrow.Author.Tests.{le-leb, lt-leb, eq-eqb, ne_eqb}
use Rattle.std.specs.Prelude.{Option, Some, None, Result, Ok, Err}
use Rattle.std.specs.Result.{IsErr, IsErrAnd}
use Rattle.std.proofs.lemmas.Result.{err_from_is_err_and}
use Rattle.base.specs.Refusals.{refusal}
use Rattle.base.specs.declared.Reason.{Reason}
use Rattle.base.specs.declared.Refusal.{Refusal}
use Rattle.diagram.specs.Tree.{Name}
use Rattle.base.proofs.Truth.{by_cases}
use Rattle.tokens.specs.Classes.{foreign}
use Rattle.tokens.specs.Words.{keywords}
use Rattle.tokens.specs.Spans.{Span}
use Rattle.tokens.specs.Token.{Sign, closing, comma, Token, key, name, numeral, other, token_of}
use Rattle.tokens.specs.Kinds.{kind, token_kind, shown_key, shown, keyword_of, number_of}
use Rattle.tokens.specs.Rest.{rest, front_kind, front_place, front_length, others_of, Next}
use Rattle.tokens.specs.declared.Keyword.{Keyword as KeyKind}
use Rattle.tokens.specs.declared.TokenKind.{TokenKind}
use Rattle.tokens.specs.declared.Lexeme.{Lexeme}
use Rattle.tokens.specs.declared.Sign.TheVariants.{Closing as ClosingSign}
use Rattle.tokens.proofs.Tokens.{known_kind, foreign_kind}
use Rattle.tokens.proofs.Shown.{key_back, name_shown, sign_shown}
use Rattle.grammar.specs.Machine.{is_sign, is_name, counts, Place, root, member, child, allows, Want, sign, named, number, params, param, node, more, others, Move, off, big, push, ref, parts, full, depths, begin, expand}
use Rattle.grammar.proofs.Shown.{expand_shown}
use Rattle.walked.specs.declared.Position.{Position}
use Rattle.walked.specs.declared.Row.{Row}
use Rattle.walked.specs.Walk.{State, state, begun, waiting, beginning, marking, naming, sizing, switching, spelled, begun_kind, value, effect, End, stop, proceed, walk, from, ending}
use Rattle.walked.specs.code.Kinds.{kind_effect}
use Rattle.walked.proofs.Past.{name_bytes}
use Rattle.walked.specs.code.Readers.{Closing, Step, position, left_at, Turns, Writes, Fills, Opens, Begins, told}

and_no : (b : Bool) → (b && false) ≡ false
and_no true = refl
and_no false = refl

or_yes : (b : Bool) → (b || true) ≡ true
or_yes true = refl
or_yes false = refl

-- No want takes what is wanted nowhere.
none_takes : (w : Want) (n : ℕ) → expand w n other ≡ off
unfolding expand
none_takes (sign s) n = refl
none_takes named n = refl
none_takes (number a b) n = refl
none_takes params n = refl
none_takes param n = refl
none_takes (node p d) n = refl
none_takes (more d) n = refl
none_takes (others d) n = refl

push_not_off : {A : Type 0} {u : ℕ} {vs : List Want} → push u vs ≡ off → A
push_not_off e = let z : ◌≡◌ {A = ℕ} 0 1 = cc in absurd (omega arith)

pub err_not_ok : {A : Type 0} {T E : Type 0} {x : E} {p : T} → ◌≡◌ {A = Result T E} (Err x) (Ok p) → A
err_not_ok e = let z : ⊥ = cc in absurd z

-- What `?` passes on is the refusal that it met.
pub passed : {T E : Type 0} {x : E} {r : Result T E} → IsErr r × IsErrAnd r (λ y. y ≡ x) → r ≡ Err x
passed {T} {E} {x} {r} h = let e = err_from_is_err_and {Q = λ (y : E). y ≡ x} r h.1 in e.1 ∙ ap (λ (y : E). Err y) e.2

-- What a look at the next byte says of a `)`.
pub none_closing : {text : List ℕ} {at : ℕ} {t : Lexeme} → Next text at t → is_sign closing (shown t.kind) ≡ false → Closing text at None
none_closing {text} {at} {t} q f = record { shut = λ e z. let y : ⊥ = cc in absurd y; another = λ e. (t, (q, f)) }

pub is_closing : {text : List ℕ} {at i : ℕ} → Next text at (record { kind = Some (TokenKind.Sign ClosingSign); start = i; end = i + 1 })
    → Closing text at (Some (i + 1))
is_closing {text} {at} {i} q =
    record {
      shut = λ e s. let z : i + 1 ≡ e = cc in let y : i + 1 - 1 ≡ i = omega arith in rw (← z, y) q;
      another = λ e. let y : ⊥ = cc in absurd y;
    }

-- The machine at the next token. Whatever is wanted of it, its kind decides as the token does.
module _ (w : Want) (n : ℕ) (b : Name) where
  foreign_off : foreign (get_or b 0 0) ≡ true → expand w n (token_of keywords b) ≡ off
  foreign_off f = rw (foreign_kind keywords b f).1 (none_takes w n)

  move_kind : expand w n (token_of keywords b) ≡ expand w n (shown (token_kind b))
  move_kind =
      by_cases (foreign (get_or b 0 0)) (λ f. let k = foreign_kind keywords b f in rw (k.0, k.1))
      (λ f. rw (known_kind b f) (sym (expand_shown w n (token_of keywords b))))

  kind_taken : {u : ℕ} {vs : List Want} → expand w n (token_of keywords b) ≡ push u vs → token_kind b ≡ Some (kind (token_of keywords b))
  kind_taken e = by_cases (foreign (get_or b 0 0)) (λ f. push_not_off (sym e ∙ foreign_off f)) (known_kind b)

-- A name is its bytes.
name_whole : (b : Name) (t : Token) → token_of keywords b ≡ t → is_name t ≡ true → length (spelled t) ≡ length b
name_whole b (Token.sign s) q e = absurd (false≢true e)
name_whole b (key k) q e = absurd (false≢true e)
name_whole b (name v) q e = ap length (sym (name_bytes b v q).0)
name_whole b (numeral m) q e = absurd (false≢true e)
name_whole b other q e = absurd (false≢true e)

-- What a token writes where it is taken.
row_shown : (t : Token) → begun_kind (shown (Some (kind t))) ≡ begun_kind t
row_shown (Token.sign s) = refl
row_shown (key k) = rw (key_back k)
row_shown (name w) = refl
row_shown (numeral n) = refl
row_shown other = refl

value_shown : (t : Token) → value (shown (Some (kind t))) ≡ value t
value_shown (Token.sign s) = refl
value_shown (key k) = refl
value_shown (name w) = refl
value_shown (numeral n) = refl
value_shown other = refl

effect_shown : (w : Want) (n : ℕ) (t : Token) (p e : ℕ) (st : State) → (is_name t ≡ true → p + length (spelled t) ≡ e) → {u : ℕ} {vs : List Want}
    → expand w n t ≡ push u vs → effect w n t p st ≡ kind_effect w n (Some (kind t)) p e st
unfolding expand effect kind_effect
effect_shown (sign s) n t p e st h x = refl
effect_shown named n (Token.sign s) p e st h x = push_not_off (sym x)
effect_shown named n (key k) p e st h x = push_not_off (sym x)
effect_shown named n (name v) p e st h x = rw (h refl)
effect_shown named n (numeral m) p e st h x = push_not_off (sym x)
effect_shown named n other p e st h x = push_not_off (sym x)
effect_shown (number a b) n t p e st h x = rw (value_shown t)
effect_shown params n t p e st h x = refl
effect_shown param n t p e st h x = rw (value_shown t, name_shown t)
effect_shown (node place d) n t p e st h x = rw (row_shown t)
effect_shown (more d) n t p e st h x = rw (sign_shown closing t, row_shown t)
effect_shown (others d) n t p e st h x = rw (sign_shown closing t, row_shown t)

proceed_same : (m : Move) (k : ℕ) (f g : ℕ → List Want → End) → ((u : ℕ) (vs : List Want) → m ≡ push u vs → f u vs ≡ g u vs) → proceed m k f ≡ proceed m k g
proceed_same off k f g h = refl
proceed_same big k f g h = refl
proceed_same (push u vs) k f g h = h u vs refl

at_front : (w : Want) (ws : List Want) (n : ℕ) (st : State) (e : ℕ) (ss : List Span)
    → walk (w ∷ ws) n st e ss ≡ proceed (expand w n (shown (front_kind ss))) (front_place e ss) (λ u vs.
    walk (vs ++ ws) (n + u) (kind_effect w n (front_kind ss) (front_place e ss) (front_place e ss + front_length ss) st) e (others_of ss))
unfolding walk
at_front w ws n st e [] = rw (none_takes w n)
at_front w ws n st e (s ∷ ss) =
    let b = s.bytes in
    let t = token_of keywords b in
    proceed_same (expand w n t) s.place _ _ (λ u vs x.
    ap (λ (y : State). walk (vs ++ ws) (n + u) y e ss)
    (effect_shown w n t s.place (s.place + length b) st (λ m. ap (λ (l : ℕ). s.place + l) (name_whole b t refl m)) x
    ∙ ap (λ (k : Option TokenKind). kind_effect w n k s.place (s.place + length b) st) (sym (kind_taken w n b x))))
    ∙ rw (move_kind w n b)

-- What the next token writes where it is taken.
abbrev pub written_by : Want → ℕ → Lexeme → State → State
written_by w n t st = kind_effect w n t.kind t.start t.end st

at_token : {text : List ℕ} {k : ℕ} {t : Lexeme} → Next text k t → (w : Want) (ws : List Want) (n : ℕ) (st : State)
    → from text (w ∷ ws) n st k ≡ proceed (expand w n (shown t.kind)) t.start (λ u vs. from text (vs ++ ws) (n + u) (written_by w n t st) t.end)
at_token {text} {k} {t} q w ws n st =
    rw (← q.its_kind, ← q.placed, ← q.after) at (at_front w ws n st (length text) (rest text k))
    ∙ proceed_same (expand w n (shown t.kind)) t.start _ _ (λ u vs e.
    ap (λ (x : ℕ). from text (vs ++ ws) (n + u) (kind_effect w n t.kind t.start x st) t.end)
    (sym (q.long (λ z. push_not_off (sym e ∙ ap (λ (k : Option TokenKind). expand w n (shown k)) z ∙ none_takes w n)))))

-- Where a reader has got to: what it is to read, ws from the position k with n nodes and st written, is now vs from j with m nodes and st' written.
pub record Leads (text : List ℕ) (ws : List Want) (n k : ℕ) (st : State) (vs : List Want) (m j : ℕ) (st' : State) : Type 0 where
  pub machine : (rest : List Want) → from text (ws ++ rest) n st k ≡ from text (vs ++ rest) m st' j
  pub onward : k ≤ j

pub starts : {text : List ℕ} {ws : List Want} {n k : ℕ} {st : State} → Leads text ws n k st ws n k st
starts = record { machine = λ rest. refl; onward = omega arith }

pub stands : {text : List ℕ} {ws vs : List Want} {n k : ℕ} {st : State} → ws ≡ vs → Leads text ws n k st vs n k st
stands e = rw e starts

module _ {text : List ℕ} {ws : List Want} {n k : ℕ} {st : State} {m j : ℕ} {st₁ : State} where
  -- A reader of what is wanted first refuses, or goes on; one of all that is wanted ends it.
  pub halts : {vs xs : List Want} {r : Step} {x : Refusal} {st₂ st₃ : State} → Turns text vs m j st₁ (Err x) xs st₂ → r ≡ Err x
      → (us : List Want) → Leads text ws n k st (vs ++ us) m j st₁ → Writes text ws n k st r st₃
  halts {vs} {xs} {r} {x} {st₂} {st₃} q e us l = record {
    machine = λ rest. l.machine rest ∙ ap (λ (y : List Want). from text y m st₁ j) (append_assoc vs us rest) ∙ q.machine (us ++ rest)
        ∙ sym (ap (left_at text rest st₃) e);
    onward = λ p g. err_not_ok (sym e ∙ g);
  }

  pub goes : {vs : List Want} {p : Position} {st₂ : State} → Writes text vs m j st₁ (Ok p) st₂
      → (us : List Want) → Leads text ws n k st (vs ++ us) m j st₁ → Leads text ws n k st us p.nodes p.at st₂
  goes {vs} {p} {st₂} q us l = record {
    machine = λ rest. l.machine rest ∙ ap (λ (y : List Want). from text y m st₁ j) (append_assoc vs us rest) ∙ q.machine (us ++ rest);
    onward = let o = q.onward p refl in let b = l.onward in omega arith;
  }

  pub ends : {vs : List Want} {r : Step} {st₂ : State} → Writes text vs m j st₁ r st₂ → Leads text ws n k st vs m j st₁ → Writes text ws n k st r st₂
  ends q l = record {
    machine = λ rest. l.machine rest ∙ q.machine rest;
    onward = λ p e. let o = q.onward p e in let b = l.onward in (omega arith, o.1);
  }

  pub arrives : {vs : List Want} → Leads text ws n k st vs m j st₁ → k < j → j ≤ length text → Turns text ws n k st (Ok (position j m)) vs st₁
  arrives l a b = record {
    machine = l.machine;
    onward = λ p e. let z : position j m ≡ p = cc in rw (← z) (a, b);
  }

  -- The next token, t, is refused, or taken.
  module _ {w : Want} {vs : List Want} (l : Leads text ws n k st (w ∷ vs) m j st₁) {t : Lexeme} (q : Next text j t) where
    stops : {v : Move} {xs : List Want} {st₃ : State} (c : Reason) → expand w m (shown t.kind) ≡ v
        → ((go : ℕ → List Want → End) → proceed v t.start go ≡ stop c t.start) → {x : Refusal} → x ≡ refusal c t.start
        → Turns text ws n k st (Err x) xs st₃
    stops c e f g = rw g record {
      machine = λ rest. l.machine rest ∙ at_token q w (vs ++ rest) m st₁
          ∙ rw e (f (λ u us. from text (us ++ (vs ++ rest)) (m + u) (written_by w m t st₁) t.end));
      onward = λ p h. err_not_ok h;
    }

    pub off_grammar : {x : Refusal} {xs : List Want} {st₃ : State} → x ≡ refusal Reason.Token t.start → expand w m (shown t.kind) ≡ off
        → Turns text ws n k st (Err x) xs st₃
    off_grammar g e = stops Reason.Token e (λ go. refl) g

    pub over_limit : {x : Refusal} {xs : List Want} {st₃ : State} → x ≡ refusal Reason.Node t.start → expand w m (shown t.kind) ≡ big
        → Turns text ws n k st (Err x) xs st₃
    over_limit g e = stops Reason.Node e (λ go. refl) g

    some : {u : ℕ} {us : List Want} → expand w m (shown t.kind) ≡ push u us → (j < t.end) × (t.end ≤ length text)
    some e = q.onward (λ z. push_not_off (sym e ∙ ap (λ (k : Option TokenKind). expand w m (shown k)) z ∙ none_takes w m))

    pub counted : {u : ℕ} {us : List Want} → expand w m (shown t.kind) ≡ push u us → Leads text ws n k st (us ++ vs) (m + u) t.end (written_by w m t st₁)
    counted {u} {us} e = record {
      machine = λ rest. l.machine rest ∙ at_token q w (vs ++ rest) m st₁ ∙ rw (e, append_assoc us vs rest);
      onward = let b = l.onward in let o = some e in omega arith;
    }

    pub taken : {us : List Want} → expand w m (shown t.kind) ≡ push 0 us → Leads text ws n k st (us ++ vs) m t.end (written_by w m t st₁)
    taken {us} e = let o = counted e in rw (add-zero m) at o

-- The next token is taken as the last that is wanted.
pub closes : {text : List ℕ} {ws : List Want} {n k m j : ℕ} {st st₁ : State} {w : Want} → Leads text ws n k st (w ∷ []) m j st₁ → {t : Lexeme} → Next text j t
    → expand w m (shown t.kind) ≡ push 0 [] → Writes text ws n k st (Ok (position t.end m)) (written_by w m t st₁)
closes l q e = let b = l.onward in let o = some l q e in arrives (taken l q e) (omega arith) o.1

-- What a kind is, by what is asked of it.
is_key_kind : (k : Option TokenKind) (w : KeyKind) → keyword_of k ≡ Some w → k ≡ Some (TokenKind.Keyword w)
is_key_kind None w e = absurd (let z : ⊥ = cc in z)
is_key_kind (Some (TokenKind.Sign s)) w e = absurd (let z : ⊥ = cc in z)
is_key_kind (Some (TokenKind.Keyword v)) w e = let z : v ≡ w = cc in rw z
is_key_kind (Some TokenKind.Name) w e = absurd (let z : ⊥ = cc in z)
is_key_kind (Some (TokenKind.Numeral n)) w e = absurd (let z : ⊥ = cc in z)
is_key_kind (Some TokenKind.Other) w e = absurd (let z : ⊥ = cc in z)

is_number_kind : (k : Option TokenKind) (v : ℕ) → number_of k ≡ Some v → k ≡ Some (TokenKind.Numeral v)
is_number_kind None v e = absurd (let z : ⊥ = cc in z)
is_number_kind (Some (TokenKind.Sign s)) v e = absurd (let z : ⊥ = cc in z)
is_number_kind (Some (TokenKind.Keyword w)) v e = absurd (let z : ⊥ = cc in z)
is_number_kind (Some TokenKind.Name) v e = absurd (let z : ⊥ = cc in z)
is_number_kind (Some (TokenKind.Numeral n)) v e = let z : n ≡ v = cc in rw z
is_number_kind (Some TokenKind.Other) v e = absurd (let z : ⊥ = cc in z)

no_key : (k : Option TokenKind) (p : Place) (d n : ℕ) (after : List Want) → keyword_of k ≡ None → begin p d n (shown k) after ≡ off
no_key None p d n after e = refl
no_key (Some (TokenKind.Sign s)) p d n after e = refl
no_key (Some (TokenKind.Keyword v)) p d n after e = absurd (let z : ⊥ = cc in z)
no_key (Some TokenKind.Name) p d n after e = refl
no_key (Some (TokenKind.Numeral m)) p d n after e = refl
no_key (Some TokenKind.Other) p d n after e = refl

pub no_number : (k : Option TokenKind) (a b : ℕ) → number_of k ≡ None → counts a b (shown k) ≡ false
no_number None a b e = refl
no_number (Some (TokenKind.Sign s)) a b e = refl
no_number (Some (TokenKind.Keyword v)) a b e = refl
no_number (Some TokenKind.Name) a b e = refl
no_number (Some (TokenKind.Numeral m)) a b e = absurd (let z : ⊥ = cc in z)
no_number (Some TokenKind.Other) a b e = refl

pub number_apart : (k : Option TokenKind) (a b v : ℕ) → number_of k ≡ Some v → (v < a) ⊎ (b < v) → counts a b (shown k) ≡ false
number_apart k a b v e (inl l) = rw (is_number_kind k v e, lt-leb a v l)
number_apart k a b v e (inr h) = rw (is_number_kind k v e, lt-leb v b h, and_no (leb a v))

-- A sign or a name is some token.
pub sign_some : (s : Sign) (k : Option TokenKind) → is_sign s (shown k) ≡ true → k ≡ None → ⊥
sign_some s k e z = false≢true (rw z at e)

pub name_some : (k : Option TokenKind) → is_name (shown k) ≡ true → k ≡ None → ⊥
name_some k e z = false≢true (rw z at e)

-- What each want does at a token: the tests that the readers make decide it.
module _ (n : ℕ) (k : Option TokenKind) where
  pub sign_takes : (s : Sign) → is_sign s (shown k) ≡ true → expand (sign s) n (shown k) ≡ push 0 []
  unfolding expand
  sign_takes s e = rw e

  pub sign_none : (s : Sign) → k ≡ None → expand (sign s) n (shown k) ≡ off
  sign_none s e = rw e (none_takes (sign s) n)

  pub sign_other : (s : Sign) → is_sign s (shown k) ≡ false → expand (sign s) n (shown k) ≡ off
  unfolding expand
  sign_other s e = rw e

  pub name_takes : is_name (shown k) ≡ true → expand named n (shown k) ≡ push 0 []
  unfolding expand
  name_takes e = rw e

  pub name_other : is_name (shown k) ≡ false → expand named n (shown k) ≡ off
  unfolding expand
  name_other e = rw e

  module _ (a b : ℕ) where
    pub number_off : counts a b (shown k) ≡ false → expand (number a b) n (shown k) ≡ off
    unfolding expand
    number_off e = rw e

    module _ (v : ℕ) (e : number_of k ≡ Some v) where
      pub number_takes : a ≤ v → v ≤ b → expand (number a b) n (shown k) ≡ push 0 []
      unfolding expand
      number_takes l h = rw (is_number_kind k v e, le-leb a v l, le-leb v b h)

  pub comma_takes : is_sign comma (shown k) ≡ true → expand params n (shown k) ≡ push 0 (param ∷ [])
  unfolding expand
  comma_takes e = rw e

  pub comma_other : is_sign comma (shown k) ≡ false → expand params n (shown k) ≡ off
  unfolding expand
  comma_other e = rw e

  pub par_takes : is_name (shown k) ≡ true → expand param n (shown k) ≡ push 0 (params ∷ [])
  unfolding expand
  par_takes e = rw e

  pub sw_off : is_name (shown k) ≡ false → counts 0 1 (shown k) ≡ false → expand param n (shown k) ≡ off
  unfolding expand
  sw_off f e = rw (f, e)

  module _ (v : ℕ) (e : number_of k ≡ Some v) where
    pub sw_takes : v ≤ 1 → expand param n (shown k) ≡ push 0 (sign closing ∷ [])
    unfolding expand
    sw_takes h = rw (is_number_kind k v e, le-leb 0 v (omega arith), le-leb v 1 h)

  module _ (d : ℕ) where
    pub more_ends : is_sign closing (shown k) ≡ true → expand (more d) n (shown k) ≡ push 0 []
    unfolding expand
    more_ends e = rw e

    pub others_end : is_sign closing (shown k) ≡ true → expand (others d) n (shown k) ≡ push 0 []
    unfolding expand
    others_end e = rw e

    module _ (p : Place) where
      pub node_no_key : keyword_of k ≡ None → expand (node p d) n (shown k) ≡ off
      unfolding expand
      node_no_key e = no_key k p d n [] e

      module _ (w : KeyKind) (e : keyword_of k ≡ Some w) where
        pub node_barred : allows p (shown_key w) ≡ false → expand (node p d) n (shown k) ≡ off
        unfolding expand
        node_barred f = rw (is_key_kind k w e, f)

        module _ (a : allows p (shown_key w) ≡ true) where
          pub node_deep : d ≡ 0 → expand (node p d) n (shown k) ≡ big
          unfolding expand
          node_deep z = rw (is_key_kind k w e, a, eq-eqb d 0 z)

          pub node_many : 256 ≤ n → expand (node p d) n (shown k) ≡ big
          unfolding expand
          node_many h = rw (is_key_kind k w e, a, le-leb 256 n h, or_yes (eqb d 0))

          pub node_opens : (d ≡ 0 → ⊥) → n < 256 → expand (node p d) n (shown k) ≡ push 1 (parts (shown_key w) (d - 1) ++ [])
          unfolding expand
          node_opens f h = rw (is_key_kind k w e, a, ne_eqb d 0 f, lt-leb 256 n h)

-- The next token is taken: what it writes.
module _ {text : List ℕ} {ws : List Want} {n k m j : ℕ} {st st₁ : State} {vs : List Want} {t : Lexeme} (q : Next text j t) where
  pub sign_taken : (s : Sign) → is_sign s (shown t.kind) ≡ true → Leads text ws n k st (sign s ∷ vs) m j st₁ → Leads text ws n k st vs m t.end st₁
  unfolding kind_effect
  sign_taken s e l = taken l q (sign_takes m t.kind s e)

  pub name_taken : is_name (shown t.kind) ≡ true → Leads text ws n k st (named ∷ vs) m j st₁
      → Leads text ws n k st vs m t.end (naming m t.start t.end st₁)
  unfolding kind_effect
  name_taken e l = taken l q (name_takes m t.kind e)

  pub comma_taken : is_sign comma (shown t.kind) ≡ true → Leads text ws n k st (params ∷ vs) m j st₁ → Leads text ws n k st (param ∷ vs) m t.end st₁
  unfolding kind_effect
  comma_taken e l = taken l q (comma_takes m t.kind e)

  -- A par after a comma writes nothing; the sw that stands there is written.
  pub par_taken : is_name (shown t.kind) ≡ true → Leads text ws n k st (param ∷ vs) m j st₁ → Leads text ws n k st (params ∷ vs) m t.end st₁
  unfolding kind_effect
  par_taken e l = rw e at (taken l q (par_takes m t.kind e))

  module _ (v : ℕ) (e : number_of t.kind ≡ Some v) where
    pub sw_taken : v ≤ 1 → Leads text ws n k st (param ∷ vs) m j st₁ → Leads text ws n k st (sign closing ∷ vs) m t.end (switching m v st₁)
    unfolding kind_effect
    sw_taken h l = rw (is_number_kind t.kind v e) at (taken l q (sw_takes m t.kind v e h))

    pub ref_taken : v ≤ 1 → Leads text ws n k st (number 0 1 ∷ vs) m j st₁ → Leads text ws n k st vs m t.end (marking v st₁)
    unfolding kind_effect
    ref_taken h l = rw (is_number_kind t.kind v e) at (taken l q (number_takes m t.kind 0 1 v e (omega arith) h))

    pub size_taken : 1 ≤ v → v ≤ 16 → Leads text ws n k st (number 1 16 ∷ vs) m j st₁ → Leads text ws n k st vs m t.end (sizing m v st₁)
    unfolding kind_effect
    size_taken a b l = rw (is_number_kind t.kind v e) at (taken l q (number_takes m t.kind 1 16 v e a b))

-- Another token than the sign that is wanted.
pub other_sign : {text : List ℕ} {n k i : ℕ} {x : Refusal} {st st₃ : State} (s : Sign) → x ≡ refusal Reason.Token i
    → (t : Lexeme) × (Next text k t × (t.start ≡ i) × (is_sign s (shown t.kind) ≡ false)) → Writes text (sign s ∷ []) n k st (Err x) st₃
other_sign {text} {n} {k} {i} {x} {st} {st₃} s g y = off_grammar starts y.1.0 (rw y.1.1 g) (sign_other n y.0.kind s y.1.2)

-- Where no `)` stands, what may follow is a node.
same_node : (p : Place) (d n : ℕ) (t : Token) (k : ℕ) (after ws : List Want) (f : ℕ → List Want → End)
    → proceed (begin p d n t after) k (λ u vs. f u (vs ++ ws)) ≡ proceed (begin p d n t []) k (λ u vs. f u (vs ++ (after ++ ws)))
same_node p d n (Token.sign s) k after ws f = refl
same_node p d n (key w) k after ws f = by (allows p w) (full d n)
  where
    by : (a b : Bool)
        → proceed (cond a (cond b big (push 1 (parts w (d - 1) ++ after))) off) k (λ u vs. f u (vs ++ ws))
        ≡ proceed (cond a (cond b big (push 1 (parts w (d - 1) ++ []))) off) k (λ u vs. f u (vs ++ (after ++ ws)))
    by true true = refl
    by true false = rw (append-nil (parts w (d - 1)), append_assoc (parts w (d - 1)) after ws)
    by false b = refl
same_node p d n (name v) k after ws f = refl
same_node p d n (numeral m) k after ws f = refl
same_node p d n other k after ws f = refl

module _ {text : List ℕ} {ws : List Want} {n k m j : ℕ} {st st₁ : State} {vs : List Want} {t : Lexeme} (q : Next text j t) where
  another : {w : Want} (p : Place) (d : ℕ) (after : List Want) → expand w m (shown t.kind) ≡ begin p d m (shown t.kind) after
      → written_by w m t st₁ ≡ beginning p d m (begun_kind (shown t.kind)) t.start st₁ → Leads text ws n k st (w ∷ vs) m j st₁
      → Leads text ws n k st (node p d ∷ after ++ vs) m j st₁
  unfolding expand kind_effect
  another {w} p d after e f l =
      let b = beginning p d m (begun_kind (shown t.kind)) t.start st₁ in
      record {
        machine = λ rest. l.machine rest ∙ at_token q w (vs ++ rest) m st₁
            ∙ rw (e, f) (same_node p d m (shown t.kind) t.start after (vs ++ rest) (λ u us. from text us (m + u) b t.end))
            ∙ ap (λ (x : List Want). proceed (expand (node p d) m (shown t.kind)) t.start (λ u us. from text (us ++ x) (m + u) b t.end))
            (sym (append_assoc after vs rest))
            ∙ sym (at_token q (node p d) ((after ++ vs) ++ rest) m st₁);
        onward = l.onward;
      }

  pub another_child : {d : ℕ} → Leads text ws n k st (more d ∷ vs) m j st₁ → is_sign closing (shown t.kind) ≡ false
      → Leads text ws n k st (node child d ∷ ref ++ (more d ∷ vs)) m j st₁
  unfolding expand kind_effect
  another_child {d} l h = another child d (ref ++ (more d ∷ [])) (rw h) (rw h) l

  pub another_member : {d : ℕ} → Leads text ws n k st (others d ∷ vs) m j st₁ → is_sign closing (shown t.kind) ≡ false
      → Leads text ws n k st (node member d ∷ others d ∷ vs) m j st₁
  unfolding expand kind_effect
  another_member {d} l h = another member d (others d ∷ []) (rw h) (rw h) l

-- A keyword that is taken leaves the parts of its node, with its row begun.
pub opens : {text : List ℕ} {n k : ℕ} {rows rows₁ : List Row} {pending : List ℕ} {t : Lexeme} {w : KeyKind} (p : Place) (d : ℕ) → Next text k t
    → rows₁ ≡ begun rows n (begun_kind (key (shown_key w))) t.start d → keyword_of t.kind ≡ Some w → allows p (shown_key w) ≡ true → (d ≡ 0 → ⊥) → n < 256
    → Turns text (node p d ∷ []) n k (state rows pending) (Ok (position t.end (n + 1))) (parts (shown_key w) (d - 1)) (state rows₁ (waiting p n pending))
unfolding kind_effect
opens {text} {n} {k} {rows} {rows₁} {pending} {t} {w} p d q r e a f g =
    let b = beginning p d n (begun_kind (shown t.kind)) t.start (state rows pending) in
    let o : Leads text (node p d ∷ []) n k (state rows pending) ((parts (shown_key w) (d - 1) ++ []) ++ []) (n + 1) t.end b =
    counted starts q (node_opens n t.kind d p w e a f g) in
    let v : Leads text (node p d ∷ []) n k (state rows pending) (parts (shown_key w) (d - 1)) (n + 1) t.end b = simp append-nil at o in
    let s = q.onward (λ z. let y : ◌≡◌ {A = Option KeyKind} None (Some w) = sym (ap keyword_of z) ∙ e in let x : ⊥ = cc in x) in
    rw r (rw (is_key_kind t.kind w e) at (arrives v s.0 s.1))

-- A node of which the keyword was looked at: it is refused with it, or its parts are read after it.
module _ {text : List ℕ} {p : Place} {d n k : ℕ} {rows : List Row} where
  pub node_refused : {x : Refusal} {r : Step} {rows₁ rows₂ : List Row} → Begins text p d n k rows (Err x) rows₁ → r ≡ Err x → Opens text p d n k rows r rows₂
  node_refused b g s = halts (b.refused _ refl s) g [] starts

  -- What is said of a keyword that is refused, and of one that is taken.
  pub begins_none : {x : Refusal} → ((s : List ℕ) → Writes text (node p d ∷ []) n k (state rows s) (Err x) (state rows s)) → Begins text p d n k rows (Err x) rows
  begins_none {x} f = record {
    refused = λ y g s. let z : x ≡ y = cc in rw (← z) (f s);
    taken = λ w o g. err_not_ok g;
    turns = λ w o g. err_not_ok g;
  }

  pub begins_one : {w : KeyKind} {o : Position} {rows₁ : List Row} → allows p (shown_key w) ≡ true → 0 < d
      → ((s : List ℕ) → Turns text (node p d ∷ []) n k (state rows s) (Ok o) (parts (shown_key w) (d - 1)) (state rows₁ (waiting p n s)))
      → Begins text p d n k rows (Ok (w, o)) rows₁
  begins_one {w} {o} a l f = record {
    refused = λ y g. err_not_ok (sym g);
    taken = λ v q g. let e : (w, o) ≡ (v, q) = cc in let z : w ≡ v = ap (λ (x : KeyKind × Position). x.0) e in (rw (← z) a, l);
    turns = λ v q g s. let e : (w, o) ≡ (v, q) = cc in
        let z : w ≡ v = ap (λ (x : KeyKind × Position). x.0) e in let y : o ≡ q = ap (λ (x : KeyKind × Position). x.1) e in rw (← z, ← y) (f s);
  }

  pub node_read : {w : KeyKind} {o : Position} {r : Step} {rows₁ rows₂ : List Row} → Begins text p d n k rows (Ok (w, o)) rows₁
      → Fills text (parts (shown_key w) (d - 1)) o.nodes o.at rows₁ r rows₂ → Opens text p d n k rows r rows₂
  node_read {w} {o} b h s =
      let u = b.turns w o refl s in
      ends (h (waiting p n s)) (record { machine = λ rest. u.machine rest; onward = let z = u.onward o refl in omega arith })

-- The `)` of a flow and of a group writes nothing.
module _ {text : List ℕ} {ws : List Want} {n k m j : ℕ} {st st₁ : State} {t : Lexeme} (q : Next text j t) where
  closes_same : {w : Want} → Leads text ws n k st (w ∷ []) m j st₁ → expand w m (shown t.kind) ≡ push 0 [] → written_by w m t st₁ ≡ st₁
      → Writes text ws n k st (Ok (position t.end m)) st₁
  closes_same l e f = rw f at (closes l q e)

  pub flow_ends : {d : ℕ} → Leads text ws n k st (more d ∷ []) m j st₁ → is_sign closing (shown t.kind) ≡ true
      → Writes text ws n k st (Ok (position t.end m)) st₁
  unfolding kind_effect
  flow_ends {d} l e = closes_same l (more_ends m t.kind d e) (rw e)

  pub group_ends : {d : ℕ} → Leads text ws n k st (others d ∷ []) m j st₁ → is_sign closing (shown t.kind) ≡ true
      → Writes text ws n k st (Ok (position t.end m)) st₁
  unfolding kind_effect
  group_ends {d} l e = closes_same l (others_end m t.kind d e) (rw e)

-- The end of the text, where nothing is wanted any more.
at_end : (n : ℕ) (st : State) (e : ℕ) (ss : List Span) → front_place e ss < e → walk [] n st e ss ≡ stop Reason.Token (front_place e ss)
unfolding walk
at_end n st e [] h = let z : ⊥ = omega arith in absurd z
at_end n st e (s ∷ ss) h = refl

abbrev Root : List ℕ → List Row → Step → List Row → Type 0
Root text rows r rows' = Writes text (node root depths ∷ []) 0 0 (state rows []) r (state rows' [])

module _ {text : List ℕ} {rows rows₁ : List Row} where
  pub refused : {x : Refusal} {r : Result ℕ Refusal} → Root text rows (Err x) rows₁ → r ≡ Err x → ending text rows ≡ told r rows₁
  unfolding ending
  refused q e = rw e (q.machine [])

  module _ {p : Position} (q : Root text rows (Ok p) rows₁) {t : Lexeme} (n : Next text p.at t) where
    pub trailing : {x : Refusal} → x ≡ refusal Reason.Token t.start → t.start < length text → ending text rows ≡ told (Err x) rows₁
    unfolding ending
    trailing e h = q.machine [] ∙ rw (e, n.placed) (at_end p.nodes (state rows₁ []) (length text) (rest text p.at) (rw n.placed at h))

    pub read_all : length text ≤ t.start → ending text rows ≡ told (Ok p.nodes) rows₁
    unfolding ending walk
    read_all h = q.machine [] ∙ rw (n.ended h)
