-- What a reader says of the machine along a text: for the contracts of private functions.
use Rattle.std.specs.Prelude.{◌≡◌, true, false, List, [], ◌∷◌, ◌++◌, ℕ, ◌-◌, ◌≤◌, ◌<◌, length, Option, Some, None, Result, Ok, Err}
use Rattle.base.specs.declared.Refusal.{Refusal}
use Rattle.tokens.specs.Rest.{Next}
use Rattle.tokens.specs.Token.{closing}
use Rattle.tokens.specs.Kinds.{shown_key, shown}
use Rattle.tokens.specs.declared.Keyword.{Keyword}
use Rattle.tokens.specs.declared.Sign.TheVariants.{Closing as ClosingSign}
use Rattle.tokens.specs.declared.TokenKind.{TokenKind}
use Rattle.tokens.specs.declared.Lexeme.{Lexeme}
use Rattle.grammar.specs.Machine.{is_sign, Place, allows, Want, node, ref, parts}
use Rattle.walked.specs.Walk.{State, state, waiting, End, whole, stop, from}
use Rattle.walked.specs.declared.Position.{Position}
use Rattle.walked.specs.declared.Row.{Row}

-- Whether a `)` comes next: the position past it.
pub record Closing (text : List ℕ) (at : ℕ) (r : Option ℕ) : Type 0 where
  pub shut : (e : ℕ) → r ≡ Some e → Next text at (record { kind = Some (TokenKind.Sign ClosingSign); start = e - 1; end = e })
  pub another : r ≡ None → (t : Lexeme) × (Next text at t × (is_sign closing (shown t.kind) ≡ false))

-- What a reader answers: the position from which the next token is looked for, with the number of nodes read so far, or the refusal.
abbrev pub Step : Type 0
Step = Result Position Refusal

abbrev pub position : ℕ → ℕ → Position
position at nodes = record { at = at; nodes = nodes }

-- Where a step leaves the machine that still wants ws.
abbrev pub left_at : List ℕ → List Want → State → Step → End
left_at text ws st (Ok p) = from text ws p.nodes st p.at
left_at text ws st (Err r) = stop r.reason r.place

-- A step from the position `at`, where n nodes were read and st is written, makes vs of what is wanted first and leaves st' written, whatever is
-- wanted after it; and one that goes on has gone past a byte at least.
pub record Turns (text : List ℕ) (ws : List Want) (n at : ℕ) (st : State) (r : Step) (vs : List Want) (st' : State) : Type 0 where
  pub machine : (rest : List Want) → from text (ws ++ rest) n st at ≡ left_at text (vs ++ rest) st' r
  pub onward : (p : Position) → r ≡ Ok p → (at < p.at) × (p.at ≤ length text)

-- One that reads all of it.
abbrev pub Writes : List ℕ → List Want → ℕ → ℕ → State → Step → State → Type 0
Writes text ws n at st r st' = Turns text ws n at st r [] st'

-- One that writes nothing.
abbrev pub Reads : List ℕ → List Want → ℕ → ℕ → Step → Type 0
Reads text ws n at r = (st : State) → Writes text ws n at st r st

-- One that writes rows, whatever children wait for their refs: after it the same do; after a child it waits too; a ref is the last one's.
abbrev pub Fills : List ℕ → List Want → ℕ → ℕ → List Row → Step → List Row → Type 0
Fills text ws n at rows r rows' = (s : List ℕ) → Writes text ws n at (state rows s) r (state rows' s)

abbrev pub Opens : List ℕ → Place → ℕ → ℕ → ℕ → List Row → Step → List Row → Type 0
Opens text place d n at rows r rows' = (s : List ℕ) → Writes text (node place d ∷ []) n at (state rows s) r (state rows' (waiting place n s))

abbrev pub Marks : List ℕ → ℕ → ℕ → ℕ → List Row → Step → List Row → Type 0
Marks text i n at rows r rows' = (s : List ℕ) → Writes text ref n at (state rows (i ∷ s)) r (state rows' s)

-- The keyword of a node, where d depths are left for the node and n nodes stand before it: it is refused, or its row is begun and its parts are wanted.
pub record Begins (text : List ℕ) (place : Place) (d n at : ℕ) (rows : List Row) (r : Result (Keyword × Position) Refusal) (rows' : List Row) : Type 0 where
  pub refused : (x : Refusal) → r ≡ Err x → (s : List ℕ) → Writes text (node place d ∷ []) n at (state rows s) (Err x) (state rows' s)
  pub taken : (k : Keyword) (p : Position) → r ≡ Ok (k, p) → (allows place (shown_key k) ≡ true) × (0 < d)
  pub turns : (k : Keyword) (p : Position) → r ≡ Ok (k, p) → (s : List ℕ)
      → Turns text (node place d ∷ []) n at (state rows s) (Ok p) (parts (shown_key k) (d - 1)) (state rows' (waiting place n s))

-- What the answer for a whole text and the rows after it say of the end.
abbrev pub told : Result ℕ Refusal → List Row → End
told (Ok n) rows = whole n (state rows [])
told (Err r) rows = stop r.reason r.place
