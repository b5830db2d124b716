-- The pars of the replicators around a node, by the numbers of these, outermost first.
use Rattle.std.specs.Prelude.{◌≡◌, cond, List, [], ◌∷◌, ℕ, zero, suc, ◌+◌, ◌≤◌, ◌<◌, length, get_or, drop, Option, Some, None, MatchOption}
use Rattle.diagram.specs.Tree.{Name}
use Rattle.diagram.specs.Names.{same}
use Rattle.tokens.specs.Classes.{class_of}
use Rattle.tokens.specs.Remarks.{blanks}
use Rattle.tokens.specs.Words.{word_at}
use Rattle.walked.specs.Rows.{row_of, past_word}
use Rattle.walked.specs.declared.Row.{Row}

-- Where the par of the k-th starts, and the place past it.
abbrev pub par_start : List Row → List ℕ → ℕ → ℕ
par_start rows pars k = (row_of rows (get_or pars k 0)).node.name

abbrev pub par_end : List Row → List ℕ → ℕ → ℕ
par_end rows pars k = (row_of rows (get_or pars k 0)).past

-- The first n of them, the nearest first.
unfoldable pub pars_at : List ℕ → List Row → List ℕ → ℕ → List Name
pars_at text rows pars zero = []
pars_at text rows pars (suc n) = word_at text (par_start rows pars n) ∷ pars_at text rows pars n

-- The first n of them have these names, the nearest first, and the places past them are within the text.
pub record Around (text : List ℕ) (rows : List Row) (pars : List ℕ) (n : ℕ) (names : List Name) : Type 0 where
  pub is : names ≡ pars_at text rows pars n
  pub ended : (k : ℕ) → k < n → (par_end rows pars k ≡ past_word text (par_start rows pars k)) × (par_end rows pars k ≤ length text)

-- The end of the word that starts at a, if it is the one that starts at b.
abbrev pub again : List ℕ → ℕ → ℕ → Option ℕ
again text a b = cond (same (word_at text a) (word_at text b)) (Some (past_word text a)) None

-- That, where the one that starts at b is the name of a row which has its end.
abbrev pub Again : List ℕ → Row → ℕ → Option ℕ → Type 0
Again text r at v = r.past ≡ past_word text r.node.name → r.past ≤ length text → v ≡ again text at r.node.name

-- Where the comma is to stand that comes next, and what comes after it.
abbrev pub comma_at : List ℕ → ℕ → ℕ
comma_at text at = at + blanks (drop at text)

abbrev pub after_comma : List ℕ → ℕ → ℕ
after_comma text at = comma_at text at + 1 + blanks (drop (comma_at text at + 1) text)

-- The place of a letter after the comma that comes next, or none.
abbrev pub ParNext : List ℕ → ℕ → Option ℕ → Type 0
ParNext text at r =
    MatchOption r (comma_at text at < length text → class_of (get_or text (after_comma text at) 0) ≡ 5 → ⊥)
    (λ p. (comma_at text at < length text) × (p ≡ after_comma text at) × (class_of (get_or text p 0) ≡ 5))
